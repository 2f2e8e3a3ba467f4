-- Why each outcome of `receive` comes, and what the step's effect then is (RFC 4340, section 8.5).
--
-- The effect is proved directly from the steps. The statements about outcomes use it: each outcome has a cause, and each cause one form of the
-- effect. For a Sync and a Reset that is a function of the cause; a packet that was taken has a row for each part. Only the effect says what the
-- frame and the end are.
--
-- Causes use the tables of the crates below, and not the order of the steps: what a type means in the phase, the verdict, what is unexpected,
-- the phase after. They share with the steps what a packet raises, the test of the ports, how options are read and which of them is faulty, and
-- what a mark answers.
use Rattle.std.specs.Prelude.{◌≡◌, ◌≢◌, not, if◌then◌else◌, ℕ, Bool, true, false, List, [], Option, Some, None, Ok, Err, is_some}
use Rattle.congestion_trait.specs.Calls.{Call}
use Rattle.dccp_sum.specs.Checksum.{checked}
use Rattle.dccp_sum.specs.declared.packet_sum.SumFault.{SumFault}
use Rattle.dccp_packets.specs.Grammar.{Parts, decoded}
use Rattle.dccp_packets.specs.Outgoing.{Outgoing}
use Rattle.dccp_packets.specs.declared.header.Kind.{Kind}
use Rattle.dccp_packets.specs.declared.header.Kind.TheVariants as kind
use Rattle.dccp_packets.specs.declared.header.Number.TheVariants.{Long, Short}
use Rattle.dccp_packets.specs.declared.header.PacketType.TheVariants as types
use Rattle.dccp_states.specs.Phases.{after}
use Rattle.dccp_states.specs.declared.entrance.Entrance.TheVariants as entrance
use Rattle.dccp_states.specs.declared.phase.Phase.{Phase}
use Rattle.dccp_states.specs.declared.phase.Phase.TheVariants as phases
use Rattle.dccp_states.specs.declared.reply.Reply.{Reply}
use Rattle.dccp_states.specs.declared.reply.Reply.TheVariants as reply
use Rattle.feature_machine.specs.Negotiating.{every_place}
use Rattle.feature_machine.specs.Turns.{Turn}
use Rattle.run_list.specs.MarkedSet.{answer_to}
use Rattle.validity_windows.specs.declared.verdict.Verdict.TheVariants as verdicts
use Rattle.dccp_endpoint.specs.Causes.{AreTurns, Came, IsCaused, entrance_of, turns_in, verdict_of}
use Rattle.dccp_endpoint.specs.Congesting.{calls_for}
use Rattle.dccp_endpoint.specs.Drafts.{alone}
use Rattle.dccp_endpoint.specs.Effects.{Effect, PacketFate, Transmission, Silent, Next, WithoutConnection, Heard, Refused, Shut, Taken, effect_of, effect_of_sending, end_after, frame_by, greatest_or, is_acking_sent, raising, rows_by}
use Rattle.dccp_endpoint.specs.End.{EndState, is_live, phase_entered}
use Rattle.dccp_endpoint.specs.Heeding.{DueConfirm, ReadingState}
use Rattle.dccp_endpoint.specs.Incoming.{Incoming}
use Rattle.dccp_endpoint.specs.Inputs.{Arrives}
use Rattle.dccp_endpoint.specs.Receiving.{acknowledges_in_window, becomes_open, is_of_connection, is_other_service, is_own_service, is_unexpected, needs_ack, number_without_connection, packet_fault, reads_options, started, with_raised_marks, takes_short}
use Rattle.dccp_packets.specs.ResetCodes.{number_of_code}
use Rattle.dccp_packets.specs.declared.reset_code.ResetCode.TheVariants as codes
use Rattle.dccp_endpoint.specs.Reporting.{delivered_if, delivers, looked_up, unacked_after}
use Rattle.dccp_endpoint.specs.Speaking.{is_confirmed}
use Rattle.dccp_endpoint.specs.Steps.{detail_of, reset_of, without_detail}
use Rattle.dccp_endpoint.specs.Turns.{offerings}
use Rattle.dccp_states.specs.declared.outcome.Fault.{Fault}
use Rattle.dccp_states.specs.declared.outcome.Outcome.{Outcome}
use Rattle.dccp_states.specs.declared.outcome.Outcome.TheVariants.{Took, Dropped, Synced, WasReset, SentReset}
use Rattle.dccp_states.specs.declared.outcome.Why.TheVariants as why

-- the packet's checksum is wrong
pub record HasWrongSum (e : EndState) (bytes : List ℕ) (fault : SumFault) : Type 0 where
  pub packet : Parts
  pub is_packet : decoded bytes ≡ Ok packet
  pub sum_fails : checked e.config.pseudo_in bytes ≡ Err fault

-- a packet with a right checksum has other ports than the connection
pub record HasWrongPorts (e : EndState) (bytes : List ℕ) : Type 0 where
  pub packet : Parts
  pub is_packet : decoded bytes ≡ Ok packet
  pub sum_fits : checked e.config.pseudo_in bytes ≡ Ok tt
  pub not_ours : is_of_connection e packet.header ≡ false

-- such a packet of the connection has a short number, and the end takes none
pub record HasShortNumber (e : EndState) (bytes : List ℕ) : Type 0 where
  pub packet : Parts
  pub number : ℕ
  pub is_packet : decoded bytes ≡ Ok packet
  pub sum_fits : checked e.config.pseudo_in bytes ≡ Ok tt
  pub is_ours : is_of_connection e packet.header ≡ true
  pub is_short : packet.header.number ≡ Short number
  pub not_taken : takes_short e ≡ false

-- a Reset in CLOSED, LISTEN or TIMEWAIT, or one in REQUEST whose acknowledgement number is outside the window
pub data IsStray (e : EndState) (bytes : List ℕ) : Type 0 where
  StrayWithoutConnection : (a : Incoming) → Came e (Arrives bytes) a → entrance_of e a ≡ entrance.Stray → IsStray e bytes
  StrayInRequest : (a : Incoming) → Came e (Arrives bytes) a → entrance_of e a ≡ entrance.InRequest → a.kind ≡ types.Reset
      → acknowledges_in_window e a ≡ false → IsStray e bytes

-- a Sync or SyncAck whose numbers are not valid
pub record IsBadSync (e : EndState) (bytes : List ℕ) : Type 0 where
  pub packet : Incoming
  pub came : Came e (Arrives bytes) packet
  pub is_checked : entrance_of e packet ≡ entrance.Check
  pub is_bad : verdict_of e packet ≡ verdicts.Drop

-- the numbers of a Reset are valid
pub data IsValidReset (e : EndState) (a : Incoming) : Type 0 where
  ResetToRequest : entrance_of e a ≡ entrance.InRequest → acknowledges_in_window e a ≡ true → IsValidReset e a
  ResetInWindow : entrance_of e a ≡ entrance.Check → verdict_of e a ≡ verdicts.Valid → IsValidReset e a

-- a valid Reset with this code
pub record IsEnding (e : EndState) (bytes : List ℕ) (code : ℕ) : Type 0 where
  pub packet : Incoming
  pub came : Came e (Arrives bytes) packet
  pub is_reset : packet.kind ≡ types.Reset
  pub is_valid : IsValidReset e packet
  pub has_code : code ≡ packet.code

-- Any other valid packet, and the end as steps 3, 4 and 6 leave it: a Request that opens, a Response to the Request, or
-- a packet in the windows.
pub data IsValid (e : EndState) (a : Incoming) (entered : EndState) : Type 0 where
  OpensConnection : entrance_of e a ≡ entrance.Accept → is_own_service e a.service ≡ true → entered ≡ started e phases.Respond a → IsValid e a entered
  ResponseToRequest : entrance_of e a ≡ entrance.InRequest → a.kind ≢ types.Reset → acknowledges_in_window e a ≡ true → entered ≡ started e e.phase a
      → IsValid e a entered
  PacketInWindow : entrance_of e a ≡ entrance.Check → a.kind ≢ types.Reset → verdict_of e a ≡ verdicts.Valid → entered ≡ with_raised_marks e a
      → IsValid e a entered

-- the bytes are such a packet
pub record IsValidPacket (e : EndState) (bytes : List ℕ) (a : Incoming) (entered : EndState) : Type 0 where
  pub came : Came e (Arrives bytes) a
  pub is_valid : IsValid e a entered

-- it is a Response with another service than the one asked for
abbrev pub is_for_another : EndState → Incoming → Bool
is_for_another entered a = is_other_service entered entered.phase a.kind a.service

-- a valid packet that step 7 lets pass
pub record IsAdmitted (e : EndState) (bytes : List ℕ) (a : Incoming) (entered : EndState) : Type 0 where
  pub valid : IsValidPacket e bytes a entered
  pub expected : is_unexpected entered a ≡ false
  pub for_us : is_for_another entered a ≡ false

-- why a Sync answers: the numbers of a packet in a phase with windows are not valid (step 6), or its phase does not
-- expect it (step 7)
pub data IsSynced (e : EndState) (bytes : List ℕ) (number : ℕ) : Type 0 where
  OutOfWindow : (a : Incoming) → Came e (Arrives bytes) a → entrance_of e a ≡ entrance.Check → verdict_of e a ≡ verdicts.SyncFor number
      → IsSynced e bytes number
  Unexpected : (a : Incoming) (entered : EndState) → IsValidPacket e bytes a entered → is_unexpected entered a ≡ true → number ≡ a.number
      → IsSynced e bytes number

-- no answer to the Request: another type, or a Response whose acknowledgement number is outside the window
pub data IsNoAnswer (e : EndState) (a : Incoming) : Type 0 where
  OtherType : entrance_of e a ≡ entrance.PacketError → IsNoAnswer e a
  OtherRequest : entrance_of e a ≡ entrance.InRequest → a.kind ≢ types.Reset → acknowledges_in_window e a ≡ false → IsNoAnswer e a

-- why a Reset answers, and which fault it names
pub data IsReset (e : EndState) (bytes : List ℕ) : Fault → Type 0 where
  -- steps 2 and 3: No Connection, and Bad Service Code at a server
  NoConnection : (a : Incoming) → Came e (Arrives bytes) a → entrance_of e a ≡ entrance.NoConnection
      → IsReset e bytes (without_detail (number_of_code codes.NoConnection))
  OtherService : (a : Incoming) → Came e (Arrives bytes) a → entrance_of e a ≡ entrance.Accept → is_own_service e a.service ≡ false
      → IsReset e bytes (without_detail (number_of_code codes.BadServiceCode))
  -- step 4: Packet Error, with the packet's type
  NoAnswer : (a : Incoming) → Came e (Arrives bytes) a → IsNoAnswer e a → IsReset e bytes (packet_fault a)
  -- step 7: Bad Service Code at a client
  WrongService : (a : Incoming) (entered : EndState) → IsValidPacket e bytes a entered → is_unexpected entered a ≡ false → is_for_another entered a ≡ true
      → IsReset e bytes (without_detail (number_of_code codes.BadServiceCode))
  -- step 8: the first fault of the options
  Faulted : (a : Incoming) (entered : EndState) (fault : Fault) → IsAdmitted e bytes a entered → reads_options entered a ≡ Err fault → IsReset e bytes fault
  -- step 14: Closed, the answer to a Close
  AnswersClose : (a : Incoming) (entered : EndState) (h : ReadingState) (to : Phase) → IsAdmitted e bytes a entered → reads_options entered a ≡ Ok h
      → after entered.phase a.kind ≡ (to, reply.ResetClosed) → IsReset e bytes (without_detail (number_of_code codes.Closed))

-- it names this fault
pub record HasReset (e : EndState) (bytes : List ℕ) (code : ℕ) (detail : List ℕ) : Type 0 where
  pub fault : Fault
  pub why : IsReset e bytes fault
  pub has_code : code ≡ fault.code
  pub has_detail : detail ≡ detail_of fault

-- It was taken: the table of phases moves the end and answers with anything but a Reset. The place of its data is delivered exactly if it is a
-- Data or a DataAck, the end is OPEN then, and the number was not taken before.
pub record IsTaken (e : EndState) (bytes : List ℕ) (delivered : Option (ℕ × ℕ)) : Type 0 where
  pub packet : Incoming
  pub entered : EndState
  pub admitted : IsAdmitted e bytes packet entered
  pub heeding : ReadingState
  pub no_fault : reads_options entered packet ≡ Ok heeding
  pub to : Phase
  pub answer : Reply
  pub row : after entered.phase packet.kind ≡ (to, answer)
  pub no_reset : answer ≢ reply.ResetClosed
  pub delivery : delivered ≡ delivered_if (delivers packet.kind to (answer_to entered.received.set packet.number)) packet.data_place

-- Why an outcome comes.
abbrev pub HasCause : EndState → List ℕ → Outcome → Type 0
HasCause e bytes (Dropped (why.Malformed fault)) = decoded bytes ≡ Err fault
HasCause e bytes (Dropped (why.Sum fault)) = HasWrongSum e bytes fault
HasCause e bytes (Dropped why.OtherFlow) = HasWrongPorts e bytes
HasCause e bytes (Dropped why.ShortOff) = HasShortNumber e bytes
HasCause e bytes (Dropped why.StrayReset) = IsStray e bytes
HasCause e bytes (Dropped why.BadSync) = IsBadSync e bytes
HasCause e bytes (Synced number) = IsSynced e bytes number
HasCause e bytes (WasReset code) = IsEnding e bytes code
HasCause e bytes (SentReset code detail) = HasReset e bytes code detail
HasCause e bytes (Took delivered) = IsTaken e bytes delivered

-- No other outcome has its cause: an outcome that has one is this outcome.
abbrev pub HasNoOtherCause : EndState → List ℕ → Outcome → Type 0
HasNoOtherCause e bytes outcome = (other : Outcome) → HasCause e bytes other → outcome ≡ other

-- A valid packet is the first of its connection, and sets ISR, if the end heard none before: in LISTEN and REQUEST.
abbrev pub hears_first : EndState → Bool
hears_first e = not (is_live e.phase)

-- GSR with the packet's number
abbrev pub greatest_with : EndState → Incoming → ℕ
greatest_with e a = greatest_or (hears_first e) a.number e.marks.gsr

-- The effect of a valid packet that moves no row: its number and what it acknowledges are heard, the phase is this
-- then, and this goes out.
abbrev pub effect_of_packet : EndState → Incoming → PacketFate → Phase → Transmission → Effect
effect_of_packet e a how phase sending = effect_of e (Heard (hears_first e) a.number how) (raising a.kind a.ack) false phase false sending

-- The end closes, and its Reset names this fault and acknowledges GSR, the packet's number included.
abbrev pub effect_of_closing : EndState → Incoming → PacketFate → Fault → Effect
effect_of_closing e a how fault = effect_of_packet e a how phases.Closed (Next (reset_of (greatest_with e a) fault))

-- The effect of a Sync, by its cause. If the packet's numbers are not valid, only GSS changes; if it is unexpected, GSR and GAR do, too.
abbrev pub effect_of_sync : (e : EndState) (bytes : List ℕ) (number : ℕ) → IsSynced e bytes number → Effect
effect_of_sync e bytes number (OutOfWindow a came check bad) = effect_of_sending e (Next (alone (kind.Sync number)))
effect_of_sync e bytes number (Unexpected a entered valid out same) = effect_of_packet e a Refused e.phase (Next (alone (kind.Sync number)))

-- A Reset without a connection takes its numbers from the packet, and nothing changes.
abbrev pub effect_of_refusing : EndState → Incoming → Fault → Effect
effect_of_refusing e a fault =
    effect_of_sending e (WithoutConnection (number_without_connection a.ack) (kind.Reset a.number fault.code (detail_of fault)))

-- The effect of a Reset, by its cause: nothing changes without a connection (codes 3 and 8); for the code 4 only GSS changes, and the Reset
-- acknowledges the packet; another service and a fault of the options close the end, and nothing is marked; and a Close was taken, so that it is
-- marked, and what it reports is due to the congestion control.
abbrev pub effect_of_reset : (e : EndState) (bytes : List ℕ) (fault : Fault) → IsReset e bytes fault → Effect
effect_of_reset e bytes fault (NoConnection a came is) = effect_of_refusing e a fault
effect_of_reset e bytes fault (OtherService a came is other) = effect_of_refusing e a fault
effect_of_reset e bytes fault (NoAnswer a came no_answer) = effect_of_sending e (Next (reset_of a.number fault))
effect_of_reset e bytes fault (WrongService a entered valid expected other) = effect_of_closing e a Shut fault
effect_of_reset e bytes fault (Faulted a entered first admitted is) = effect_of_closing e a Shut fault
effect_of_reset e bytes fault (AnswersClose a entered h to admitted is row) =
    record (effect_of_closing e a Taken fault) { calls = calls_for a e.rows h.rows }

-- The type with its fields of the packet that a row of the table answers with, if any. A SyncAck acknowledges the Sync, and all others the
-- greatest number received. If the row has no answer, an Ack goes out if one is needed.
abbrev pub replying : EndState → Bool → ℕ → ℕ → Reply → Option Kind
replying e needed greatest number reply.Nothing = if needed then Some (kind.Ack (Long greatest)) else None
replying e needed greatest number reply.Response = Some (kind.Response greatest e.config.service)
replying e needed greatest number reply.Ack = Some (kind.Ack (Long greatest))
replying e needed greatest number reply.Close = Some (kind.Close greatest)
replying e needed greatest number reply.ResetClosed = Some (kind.Reset greatest (number_of_code codes.Closed) (detail_of (without_detail (number_of_code codes.Closed))))
replying e needed greatest number reply.SyncAck = Some (kind.SyncAck number)
replying e needed greatest number reply.Torn = None

-- what goes out under the next number
abbrev pub kind_sent : Transmission → Option Kind
kind_sent Silent = None
kind_sent (Next packet) = Some packet.kind
kind_sent (WithoutConnection number packet) = None

-- how many data packets are not acknowledged, with the one that was delivered, if any, and what goes out
abbrev pub unacked_by : ℕ → Bool → Transmission → ℕ
unacked_by unacked delivered sending = if is_acking_sent sending then 0 else unacked_after unacked delivered

-- the data that go out
abbrev pub data_sent : Transmission → List ℕ
data_sent Silent = []
data_sent (Next packet) = packet.payload
data_sent (WithoutConnection number packet) = []

-- the offers that are made with a reply: with a Response all that were not made yet, and none with another
abbrev pub offered_with : Reply → List DueConfirm → List Turn
offered_with reply.Response confirms = offerings (is_confirmed confirms) every_place
offered_with _ confirms = []

-- The effect of a packet that was taken. Its number and what it acknowledges are heard, and looked up; the row of the table moves the phase and
-- answers, without data; the rows hear its options, and the Confirms that they lead to are due; it is to be acknowledged, unless the answer did
-- so; and its report is due to the congestion control.
pub record IsTaking (e : EndState) (bytes : List ℕ) (delivered : Option (ℕ × ℕ)) (taken : IsTaken e bytes delivered) (f : Effect)
    (turns : AreTurns e (Arrives bytes) f.hearing f.turns) : Type 0 where
  pub heard : f.hearing ≡ Heard (hears_first e) taken.packet.number Taken
  pub acknowledged : f.acknowledged ≡ raising taken.packet.kind taken.packet.ack
  pub looked : f.looked_up ≡ looked_up taken.packet.kind taken.packet.ack
  pub moved : f.phase ≡ taken.to
  pub opening : f.opening ≡ becomes_open (phase_entered e.phase) taken.to
  pub listens : turns.heard ≡ turns_in e taken.packet
  pub confirms : turns.confirms ≡ taken.heeding.confirms
  pub offers : turns.offered ≡ offered_with taken.answer turns.confirms
  pub owes : f.owed ≡ not (is_acking_sent f.sending)
  pub counted : f.unacked ≡ unacked_by e.unacked (is_some delivered) f.sending
  pub calls : f.calls ≡ calls_for taken.packet e.rows taken.heeding.rows
  pub replied : kind_sent f.sending
      ≡ replying e (needs_ack taken.to turns.confirms (rows_by e.rows f) (unacked_after e.unacked (is_some delivered))) (greatest_with e taken.packet)
      taken.packet.number taken.answer
  pub without_data : data_sent f.sending ≡ []

-- What the step's effect is, by the outcome and its cause: one form for each cause.
abbrev pub HasForm : (e : EndState) (bytes : List ℕ) (outcome : Outcome) → HasCause e bytes outcome → (f : Effect)
    → AreTurns e (Arrives bytes) f.hearing f.turns → Type 0
HasForm e bytes (Dropped why) cause f turns = f ≡ effect_of_sending e Silent
HasForm e bytes (Synced number) cause f turns = f ≡ effect_of_sync e bytes number cause
HasForm e bytes (WasReset code) cause f turns = f ≡ record (effect_of_sending e Silent) { phase = phases.TimeWait }
HasForm e bytes (SentReset code detail) cause f turns = f ≡ effect_of_reset e bytes cause.fault cause.why
HasForm e bytes (Took delivered) cause f turns = IsTaking e bytes delivered cause f turns

-- The step is this effect's, and the effect has the form of the outcome's cause.
pub record HasEffectOf (e : EndState) (bytes : List ℕ) (outcome : Outcome) (after : EndState) (frame : Option Outgoing) (calls : List Call) : Type 0 where
  pub effect : Effect
  pub after_is : after ≡ end_after e effect
  pub frame_is : frame ≡ frame_by e effect effect.sending
  pub calls_are : calls ≡ effect.calls
  pub because : IsCaused e (Arrives bytes) effect
  pub cause : HasCause e bytes outcome
  pub form : HasForm e bytes outcome cause effect because.turns

-- what holds if the packet was dropped
abbrev pub OnDropped : Outcome → Type 0 → Type 0
OnDropped (Dropped why) holds = holds
OnDropped (Synced number) holds = Unit {0}
OnDropped (WasReset code) holds = Unit {0}
OnDropped (SentReset code detail) holds = Unit {0}
OnDropped (Took delivered) holds = Unit {0}
