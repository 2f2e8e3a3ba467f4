-- Why a step has its effect: a cause for each part, so that a fact can use just the one that it needs (own).
use Rattle.std.specs.Prelude.{◌≡◌, ◌≢◌, ◌⊎◌, ◌==◌, ◌||◌, ◌&&◌, ℕ, Bool, true, false, List, [], ◌∷◌, ◌++◌, Option, Some, None, Ok}
use Rattle.std.specs.List.{All}
use Rattle.congestion_trait.specs.Calls.{Call}
use Rattle.congestion_trait.specs.Calls as call
use Rattle.dccp_options.specs.Written.{Item}
use Rattle.dccp_packets.specs.Grammar.{Parts, decoded, packet_type}
use Rattle.dccp_packets.specs.Outgoing.{Outgoing}
use Rattle.dccp_packets.specs.declared.header.Kind.{Kind}
use Rattle.dccp_packets.specs.declared.header.Kind.TheVariants as kind
use Rattle.dccp_packets.specs.declared.header.PacketType.{PacketType}
use Rattle.dccp_packets.specs.declared.header.PacketType.TheVariants as types
use Rattle.dccp_states.specs.Entrance.{gate}
use Rattle.dccp_states.specs.declared.entrance.Entrance.{Entrance}
use Rattle.dccp_states.specs.declared.entrance.Entrance.TheVariants as entrance
use Rattle.dccp_states.specs.declared.phase.Phase.{Phase}
use Rattle.dccp_states.specs.declared.phase.Phase.TheVariants as phases
use Rattle.dccp_states.specs.declared.phase.Role.{Role}
use Rattle.dccp_states.specs.declared.phase.Role.TheVariants as role
use Rattle.dccp_sum.specs.Checksum.{checked}
use Rattle.validity_windows.specs.Verdict.{verdict}
use Rattle.validity_windows.specs.declared.verdict.Verdict.{Verdict}
use Rattle.validity_windows.specs.declared.verdict.Verdict.TheVariants as verdicts
use Rattle.feature_lists.specs.Wishes.{wish_of}
use Rattle.feature_lists.specs.declared.wishes.Wanted.{Wanted}
use Rattle.feature_machine.specs.Negotiating.{due_keys, every_place}
use Rattle.feature_machine.specs.Rows.{Prefers}
use Rattle.feature_machine.specs.Turns.{Turn, turned}
use Rattle.dccp_endpoint.specs.Calling.{is_asking_now}
use Rattle.dccp_endpoint.specs.Congesting.{calls_for}
use Rattle.dccp_endpoint.specs.Drafts.{Draft, IsSendable, alone}
use Rattle.dccp_endpoint.specs.Effects.{Effect, PacketFate, Refused, Shut, Taken, HeardNumber, Unheard, Heard, Transmission, Silent, Next, WithoutConnection, greatest_by, end_after, frame_by, rows_by, told_by}
use Rattle.dccp_endpoint.specs.End.{EndState, IsProper, is_phase_of, is_live, is_begun, is_connected, phase_entered}
use Rattle.dccp_endpoint.specs.Faults.{counts}
use Rattle.dccp_endpoint.specs.Heeding.{DueConfirm, ReadingState, heard_turns, heeds, unheeded}
use Rattle.dccp_packets.specs.Kinds.{ack_of}
use Rattle.dccp_endpoint.specs.Incoming.{Incoming, incoming}
use Rattle.dccp_endpoint.specs.Inputs.{Input, Arrives, Opens, end_stepped}
use Rattle.dccp_endpoint.specs.Inputs as input
use Rattle.dccp_endpoint.specs.Reporting.{carries_data, is_acking, sends_vectors, vector_items}
use Rattle.dccp_endpoint.specs.Speaking.{asking, change_items, confirm_items, is_confirmed}
use Rattle.dccp_endpoint.specs.Turns.{Key, offerings, sendings, turn_of}
use Rattle.dccp_endpoint.specs.Receiving.{acknowledges_in_window, is_of_connection, number_without_connection, read_number}
use Rattle.dccp_packets.specs.ResetCodes.{number_of_code}
use Rattle.dccp_packets.specs.declared.reset_code.ResetCode.TheVariants as codes
use Rattle.dccp_endpoint.specs.Steps.{detail_of, next_number, without_detail}
use Rattle.dccp_states.specs.declared.calls.Timer.TheVariants as timers

-- A packet of the connection arrived, whose number is long or is taken (step 1).
pub record Came (e : EndState) (given : Input) (a : Incoming) : Type 0 where
  pub bytes : List ℕ
  pub packet : Parts
  pub number : ℕ
  pub is_given : given ≡ Arrives bytes
  pub is_packet : decoded bytes ≡ Ok packet
  pub sum_fits : checked e.config.pseudo_in bytes ≡ Ok tt
  pub is_ours : is_of_connection e packet.header ≡ true
  pub reads : read_number e packet.header.number ≡ Ok number
  pub same : a ≡ incoming e bytes packet number

-- what its type means in the phase (steps 2 to 4)
abbrev pub entrance_of : EndState → Incoming → Entrance
entrance_of e a = gate e.phase a.kind

-- what its numbers are in the windows (steps 5 and 6)
abbrev pub verdict_of : EndState → Incoming → Verdict
verdict_of e a = verdict e.marks a.kind a.number a.ack

-- Step 7 refuses no Ack and no DataAck. An end that answered with a Reset that closes is CLOSED.
abbrev pub FitsPassing : Phase → PacketType → PacketFate → Type 0
FitsPassing phase type Refused = is_acking type ≡ false
FitsPassing phase type Shut = phase ≡ phases.Closed
FitsPassing phase type Taken = Unit {0}

-- why what was received changes
pub data IsHearing (e : EndState) (given : Input) (phase : Phase) : HeardNumber → Type 0 where
  Keeps : (is_live phase ≡ true → is_live e.phase ≡ true) → IsHearing e given phase Unheard
  -- the Request that opens, in LISTEN, and the Response to the Request, in REQUEST
  Starts : (a : Incoming) (how : PacketFate) → Came e given a → a.kind ≢ types.Reset
      → (entrance_of e a ≡ entrance.Accept) ⊎ (entrance_of e a ≡ entrance.InRequest) → how ≢ Refused → FitsPassing phase a.kind how
      → IsHearing e given phase (Heard true a.number how)
  -- a packet in the windows
  Raises : (a : Incoming) (how : PacketFate) → Came e given a → a.kind ≢ types.Reset → entrance_of e a ≡ entrance.Check
      → verdict_of e a ≡ verdicts.Valid → FitsPassing phase a.kind how → IsHearing e given phase (Heard false a.number how)

-- why what is known acknowledged changes: by the Response to the Request, and by a packet in the windows
pub data IsAcknowledging (e : EndState) (given : Input) : Option ℕ → Type 0 where
  LeavesIt : IsAcknowledging e given None
  ByWindow : (ack : ℕ) (a : Incoming) → Came e given a → a.kind ≢ types.Reset → a.ack ≡ Some ack → entrance_of e a ≡ entrance.InRequest
      → acknowledges_in_window e a ≡ true → IsAcknowledging e given (Some ack)
  ByVerdict : (ack : ℕ) (a : Incoming) → Came e given a → a.kind ≢ types.Reset → a.ack ≡ Some ack → entrance_of e a ≡ entrance.Check
      → verdict_of e a ≡ verdicts.Valid → IsAcknowledging e given (Some ack)

-- a packet goes out under the next number
abbrev pub HasNext : Transmission → Type 0
HasNext Silent = ⊥
HasNext (Next packet) = Unit {0}
HasNext (WithoutConnection number packet) = ⊥

-- the first packet of the connection was heard
abbrev pub IsFirst : HeardNumber → Type 0
IsFirst Unheard = ⊥
IsFirst (Heard first number how) = first ≡ true

-- the phases in which an end waits for the first packet of its peer
abbrev pub is_waiting : Phase → Bool
is_waiting phases.Closed = false
is_waiting phases.Listen = true
is_waiting phases.Request = true
is_waiting phases.Respond = false
is_waiting phases.PartOpen = false
is_waiting phases.Open = false
is_waiting phases.CloseReq = false
is_waiting phases.Closing = false
is_waiting phases.TimeWait = false

-- Where the phase may go. An end waits for a first packet only as long as it heard nothing, or from `open` on; and it leaves CLOSED only by
-- `open`.
pub record IsMoving (e : EndState) (hearing : HeardNumber) (opens : Bool) (sending : Transmission) (phase : Phase) : Type 0 where
  pub its_role : is_phase_of phase e.config.role ≡ true
  pub live : is_live phase ≡ true → (is_live e.phase ≡ true) ⊎ IsFirst hearing
  pub begun : is_begun phase ≡ true → (is_begun e.phase ≡ true) ⊎ HasNext sending
  pub waits : is_waiting phase ≡ true → ((is_waiting e.phase ≡ true) × (hearing ≡ Unheard)) ⊎ (opens ≡ true)
  pub shut : e.phase ≡ phases.Closed → (phase ≡ phases.Closed) ⊎ (opens ≡ true)

-- OSR is the number with which the phase becomes OPEN
pub data IsOpening (e : EndState) (phase : Phase) : Bool → Type 0 where
  StaysSo : (phase ≡ phases.Open → e.phase ≡ phases.Open) → IsOpening e phase false
  BecomesOpen : phase ≡ phases.Open → e.phase ≢ phases.Open → IsOpening e phase true

-- the call `open` is taken once, of a client
pub data IsOpened (e : EndState) (given : Input) : Bool → Type 0 where
  NotNow : IsOpened e given false
  ByCall : given ≡ Opens → e.config.role ≡ role.Client → e.opened ≡ false → IsOpened e given true

-- what a packet of the end may acknowledge, other than an Ack or a DataAck: nothing, GSR, or the packet that it answers
pub data Acknowledges (e : EndState) (given : Input) (greatest : ℕ) : Option ℕ → Type 0 where
  Nothing : Acknowledges e given greatest None
  Greatest : Acknowledges e given greatest (Some greatest)
  Arrived : (a : Incoming) → Came e given a → Acknowledges e given greatest (Some a.number)

-- A Reset without a connection has code 3, or at a server 8; no Reset under a number of the end's own has these.
abbrev pub is_code_without_connection : Role → ℕ → Bool
is_code_without_connection role.Client code = code == (number_of_code codes.NoConnection)
is_code_without_connection role.Server code = code == (number_of_code codes.NoConnection) || code == (number_of_code codes.BadServiceCode)

-- the packet is such a Reset
abbrev pub is_without_connection : Role → Kind → Bool
is_without_connection who (kind.Reset ack code detail) = is_code_without_connection who code
is_without_connection who _ = false

-- why a packet goes out
pub data IsSending (e : EndState) (given : Input) (f : Effect) : Transmission → Type 0 where
  Rests : IsSending e given f Silent
  Acks : (packet : Draft) → is_acking (packet_type packet.kind) ≡ true → ack_of packet.kind ≡ Some (greatest_by e.marks.gsr f.hearing)
      → is_connected f.phase ≡ true → f.owed ≡ false → f.unacked ≡ 0 → IsSending e given f (Next packet)
  Others : (packet : Draft) → is_acking (packet_type packet.kind) ≡ false → Acknowledges e given (greatest_by e.marks.gsr f.hearing) (ack_of packet.kind)
      → is_without_connection e.config.role packet.kind ≡ false → IsSending e given f (Next packet)
  Refuses : (a : Incoming) (code : ℕ) → Came e given a → is_code_without_connection e.config.role code ≡ true → f.hearing ≡ Unheard → f.turns ≡ []
      → end_after e f ≡ e
      → IsSending e given f (WithoutConnection (number_without_connection a.ack) (kind.Reset a.number code (detail_of (without_detail code))))

-- what goes out has a frame
abbrev pub HasFrame : Transmission → Type 0
HasFrame Silent = Unit {0}
HasFrame (Next packet) = IsSendable packet
HasFrame (WithoutConnection number packet) = IsSendable (alone packet)

-- Options of the negotiation count on a newest packet, in the phase in which they are read.
abbrev pub counts_in : EndState → Incoming → Bool
counts_in e a = a.newest && counts (phase_entered e.phase) a.kind

-- The packet's options are read whole, and this is their result.
abbrev pub AreOptionsRead : EndState → Incoming → ReadingState → Type 0
AreOptionsRead e a h = heeds (counts_in e a) a.ack (unheeded e.rows) a.options ≡ Ok h

-- what the rows then hear
abbrev pub turns_in : EndState → Incoming → List Turn
turns_in e a = heard_turns (counts_in e a) a.ack (unheeded e.rows) a.options

-- a packet that came was taken in this step
pub record WasTaken (e : EndState) (given : Input) (hearing : HeardNumber) (a : Incoming) : Type 0 where
  pub came : Came e given a
  pub first : Bool
  pub is_heard : hearing ≡ Heard first a.number Taken

-- What is looked up was acknowledged by an Ack or a DataAck that was taken.
pub data IsLooking (e : EndState) (given : Input) (hearing : HeardNumber) : Option ℕ → Type 0 where
  LooksNowhere : IsLooking e given hearing None
  Looks : (number : ℕ) (a : Incoming) → WasTaken e given hearing a → is_acking a.kind ≡ true → a.ack ≡ Some number → IsLooking e given hearing (Some number)

-- What the rows heard of a packet that was taken, and the Confirms that are due for it.
pub data AreHeard (e : EndState) (given : Input) (hearing : HeardNumber) : List Turn → List DueConfirm → Type 0 where
  Deaf : AreHeard e given hearing [] []
  Heeds : (a : Incoming) (h : ReadingState) → WasTaken e given hearing a → AreOptionsRead e a h → AreHeard e given hearing (turns_in e a) h.confirms

-- What else happens to rows in the step, and whose Changes go out.
pub data Occasion (e : EndState) (given : Input) (heard : List Turn) (confirms : List DueConfirm) : List Turn → List Turn → List Key → Type 0 where
  -- nothing
  Plain : Occasion e given heard confirms [] [] []
  -- A Request or a Response: all offers are made, and the Changes of the rows that then ask and have no Confirm in the packet go out.
  Offering : Occasion e given heard confirms (offerings (is_confirmed confirms) every_place) []
      (asking (turned e.rows (heard ++ offerings (is_confirmed confirms) every_place)) confirms)
  -- the timer negotiate: the Changes of all rows that ask go out again
  Repeating : (in_flight : Bool) → given ≡ input.Fires timers.Negotiate in_flight → heard ≡ [] → confirms ≡ []
      → Occasion e given heard confirms [] [] (due_keys e.rows)
  -- a preference, which goes out at once or on a later occasion
  PrefersNow : (k : Key) (values : List ℕ) (wish : Wanted) → given ≡ input.Prefers k values → wish_of k.0 k.1 values ≡ Ok wish
      → is_asking_now e k wish ≡ true → heard ≡ [] → confirms ≡ []
      → Occasion e given heard confirms [] (turn_of k (Prefers wish) ∷ []) (k ∷ [])
  PrefersLater : (k : Key) (values : List ℕ) (wish : Wanted) → given ≡ input.Prefers k values → wish_of k.0 k.1 values ≡ Ok wish
      → is_asking_now e k wish ≡ false → heard ≡ [] → confirms ≡ []
      → Occasion e given heard confirms [] (turn_of k (Prefers wish) ∷ []) []

-- The rows' turns, in order: what was heard, offers, a preference, and the Changes that go out. No row's Change goes
-- out beside a Confirm for it.
pub record AreTurns (e : EndState) (given : Input) (hearing : HeardNumber) (turns : List Turn) : Type 0 where
  pub heard : List Turn
  pub confirms : List DueConfirm
  pub offered : List Turn
  pub preferred : List Turn
  pub keys : List Key
  pub in_order : turns ≡ heard ++ (offered ++ (preferred ++ sendings (next_number e) keys))
  pub hears : AreHeard e given hearing heard confirms
  pub occasion : Occasion e given heard confirms offered preferred keys
  pub apart : All (λ k. is_confirmed confirms k ≡ false) keys

-- a Request is due: the call `open`, or the timer request
abbrev pub asks_for_request : Input → Bool
asks_for_request (Arrives bytes) = false
asks_for_request Opens = true
asks_for_request input.Closes = false
asks_for_request input.Aborts = false
asks_for_request (input.Prefers key values) = false
asks_for_request (input.Sends payload may_send) = false
asks_for_request (input.SendsEarly payload may_send) = false
asks_for_request (input.Fires timers.Request in_flight) = true
asks_for_request (input.Fires timers.Ack in_flight) = false
asks_for_request (input.Fires timers.Negotiate in_flight) = false
asks_for_request (input.Fires timers.Rto in_flight) = false
asks_for_request (input.Fires timers.Close in_flight) = false
asks_for_request (input.Fires timers.TimeWait in_flight) = false

-- When offers are made: with the Request, the first one and each repeated one, and with the Response to a packet that was taken (own).
pub data IsOffering (given : Input) (hearing : HeardNumber) : Transmission → Type 0 where
  InRequest : (packet : Draft) → asks_for_request given ≡ true → packet_type packet.kind ≡ types.Request → IsOffering given hearing (Next packet)
  InResponse : (packet : Draft) (first : Bool) (number : ℕ) → hearing ≡ Heard first number Taken → packet_type packet.kind ≡ types.Response
      → IsOffering given hearing (Next packet)

-- the acknowledgement number is that of the packet that was heard
abbrev pub AcknowledgesHeard : HeardNumber → Option ℕ → Type 0
AcknowledgesHeard Unheard ack = ⊥
AcknowledgesHeard (Heard first number how) ack = ack ≡ Some number

-- the Ack Vector of a packet that goes out, if it has one, of what was received with this step
abbrev pub vector_of : EndState → Effect → Kind → List Item
vector_of e f k =
    vector_items (is_acking (packet_type k) && sends_vectors (rows_by e.rows f)) e.config.vectors (told_by e.received f).set (greatest_by e.marks.gsr f.hearing)

-- What goes out says all that is due: the Ack Vector, the Confirms, on a packet that acknowledges the one that they
-- answer, then the Changes of the rows as they are after the step.
pub data Says (e : EndState) (f : Effect) (confirms : List DueConfirm) (keys : List Key) : Transmission → Type 0 where
  SaysNothing : confirms ≡ [] → keys ≡ [] → Says e f confirms keys Silent
  SaysAll : (packet : Draft) → packet.options ≡ vector_of e f packet.kind ++ (confirm_items confirms ++ change_items (rows_by e.rows f) keys)
      → (confirms ≡ []) ⊎ AcknowledgesHeard f.hearing (ack_of packet.kind) → Says e f confirms keys (Next packet)
  SaysApart : (number : ℕ) (packet : Kind) → confirms ≡ [] → keys ≡ [] → Says e f confirms keys (WithoutConnection number packet)

-- a packet with data goes out
abbrev pub HasData : Transmission → Type 0
HasData Silent = ⊥
HasData (Next packet) = carries_data (packet_type packet.kind) ≡ true
HasData (WithoutConnection number packet) = ⊥

-- Why the congestion control is called: for the report of a packet that was taken, and if the value of CCID changes; for data that go out; and
-- for its timer, while something is in flight.
pub data IsCalling (e : EndState) (given : Input) (hearing : HeardNumber) (sending : Transmission) : List Call → Type 0 where
  CallsNothing : IsCalling e given hearing sending []
  CallsFor : (a : Incoming) (h : ReadingState) → WasTaken e given hearing a → AreOptionsRead e a h → IsCalling e given hearing sending (calls_for a e.rows h.rows)
  CallsSent : (payload : List ℕ) → given ≡ input.Sends payload true → e.phase ≡ phases.Open → HasData sending
      → IsCalling e given hearing sending (call.Sends (next_number e) ∷ [])
  CallsEarly : (payload : List ℕ) → given ≡ input.SendsEarly payload true → e.phase ≡ phases.PartOpen → HasData sending
      → IsCalling e given hearing sending (call.Sends (next_number e) ∷ [])
  CallsTimeout : given ≡ input.Fires timers.Rto true → e.phase ≡ phases.Open → IsCalling e given hearing sending (call.TimesOut ∷ [])

-- Why each part is what it is. What is owed and how many data packets are not acknowledged decide only which packet
-- goes out.
pub record IsCaused (e : EndState) (given : Input) (f : Effect) : Type 0 where
  pub hears : IsHearing e given f.phase f.hearing
  pub acks : IsAcknowledging e given f.acknowledged
  pub moves : IsMoving e f.hearing f.opens f.sending f.phase
  pub opening : IsOpening e f.phase f.opening
  pub opened : IsOpened e given f.opens
  pub looks : IsLooking e given f.hearing f.looked_up
  pub turns : AreTurns e given f.hearing f.turns
  pub offers : (turns.offered ≡ []) ⊎ IsOffering given f.hearing f.sending
  pub says : Says e f turns.confirms turns.keys f.sending
  pub framed : HasFrame f.sending
  pub sends : IsSending e given f f.sending
  pub calls : IsCalling e given f.hearing f.sending f.calls

-- The step is this effect's.
pub record HasEffect (e : EndState) (given : Input) (after : EndState) (frame : Option Outgoing) (calls : List Call) : Type 0 where
  pub effect : Effect
  pub after_is : after ≡ end_after e effect
  pub frame_is : frame ≡ frame_by e effect effect.sending
  pub calls_are : calls ≡ effect.calls
  pub because : IsCaused e given effect

-- Every step of a proper end has an effect: the end after it, its frame and its calls are those of the record.
abbrev pub EveryStepHasOneEffect : Type 0
EveryStepHasOneEffect =
    (e : EndState) (given : Input) → IsProper e → HasEffect e given (end_stepped e given).after (end_stepped e given).frame (end_stepped e given).calls
