-- What an end does with the bytes that arrive: the sixteen steps of RFC 4340, section 8.5.
--
-- `the_steps` lists steps 2 to 9 except for step 8, and `receives` at the foot joins step 1 before and steps 8 and 10 to
-- 16 after them. Each step has one definition, above these.
--
-- The clause `step` is this equation, and refuses any other body of a step. The causes, the effect and the worked packets (`proofs/Rows` of
-- tests_ends, and others) refuse a mistake in these definitions. A must-fail edit is a mistake that has a name.
use Rattle.std.specs.Prelude.{◌==◌, ◌&&◌, ◌||◌, not, if◌then◌else◌, ℕ, ◌+◌, Bool, true, false, List, [], ◌∷◌, Option, Some, None, Result, Ok, Err}
use Rattle.ack_vectors.specs.Kept as kept
use Rattle.seq_circle.specs.Circle.{residue, extended, is_before}
use Rattle.dccp_sum.specs.Checksum.{checked}
use Rattle.dccp_sum.specs.declared.packet_sum.SumFault.{SumFault}
use Rattle.dccp_options.specs.Grammar.{options_of}
use Rattle.dccp_packets.specs.Grammar.{Parts, decoded, code_of}
use Rattle.dccp_packets.specs.declared.reading.Malformed.{Malformed}
use Rattle.dccp_packets.specs.declared.header.Header.{Header}
use Rattle.dccp_packets.specs.declared.header.Kind.TheVariants as kind
use Rattle.dccp_packets.specs.declared.header.Number.{Number}
use Rattle.dccp_packets.specs.declared.header.Number.TheVariants.{Long, Short}
use Rattle.dccp_packets.specs.declared.header.PacketType.{PacketType}
use Rattle.dccp_packets.specs.declared.header.PacketType.TheVariants as types
use Rattle.dccp_states.specs.Entrance.{gate}
use Rattle.dccp_states.specs.Unexpected.{unexpected}
use Rattle.dccp_states.specs.Phases.{after}
use Rattle.dccp_states.specs.declared.entrance.Entrance.{Entrance}
use Rattle.dccp_states.specs.declared.entrance.Entrance.TheVariants as entrance
use Rattle.dccp_states.specs.declared.phase.Phase.{Phase}
use Rattle.dccp_states.specs.declared.phase.Phase.TheVariants as phases
use Rattle.dccp_states.specs.declared.reply.Reply.{Reply}
use Rattle.dccp_states.specs.declared.reply.Reply.TheVariants as reply
use Rattle.feature_lists.specs.declared.features.Feature.TheVariants.{ShortSeqnos}
use Rattle.feature_lists.specs.declared.features.Place.TheVariants.{There}
use Rattle.feature_machine.specs.Negotiating.{first_rows}
use Rattle.feature_machine.specs.declared.offers.RowSetup.{RowSetup}
use Rattle.feature_machine.specs.declared.row.Row.{Row}
use Rattle.feature_machine.specs.declared.stands.Role2.TheVariants as end
use Rattle.run_list.specs.MarkedSet.{answer_to}
use Rattle.run_list.specs.declared.answers.Marked.{Marked}
use Rattle.validity_windows.specs.Beginning.{begun}
use Rattle.validity_windows.specs.Windows.{ack_low, ack_high}
use Rattle.validity_windows.specs.Verdict.{verdict, is_ack_within, taken}
use Rattle.validity_windows.specs.declared.verdict.Verdict.{Verdict}
use Rattle.validity_windows.specs.declared.verdict.Verdict.TheVariants as verdicts
use Rattle.dccp_endpoint.specs.Drafts.{alone, sent_of}
use Rattle.dccp_endpoint.specs.End.{EndState, is_connected, is_live, is_open, value_in, with_rows}
use Rattle.dccp_endpoint.specs.Faults.{counts}
use Rattle.dccp_endpoint.specs.Heeding.{DueConfirm, ReadingState, heeds, unheeded}
use Rattle.dccp_endpoint.specs.Incoming.{Incoming, incoming}
use Rattle.dccp_packets.specs.ResetCodes.{number_of_code}
use Rattle.dccp_packets.specs.declared.reset_code.ResetCode.TheVariants as codes
use Rattle.dccp_endpoint.specs.Reporting.{counts_data, delivered_if, delivers, is_enough, looked_up, looks_up, marks, sends_ack}
use Rattle.dccp_endpoint.specs.Speaking.{asking, asks, confirming, has_confirms, offers, saying}
use Rattle.dccp_endpoint.specs.Congesting.{calls_for}
use Rattle.dccp_endpoint.specs.Steps.{Step, in_phase, idle, sends, detail_of, reset_of, with_calls, without_detail}
use Rattle.dccp_endpoint.specs.Turns.{Key}
use Rattle.dccp_endpoint.specs.declared.exit.Exit.{Exit}
use Rattle.dccp_endpoint.specs.declared.exit.Exit.TheVariants as exits
use Rattle.dccp_states.specs.declared.outcome.Fault.{Fault}
use Rattle.dccp_states.specs.declared.outcome.Outcome.{Outcome}
use Rattle.dccp_states.specs.declared.outcome.Outcome.TheVariants.{Took, Dropped, Synced, WasReset, SentReset}
use Rattle.dccp_states.specs.declared.outcome.Why.{Why}
use Rattle.dccp_states.specs.declared.outcome.Why.TheVariants as why

-- Step 1 drops what is no packet, has a wrong checksum, has other ports, or has a short number that is not taken, in this order.

-- Short numbers are taken if the peer may send them (section 7.6.1), in the phases in which a first number was received (own).
abbrev pub takes_short : EndState → Bool
takes_short e = is_live e.phase && (value_in e.rows ShortSeqnos There == 1)

-- the number near GSR that a short one means (section 7.6), if short numbers are taken
abbrev pub short_number : Bool → ℕ → ℕ → Result ℕ Why
short_number true number gsr = Ok (extended number gsr)
short_number false number gsr = Err why.ShortOff

-- the number of a packet in full
abbrev pub read_number : EndState → Number → Result ℕ Why
read_number e (Long number) = Ok number
read_number e (Short number) = short_number (takes_short e) number e.marks.gsr

-- the ports are those of the connection, as the packets of the peer carry them
abbrev pub is_of_connection : EndState → Header → Bool
is_of_connection e header = (header.from == e.config.peer_port) && (header.to == e.config.own_port)

-- the ports come before the form of the number
abbrev pub by_ports : EndState → Number → Bool → Result ℕ Why
by_ports e number true = read_number e number
by_ports e number false = Err why.OtherFlow

-- the checksum comes before the ports
abbrev pub by_sum : EndState → Header → Result (Unit {0}) SumFault → Result ℕ Why
by_sum e header (Ok _) = by_ports e header.number (is_of_connection e header)
by_sum e header (Err fault) = Err (why.Sum fault)

-- what the header and the checksum say of a packet: its number in full, or why it is dropped
abbrev pub checks_header : EndState → List ℕ → Header → Result ℕ Why
checks_header e bytes header = by_sum e header (checked e.config.pseudo_in bytes)

-- a packet that step 1 lets pass is read once
abbrev pub with_own_number : EndState → List ℕ → Parts → Result ℕ Why → Result Incoming Why
with_own_number e bytes p (Ok number) = Ok (incoming e bytes p number)
with_own_number e bytes p (Err why) = Err why

-- bytes that are no packet are dropped before anything else is checked
abbrev pub with_packet : EndState → List ℕ → Result Parts Malformed → Result Incoming Why
with_packet e bytes (Ok p) = with_own_number e bytes p (checks_header e bytes p.header)
with_packet e bytes (Err fault) = Err (why.Malformed fault)

-- step 1, whole
abbrev pub arrives : EndState → List ℕ → Result Incoming Why
arrives e bytes = with_packet e bytes (decoded bytes)

-- What a step makes of a packet: the next step has its turn, or the packet leaves; and the end as the step leaves it.
pub data Course : Type 0 where
  Goes : (x : EndState) → Course
  Leaves : (x : EndState) (exit : Exit) → Course

-- a course as the end that a method leaves and the method's answer
abbrev pub course : EndState → Result (Unit {0}) Exit → Course
course x (Ok _) = Goes x
course x (Err exit) = Leaves x exit

-- Step 2: without a connection a Reset is dropped, and any other packet is answered with a Reset. Step 3 does the same with a packet that opens
-- no connection.
abbrev pub finds_connection : Entrance → EndState → Course
finds_connection entrance.NoConnection x = Leaves x (exits.ResetWithoutConnection codes.NoConnection)
finds_connection entrance.Stray x = Leaves x (exits.Drop why.StrayReset)
finds_connection _ x = Goes x

-- The first packet of the peer sets the first and the greatest number received, and the set of the numbers that are
-- taken begins with it. OSR is that number until the end is OPEN (own).
abbrev pub started : EndState → Phase → Incoming → EndState
started e phase a =
    record e { phase = phase; marks = begun e.marks a.kind a.number a.ack; received = kept.fresh a.number }

-- Step 3: in LISTEN a Request for this service opens the connection. Whether the end's service is meant:
abbrev pub is_own_service : EndState → Option ℕ → Bool
is_own_service e None = false
is_own_service e (Some service) = service == e.config.service

-- by whether the Request asks for the end's service
abbrev pub opens_connection : Incoming → EndState → Bool → Course
opens_connection a x true = Goes (started x phases.Respond a)
opens_connection a x false = Leaves x (exits.ResetWithoutConnection codes.BadServiceCode)

-- step 3, whole
abbrev pub accepts_request : Incoming → Entrance → EndState → Course
accepts_request a entrance.Accept x = opens_connection a x (is_own_service x a.service)
accepts_request a _ x = Goes x

-- Step 4: in REQUEST a Response starts the receiving, and a Reset passes to the next steps, if they acknowledge the Request.
abbrev pub answers : Incoming → EndState → PacketType → Bool → Course
answers a x types.Reset true = Goes x
answers a x types.Reset false = Leaves x (exits.Drop why.StrayReset)
answers a x _ true = Goes (started x x.phase a)
answers a x _ false = Leaves x exits.PacketError

-- its acknowledgement number, if it has one, lies in the window of what was sent (AWL to AWH)
abbrev pub acknowledges_in_window : EndState → Incoming → Bool
acknowledges_in_window e a = is_ack_within (ack_low e.marks) (ack_high e.marks) a.ack

-- step 4, whole; in REQUEST any other type is an error
abbrev pub takes_answer : Incoming → Entrance → EndState → Course
takes_answer a entrance.InRequest x = answers a x a.kind (acknowledges_in_window x a)
takes_answer a entrance.PacketError x = Leaves x exits.PacketError
takes_answer a _ x = Goes x

-- Steps 5 and 6: a packet with valid numbers raises the greatest numbers received, unless it is a Reset.
abbrev pub with_raised_marks : EndState → Incoming → EndState
with_raised_marks e a = record e { marks = taken e.marks a.kind a.number a.ack }

-- by the type of a packet whose numbers are valid
abbrev pub raises : Incoming → EndState → PacketType → Course
raises a x types.Reset = Goes x
raises a x _ = Goes (with_raised_marks x a)

-- by the verdict of the windows
abbrev pub by_verdict : Incoming → EndState → Verdict → Course
by_verdict a x verdicts.Valid = raises a x a.kind
by_verdict a x (verdicts.SyncFor number) = Leaves x (exits.Sync number)
by_verdict a x verdicts.Drop = Leaves x (exits.Drop why.BadSync)

-- steps 5 and 6, whole
abbrev pub checks_numbers : Incoming → Entrance → EndState → Course
checks_numbers a entrance.Check x = by_verdict a x (verdict x.marks a.kind a.number a.ack)
checks_numbers a _ x = Goes x

-- Step 9 comes before 7 and 8 (own): a valid Reset ends the connection, whatever its options.
abbrev pub ends_by_reset : Incoming → PacketType → EndState → Course
ends_by_reset a types.Reset x = Leaves x (exits.TimeWait a.code)
ends_by_reset a _ x = Goes x

-- Step 7: a packet that its phase does not expect is answered with a Sync; a Response with another service than the client's ends the
-- connection. Whether its phase expects it:
abbrev pub is_unexpected : EndState → Incoming → Bool
is_unexpected x a = unexpected x.config.role x.phase a.kind (not (is_before a.number x.marks.osr))

-- whether it is a Response, in REQUEST, for another service
abbrev pub is_other_service : EndState → Phase → PacketType → Option ℕ → Bool
is_other_service e phases.Request types.Response service = not (is_own_service e service)
is_other_service e _ _ service = false

-- by whether the service is another
abbrev pub serves : Incoming → EndState → Bool → Course
serves a x true = Leaves x (exits.Shut (without_detail (number_of_code codes.BadServiceCode)))
serves a x false = Goes x

-- by whether the packet is unexpected
abbrev pub expects : Incoming → EndState → Bool → Course
expects a x true = Leaves x (exits.Sync a.number)
expects a x false = serves a x (is_other_service x x.phase a.kind a.service)

-- step 7, whole
abbrev pub checks_type : Incoming → EndState → Course
checks_type a x = expects a x (is_unexpected x a)

-- The steps from 2 to 7, in their order. Each is given the end as the one before it left it.
abbrev pub the_steps : Incoming → Entrance → List (EndState → Course)
the_steps a entrance =
    -- 2
    finds_connection entrance
    -- 3
    ∷ accepts_request a entrance
    -- 4
    ∷ takes_answer a entrance
    -- 5 and 6
    ∷ checks_numbers a entrance
    -- 9
    ∷ ends_by_reset a a.kind
    -- 7
    ∷ checks_type a
    ∷ []

-- steps one after another, up to the one at which the packet leaves
abbrev pub through : Course → List (EndState → Course) → Course
through (Leaves x exit) steps = Leaves x exit
through (Goes x) [] = Goes x
through (Goes x) (step ∷ steps) = through (step x) steps

-- Steps 10 to 15: the phase moves by the table, and the number with which it becomes OPEN is OSR. OSR is set only in that case:
abbrev pub osr_after : ℕ → ℕ → Bool → ℕ
osr_after osr number true = number
osr_after osr number false = osr

-- whether the phase becomes OPEN
abbrev pub becomes_open : Phase → Phase → Bool
becomes_open old new = is_open new && not (is_open old)

-- the end in its next phase
abbrev pub moved_to : EndState → Phase → ℕ → EndState
moved_to e phase number =
    record e { phase = phase; marks = record e.marks { osr = osr_after e.marks.osr number (becomes_open e.phase phase) } }

-- a Reset under the next number
abbrev pub resets : EndState → ℕ → Fault → Step Outcome
resets e ack fault = sends e (reset_of ack fault) (SentReset fault.code (detail_of fault))

-- A Response opens the offered rows that have no Confirm in it, and carries the Changes of these and of all others that
-- ask. Once their Changes have gone out:
abbrev pub responds_asking : EndState → List DueConfirm → List Key → Outcome → Step Outcome
responds_asking e confirms keys took = sends e (saying (kind.Response e.marks.gsr e.config.service) confirms e.rows keys) took

-- once the offers have been made
abbrev pub responds_offering : EndState → List DueConfirm → List Key → Outcome → Step Outcome
responds_offering e confirms keys took = responds_asking (asks e keys) confirms keys took

-- a Response with the Confirms that are due, all offers, and the Changes of the rows that ask and meet no Confirm in it
abbrev pub responds : EndState → List DueConfirm → Outcome → Step Outcome
responds e confirms took = responds_offering (offers e confirms) confirms (asking (offers e confirms).rows confirms) took

-- an Ack with the Confirms that are due
abbrev pub acknowledges : EndState → List DueConfirm → Outcome → Step Outcome
acknowledges e confirms took = sends_ack e (confirming (kind.Ack (Long e.marks.gsr)) confirms) took

-- If the table has no reply, an Ack goes out in PARTOPEN and OPEN if Confirms are due (own), and in OPEN if enough data packets are not
-- acknowledged (section 11.3).
abbrev pub needs_ack : Phase → List DueConfirm → List Row → ℕ → Bool
needs_ack phase confirms rows unacked = is_connected phase && (has_confirms confirms || (is_open phase && is_enough rows unacked))

-- What the table sends, with the outcome of a packet that was taken; a Reset has left at step 9.
abbrev pub replies : EndState → Incoming → List DueConfirm → Outcome → Reply → Step Outcome
replies e a confirms took reply.Nothing = if needs_ack e.phase confirms e.rows e.unacked then acknowledges e confirms took else idle e took
replies e a confirms took reply.Response = responds e confirms took
replies e a confirms took reply.Ack = acknowledges e confirms took
replies e a confirms took reply.Close = sends e (alone (kind.Close e.marks.gsr)) took
replies e a confirms took reply.ResetClosed = resets e e.marks.gsr (without_detail (number_of_code codes.Closed))
replies e a confirms took reply.SyncAck = sends e (confirming (kind.SyncAck a.number) confirms) took
replies e a confirms took reply.Torn = idle e took

-- Step 16 comes before the reply, since data that are delivered count towards the Ack Ratio.
abbrev pub delivering : EndState → Incoming → List DueConfirm → Bool → Reply → Step Outcome
delivering e a confirms new reply = replies (counts_data e new) a confirms (Took (delivered_if new a.data_place)) reply

-- steps 10 to 16, whole, by what the mark answered and the row of the table
abbrev pub moves : EndState → Incoming → List DueConfirm → Marked → Phase × Reply → Step Outcome
moves e a confirms mark to = delivering (moved_to e to.0 a.number) a confirms (delivers a.kind to.0 mark) to.1

-- The rest of step 8: a packet whose options were read to their end is marked, and what it acknowledges is looked up.
abbrev pub accounted : EndState → Incoming → EndState
accounted e a = looks_up (marks e a.number) (looked_up a.kind a.ack)

-- such a packet, once the rows are stored
abbrev pub processes : EndState → Incoming → List DueConfirm → Step Outcome
processes e a confirms = moves (accounted e a) a confirms (answer_to e.received.set a.number) (after e.phase a.kind)

-- A Reset without a connection takes its numbers from the packet, and the end is unchanged (own). Its number is the next after the
-- acknowledgement:
abbrev pub number_without_connection : Option ℕ → ℕ
number_without_connection None = 0
number_without_connection (Some ack) = residue (ack + 1)

-- a Reset without a connection that names a fault
abbrev pub resets_without_connection : EndState → Incoming → Fault → Step Outcome
resets_without_connection e a fault =
    record {
      after = e;
      frame = Some (sent_of e.config false (number_without_connection a.ack) (reset_of a.number fault));
      calls = [];
      answer = SentReset fault.code (detail_of fault);
    }

-- Packet Error names the packet's type
abbrev pub packet_fault : Incoming → Fault
packet_fault a = record { code = (number_of_code codes.PacketError); first = code_of a.kind; second = 0; third = 0 }

-- What is done with a packet that leaves before step 10, in the end as the steps left it.
abbrev pub leaves : EndState → Incoming → Exit → Step Outcome
leaves e a (exits.Drop why) = idle e (Dropped why)
leaves e a (exits.Sync number) = sends e (alone (kind.Sync number)) (Synced number)
leaves e a (exits.ResetWithoutConnection code) = resets_without_connection e a (without_detail (number_of_code code))
leaves e a exits.PacketError = resets e a.number (packet_fault a)
leaves e a (exits.Shut fault) = resets (in_phase e phases.Closed) e.marks.gsr fault
leaves e a (exits.TimeWait code) = idle (in_phase e phases.TimeWait) (WasReset code)

-- Step 8: the result of the options, or their first fault. Options of the negotiation are heeded only on a newest packet.
abbrev pub reads_options : EndState → Incoming → Result ReadingState Fault
reads_options x a = heeds (a.newest && counts x.phase a.kind) a.ack (unheeded x.rows) a.options

-- The same for a Request for its service that reaches a server's end in LISTEN: the result of the option area depends only on the end's lists.
-- The end has left LISTEN by then (step 3).
abbrev pub reads_request : List RowSetup → List ℕ → Result ReadingState Fault
reads_request lists area = heeds true None (unheeded (first_rows end.Server lists)) (options_of area false)

-- the fault, if there is one
abbrev pub fault_if : Result ReadingState Fault → Result (Unit {0}) Fault
fault_if (Ok h) = Ok tt
fault_if (Err fault) = Err fault

-- The rows are stored once the options are read to their end, and the congestion control hears of them. A fault ends
-- the connection, leaves the rows as they were and the packet unmarked, and hands nothing over.
abbrev pub heeded : EndState → Incoming → Result ReadingState Fault → Step Outcome
heeded x a (Ok h) = with_calls (calls_for a x.rows h.rows) (processes (with_rows x h.rows) a h.confirms)
heeded x a (Err fault) = leaves x a (exits.Shut fault)

-- what is done in the end, by the course of the steps
abbrev pub ends_as : Incoming → Course → Step Outcome
ends_as a (Goes x) = heeded x a (reads_options x a)
ends_as a (Leaves x exit) = leaves x a exit

-- steps 2 to 16, whole
abbrev pub takes : EndState → Incoming → Step Outcome
takes e a = ends_as a (through (Goes e) (the_steps a (gate e.phase a.kind)))

-- what step 1 lets pass is taken, and all else dropped
abbrev pub received : EndState → Result Incoming Why → Step Outcome
received e (Ok a) = takes e a
received e (Err why) = idle e (Dropped why)

-- What `receive` does.
unfoldable pub receives : EndState → List ℕ → Step Outcome
receives e bytes = received e (arrives e bytes)
