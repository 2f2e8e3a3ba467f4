-- The calls and timers of an end (RFC 4340, sections 8.1 to 8.3; the refusals are own).
use Rattle.std.specs.Prelude.{Bool, true, false, not, ◌&&◌, ◌==◌, nat_lt, if◌then◌else◌, ℕ, List, [], ◌∷◌, length, Option, Some, None, Result, Ok, Err}
use Rattle.congestion_trait.specs.Calls.{Sends, TimesOut}
use Rattle.dccp_packets.specs.ResetCodes.{number_of_code}
use Rattle.dccp_packets.specs.declared.header.Kind.{Kind}
use Rattle.dccp_packets.specs.declared.header.Kind.TheVariants as kind
use Rattle.dccp_packets.specs.declared.header.Number.TheVariants.{Long}
use Rattle.dccp_packets.specs.declared.reset_code.ResetCode.TheVariants as codes
use Rattle.dccp_states.specs.declared.phase.Role.{Role}
use Rattle.dccp_states.specs.declared.phase.Role.TheVariants as role
use Rattle.dccp_states.specs.declared.phase.Phase.{Phase}
use Rattle.dccp_states.specs.declared.phase.Phase.TheVariants as phases
use Rattle.feature_lists.specs.Wishes.{wish_of}
use Rattle.feature_lists.specs.declared.wishes.PreferFault.{PreferFault}
use Rattle.feature_lists.specs.declared.wishes.PreferFault.TheVariants as prefer
use Rattle.feature_lists.specs.declared.wishes.Wanted.{Wanted}
use Rattle.feature_machine.specs.Answers.{is_opening}
use Rattle.feature_machine.specs.Negotiating.{due_keys, row_at}
use Rattle.feature_machine.specs.Rows.{Prefers, row_step}
use Rattle.feature_machine.specs.Turns.{turned}
use Rattle.feature_lists.specs.declared.features.Feature.TheVariants.{Ccid, SendAckVector}
use Rattle.feature_lists.specs.declared.features.Place.TheVariants.{Here, There}
use Rattle.feature_machine.specs.declared.row.Row.{Row}
use Rattle.dccp_endpoint.specs.Drafts.{alone, carrying}
use Rattle.dccp_endpoint.specs.End.{EndState, is_connected, is_open, value_in, with_rows}
use Rattle.dccp_endpoint.specs.Reporting.{sends_ack}
use Rattle.dccp_endpoint.specs.Speaking.{asking, asks, offers, saying}
use Rattle.dccp_endpoint.specs.Turns.{Key, turn_of}
use Rattle.dccp_endpoint.specs.Steps.{Step, idle, in_phase, next_number, sends, reset_of, with_calls, without_detail}
use Rattle.dccp_states.specs.declared.calls.AbortFault.{AbortFault}
use Rattle.dccp_states.specs.declared.calls.AbortFault.TheVariants.{NotLive}
use Rattle.dccp_states.specs.declared.calls.CloseFault.{CloseFault}
use Rattle.dccp_states.specs.declared.calls.CloseFault.TheVariants.{NotOpen}
use Rattle.dccp_states.specs.declared.calls.OpenFault.{OpenFault}
use Rattle.dccp_states.specs.declared.calls.OpenFault.TheVariants.{NotFresh}
use Rattle.dccp_states.specs.declared.calls.SendFault.{SendFault}
use Rattle.dccp_states.specs.declared.calls.SendFault.TheVariants as send
use Rattle.dccp_states.specs.declared.calls.Timer.{Timer}
use Rattle.dccp_states.specs.declared.calls.Timer.TheVariants as timers

-- what a call that may be refused does
abbrev pub Called : Type 0 → Type 0
Called Fault = Step (Result (Unit {0}) Fault)

-- A client asks for its service (section 8.1.1). The Request opens the offered rows, and carries the Changes of these
-- and of all others that ask. Once their Changes have gone out:
abbrev pub requests_asking : {EndAnswer : Type 0} → EndState → List Key → EndAnswer → Step EndAnswer
requests_asking e keys answer = sends e (saying (kind.Request e.config.service) [] e.rows keys) answer

-- once the offers have come up
abbrev pub requests_offering : {EndAnswer : Type 0} → EndState → List Key → EndAnswer → Step EndAnswer
requests_offering e keys answer = requests_asking (asks e keys) keys answer

-- a Request with all offers, and the Change of every row that asks once they have come up
abbrev pub requests : {EndAnswer : Type 0} → EndState → EndAnswer → Step EndAnswer
requests e answer = requests_offering (offers e []) (asking (offers e []).rows []) answer

-- open: a client sends its Request once
abbrev pub opens_as : EndState → Role → Bool → Called OpenFault
opens_as e role.Client false = requests (record e { opened = true; phase = phases.Request }) (Ok tt)
opens_as e role.Client true = idle e (Err NotFresh)
opens_as e role.Server _ = idle e (Err NotFresh)

-- an end of the server, or one that was opened before, refuses
unfoldable pub opens : EndState → Called OpenFault
opens e = opens_as e e.config.role e.opened

-- close: a client sends Close, and a server asks for it by CloseReq (section 8.3)
abbrev pub closing_phase : Role → Phase
closing_phase role.Client = phases.Closing
closing_phase role.Server = phases.CloseReq

-- a client's Close or a server's CloseReq, with this acknowledgement number
abbrev pub closing_packet : Role → ℕ → Kind
closing_packet role.Client ack = kind.Close ack
closing_packet role.Server ack = kind.CloseReq ack

-- the phase changes together with the packet that goes out, which has no options
abbrev pub closes_now : EndState → Role → Called CloseFault
closes_now e who = sends (in_phase e (closing_phase who)) (alone (closing_packet who e.marks.gsr)) (Ok tt)

-- `close` is accepted only in PARTOPEN and OPEN (own)
abbrev pub closes_in : EndState → Phase → Called CloseFault
closes_in e phase = if is_connected phase then closes_now e e.config.role else idle e (Err NotOpen)

-- the phase alone decides whether the connection is closed or the call refused
unfoldable pub closes : EndState → Called CloseFault
closes e = closes_in e e.phase

-- abort: a Reset 2, Aborted, but nothing if nothing has come from the peer
abbrev pub aborts_now : EndState → Called AbortFault
aborts_now e = sends (in_phase e phases.Closed) (reset_of e.marks.gsr (without_detail (number_of_code codes.Aborted))) (Ok tt)

-- refused in CLOSED, LISTEN and TIMEWAIT; in REQUEST the end falls silent, and from RESPOND on the Reset goes out
abbrev pub aborts_in : EndState → Phase → Called AbortFault
aborts_in e phases.Closed = idle e (Err NotLive)
aborts_in e phases.Listen = idle e (Err NotLive)
aborts_in e phases.TimeWait = idle e (Err NotLive)
aborts_in e phases.Request = idle (in_phase e phases.Closed) (Ok tt)
aborts_in e phases.Respond = aborts_now e
aborts_in e phases.PartOpen = aborts_now e
aborts_in e phases.Open = aborts_now e
aborts_in e phases.CloseReq = aborts_now e
aborts_in e phases.Closing = aborts_now e

-- the phase alone decides between a refusal, silence and a Reset
unfoldable pub aborts : EndState → Called AbortFault
aborts e = aborts_in e e.phase

-- An Ack with the Changes of these rows; once they have gone out:
abbrev pub acks_asking : {EndAnswer : Type 0} → EndState → List Key → EndAnswer → Step EndAnswer
acks_asking e keys answer = sends_ack e (saying (kind.Ack (Long e.marks.gsr)) [] e.rows keys) answer

-- these rows ask at once, and an Ack carries their Changes
abbrev pub asks_now : {EndAnswer : Type 0} → EndState → List Key → EndAnswer → Step EndAnswer
asks_now e keys answer = acks_asking (asks e keys) keys answer

-- prefer: a row in STABLE asks at once, any other on a later occasion (own)
abbrev pub prefers_so : EndState → Key → Bool → Called PreferFault
prefers_so e k true = asks_now e (k ∷ []) (Ok tt)
prefers_so e k false = idle e (Ok tt)

-- whether the row asks at once
abbrev pub is_asking_now : EndState → Key → Wanted → Bool
is_asking_now e k wish = is_opening (row_step (row_at e.rows k.0 k.1) (Prefers wish)).answer

-- the end with this wish for the row
abbrev pub preferring : EndState → Key → Wanted → EndState
preferring e k wish = with_rows e (turned e.rows (turn_of k (Prefers wish) ∷ []))

-- a feature's values that make no wish are refused, and no row changes
abbrev pub prefers_wish : EndState → Key → Result Wanted PreferFault → Called PreferFault
prefers_wish e k (Ok wish) = prefers_so (preferring e k wish) k (is_asking_now e k wish)
prefers_wish e k (Err fault) = idle e (Err fault)

-- by whether the phase is PARTOPEN or OPEN
abbrev pub prefers_in : EndState → Bool → Key → List ℕ → Called PreferFault
prefers_in e true k values = prefers_wish e k (wish_of k.0 k.1 values)
prefers_in e false k values = idle e (Err prefer.NotOpen)

-- a new preference is accepted only in PARTOPEN and OPEN
unfoldable pub prefers : EndState → Key → List ℕ → Called PreferFault
prefers e k values = prefers_in e (is_connected e.phase) k values

-- send: data go out in OPEN. The most bytes of data of a packet (own):
abbrev pub most_data : ℕ
most_data = 1024

-- CCID 2 needs the Ack Vectors of the peer (RFC 4341, section 4).
abbrev pub lacks_vectors : List Row → Bool
lacks_vectors rows = value_in rows Ccid Here == 2 && not (value_in rows SendAckVector There == 1)

-- why data are not sent, or none if they are, by whether they may go in this phase; each reason before the next
abbrev pub fault_where : Bool → List Row → List ℕ → Bool → Option SendFault
fault_where fits_phase rows payload may_send =
    if not fits_phase then Some send.NotOpen
    else if nat_lt most_data (length payload) then Some send.TooLong
    else if lacks_vectors rows then Some send.NotNegotiated
    else if not may_send then Some send.WindowFull
    else None

-- for `send` the phase has to be OPEN
abbrev pub send_fault : EndState → List ℕ → Bool → Option SendFault
send_fault e payload may_send = fault_where (is_open e.phase) e.rows payload may_send

-- Data go out on a DataAck, which acknowledges, or on a Data.
abbrev pub sends_data : EndState → List ℕ → Bool → Called SendFault
sends_data e payload true = sends_ack e (carrying (kind.DataAck (Long e.marks.gsr)) payload) (Ok tt)
sends_data e payload false = sends e (carrying kind.Data payload) (Ok tt)

-- The congestion control hears of the number of data that go out. Data that are refused change nothing, and it hears of
-- none of them.
abbrev pub sends_unless : EndState → List ℕ → Bool → Option SendFault → Called SendFault
sends_unless e payload acknowledges (Some fault) = idle e (Err fault)
sends_unless e payload acknowledges None = with_calls (Sends (next_number e) ∷ []) (sends_data e payload acknowledges)

-- A DataAck goes out if an acknowledgement is owed. The call has as an argument whether the congestion control permits a further packet.
unfoldable pub sends_payload : EndState → List ℕ → Bool → Called SendFault
sends_payload e payload may_send = sends_unless e payload e.owed (send_fault e payload may_send)

-- the phase of a client that waits for the answer to its Request (section 8.1.1)
abbrev pub is_requesting : Phase → Bool
is_requesting phases.Closed = false
is_requesting phases.Listen = false
is_requesting phases.Request = true
is_requesting phases.Respond = false
is_requesting phases.PartOpen = false
is_requesting phases.Open = false
is_requesting phases.CloseReq = false
is_requesting phases.Closing = false
is_requesting phases.TimeWait = false

-- the phases in which an end repeats its CloseReq or its Close (section 8.3)
abbrev pub is_closing : Phase → Bool
is_closing phases.Closed = false
is_closing phases.Listen = false
is_closing phases.Request = false
is_closing phases.Respond = false
is_closing phases.PartOpen = false
is_closing phases.Open = false
is_closing phases.CloseReq = true
is_closing phases.Closing = true
is_closing phases.TimeWait = false

-- the phase that time alone ends (section 8.3)
abbrev pub is_in_time_wait : Phase → Bool
is_in_time_wait phases.Closed = false
is_in_time_wait phases.Listen = false
is_in_time_wait phases.Request = false
is_in_time_wait phases.Respond = false
is_in_time_wait phases.PartOpen = false
is_in_time_wait phases.Open = false
is_in_time_wait phases.CloseReq = false
is_in_time_wait phases.Closing = false
is_in_time_wait phases.TimeWait = true

-- the phases in which a timer has something to do
abbrev pub applies_in : Timer → Phase → Bool
applies_in timers.Request phase = is_requesting phase
applies_in timers.Ack phase = is_connected phase
applies_in timers.Negotiate phase = is_connected phase
applies_in timers.Rto phase = is_open phase
applies_in timers.Close phase = is_closing phase
applies_in timers.TimeWait phase = is_in_time_wait phase

-- some row has its Change due
abbrev pub has_keys : List Key → Bool
has_keys [] = false
has_keys (k ∷ keys) = true

-- What else a timer needs: negotiate needs a row that asks, and rto something in flight.
abbrev pub has_cause : Timer → EndState → Bool → Bool
has_cause timers.Request e in_flight = true
has_cause timers.Ack e in_flight = true
has_cause timers.Negotiate e in_flight = has_keys (due_keys e.rows)
has_cause timers.Rto e in_flight = in_flight
has_cause timers.Close e in_flight = true
has_cause timers.TimeWait e in_flight = true

-- a timer applies if its phase and its cause both hold
abbrev pub applies : Timer → EndState → Bool → Bool
applies timer e in_flight = applies_in timer e.phase && has_cause timer e in_flight

-- the Changes of all rows that ask go out again
abbrev pub asks_all : EndState → List Key → Step Bool
asks_all e [] = idle e false
asks_all e (k ∷ keys) = asks_now e (k ∷ keys) true

-- the congestion control hears that its timer has run out (RFC 4341, section 5)
abbrev pub times_out : EndState → Bool → Step Bool
times_out e true = with_calls (TimesOut ∷ []) (idle e true)
times_out e false = idle e false

-- the CloseReq or the Close that goes out again, by the phase
abbrev pub closing_again : Phase → ℕ → Kind
closing_again phases.CloseReq ack = kind.CloseReq ack
closing_again phases.Closed ack = kind.Close ack
closing_again phases.Listen ack = kind.Close ack
closing_again phases.Request ack = kind.Close ack
closing_again phases.Respond ack = kind.Close ack
closing_again phases.PartOpen ack = kind.Close ack
closing_again phases.Open ack = kind.Close ack
closing_again phases.Closing ack = kind.Close ack
closing_again phases.TimeWait ack = kind.Close ack

-- What a timer does if its phase holds: the Request, Close or CloseReq goes out again, an Ack goes out, alone or with the Changes, the
-- congestion control hears of it, and TIMEWAIT ends.
abbrev pub fires_now : EndState → Timer → Bool → Phase → Step Bool
fires_now e timers.Request in_flight phase = requests e true
fires_now e timers.Ack in_flight phase = sends_ack e (alone (kind.Ack (Long e.marks.gsr))) true
fires_now e timers.Negotiate in_flight phase = asks_all e (due_keys e.rows)
fires_now e timers.Rto in_flight phase = times_out e in_flight
fires_now e timers.Close in_flight phase = sends e (alone (closing_again phase e.marks.gsr)) true
fires_now e timers.TimeWait in_flight phase = idle (in_phase e phases.Closed) true

-- in any other phase it does nothing
abbrev pub fires_in : EndState → Timer → Bool → Phase → Step Bool
fires_in e timer in_flight phase = if applies_in timer phase then fires_now e timer in_flight phase else idle e false

-- The timer has as an argument whether something is in flight.
unfoldable pub fires : EndState → Timer → Bool → Step Bool
fires e timer in_flight = fires_in e timer in_flight e.phase
