-- The events that an owner gets about the flows of a server (own; the phases and Reset Codes are those of RFC 4340, sections 8.4 and 5.6).
use Rattle.std.specs.Prelude.{◌==◌, ◌&&◌, ℕ, [], Bool, true, false, not, Option, Some, None, is_some, if◌then◌else◌}
use Rattle.std.specs.Option.{option_or}
use Rattle.ccid_two.specs.Kinds.{kinds_control}
use Rattle.congestion_trait.specs.Control.{may_send}
use Rattle.dccp_endpoint.specs.Calling.{is_closing, send_fault}
use Rattle.dccp_endpoint.specs.End.{is_open}
use Rattle.dccp_listener.specs.Peers.{FlowEnd}
use Rattle.dccp_listener.specs.Runs.{CallTold, Stepped}
use Rattle.dccp_listener.specs.declared.peer.Peer.{Peer}
use Rattle.dccp_packets.specs.ResetCodes.{number_of_code}
use Rattle.dccp_packets.specs.declared.reset_code.ResetCode.TheVariants as codes
use Rattle.dccp_states.specs.declared.outcome.Outcome.{Outcome}
use Rattle.dccp_states.specs.declared.outcome.Outcome.TheVariants.{Took, WasReset, SentReset}
use Rattle.dccp_states.specs.declared.phase.Phase.{Phase}
use Rattle.dccp_states.specs.declared.phase.Phase.TheVariants as phases
use Rattle.dccp_states.specs.declared.seen.Seen.TheVariants.{Received}
use Rattle.server_peers.specs.declared.flow_event.EndCause.{EndCause}
use Rattle.server_peers.specs.declared.flow_event.EndCause.TheVariants as causes
use Rattle.server_peers.specs.declared.flow_event.EndReason.{EndReason}
use Rattle.server_peers.specs.declared.flow_event.EventKind.{EventKind}
use Rattle.server_peers.specs.declared.flow_event.EventKind.TheVariants as kinds
use Rattle.server_peers.specs.declared.flow_event.FlowEvent.{FlowEvent}
use Rattle.server_peers.specs.declared.flow_event.FlowEvents.{FlowEvents}
use Rattle.server_peers.specs.declared.flow_event.FlowState.{FlowState}
use Rattle.server_peers.specs.declared.life.Life.{Life}

-- the connection is over, or has not begun
abbrev pub is_ended : Phase → Bool
is_ended phases.Closed = true
is_ended phases.Listen = true
is_ended phases.TimeWait = true
is_ended _ = false

-- Data may be sent: `send` would refuse them at most for their length.
abbrev pub takes_data : FlowEnd → Bool
takes_data e = not (is_some (send_fault e.state [] (may_send kinds_control e.congestion)))

-- what an owner sees of a flow with this number of the owner and this end, whose data may have to wait for the application that reads them
abbrev pub seen_flow : ℕ → Bool → FlowEnd → FlowState
seen_flow user waits e = record { phase = e.state.phase; takes_data = takes_data e && not waits; user = user }

-- there is a flow, and its connection is not over
abbrev pub is_on : Option FlowState → Bool
is_on None = false
is_on (Some flow) = not (is_ended flow.phase)

-- its handshake is complete
abbrev pub is_open_at : Option FlowState → Bool
is_open_at None = false
is_open_at (Some flow) = is_open flow.phase

-- data may be sent to it
abbrev pub takes_at : Option FlowState → Bool
takes_at None = false
takes_at (Some flow) = flow.takes_data

-- it was closed from here, and waits for the peer
abbrev pub is_closing_at : Option FlowState → Bool
is_closing_at None = false
is_closing_at (Some flow) = is_closing flow.phase

-- the owner's number for a flow after a call, or before one that has ended it
abbrev pub user_of : Option FlowState → Option FlowState → ℕ
user_of was (Some is) = is.user
user_of (Some was) None = was.user
user_of None None = 0

-- the Reset Code of an orderly close (section 5.6)
abbrev pub is_orderly : ℕ → Bool
is_orderly code = code == number_of_code codes.Closed

-- The peer's Reset has ended a connection: it answers this end's Close, or the peer wished to end it.
abbrev pub reset_cause : Option FlowState → ℕ → EndCause
reset_cause was code = if is_orderly code && is_closing_at was then causes.Own else causes.Peer

-- The end has answered a packet with a Reset and is over: an orderly one answers a Close, and any other a fault.
abbrev pub answer_cause : Option FlowState → ℕ → EndCause
answer_cause was code = if is_orderly code then reset_cause was code else causes.Fault

-- an end that no Reset announces
abbrev pub silent_end : EndCause → EndReason
silent_end cause = record { cause = cause; code = None }

-- an end by this end's Reset with the code Aborted
abbrev pub aborted_end : EndCause → EndReason
aborted_end cause = record { cause = cause; code = Some (number_of_code codes.Aborted) }

-- how a connection ends by what became of a packet, if it ends
abbrev pub ending_told : Option FlowState → Outcome → EndReason
ending_told was (WasReset code) = record { cause = reset_cause was code; code = Some code }
ending_told was (SentReset code detail) = record { cause = answer_cause was code; code = Some code }
ending_told was _ = silent_end causes.Peer

-- the same by the result of a datagram
abbrev pub ending_by : Option FlowState → Option CallTold → EndReason
ending_by was (Some (Stepped (Some (Received outcome)))) = ending_told was outcome
ending_by was _ = silent_end causes.Peer

-- the same if the peer may have connected again
abbrev pub ending_heard : Option FlowState → Option CallTold → Bool → EndReason
ending_heard was told anew = if anew then silent_end causes.Anew else ending_by was told

-- the place of the data that a packet has brought
abbrev pub data_of : Outcome → Option (ℕ × ℕ)
data_of (Took delivered) = delivered
data_of _ = None

-- the place of the data that a datagram has brought
abbrev pub data_told : Option CallTold → Option (ℕ × ℕ)
data_told (Some (Stepped (Some (Received outcome)))) = data_of outcome
data_told _ = None

-- the event, if this holds
abbrev pub event_if : Bool → Peer → ℕ → EventKind → Option FlowEvent
event_if holds peer user kind = if holds then Some (record { peer = peer; user = user; kind = kind }) else None

-- the event of data, with their place
abbrev pub data_event : Option (ℕ × ℕ) → Peer → ℕ → Option FlowEvent
data_event None peer user = None
data_event (Some place) peer user = event_if true peer user (kinds.Data place.0 place.1)

-- The events of a flow, by what its owner saw of it before a call and sees after it. The call has brought these data, and ends the flow in this
-- way, if it ends it. An event says that the handshake is complete, that data came, that data may be sent, or that the connection is over, if
-- that was not so before.
abbrev pub events_between : Peer → Option FlowState → Option FlowState → Option (ℕ × ℕ) → EndReason → Option FlowEvent → FlowEvents
events_between peer was is place ending evicted =
    record {
      evicted = evicted;
      opened = event_if (is_open_at is && not (is_open_at was)) peer (user_of was is) kinds.Opened;
      delivery = data_event place peer (user_of was is);
      room = event_if (takes_at is && not (takes_at was)) peer (user_of was is) kinds.Room;
      ended = event_if (is_on was && not (is_on is)) peer (user_of was is) (kinds.Ended ending);
    }

-- there is no event
abbrev pub no_events : FlowEvents
no_events = record { evicted = None; opened = None; delivery = None; room = None; ended = None }

-- the first event
abbrev pub first_event : FlowEvents → Option FlowEvent
first_event them = option_or (option_or (option_or (option_or them.evicted them.opened) them.delivery) them.room) them.ended

-- the events without the first
abbrev pub events_left : FlowEvents → FlowEvents
events_left them =
    if is_some them.evicted then record them { evicted = None }
    else if is_some them.opened then record them { opened = None }
    else if is_some them.delivery then record them { delivery = None }
    else if is_some them.room then record them { room = None }
    else record them { ended = None }

-- a flow that has made room is over, and was not before
abbrev pub evicted_event : Option Life → Option Peer → Option FlowEvent
evicted_event (Some life) (Some peer) = event_if (not (is_ended life.phase)) peer life.user (kinds.Ended (silent_end causes.Evicted))
evicted_event _ _ = None
