-- What C gets from a call of a listener (own).
use Rattle.std.specs.Prelude.{◌≡◌, ◌⊎◌, ℕ, ◌==◌, ◌^◌, nat_lt, Bool, true, false, List, [], length, Option, Some, None, is_some, Result, Ok, Err, if◌then◌else◌, slice_get}
use Rattle.std.specs.Map.{keys_of}
use Rattle.std.specs.Option.{option_map}
use Rattle.data_dropped.specs.declared.answers.Arrival.{Arrival}
use Rattle.dccp_listener.specs.Chain.{Calls, FlowCall, Sends}
use Rattle.dccp_listener.specs.Listens.{listens}
use Rattle.dccp_listener.specs.Peers.{end_of_peer}
use Rattle.dccp_listener.specs.Runs.{CallTold, Stepped, WasBusy, HadNoMemory}
use Rattle.dccp_listener.specs.declared.calls.Heard.{Heard}
use Rattle.seq_circle.specs.declared.memory.NoMemory.{NoMemory}
use Rattle.dccp_packets.specs.ResetCodes.{number_of_code}
use Rattle.dccp_packets.specs.declared.reset_code.ResetCode.TheVariants as codes
use Rattle.dccp_server.specs.Events.{WatchedServer, called_on, ends_old, entry_at, heard_on, is_shut_out, room_maker, shut_out, ticked_on}
use Rattle.server_peers.specs.Events.{aborted_end, silent_end}
use Rattle.dccp_server.specs.FlowInboxes.{FlowDelivery, Inboxes, begun_fresh, flow_delivers, flow_speaks, no_flow_delivery, tidied, tidied_if, without_inbox_of}
use Rattle.server_peers.specs.Lives.{life_of}
use Rattle.dccp_server.specs.Meeting.{IsMet, may_meet}
use Rattle.server_peers.specs.CookieUses.{rekeyed}
use Rattle.server_peers.specs.Places.{peer_after}
use Rattle.dccp_server.specs.Refusals.{refused_frame}
use Rattle.dccp_server.specs.Rooms.{Room, RuledRoom, duty_done, duty_frame, duty_in, duty_peer, forgets, room_does, room_waits}
use Rattle.server_peers.specs.Strangers.{told_of_arrival}
use Rattle.dccp_server.specs.Serving.{Does, flow_restraint, upkeep_at}
use Rattle.dccp_uses.specs.declared.reader.Restraint.{Restraint}
use Rattle.dccp_uses.specs.declared.rule.Rule.TheVariants as rules
use Rattle.path_rules.specs.declared.limits.Limit.{Limit}
use Rattle.dccp_server.specs.declared.duty.Duty.{Duty}
use Rattle.dccp_server.specs.declared.flow_drops.FlowDrop.{FlowDrop}
use Rattle.dccp_server.specs.declared.duty.Duty.TheVariants.{Ring, Follow, GiveUp}
use Rattle.server_peers.specs.declared.flow_event.EndCause.TheVariants as causes
use Rattle.server_peers.specs.declared.life.Life.{Life}
use Rattle.server_peers.specs.declared.cookie_use.CookieUse.{CookieUse}
use Rattle.server_peers.specs.declared.cookie_use.CookieUse.TheVariants.{Always, InACrowd, Never}
use Rattle.dccp_server.specs.declared.meeting.Way.{Way}
use Rattle.dccp_server.specs.declared.meeting.Way.TheVariants as way
use Rattle.server_peers.specs.declared.rules.Rules.{Rules}
use Rattle.dccp_c.specs.declared.flow_rules.FlowRules.{FlowRules}
use Rattle.dccp_c.specs.declared.flow_rules.FlowLife.{FlowLife}
use Rattle.dccp_listener.specs.declared.peer.Peer.{Peer}
use Rattle.dccp_states.specs.declared.seen.Seen.{Seen}
use Rattle.dccp_states.specs.declared.seen.Seen.TheVariants as seen
use Rattle.dccp_packets.specs.Outgoing.{Outgoing}
use Rattle.dccp_c.specs.Framing.{FrameFields, handed_of, nothing_handed}
use Rattle.dccp_c.specs.Outcomes.{told_arrival, told_heard, told_outcome}
use Rattle.dccp_c.specs.declared.told.Told.{Told}
use Rattle.dccp_c.specs.Codes.{called_code, refusal_code, restraint_code, timer_code}
use Rattle.dccp_server.specs.Due.{never}
use Rattle.dccp_c.specs.Keeping.{InnerListener}
use Rattle.dccp_c.specs.Seeing.{seen_within}
use Rattle.dccp_c.specs.Telling.{is_short}
use Rattle.dccp_c.specs.declared.peer.PeerAddress.{PeerAddress}
use Rattle.dccp_c.specs.declared.readers.View.{View}

-- the server that a handle holds, if any, with its events, and without the place for its frame
abbrev pub watched_in : Option InnerListener → Option WatchedServer
watched_in = option_map (λ held. held.server)

-- the same without its events
abbrev pub served_in : Option InnerListener → Option RuledRoom
served_in = option_map (λ held. held.server.server)

-- a server with its events, the data of its flows that wait, and what became of the data of the last datagram, if they came into an inbox
pub record OwnedServerState : Type 0 where
  pub watched : WatchedServer
  pub inboxes : Inboxes
  pub arrival : Option Arrival

-- what a listener holds, without the place for its frame
abbrev pub holding_of : InnerListener → OwnedServerState
holding_of held = record { watched = held.server; inboxes = held.inboxes; arrival = held.arrival }

-- the same for a handle, if it holds one
abbrev pub holding_in : Option InnerListener → Option OwnedServerState
holding_in = option_map holding_of

-- the data of its flows that wait
abbrev pub inboxes_in : Option InnerListener → Option Inboxes
inboxes_in = option_map (λ held. held.inboxes)

-- the record of the packets that its peers have reported as dropped
abbrev pub flow_drops_in : Option InnerListener → List FlowDrop
flow_drops_in None = []
flow_drops_in (Some held) = held.drops

-- the number up to which reports of a peer were counted
abbrev pub counted_of : RuledRoom → Peer → Option ℕ
counted_of s peer = (upkeep_at s.room.served.pace s.room.served.upkeeps peer).path.reader.counted

-- the peer that C names by an address and a port
abbrev pub peer_named : PeerAddress → Peer
peer_named peer = record { address = peer.address; port = peer.port }

-- a peer, as C gets it
abbrev pub address_of : Peer → PeerAddress
address_of peer = record { address = peer.address; port = peer.port }

-- the code of the answer to a call
abbrev pub seen_code : Seen → ℕ
seen_code (seen.Called result) = called_code refusal_code result
seen_code (seen.Fired applies) = timer_code applies
seen_code (seen.Received outcome) = 0

-- The code of a listener's answer: 14 if it was busy, and 15 if the peer has no flow.
abbrev pub listen_code : CallTold → ℕ
listen_code (Stepped None) = 15
listen_code (Stepped (Some it)) = seen_code it
listen_code WasBusy = 14
listen_code HadNoMemory = 2

-- what C is told about a datagram; if no end has answered it, what C had stays
abbrev pub listen_told : CallTold → Told → Told
listen_told (Stepped (Some (seen.Received outcome))) old = told_outcome outcome
listen_told _ old = old

-- Nothing has happened: the server is as it was, and no frame is left.
abbrev pub IsUnserved : Option OwnedServerState → Option OwnedServerState → FrameFields → Type 0
IsUnserved before after frame = (after ≡ before) × (frame ≡ nothing_handed)

-- the server with this in its room
abbrev pub with_room : RuledRoom → Room → RuledRoom
with_room s room = record s { room = room }

-- A call of a peer's flow has led the server to this one: the flow's inbox goes with it, unless data wait there.
abbrev pub holds_on : OwnedServerState → Peer → WatchedServer → OwnedServerState
holds_on s peer after = record s { watched = after; inboxes = tidied s.inboxes after.server peer }

-- a frame that goes to a peer, as C gets it: it says what the peer's inbox has to say
abbrev pub left_to : OwnedServerState → Peer → Option Outgoing → FrameFields
left_to s peer frame = handed_of (flow_speaks s.inboxes s.watched.server peer frame)

-- a call of a peer's end is done
abbrev pub holds_called : ℕ → OwnedServerState → Peer → FlowCall → OwnedServerState
holds_called now s peer call =
    holds_on s peer (called_on s.watched (with_room s.watched.server (room_does now s.watched.server.room peer (Does (Calls call)))) peer (aborted_end causes.Own))

-- The result of a call of a peer's end: it is done, or there is no listener, and the code is 1.
abbrev pub Serves : ℕ → Option OwnedServerState → Option OwnedServerState → Peer → FlowCall → FrameFields → ℕ → Type 0
Serves now None after peer call frame code = IsUnserved None after frame × (code ≡ 1)
Serves now (Some s) after peer call frame code =
    (after ≡ Some (holds_called now s peer call))
    × (frame ≡ left_to (holds_called now s peer call) peer (listens s.watched.server.room.served.listening peer (Calls call)).frame)
    × (code ≡ listen_code (listens s.watched.server.room.served.listening peer (Calls call)).told)

-- The same for a call that names a feature or a timer: if none has that number, nothing happens, and this is the code.
abbrev pub ServesIfKnown : ℕ → Option OwnedServerState → Option OwnedServerState → Peer → ℕ → Option FlowCall → FrameFields → ℕ → Type 0
ServesIfKnown now before after peer unknown None frame code = IsUnserved before after frame × (code ≡ unknown)
ServesIfKnown now before after peer unknown (Some call) frame code = Serves now before after peer call frame code

-- why data to a peer have to wait, if there is a listener and the peer has a flow
abbrev pub restraint_in : Option RuledRoom → Peer → Option Restraint
restraint_in None peer = None
restraint_in (Some s) peer = flow_restraint s.room.served peer

-- The result of sending data to a peer: if they have to wait, nothing happens, and the code says why.
abbrev pub SendsUnheld : ℕ → Option OwnedServerState → Option OwnedServerState → Peer → List ℕ → FrameFields → ℕ → Option Restraint → Type 0
SendsUnheld now before after peer payload frame code None = Serves now before after peer (Sends payload) frame code
SendsUnheld now before after peer payload frame code (Some why) = IsUnserved before after frame × (code ≡ restraint_code why)

-- the code of the result of a datagram; one that was left out counts as dropped
abbrev pub arrival_code : Option CallTold → ℕ
arrival_code None = 0
arrival_code (Some told) = listen_code told

-- what C is told about the datagram
abbrev pub arrival_told : Option CallTold → Told → Told
arrival_told None old = told_heard None
arrival_told (Some told) old = listen_told told old

-- What C gets for a datagram that left this frame, and by what became of its data. If there was no memory, the code is 2, there is no frame, and
-- what C had stays.
abbrev pub HandsHeard : Result (Option Heard) NoMemory → Option Arrival → Option Outgoing → FrameFields → ℕ → Told → Told → Type 0
HandsHeard (Ok it) kept frame left code old new =
    (left ≡ handed_of frame) × (code ≡ arrival_code (told_of_arrival (Ok it))) × (new ≡ told_arrival kept (arrival_told (told_of_arrival (Ok it)) old))
HandsHeard (Err _) kept frame left code old new = (left ≡ nothing_handed) × (code ≡ 2) × (new ≡ old)

-- the inboxes once a datagram of a peer has led the server to this one: a flow that it has opened begins without any
abbrev pub inboxes_begun : OwnedServerState → RuledRoom → Peer → Inboxes
inboxes_begun s after peer =
    begun_fresh s.inboxes peer (is_some (end_of_peer s.watched.server.room.served.listening.flows peer))
    (end_of_peer after.room.served.listening.flows peer)

-- The data of a datagram that has led the server to this one came into the peer's inbox, if there were any; or there was no memory or no place
-- for an inbox, and then they are only in the datagram.
abbrev pub MayDeliver : Inboxes → RuledRoom → Peer → List ℕ → Option CallTold → FlowDelivery → Type 0
MayDeliver inboxes after peer bytes told it = (it ≡ flow_delivers inboxes after peer bytes told) ⊎ (it ≡ no_flow_delivery inboxes)

-- a datagram has led the server to this one, this became of its data, and these flows made room for it, if any did
abbrev pub holds_met : WatchedServer → Peer → Option Peer → Option Peer → FlowDelivery → OwnedServerState
holds_met after peer made_room gone it =
    record {
      watched = after;
      inboxes = tidied_if (tidied_if (tidied it.inboxes after.server peer) after.server made_room) after.server gone;
      arrival = it.arrival;
    }

-- the data of a datagram came in; it has led the server to where it is, and its peer had a flow before it or not
abbrev pub HasTakenIn : OwnedServerState → OwnedServerState → Peer → Bool → List ℕ → Option CallTold → Option Peer → Option Peer → Type 0
HasTakenIn s after peer had bytes told made_room gone =
    (it : FlowDelivery)
    × MayDeliver (begun_fresh s.inboxes peer had (end_of_peer s.watched.server.room.served.listening.flows peer)) s.watched.server peer bytes told it
    × (after ≡ holds_met s.watched peer made_room gone it)

-- The result of a datagram for C if there is a server: it was met in this way, its data came in or not, and C and the server's owner are told
-- about that.
pub record HearsAtServer (now : ℕ) (s after : OwnedServerState) (peer : Peer) (first : ℕ) (bytes : List ℕ) (left : FrameFields) (evicted : Option Peer) (way : Way)
    (code : ℕ) (old new : Told) : Type 0 where
  pub heard : Result (Option Heard) NoMemory
  pub frame : Option Outgoing
  pub gone : Option Peer
  pub made_room : Option Peer
  pub anew : Bool
  pub delivery : FlowDelivery
  pub met : IsMet now s.watched.server after.watched.server peer first bytes frame heard gone anew made_room way
  pub may : may_meet (entry_at now s.watched peer first bytes) way ≡ true
  pub watched :
      after.watched ≡ heard_on now s.watched after.watched.server peer bytes (told_of_arrival heard) (room_maker made_room gone) (ends_old anew way)
  pub delivers : MayDeliver (inboxes_begun s after.watched.server peer) after.watched.server peer bytes (told_of_arrival heard) delivery
  pub held : after ≡ holds_met after.watched peer made_room gone delivery
  pub maker : evicted ≡ room_maker made_room gone
  pub handed : HandsHeard heard after.arrival (flow_speaks after.inboxes after.watched.server peer frame) left code old new

-- Why a datagram is not heard at all: 17 for a first number that is not below 2^48, or 5 for its length.
abbrev pub datagram_refusal : ℕ → List ℕ → Option ℕ
datagram_refusal first bytes = if nat_lt first (2 ^ 48) then (if is_short bytes then None else Some 5) else Some 17

-- a datagram that would open a flow is refused with 21 if no new flows are taken
abbrev pub IsShutOut : ℕ → OwnedServerState → OwnedServerState → Peer → List ℕ → FrameFields → ℕ → Told → Told → Type 0
IsShutOut now s after peer bytes left code old new =
    (after ≡ record s { watched = shut_out now s.watched peer bytes })
    × (left ≡ handed_of (refused_frame now s.watched.server peer bytes (number_of_code codes.ConnectionRefused))) × (code ≡ 21) × (new ≡ old)

-- the result of a datagram at a server that takes new flows, or if it would open none
abbrev pub HearsIfOpen : ℕ → OwnedServerState → OwnedServerState → Peer → ℕ → List ℕ → Bool → FrameFields → Option Peer → Way → ℕ → Told → Told → Type 0
HearsIfOpen now s after peer first bytes true left evicted way code old new = IsShutOut now s after peer bytes left code old new
HearsIfOpen now s after peer first bytes false left evicted way code old new = HearsAtServer now s after peer first bytes left evicted way code old new

-- The result of a datagram: nothing happens if it is refused with that code, or if there is no listener, with 1; otherwise the server hears it
-- or refuses it.
abbrev pub HearsDatagram : ℕ → Option OwnedServerState → Option OwnedServerState → Peer → ℕ → List ℕ → Option ℕ → FrameFields → Option Peer → Way → ℕ → Told → Told → Type 0
HearsDatagram now before after peer first bytes (Some refused) left evicted way code old new =
    (after ≡ before) × (left ≡ nothing_handed) × (code ≡ refused) × (new ≡ old)
HearsDatagram now None after peer first bytes None left evicted way code old new =
    (after ≡ None) × (left ≡ nothing_handed) × (code ≡ 1) × (new ≡ old)
HearsDatagram now (Some s) None peer first bytes None left evicted way code old new = ⊥
HearsDatagram now (Some s) (Some after) peer first bytes None left evicted way code old new =
    HearsIfOpen now s after peer first bytes (is_shut_out s.watched peer bytes) left evicted way code old new

-- the code of a duty: 12 if there was none, 19 if a flow was given up
abbrev pub duty_code : Option Duty → ℕ
duty_code None = 12
duty_code (Some (Ring peer timer)) = 0
duty_code (Some (Follow peer rules.GiveUp)) = 19
duty_code (Some (Follow peer rules.Nothing)) = 0
duty_code (Some (Follow peer rules.TimeOut)) = 0
duty_code (Some (Follow peer rules.Probe)) = 0
duty_code (Some (Follow peer rules.Ask)) = 0
duty_code (Some (Follow peer rules.Ratio)) = 0
duty_code (Some (GiveUp peer)) = 19

-- the peer of a duty, as C gets it
abbrev pub duty_address : Option Duty → PeerAddress → PeerAddress
duty_address None old = old
duty_address (Some duty) old = address_of (duty_peer duty)

-- a duty has led the server to this one
abbrev pub holds_done : OwnedServerState → WatchedServer → Option Duty → OwnedServerState
holds_done s after None = record s { watched = after }
holds_done s after (Some duty) = holds_on s (duty_peer duty) after

-- the frame that went to its peer, as C gets it
abbrev pub duty_left : OwnedServerState → Option Duty → Option Outgoing → FrameFields
duty_left s None frame = handed_of frame
duty_left s (Some duty) frame = left_to s (duty_peer duty) frame

-- the server and what it holds once this duty was done
abbrev pub holds_ticked : ℕ → OwnedServerState → Option Duty → OwnedServerState
holds_ticked now s duty =
    holds_done s (ticked_on s.watched (with_room s.watched.server (duty_done now s.watched.server.room duty)) duty) duty

-- The result of a tick with this duty: it is done, and its peer is named.
abbrev pub DoesDuty : ℕ → OwnedServerState → Option OwnedServerState → Option Duty → FrameFields → PeerAddress → PeerAddress → ℕ → Type 0
DoesDuty now s after duty left old new code =
    (after ≡ Some (holds_ticked now s duty)) × (left ≡ duty_left (holds_ticked now s duty) duty (duty_frame now s.watched.server.room duty))
    × (new ≡ duty_address duty old) × (code ≡ duty_code duty)

-- The result of a tick: the first duty is done, or nothing happens, with 1 if there is no listener, and 12 if there is nothing to do. It takes
-- no memory.
abbrev pub Ticks : ℕ → Option OwnedServerState → Option OwnedServerState → FrameFields → PeerAddress → PeerAddress → ℕ → Type 0
Ticks now None after left old new code = IsUnserved None after left × (new ≡ old) × (code ≡ 1)
Ticks now (Some s) after left old new code =
    DoesDuty now s after (duty_in now s.watched.server.rules s.watched.server.room) left old new code

-- a peer's flow goes, and the data of it that wait
abbrev pub holds_forgotten : ℕ → OwnedServerState → Peer → OwnedServerState
holds_forgotten now s peer =
    record s {
      watched = called_on s.watched (with_room s.watched.server (forgets now s.watched.server.room peer)) peer (silent_end causes.Own);
      inboxes = without_inbox_of s.inboxes peer;
    }

-- The result of forgetting a peer's flow: it goes, and nothing is sent; 15 if there is none, 1 if there is no listener.
abbrev pub Forgets : ℕ → Option OwnedServerState → Option OwnedServerState → Peer → ℕ → Type 0
Forgets now None after peer code = (after ≡ None) × (code ≡ 1)
Forgets now (Some s) after peer code =
    (after ≡ Some (holds_forgotten now s peer))
    × (code ≡ (if is_some (end_of_peer s.watched.server.room.served.listening.flows peer) then 0 else 15))

-- in how many milliseconds a timer of a listener runs out or a flow is given up, if any will
abbrev pub listener_waits : ℕ → Option RuledRoom → ℕ
listener_waits now None = never
listener_waits now (Some s) = room_waits now s.rules s.room

-- the view of a peer's end, if there is a listener and the peer has one
abbrev pub flow_in : Option RuledRoom → Peer → Option View
flow_in None peer = None
flow_in (Some s) peer =
    option_map (seen_within (upkeep_at s.room.served.pace s.room.served.upkeeps peer).path.reader.allowance) (end_of_peer s.room.served.listening.flows peer)

-- the first peer that has a flow
abbrev pub first_peer_in : Option RuledRoom → Option PeerAddress
first_peer_in None = None
first_peer_in (Some s) = option_map address_of (slice_get (keys_of s.room.served.listening.flows) 0)

-- the first that comes after a peer
abbrev pub next_peer_in : Option RuledRoom → Peer → Option PeerAddress
next_peer_in None peer = None
next_peer_in (Some s) peer = option_map address_of (peer_after peer (keys_of s.room.served.listening.flows))

-- the code of reading a flow, or of naming its peer: 1 if there is no listener, 15 if there is no flow
abbrev pub flow_code : {Read : Type 0} → Option RuledRoom → Option Read → ℕ
flow_code None found = 1
flow_code (Some s) None = 15
flow_code (Some s) (Some it) = 0

-- the peer whose flow made room for the last datagram
abbrev pub evicted_in : Option InnerListener → Option Peer
evicted_in None = None
evicted_in (Some held) = held.evicted

-- how the last datagram was met
abbrev pub way_in : Option InnerListener → Way
way_in None = way.Plain
way_in (Some held) = held.way

-- the number of a way
abbrev pub way_number : Way → ℕ
way_number way.Plain = 0
way_number way.Greeted = 1
way_number way.Unanswered = 2
way_number way.Reopened = 3
way_number way.Unopened = 4

-- how many flows there are
abbrev pub flows_in : Option RuledRoom → ℕ
flows_in None = 0
flows_in (Some s) = length s.room.served.listening.flows

-- a wait as C says it: 2^64 - 1 means for ever
abbrev pub wait_of : ℕ → Option ℕ
wait_of wait = if wait == never then None else Some wait

-- a limit as C says it: this many a second, and 65,535 means none
abbrev pub limit_of : ℕ → Option Limit
limit_of per_second = if per_second == 65535 then None else Some (record { per_second = per_second; burst = per_second })

-- the rules that C gives
abbrev pub rules_of : FlowRules → Rules
rules_of it =
    record {
      makes_room = it.makes_room;
      ends_old_flows = it.ends_old_flows;
      respond = wait_of it.respond;
      crowded = wait_of it.crowded;
      closing = wait_of it.closing;
      idle = wait_of it.idle;
      answers = limit_of it.answers;
      resets = limit_of it.resets;
    }

-- when cookies are used, as C says it: 0 never, 1 in a crowd, and any other number always
abbrev pub cookies_of : ℕ → CookieUse
cookies_of n = if n == 0 then Never else if n == 1 then InACrowd else Always

-- the server once it follows these rules, and uses cookies in this way
abbrev pub ruled_by : Rules → CookieUse → Option WatchedServer → Option WatchedServer
ruled_by rules cookies = option_map (λ (s : WatchedServer). record s { server = record s.server { rules = rules; cookies = cookies } })

-- the server once its cookies are written with this key
abbrev pub rekeyed_in : List ℕ → ℕ → Option WatchedServer → Option WatchedServer
rekeyed_in key now = option_map (λ (s : WatchedServer). record s { server = record s.server { keys = Some (rekeyed key now s.server.keys) } })

-- what C may know of a peer's flow besides its end
abbrev pub known_of : Life → FlowLife
known_of life = record { size = 32; since = life.since; taken = life.taken; user = life.user }

-- the same, if there is a server and the peer has a flow
abbrev pub life_in : Option RuledRoom → Peer → Option FlowLife
life_in None peer = None
life_in (Some s) peer = option_map (λ e. known_of (life_of s.room.lives peer)) (end_of_peer s.room.served.listening.flows peer)

-- the code of a call that only needs a listener
abbrev pub made_code : Option WatchedServer → ℕ
made_code None = 1
made_code (Some s) = 0
