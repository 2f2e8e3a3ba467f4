-- The data of a listener's flows that wait until their owner reads them (own).
use Rattle.std.specs.Prelude.{◌≡◌, ◌≤◌, ◌==◌, ◌||◌, ◌&&◌, nat_le, ℕ, Bool, true, false, not, List, [], length, Option, Some, None, is_some, unwrap_or, if◌then◌else◌}
use Rattle.std.specs.BTreeMap.{insert_entry}
use Rattle.std.specs.Map.{lookup, remove_entry, set_value}
use Rattle.dccp_packets.specs.Outgoing.{Outgoing}
use Rattle.data_dropped.specs.Inbox.{InboxState}
use Rattle.data_dropped.specs.Intakes.{IntakeDelivery, came_in, count_held, first_read, intake_of, most_said, read_over, spoken, without_first, without_listener}
use Rattle.data_dropped.specs.declared.answers.Arrival.{Arrival}
use Rattle.data_dropped.specs.declared.answers.Arrival.TheVariants.{Kept}
use Rattle.data_dropped.specs.declared.answers.Arrival.TheVariants as arrival
use Rattle.dccp_endpoint.specs.End.{last_taken}
use Rattle.dccp_listener.specs.Peers.{FlowEnd, end_of_peer, is_peer, peer_cmp}
use Rattle.dccp_listener.specs.Runs.{CallTold}
use Rattle.dccp_listener.specs.declared.peer.Peer.{Peer}
use Rattle.server_peers.specs.Events.{data_told}
use Rattle.dccp_server.specs.Rooms.{RuledRoom}
use Rattle.server_peers.specs.declared.flow_event.EventKind.{EventKind}
use Rattle.server_peers.specs.declared.flow_event.EventKind.TheVariants as kinds
use Rattle.server_peers.specs.declared.flow_event.FlowEvent.{FlowEvent}
use Rattle.dccp_states.specs.declared.outcome.Outcome.TheVariants.{Took}

-- For how many packets each inbox has room, with 0 if no flow has an inbox; how many inboxes there may be; and the inbox of each peer that has
-- one, in the order of peers.
pub record Inboxes : Type 0 where
  pub capacity : ℕ
  pub most : ℕ
  pub entries : List (Peer × Option InboxState)

-- no peer has one yet
abbrev pub no_inboxes : ℕ → ℕ → Inboxes
no_inboxes capacity most = record { capacity = capacity; most = most; entries = [] }

-- the inbox of a peer, if it has one
abbrev pub flow_inbox : Inboxes → Peer → Option InboxState
flow_inbox s peer = unwrap_or (lookup (is_peer peer) s.entries) None

-- a peer's inbox is this from now on, if it had one
abbrev pub with_flow_inbox_by : Inboxes → Peer → Option InboxState → Option (Option InboxState) → Inboxes
with_flow_inbox_by s peer inbox None = s
with_flow_inbox_by s peer inbox (Some was) = record s { entries = set_value (is_peer peer) s.entries inbox }

-- the same, by whether it had one
abbrev pub with_flow_inbox : Inboxes → Peer → Option InboxState → Inboxes
with_flow_inbox s peer inbox = with_flow_inbox_by s peer inbox (lookup (is_peer peer) s.entries)

-- a peer has none any more, and what waited there is lost
abbrev pub without_inbox_of : Inboxes → Peer → Inboxes
without_inbox_of s peer = record s { entries = remove_entry (is_peer peer) s.entries }

-- no inbox is to be made for a peer: flows have none here, or it has one
abbrev pub needs_no_inbox : Inboxes → Peer → Bool
needs_no_inbox s peer = s.capacity == 0 || is_some (lookup (is_peer peer) s.entries)

-- A peer has an inbox from now on, if flows have any.
abbrev pub with_place : Inboxes → Peer → Inboxes
with_place s peer = if needs_no_inbox s peer then s else record s { entries = insert_entry peer_cmp s.entries peer (intake_of s.capacity) }

-- there are as many inboxes as the limit allows, and the peer's would be a further one
abbrev pub lacks_place : Inboxes → Peer → Bool
lacks_place s peer = not (needs_no_inbox s peer) && nat_le s.most (length s.entries)

-- the inboxes once a datagram has brought data or none, and what became of them, if they came into one
pub record FlowDelivery : Type 0 where
  pub inboxes : Inboxes
  pub arrival : Option Arrival

-- a peer's data came to its inbox, which is this then
abbrev pub settled_there : Inboxes → Peer → IntakeDelivery → FlowDelivery
settled_there s peer settled = record { inboxes = with_flow_inbox s peer settled.inbox; arrival = settled.arrival }

-- data of a peer came under this number, at this place in the datagram
abbrev pub flow_takes_in : Inboxes → Peer → ℕ → List ℕ → ℕ × ℕ → FlowDelivery
flow_takes_in s peer number bytes place = settled_there s peer (came_in (flow_inbox s peer) number bytes (Some (Took (Some place))))

-- nothing came
abbrev pub no_flow_delivery : Inboxes → FlowDelivery
no_flow_delivery s = record { inboxes = s; arrival = None }

-- the place lies within the datagram, as that of data does
abbrev pub lies_within : List ℕ → ℕ × ℕ → Bool
lies_within bytes place = nat_le place.0 place.1 && nat_le place.1 (length bytes)

-- Data of a peer came at this place, if any did, and the peer has this end now, if it has one.
abbrev pub flow_delivers_by : Inboxes → Peer → List ℕ → Option (ℕ × ℕ) → Option FlowEnd → FlowDelivery
flow_delivers_by s peer bytes (Some place) (Some e) =
    if lies_within bytes place then flow_takes_in (with_place s peer) peer (last_taken e.state) bytes place else no_flow_delivery s
flow_delivers_by s peer bytes _ _ = no_flow_delivery s

-- A datagram of a peer has led the server to this one, with this result. Data that it brought come into the peer's inbox, which is made for the
-- first that come.
abbrev pub flow_delivers : Inboxes → RuledRoom → Peer → List ℕ → Option CallTold → FlowDelivery
flow_delivers s after peer bytes told = flow_delivers_by s peer bytes (data_told told) (end_of_peer after.room.served.listening.flows peer)

-- data came that lie within the datagram, and the peer has a flow for them
abbrev pub has_data_by : List ℕ → Option (ℕ × ℕ) → Option FlowEnd → Bool
has_data_by bytes (Some place) (Some e) = lies_within bytes place
has_data_by bytes _ _ = false

-- Data came, and no inbox of their peer can be made.
abbrev pub finds_no_place_by : Inboxes → Peer → List ℕ → Option (ℕ × ℕ) → Option FlowEnd → Bool
finds_no_place_by s peer bytes place flow = has_data_by bytes place flow && lacks_place s peer

-- the same for a datagram that has led the server to this one, with this result
abbrev pub finds_no_place : Inboxes → RuledRoom → Peer → List ℕ → Option CallTold → Bool
finds_no_place s after peer bytes told = finds_no_place_by s peer bytes (data_told told) (end_of_peer after.room.served.listening.flows peer)

-- A peer that had a flow before a datagram, or had none, has this one after it. With a new flow, the data that waited from the one before are
-- lost.
abbrev pub begun_fresh : Inboxes → Peer → Bool → Option FlowEnd → Inboxes
begun_fresh s peer false (Some e) = without_inbox_of s peer
begun_fresh s peer _ _ = s

-- the frame of a flow with this end, if there is one, says what this inbox has to say
abbrev pub flow_speaks_by : Option InboxState → Option FlowEnd → Option Outgoing → Option Outgoing
flow_speaks_by inbox None frame = frame
flow_speaks_by inbox (Some e) frame = spoken e.state.config.pseudo_out inbox frame

-- A frame that goes to a peer, as it goes out.
abbrev pub flow_speaks : Inboxes → RuledRoom → Peer → Option Outgoing → Option Outgoing
flow_speaks s server peer frame = flow_speaks_by (flow_inbox s peer) (end_of_peer server.room.served.listening.flows peer) frame

-- an inbox of a flow that is over goes once it is empty
abbrev pub tidied_by : Inboxes → Peer → Option FlowEnd → Inboxes
tidied_by s peer (Some e) = s
tidied_by s peer None = if count_held (flow_inbox s peer) == 0 then without_inbox_of s peer else s

-- A peer has an inbox as long as it has its flow, or data wait in it.
abbrev pub tidied : Inboxes → RuledRoom → Peer → Inboxes
tidied s server peer = tidied_by s peer (end_of_peer server.room.served.listening.flows peer)

-- the same for a peer whose flow may have made room
abbrev pub tidied_if : Inboxes → RuledRoom → Option Peer → Inboxes
tidied_if s server None = s
tidied_if s server (Some peer) = tidied s server peer

-- the first data of a peer were read, if any waited
abbrev pub flow_without_first : Inboxes → Peer → Inboxes
flow_without_first s peer = with_flow_inbox s peer (without_first (flow_inbox s peer))

-- the number and the length of a peer's first data
abbrev pub flow_first_read : Inboxes → Peer → Option (ℕ × ℕ)
flow_first_read s peer = first_read (flow_inbox s peer)

-- these data over the front of bytes
abbrev pub flow_read_over : Inboxes → Peer → List ℕ → List ℕ
flow_read_over s peer old = read_over (flow_inbox s peer) old

-- the owner stops reading a peer's data
abbrev pub flow_stopped : Inboxes → Peer → Inboxes
flow_stopped s peer = with_flow_inbox s peer (without_listener (flow_inbox s peer))

-- how many packets' data of a peer wait
abbrev pub flow_held : Inboxes → Peer → ℕ
flow_held s peer = count_held (flow_inbox s peer)

-- the most bytes that a peer's inbox adds to an acknowledgement
abbrev pub flow_most_said : Inboxes → Peer → ℕ
flow_most_said s peer = most_said (flow_inbox s peer)

-- the event of data that came into an inbox, and all others as without one
abbrev pub kind_kept : Option Arrival → EventKind → EventKind
kind_kept (Some Kept) (kinds.Data first past) = kinds.Waits
kind_kept (Some (arrival.Dropped code)) (kinds.Data first past) = kinds.Dropped code
kind_kept _ kind = kind

-- the same for an event with its flow
abbrev pub event_kept : Option Arrival → FlowEvent → FlowEvent
event_kept kept event = record event { kind = kind_kept kept event.kind }

-- there are at most as many inboxes as the limit allows
abbrev pub HasFewInboxes : Inboxes → Type 0
HasFewInboxes s = length s.entries ≤ s.most

-- After each call there are no more inboxes than the limit allows, if it was so before. Data that arrive, and an owner who stops, are refused if
-- an inbox beyond the limit would be made.
pub record InboxesStayFew : Type 0 where
  pub at_first : (capacity most : ℕ) → HasFewInboxes (no_inboxes capacity most)
  pub settled : (s : Inboxes) (after : RuledRoom) (peer : Peer) (bytes : List ℕ) (told : Option CallTold)
      → HasFewInboxes s → finds_no_place s after peer bytes told ≡ false → HasFewInboxes (flow_delivers s after peer bytes told).inboxes
  pub stopped : (s : Inboxes) (peer : Peer) → HasFewInboxes s → lacks_place s peer ≡ false → HasFewInboxes (flow_stopped (with_place s peer) peer)
  pub begun : (s : Inboxes) (peer : Peer) (had : Bool) (flow : Option FlowEnd) → HasFewInboxes s → HasFewInboxes (begun_fresh s peer had flow)
  pub read : (s : Inboxes) (peer : Peer) → HasFewInboxes s → HasFewInboxes (flow_without_first s peer)
  pub over : (s : Inboxes) (server : RuledRoom) (peer : Peer) → HasFewInboxes s → HasFewInboxes (tidied s server peer)
  pub forgotten : (s : Inboxes) (peer : Peer) → HasFewInboxes s → HasFewInboxes (without_inbox_of s peer)
