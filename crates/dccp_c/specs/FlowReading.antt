-- Data of a listener's flows that wait until C reads them (own).
use Rattle.std.specs.Prelude.{◌≡◌, ◌⊎◌, ◌==◌, ℕ, Option, Some, None, if◌then◌else◌}
use Rattle.std.specs.Option.{option_map}
use Rattle.dccp_listener.specs.Peers.{FlowEnd, end_of_peer}
use Rattle.dccp_listener.specs.declared.peer.Peer.{Peer}
use Rattle.dccp_server.specs.FlowInboxes.{Inboxes, flow_first_read, flow_held, flow_read_over, flow_stopped, flow_without_first, tidied, with_place}
use Rattle.dccp_c.specs.Listening.{OwnedServerState}
use Rattle.dccp_c.specs.Reading.{code_of_first, read_data_of}
use Rattle.dccp_c.specs.declared.reading.ReadData.{ReadData}

-- The listener once the first data of a peer were read: an inbox of a flow that is over goes with the last of them.
abbrev pub without_first_of : Option OwnedServerState → Peer → Option OwnedServerState
without_first_of held peer = option_map (λ (s : OwnedServerState). record s { inboxes = tidied (flow_without_first s.inboxes peer) s.watched.server peer }) held

-- what C gets: the number and the length of the peer's first data, if some wait, and their bytes over what was there
abbrev pub flow_data_read : Option OwnedServerState → Peer → ReadData → ReadData
flow_data_read None peer old = old
flow_data_read (Some s) peer old = read_data_of (flow_first_read s.inboxes peer) (flow_read_over s.inboxes peer old.bytes) old

-- the code of reading: 1 if there is no listener, 12 if no data of the peer wait
abbrev pub flow_read_code : Option OwnedServerState → Peer → ℕ
flow_read_code None peer = 1
flow_read_code (Some s) peer = code_of_first (flow_first_read s.inboxes peer)

-- how many packets' data of a peer wait
abbrev pub flow_held_in : Option OwnedServerState → Peer → ℕ
flow_held_in None peer = 0
flow_held_in (Some s) peer = flow_held s.inboxes peer

-- the listener once its owner has stopped reading a peer's data
abbrev pub with_flow_stop : OwnedServerState → Peer → OwnedServerState
with_flow_stop s peer = record s { inboxes = flow_stopped (with_place s.inboxes peer) peer }

-- the code of that: 12 if flows have no inbox
abbrev pub flow_stop_code : Inboxes → ℕ
flow_stop_code s = if s.capacity == 0 then 12 else 0

-- The result for a peer that has a flow: it is done, or there is no memory for the inbox, and nothing changes.
abbrev pub StopsFlow : OwnedServerState → Option OwnedServerState → Peer → ℕ → Type 0
StopsFlow s after peer code =
    ((after ≡ Some (with_flow_stop s peer)) × (code ≡ flow_stop_code s.inboxes)) ⊎ ((after ≡ Some s) × (code ≡ 2))

-- the result for a peer that may have none: then nothing changes, and the code is 15
abbrev pub StopsFlowIf : OwnedServerState → Option OwnedServerState → Peer → Option FlowEnd → ℕ → Type 0
StopsFlowIf s after peer None code = (after ≡ Some s) × (code ≡ 15)
StopsFlowIf s after peer (Some e) code = StopsFlow s after peer code

-- The result: if there is no listener, nothing happens, and the code is 1.
abbrev pub StopsReading : Option OwnedServerState → Option OwnedServerState → Peer → ℕ → Type 0
StopsReading None after peer code = (after ≡ None) × (code ≡ 1)
StopsReading (Some s) after peer code = StopsFlowIf s after peer (end_of_peer s.watched.server.room.served.listening.flows peer) code
