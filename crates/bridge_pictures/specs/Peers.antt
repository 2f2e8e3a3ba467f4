-- The lines of a listener's peers, beside its own (own).
use Rattle.std.specs.Prelude.{ℕ, ◌+◌, ◌-◌, ◌*◌, min, nat_lt, Bool, if◌then◌else◌, List, [], ◌∷◌, ◌++◌, flat_map, length, codes}
use Rattle.dccp_listener.specs.declared.peer.Peer.{Peer}
use Rattle.dccp_sum.specs.declared.pseudo_header.Pseudo.TheVariants.{V4}
use Rattle.packet_show.specs.Flows.{Flow, flow_number, flow_of, with_flow}
use Rattle.tool_jobs.specs.Peers.{peer_text}
use Rattle.world_events.specs.declared.event.Side.TheVariants.{Client}
use Rattle.bridge_pictures.specs.Places.{height_of, line_place, point}
use Rattle.bridge_pictures.specs.Svg.{label, line, words}
use Rattle.bridge_pictures.specs.declared.ladder.peers.Lane.{Lane}
use Rattle.bridge_pictures.specs.declared.svg.Point.{Point}

-- The peers that were seen, as flows in the order in which they were seen, and the line of each.
pub record PeersParts : Type 0 where
  pub flows : List Flow
  pub lanes : List Lane

-- before the first peer
abbrev pub first_peers : PeersParts
first_peers = record { flows = []; lanes = [] }

-- the flow of a peer, whose other end is the listener of `listen`
abbrev pub peer_flow : Peer → Flow
peer_flow peer = flow_of (V4 peer.address (10 ∷ 0 ∷ 0 ∷ 2 ∷ [])) peer.port 5001

-- the number of a peer, from 1 in the order in which peers were seen
abbrev pub peer_number : PeersParts → Peer → ℕ
peer_number p peer = flow_number (peer_flow peer) p.flows

-- how far the line of the peer of this number lies from the left edge
abbrev pub lane_at : ℕ → ℕ
lane_at number = 700 + 160 * min number 4294967295

-- how far the line of a peer lies from the left edge
abbrev pub lane_of : PeersParts → Peer → ℕ
lane_of p peer = lane_at (peer_number p peer)

-- the peer of this number has no line yet
abbrev pub is_new_lane : PeersParts → ℕ → Bool
is_new_lane p number = nat_lt (length p.lanes) number

-- a line that begins in this row
abbrev pub lane_from : ℕ → ℕ → Lane
lane_from number row = record { x = lane_at number; top = row }

-- the peer of this number has a line, which begins in this row if the peer is new
abbrev pub lane_begun : PeersParts → ℕ → ℕ → PeersParts
lane_begun p number row = if is_new_lane p number then record p { lanes = p.lanes ++ lane_from number row ∷ [] } else p

-- a peer was seen
abbrev pub peer_seen : PeersParts → Peer → PeersParts
peer_seen p peer = record p { flows = with_flow (peer_flow peer) p.flows }

-- A peer was seen in this row, and has a line.
abbrev pub peer_entered : PeersParts → Peer → ℕ → PeersParts
peer_entered p peer row = lane_begun (peer_seen p peer) (peer_number p peer) row

-- the name of a peer, to the left of where its line begins
unfoldable pub lane_name : ℕ → ℕ → Peer → List ℕ
lane_name x row peer = words (codes "peer") (point (x - 5) (height_of row - 5)) (peer_text peer)

-- What is drawn when a peer is seen in this row: its name, if it is new.
abbrev pub entry : PeersParts → Peer → ℕ → List ℕ
entry p peer row = if is_new_lane p (peer_number p peer) then lane_name (lane_of p peer) row peer else []

-- the arrow of a packet that came in this row from a peer whose line lies there
unfoldable pub arrow_from : List ℕ → ℕ → ℕ → List ℕ → List ℕ
arrow_from class x row said = line class (point x (height_of row)) (line_place Client row) said

-- the arrow of a packet that goes to a peer whose line lies there
unfoldable pub arrow_to : ℕ → ℕ → List ℕ → List ℕ
arrow_to x row said = line (codes "sent") (line_place Client row) (point x (height_of row)) said

-- a text beside the line of a peer, which lies there
unfoldable pub text_at_lane : ℕ → ℕ → List ℕ → List ℕ
text_at_lane x row said = label (codes "right") (point (x + 10) (height_of row + 4)) said

-- the line of a peer down to this row, if no phase is known
unfoldable pub lane_drawn : ℕ → Lane → List ℕ
lane_drawn row l = line (codes "plain") (point l.x (height_of l.top)) (point l.x (height_of row)) (codes "its phases are not told")

-- The lines of all peers down to this row.
unfoldable pub lanes_drawn : PeersParts → ℕ → List ℕ
lanes_drawn p row = flat_map (lane_drawn row) p.lanes

-- The size of a listener's ladder with this many rows.
abbrev pub listener_size : PeersParts → ℕ → Point
listener_size p rows = point (1150 + 160 * min (length p.lanes) 4294967295) (height_of rows + 40)
