-- What is written about what happens to a peer, and about the flows at the end (own).
use Rattle.std.specs.Prelude.{ℕ, ◌++◌, List, [], length, flat_map, codes, decimal, Option, Some, None}
use Rattle.hex.specs.Hex.{encode_lower}
use Rattle.dccp_packets.specs.Outgoing.{Outgoing}
use Rattle.dccp_listener.specs.Chain.{Deed, Arrives, Calls}
use Rattle.dccp_listener.specs.Listens.{listens}
use Rattle.dccp_listener.specs.Peers.{FlowEnd, Flows, ListenerState}
use Rattle.dccp_listener.specs.Runs.{CallTold, Stepped, WasBusy, HadNoMemory}
use Rattle.dccp_listener.specs.declared.peer.Peer.{Peer}
use Rattle.dccp_states.specs.declared.phase.Phase.{Phase}
use Rattle.schedule_text.specs.Results.{IsSeenOf, result_text}
use Rattle.tool_jobs.specs.Text.{phase_name}
use Rattle.tool_text.specs.Text.{labelled_number}
use Rattle.tool_jobs.specs.Peers.{peer_text}

-- The answer to a peer, and the line's end. (Lack of memory has no text, since it ends a run.)
abbrev pub answer_text : List ℕ → CallTold → List ℕ
answer_text bytes (Stepped (Some seen)) = result_text bytes seen
answer_text bytes (Stepped None) = codes ": refused NoFlow\n"
answer_text bytes WasBusy = codes ": busy\n"
answer_text bytes HadNoMemory = []

-- data that an answer delivers are in the bytes that arrived
abbrev pub CanBeTold : List ℕ → CallTold → Type 0
CanBeTold bytes (Stepped (Some seen)) = IsSeenOf bytes seen
CanBeTold bytes (Stepped None) = Unit {0}
CanBeTold bytes WasBusy = Unit {0}
CanBeTold bytes HadNoMemory = Unit {0}

-- the line of the frame that goes to a peer, if one does
abbrev pub frame_to_peer : Peer → Option Outgoing → List ℕ
frame_to_peer peer None = []
frame_to_peer peer (Some sent) = codes "sent " ++ peer_text peer ++ codes " " ++ encode_lower sent.bytes ++ codes "\n"

-- the bytes that arrive; none by a call
abbrev pub arriving_bytes : Deed → List ℕ
arriving_bytes (Arrives iss bytes) = bytes
arriving_bytes (Calls call) = []

-- Something that happens to a peer, under the number of its line, at this listener.
pub record Exchange : Type 0 where
  pub number : ℕ
  pub before : ListenerState
  pub peer : Peer
  pub deed : Deed

-- Its lines, computed from it: the answer to the peer, and the frame that goes to it.
abbrev pub exchange_text : Exchange → List ℕ
exchange_text x =
    decimal x.number ++ codes " " ++ peer_text x.peer ++ answer_text (arriving_bytes x.deed) (listens x.before x.peer x.deed).told
    ++ frame_to_peer x.peer (listens x.before x.peer x.deed).frame

-- the line of a peer whose end is in this phase
abbrev pub peer_in_phase : Peer → Phase → List ℕ
peer_in_phase peer phase = codes "flow " ++ peer_text peer ++ codes " " ++ phase_name phase ++ codes "\n"

-- the line of a flow at the end
abbrev pub flow_line : Peer × FlowEnd → List ℕ
flow_line flow = peer_in_phase flow.0 flow.1.state.phase

-- the line of a flow, if there is one
abbrev pub flow_line_if : Option (Peer × FlowEnd) → List ℕ
flow_line_if None = []
flow_line_if (Some flow) = flow_line flow

-- how many flows are at the end, and each of them in the order of their peers
abbrev pub flow_lines : Flows → List ℕ
flow_lines flows = labelled_number (codes "flows ") (length flows) ++ codes "\n" ++ flat_map flow_line flows
