-- The result of a call of a listener, computed (own).
use Rattle.dccp_states.specs.Phases.{is_closed}
use Rattle.std.specs.Prelude.{◌≡◌, nat_le, ℕ, Bool, true, false, List, [], ◌∷◌, length, Option, Some, None, if◌then◌else◌, slice_get}
use Rattle.std.specs.BTreeMap.{insert_entry}
use Rattle.std.specs.List.Sorted.{IsStrictlySortedBy}
use Rattle.std.specs.Map.{keys_of, remove_entry, set_value}
use Rattle.ccid_two.specs.Kinds.{Both}
use Rattle.dccp_endpoint.specs.Controlled.{EndStep}
use Rattle.dccp_endpoint.specs.Inputs.{EndAnswer}
use Rattle.dccp_packets.specs.Grammar.{decoded}
use Rattle.dccp_endpoint.specs.UserCalls.{seen_of}
use Rattle.dccp_packets.specs.Outgoing.{Outgoing}
use Rattle.dccp_endpoint.specs.End.{is_begun}
use Rattle.dccp_listener.specs.Calls.{busy_frame}
use Rattle.dccp_listener.specs.Chain.{Arrives, Calls, Deed, config_for, flow_step, fresh_end}
use Rattle.dccp_listener.specs.Peers.{FlowEnd, Flows, ListenerState, end_of_peer, is_peer, peer_cmp}
use Rattle.dccp_listener.specs.Runs.{IsRunOfTurns, Stepped, CallTold, CallTurn, WasBusy}
use Rattle.dccp_listener.specs.declared.peer.Peer.{Peer}

-- the flows after a call, the frame that goes to the peer, and the answer
pub record ListenerStep : Type 0 where
  pub flows : Flows
  pub frame : Option Outgoing
  pub told : CallTold

-- the flows once the peer's end is this one, which goes if it is CLOSED
abbrev pub with_end : Flows → Peer → FlowEnd → Flows
with_end flows peer e = if is_closed e.state.phase then remove_entry (is_peer peer) flows else set_value (is_peer peer) flows e

-- an end has flow_answered, and these are the flows then
abbrev pub flow_answered : Flows → EndStep Both EndAnswer → ListenerStep
flow_answered flows step = record { flows = flows; frame = step.frame; told = Stepped (Some (seen_of step.answer)) }

-- A fresh end has heard a datagram. If it does not stay, nothing else changes; if it would stay, there has to be room.
abbrev pub fresh_met : ListenerState → Peer → ℕ → List ℕ → EndStep Both EndAnswer → (stays full : Bool) → ListenerStep
fresh_met l peer iss bytes step false full = flow_answered l.flows step
fresh_met l peer iss bytes step true true =
    record { flows = l.flows; frame = busy_frame (config_for l.config peer iss bytes) (decoded bytes); told = WasBusy }
fresh_met l peer iss bytes step true false = flow_answered (insert_entry peer_cmp l.flows peer step.after) step

-- there are as many flows as the limit allows
abbrev pub is_table_full : ListenerState → Bool
is_table_full l = nat_le l.config.most (length l.flows)

-- a deed of a peer that has this end or none
abbrev pub listens_by : ListenerState → Peer → Option FlowEnd → Deed → ListenerStep
listens_by l peer (Some e) deed = flow_answered (with_end l.flows peer (flow_step e deed).after) (flow_step e deed)
listens_by l peer None (Arrives iss bytes) =
    fresh_met l peer iss bytes (flow_step (fresh_end l.config peer iss bytes) (Arrives iss bytes))
    (is_begun (flow_step (fresh_end l.config peer iss bytes) (Arrives iss bytes)).after.state.phase) (is_table_full l)
listens_by l peer None (Calls call) = record { flows = l.flows; frame = None; told = Stepped None }

-- a deed of a peer, if there is memory
abbrev pub listens : ListenerState → Peer → Deed → ListenerStep
listens l peer deed = listens_by l peer (end_of_peer l.flows peer) deed

-- the listener after it
abbrev pub listening_after : ListenerState → Peer → Deed → ListenerState
listening_after l peer deed = record l { flows = (listens l peer deed).flows }

-- it as one turn
abbrev pub computed_turn : ListenerState → Peer → Deed → CallTurn
computed_turn l peer deed = record { peer = peer; deed = deed; frame = (listens l peer deed).frame; told = (listens l peer deed).told }

-- deeds one after another
abbrev pub listening_through : ListenerState → List (Peer × Deed) → ListenerState
listening_through l [] = l
listening_through l (now ∷ later) = listening_through (listening_after l now.0 now.1) later

-- what is computed for each of them, as turns
abbrev pub turns_of : ListenerState → List (Peer × Deed) → List CallTurn
turns_of l [] = []
turns_of l (now ∷ later) = computed_turn l now.0 now.1 ∷ turns_of (listening_after l now.0 now.1) later

-- the peers are in order, each once
abbrev pub AreInOrder : Flows → Type 0
AreInOrder flows = IsStrictlySortedBy peer_cmp (keys_of flows)

-- What is computed for a list of deeds is a run of the listener, and leaves the peers in order.
abbrev pub WhatIsComputedIsARun : Type 0
WhatIsComputedIsARun =
    (l : ListenerState) (deeds : List (Peer × Deed)) → AreInOrder l.flows
    → IsRunOfTurns l (listening_through l deeds) (turns_of l deeds) × AreInOrder (listening_through l deeds).flows

-- the peer at a place has the end that is there
abbrev pub PeersAtPlaces : Type 0
PeersAtPlaces =
    (flows : Flows) → AreInOrder flows → (place : ℕ) (peer : Peer) (e : FlowEnd) → slice_get flows place ≡ Some (peer, e)
    → end_of_peer flows peer ≡ Some e
