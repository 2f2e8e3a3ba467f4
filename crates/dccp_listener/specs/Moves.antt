-- What one deed does to a peer's end in its place among the others, in two halves: the end moves, and goes if it is over (own).
use Rattle.dccp_states.specs.Phases.{is_closed}
use Rattle.std.specs.Prelude.{◌≡◌, Bool, Option, Some, None}
use Rattle.std.specs.BTreeMap.{insert_entry}
use Rattle.std.specs.Map.{set_value}
use Rattle.ccid_two.specs.Kinds.{Both}
use Rattle.dccp_endpoint.specs.Controlled.{EndStep}
use Rattle.dccp_endpoint.specs.UserCalls.{seen_of}
use Rattle.dccp_states.specs.declared.outcome.Outcome.{Outcome}
use Rattle.dccp_states.specs.declared.seen.Seen.{Seen}
use Rattle.dccp_packets.specs.Outgoing.{Outgoing}
use Rattle.dccp_listener.specs.Chain.{Deed, flow_step, kept_until_over}
use Rattle.dccp_listener.specs.Listens.{with_end}
use Rattle.dccp_listener.specs.Peers.{FlowEnd, Flows, end_of_peer, is_peer, peer_cmp}
use Rattle.dccp_listener.specs.declared.peer.Peer.{Peer}

-- the step of a peer's end, with what is seen of its answer
abbrev pub seen_step : FlowEnd → Deed → EndStep Both Seen
seen_step e deed =
    record { after = (flow_step e deed).after; frame = (flow_step e deed).frame; answer = seen_of (flow_step e deed).answer }

-- the peer's own end after the first half, all flows, the frame, the answer, and whether the end is over
abbrev pub FlowMoves : {A : Type 0} → (FlowEnd → EndStep Both A) → Option FlowEnd → (own : Option FlowEnd) (before after : Flows) → Peer
    → Option Outgoing → Option (A × Bool) → Type 0
FlowMoves step (Some e) own before after peer frame told =
    (own ≡ Some (step e).after) × (after ≡ set_value (is_peer peer) before (step e).after) × (frame ≡ (step e).frame)
    × (told ≡ Some ((step e).answer, is_closed (step e).after.state.phase))
FlowMoves step None own before after peer frame told = (own ≡ None) × (after ≡ before) × (frame ≡ None) × (told ≡ None)

-- the same after both
abbrev pub FlowSteps : {A : Type 0} → (FlowEnd → EndStep Both A) → Option FlowEnd → (own : Option FlowEnd) (before after : Flows) → Peer
    → Option Outgoing → Option A → Type 0
FlowSteps step (Some e) own before after peer frame told =
    (own ≡ kept_until_over (step e).after) × (after ≡ with_end before peer (step e).after) × (frame ≡ (step e).frame)
    × (told ≡ Some (step e).answer)
FlowSteps step None own before after peer frame told = (own ≡ None) × (after ≡ before) × (frame ≡ None) × (told ≡ None)

-- a peer that has no end gets a fresh one, which this step has left
abbrev pub IsTakenIn : EndStep Both Outcome → (before after : Flows) → Peer → Option Outgoing → Outcome → Type 0
IsTakenIn step before after peer frame outcome =
    (end_of_peer after peer ≡ Some step.after) × (after ≡ insert_entry peer_cmp before peer step.after) × (frame ≡ step.frame) × (outcome ≡ step.answer)
