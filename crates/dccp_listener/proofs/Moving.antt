-- A peer's end moves in its place.
use Rattle.std.proofs.Common.{◌≡◌, refl, ap, sym, subst, ◌∙◌, Bool, false, Option, None, Some, is_some}
use Rattle.std.specs.Map.{set_value}
use Rattle.ccid_two.specs.Kinds.{Both}
use Rattle.dccp_endpoint.specs.Controlled.{EndStep}
use Rattle.dccp_packets.specs.Outgoing.{Outgoing}
use Rattle.dccp_states.specs.Phases.{is_closed}
use Rattle.dccp_listener.specs.Listens.{AreInOrder}
use Rattle.dccp_listener.specs.Moves.{FlowMoves}
use Rattle.dccp_listener.specs.Peers.{FlowEnd, Flows, end_of_peer, is_peer}
use Rattle.dccp_listener.specs.declared.peer.Peer.{Peer}
use Rattle.dccp_listener.proofs.Searching.{Finds, others_found, own_found, value_set}

module _ (peer : Peer) (flows after : Flows) (next e : FlowEnd) (ordered : AreInOrder flows) (there : end_of_peer flows peer ≡ Some e)
    (is : after ≡ set_value (is_peer peer) flows next) where
  changed : AreInOrder after × Finds peer (Some next) flows after
  changed = value_set peer flows after next ordered (ap is_some there) is

  pub stays_ordered : AreInOrder after
  stays_ordered = changed.0

  pub others_stay : (other : Peer) → is_peer peer other ≡ false → end_of_peer after other ≡ end_of_peer flows other
  others_stay other apart = others_found peer (Some next) flows after changed.1 other apart

  pub moved : {A : Type 0} (step : FlowEnd → EndStep Both A) (frame : Option Outgoing) (told : Option (A × Bool))
      → next ≡ (step e).after → frame ≡ (step e).frame → told ≡ Some ((step e).answer, is_closed (step e).after.state.phase)
      → FlowMoves step (end_of_peer flows peer) (end_of_peer after peer) flows after peer frame told
  moved step frame told steps sent answered =
      subst (λ (o : Option FlowEnd). FlowMoves step o (end_of_peer after peer) flows after peer frame told) (sym there)
      (own_found peer (Some next) flows after changed.1 ∙ ap Some steps, is ∙ ap (λ (x : FlowEnd). set_value (is_peer peer) flows x) steps, sent, answered)

-- a peer that has no end
pub unmoved : {A : Type 0} (step : FlowEnd → EndStep Both A) (peer : Peer) (flows : Flows) (frame : Option Outgoing) → end_of_peer flows peer ≡ None
    → frame ≡ None → FlowMoves step (end_of_peer flows peer) (end_of_peer flows peer) flows flows peer frame None
unmoved step peer flows frame none silent =
    subst (λ (o : Option FlowEnd). FlowMoves step o (end_of_peer flows peer) flows flows peer frame None) (sym none) (none, refl, silent, refl)
