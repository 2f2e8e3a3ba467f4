use Rattle.std.proofs.Common.{◌≡◌, subst, Option, None, Some, IfSome, MatchOption}
use Rattle.dccp_listener.specs.Peers.{FlowEnd, ListenerState, end_of_peer}
use Rattle.dccp_listener.specs.Standing.{IsFlowOf}
use Rattle.dccp_listener.proofs.listener.Listener.flow.Goals as goal

-- what holds of the end that is found holds of the one that is shown
shown : {A : Type 0} (now : A → FlowEnd) (P : FlowEnd → Type 0) (held : Option FlowEnd) (result : Option A)
    → MatchOption result (held ≡ None) (λ end. held ≡ Some (now end)) → IfSome held P → IfSome result (λ end. P (now end))
shown now P held None is holds = tt
shown now P held (Some end) is holds = subst (λ (x : Option FlowEnd). IfSome x P) is holds

pub returns-clause-stands : goal.returns-clause-stands
returns-clause-stands c =
    shown (λ end. end.now) (IsFlowOf c.args.self.now.config c.args.peer) _ c.get.result c.get.ensures
    (subst (λ (l : ListenerState). IfSome (end_of_peer c.self.inside.flows c.args.peer) (IsFlowOf l.config c.args.peer)) c.self.view_is
    (c.self.invariant.stand c.args.peer))
