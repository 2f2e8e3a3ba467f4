use Rattle.std.proofs.Common.{Bool}
use Rattle.dccp_endpoint.specs.Controlled.{EndStep}
use Rattle.dccp_uses.specs.Rules.{rule_does}
use Rattle.dccp_uses.specs.Timed.{TimedState}
use Rattle.dccp_uses.specs.Upkeeps.{kept_ruled}
use Rattle.dccp_uses.proofs.Told.{stepped_as}
use Rattle.dccp_uses.proofs.timed_end.TimedEnd.obey_rule.Goals as goal

pub returns : goal.returns
returns g c =
    let control = g.C.Congestion.control in
    stepped_as _ _ c.self.view_is (λ (s : TimedState _). rule_does control s.end c.args.rule s.upkeep.path.aim)
    (λ (s : TimedState _) (x : EndStep _ Bool). kept_ruled control c.args.now s.upkeep c.args.rule x.after) _ _ _ _ c.obey-did.ensures c.follow.ensures
