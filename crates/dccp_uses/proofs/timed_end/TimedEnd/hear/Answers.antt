use Rattle.std.proofs.Common.{ap, ◌∙◌, Bool, not, is_some}
use Rattle.dccp_endpoint.specs.Controlled.{EndStep, with_control}
use Rattle.dccp_endpoint.specs.Receiving.{receives}
use Rattle.dccp_states.specs.declared.outcome.Outcome.{Outcome}
use Rattle.dccp_uses.specs.Path.{sight_of}
use Rattle.dccp_uses.specs.Timed.{TimedState}
use Rattle.dccp_uses.specs.Upkeeps.{heard_so, kept_heard}
use Rattle.dccp_uses.specs.declared.sight.Sight.{Sight}
use Rattle.dccp_uses.specs.declared.upkeep.HeardDatagram.{HeardDatagram}
use Rattle.dccp_uses.proofs.Told.{stepped_as}
use Rattle.dccp_uses.proofs.timed_end.TimedEnd.hear.Goals as goal

pub returns-clause-step : goal.returns-clause-step
returns-clause-step g c =
    let control = g.C.Congestion.control in
    let now = c.args.now in
    let s : TimedState _ = record { end = c.self.inside.end; upkeep = c.self.inside.upkeep } in
    let end = c.reach-outcome.new.end in
    let frame = c.reach-outcome.new.out in
    let outcome = c.reach-outcome.result in
    stepped_as s _ c.self.view_is (λ (x : TimedState _). with_control control x.end.congestion (receives x.end.state c.args.datagram.now))
    (λ (x : TimedState _) (made : EndStep _ Outcome).
    kept_heard control now x.upkeep (heard_so (sight_of control x.end) made.answer (not (is_some made.frame))) made.after)
    _ _ _ _ c.reach-outcome.ensures.step
    (c.hear.ensures
    ∙ ap (λ (h : HeardDatagram). kept_heard control now s.upkeep h end)
    (c.new-heard.ensures ∙ ap (λ (b : Bool). heard_so c.of-was.result outcome b) c.is_silent.ensures
    ∙ ap (λ (x : Sight). heard_so x outcome (not (is_some frame))) c.of-was.ensures))
