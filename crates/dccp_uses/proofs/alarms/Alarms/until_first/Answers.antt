use Rattle.std.proofs.Common.{sym, ap, ◌∙◌, subst}
use Rattle.dccp_uses.specs.Alarms.{IsNoSooner, alarm_of, sooner, until_first}
use Rattle.dccp_uses.proofs.Soonest.{no_sooner}
use Rattle.dccp_uses.proofs.alarms.Alarms.until_first.Goals as goal

pub returns-clause-value : goal.returns-clause-value
unfolding until_first
returns-clause-value c =
    let s = c.args.self.now in
    let now = c.args.now in
    c.sooner.ensures ∙ ap (λ left. sooner left s.time_wait now)
    (c.sooner-left-5.ensures ∙ ap (λ left. sooner left s.close now)
    (c.sooner-left-4.ensures ∙ ap (λ left. sooner left s.rto now)
    (c.sooner-left-3.ensures ∙ ap (λ left. sooner left s.negotiate now)
    (c.sooner-left-2.ensures ∙ ap (λ left. sooner left s.ack now) c.sooner-left.ensures))))

pub returns-clause-first : goal.returns-clause-first
returns-clause-first c = λ timer.
    subst (λ left. IsNoSooner (alarm_of c.args.self.now timer) c.args.now left) (sym (returns-clause-value c)) (no_sooner c.args.self.now c.args.now timer)
