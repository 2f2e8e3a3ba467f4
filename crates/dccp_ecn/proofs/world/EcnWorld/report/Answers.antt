-- What holds of every report, and where there is none.
use Rattle.std.proofs.Common.{◌≤◌, ◌∙◌, List, ap, sym, length, slice_get}
use Rattle.std.proofs.lemmas.Bool.{ltb-false}
use Rattle.std.proofs.lemmas.Option.{slice_get_past}
use Rattle.dccp_ecn.specs.World.{EcnReport}
use Rattle.dccp_ecn.proofs.Running.{reached-honest}
use Rattle.dccp_ecn.proofs.world.EcnWorld.report.Goals as goal

pub returns-in-Some-clause-honest : goal.returns-in-Some-clause-honest
returns-in-Some-clause-honest c = rw (← c.self.view_is) (reached-honest _ c.self.invariant)

pub returns-in-None-clause-honest : goal.returns-in-None-clause-honest
returns-in-None-clause-honest c = rw (← c.self.view_is) (reached-honest _ c.self.invariant)

pub returns-in-None-clause-value : goal.returns-in-None-clause-value
returns-in-None-clause-value c =
    let past : length c.reports.result.now ≤ c.args.index = ltb-false c.args.index (length c.reports.result.now) (sym c.in-None.ensures.lookup.0) in
    rw (← c.self.view_is)
    (ap (λ (reports : List EcnReport). slice_get reports c.args.index) (sym c.reports.ensures) ∙ slice_get_past c.reports.result.now c.args.index past)
