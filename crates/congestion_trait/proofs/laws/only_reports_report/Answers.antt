use Rattle.std.proofs.Common.{subst}
use Rattle.congestion_trait.specs.declared.flight.Standing.TheVariants.{Reported}
use Rattle.congestion_trait.specs.Flight.{Has}
use Rattle.congestion_trait.proofs.Standings.{reported_before_or_received}
use Rattle.congestion_trait.proofs.laws.only_reports_report.Goals as goal

pub returns-clause-reports : goal.returns-clause-reports
returns-clause-reports g c = λ state states ratio number h.
    reported_before_or_received states (g.C.Congestion.control.flight state) number
    (subst (λ entries. Has entries number Reported) (g.met.C.Congestion.lawful.report_settles state states ratio) h)
