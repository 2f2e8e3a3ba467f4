use Rattle.std.proofs.Common.{subst}
use Rattle.congestion_trait.specs.declared.flight.Standing.TheVariants.{Out}
use Rattle.congestion_trait.specs.Flight.{Has}
use Rattle.congestion_trait.proofs.Standings.{out_before}
use Rattle.congestion_trait.proofs.laws.only_sending_puts_out.Goals as goal

pub returns-clause-reports : goal.returns-clause-reports
returns-clause-reports g c = λ state states ratio number h.
    out_before states (g.C.Congestion.control.flight state) number
    (subst (λ entries. Has entries number Out) (g.met.C.Congestion.lawful.report_settles state states ratio) h)
