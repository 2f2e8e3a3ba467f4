use Rattle.congestion_trait.proofs.Standings.{pipe_of-after_report}
use Rattle.congestion_trait.proofs.laws.in_flight_falls_once.Goals as goal

pub returns : goal.returns
returns g c = λ state states ratio.
    rw (g.met.C.Congestion.lawful.report_settles state states ratio) (pipe_of-after_report states (g.C.Congestion.control.flight state))
