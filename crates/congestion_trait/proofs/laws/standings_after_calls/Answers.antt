use Rattle.congestion_trait.proofs.Calls.{out_run, reported_run}
use Rattle.congestion_trait.proofs.laws.standings_after_calls.Goals as goal

pub returns : goal.returns
returns g c =
    record {
      out = λ state calls number h. out_run g.C.Congestion.control g.met.C.Congestion.lawful state calls number h;
      reported = λ state calls number h. reported_run g.C.Congestion.control g.met.C.Congestion.lawful state calls number h;
    }
