use Rattle.congestion_trait.proofs.Calls.{listed_after, listed_run}
use Rattle.congestion_trait.proofs.laws.every_entry_was_sent.Goals as goal

pub returns : goal.returns
returns g c =
    record {
      call = λ state call number h. listed_after g.C.Congestion.control g.met.C.Congestion.lawful state call number h;
      calls = λ state calls number h. listed_run g.C.Congestion.control g.met.C.Congestion.lawful state calls number h;
    }
