use Rattle.std.proofs.Common.{rules}
use Rattle.seq_circle.proofs.Near.{near_first, near_after}
use Rattle.congestion_trait.specs.declared.flight.FlightEntry.{FlightEntry}
use Rattle.congestion_trait.proofs.flight.step_from_newest.Goals as goal

pub returns-in-Some : goal.returns-in-Some
returns-in-Some c = record {
  near = λ span near. rw c.distance.ensures.value
      (near_after (λ (one : FlightEntry). one.number) span c.args.number c.args.entries.now.items c.in-Some.newest.now (search rules) (search rules) near);
}

pub returns-in-None : goal.returns-in-None
returns-in-None c = record { near = λ span _. near_first (λ (one : FlightEntry). one.number) span c.args.number c.args.entries.now.items (search rules) (search rules) }
