use Rattle.run_list.specs.Linked.{linked_runs}
use Rattle.run_list.proofs.Laid.{falling_numbers}
use Rattle.run_list.proofs.list.RunList.floor.Goals as goal

pub returns-clause-sound : goal.returns-clause-sound
returns-clause-sound c =
    rw (← c.self.view_is) record {
      floor_fits = c.self.invariant.0;
      falling = falling_numbers c.self.inside.floor 2048
          (linked_runs c.self.inside.runs) c.self.invariant.0 c.self.invariant.1;
    }
