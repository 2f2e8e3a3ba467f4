use Rattle.bridge_command.proofs.SeedPlayed.{accepts, begins, counts, ends, tells, writes}
use Rattle.bridge_command.proofs.seed.laws.a_schedule_is_the_run_of_its_seed.Goals as goal

pub returns : goal.returns
returns c =
    let opens = c.drawn_events_happen.ensures.first in
    let nexts = c.drawn_events_happen.ensures.next in
    record {
      accepted = accepts opens nexts;
      first = begins opens nexts;
      events = tells opens nexts;
      last = ends opens nexts;
      text = writes opens nexts;
      counts = counts opens nexts;
    }
