use Rattle.std.proofs.Common.{refl, sym, ◌∙◌}
use Rattle.congestion_trait.proofs.Runs.{at_the_first, at_no_run}
use Rattle.congestion_trait.proofs.cursor.Cursor.new.Goals as goal

pub returns-in-Some : goal.returns-in-Some
returns-in-Some c =
    let bytes = c.args.report.now.bytes in
    let ack = c.args.report.now.ack in
    let runs = sym c.runs-left.ensures.value ∙ c.in-Some.ensures.steps in
    record {
      begins = refl;
      stands = rw c.from.ensures (at_the_first bytes ack c.in-Some.run' c.next.new.self runs);
      few = c.runs-left.ensures.bytes_fit;
    }

pub returns-in-None : goal.returns-in-None
returns-in-None c =
    let bytes = c.args.report.now.bytes in
    let ack = c.args.report.now.ack in
    let none = sym c.runs-left.ensures.value ∙ c.in-None.ensures.steps.0 in
    record {
      begins = refl;
      stands = rw c.in-None.ensures.steps.1 (at_no_run bytes ack 0 none);
      few = c.runs-left.ensures.bytes_fit;
    }
