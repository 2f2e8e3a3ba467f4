-- The line that was drawn is the one that was judged.
use Rattle.std.proofs.Common.{rules, ◌≡◌, Some, Ok}
use Rattle.bridge_pictures.specs.LadderLines.{drawn_by_line}
use Rattle.bridge_pictures.specs.Transcript.{line_judged}
use Rattle.bridge_pictures.proofs.ladder.transcript.LadderLineJob.judge.Goals as goal

pub returns-in_ok-draw-in-Ok-Some-clause-verdict : goal.returns-in_ok-draw-in-Ok-Some-clause-verdict
unfolding line_judged
returns-in_ok-draw-in-Ok-Some-clause-verdict c =
    let told : drawn_by_line c.args.line.now ≡ Ok (Some c.in-Ok-Some.drawn) = search rules in
    rw told (search rules)
