use Rattle.std.proofs.Common.{◌≡◌, ◌+◌, ◌-◌, arith, take}
use Rattle.seq_circle.specs.Circle.{distance}
use Rattle.run_list.specs.Runs.{bound_after}
use Rattle.run_list.proofs.Laid.{bound_after-more}
use Rattle.run_list.proofs.plain_edits.place_for.Goals as goal

pub loop-at-preserved : goal.loop-at-preserved
loop-at-preserved c =
    let more = bound_after-more c.args.floor 2048 c.loop-at.at c.args.runs.now c.index-runs-at.result c.loop-at-test.true in
    let left : bound_after c.args.floor 2048 (take (c.loop-at.at + 1) c.args.runs.now) ≡ distance c.args.floor c.index-runs-at.result.hi
    - c.index-runs-at.result.count =
    rw (← c.index-runs-at.is) at more in
    rw left (omega arith)
