use Rattle.std.proofs.Common.{◌+◌, ◌<◌, ◌≤◌, ◌-◌, take, arith, rules}
use Rattle.seq_circle.specs.Circle.{distance}
use Rattle.run_list.specs.Runs.{bound_after}
use Rattle.run_list.proofs.At.{present_at, count_at, far_at}
use Rattle.run_list.proofs.plain_edits.put.Goals as goal

pub begin_run-requires-then-hi-place-clause-below : goal.begin_run-requires-then-hi-place-clause-below
begin_run-requires-then-hi-place-clause-below c =
    far_at c.args.floor 2048 (distance c.args.floor c.args.n - 1) c.place_for-at.result c.args.runs.now.items c.index-run.result.now
    (omega arith) c.index-run.ensures c.requires.laid (omega arith)

pub overflow_add-place : goal.overflow_add-place
overflow_add-place c =
    let laid = count_at c.args.floor 2048 c.place_for-at.result c.args.runs.now.items c.index-run.result.now
    (omega arith) c.index-run.ensures c.requires.laid in
    omega (arith, laid.above, laid.below)

pub returns-else-hi-place-3-clause-there : goal.returns-else-hi-place-3-clause-there
returns-else-hi-place-3-clause-there c =
    let touch : distance c.args.floor c.index-run.result.now.hi ≤ distance c.args.floor c.args.n + c.index-run.result.now.count =
    rw (← c.index-run.ensures) at (rw c.deref.ensures.value at (c.place_for-at.ensures.touches c.index-run.result.now (omega arith))) in
    let above : distance c.args.floor c.args.n < bound_after c.args.floor 2048 (take c.place_for-at.result c.args.runs.now.items) =
    rw c.deref.ensures.value at c.place_for-at.ensures.above in
    present_at c.args.floor 2048 c.args.n c.place_for-at.result c.args.runs.now.items c.index-run.result.now (search rules) (search rules)
    (omega arith) c.index-run.ensures c.requires.laid above (omega arith) (omega arith)
