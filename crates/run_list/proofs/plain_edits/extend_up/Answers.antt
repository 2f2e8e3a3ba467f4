use Rattle.std.proofs.Common.{◌≡◌, ◌+◌, arith, rules}
use Rattle.seq_circle.specs.Circle.{distance}
use Rattle.run_list.proofs.At.{up_at, count_at}
use Rattle.run_list.proofs.plain_edits.extend_up.Goals as goal

pub overflow_add-count : goal.overflow_add-count
overflow_add-count c =
    let laid = count_at c.args.floor 2048 c.args.at c.args.runs.now.items c.index.result.now c.requires.within c.index.ensures c.requires.laid in
    let d : distance c.args.floor c.index.result.now.hi + 1 ≡ distance c.args.floor c.args.n =
    rw (← c.index.ensures) at (c.requires.right_below c.index.result.now) in
    omega (arith, laid.above, laid.below)

pub returns-clause-adds : goal.returns-clause-adds
returns-clause-adds c =
    let d : distance c.args.floor c.index.result.now.hi + 1 ≡ distance c.args.floor c.args.n =
    rw (← c.index.ensures) at (c.requires.right_below c.index.result.now) in
    up_at c.args.floor 2048 c.args.n c.args.at c.args.runs.now.items c.index.result.now (search rules)
    (search rules) c.requires.within c.index.ensures c.requires.laid c.requires.above d
