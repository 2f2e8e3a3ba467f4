use Rattle.std.proofs.Common.{◌≡◌, ℕ, ◌+◌, suc, ◌-◌, get_or, drop, ap, ◌∙◌, add-one, arith, rules}
use Rattle.seq_circle.specs.Circle.{distance}
use Rattle.run_list.specs.Runs.{AreLaid}
use Rattle.run_list.proofs.At.{down_at, between_at, gap_below, nothing_below, count_at}
use Rattle.run_list.proofs.plain_edits.extend_down.Goals as goal
use Rattle.run_list.proofs.plain_edits.extend_down.Goals.{then-at-len+else-distance, else-at-len}

pub overflow_add-run : goal.overflow_add-run
overflow_add-run c =
    let laid = count_at c.args.floor 2048 c.args.at c.args.runs.now.items c.index-run.result.now c.requires.within c.index-run.ensures c.requires.laid in
    omega (arith, laid.above, laid.below)

pub overflow_add-run-then-distance : goal.overflow_add-run-then-distance
overflow_add-run-then-distance c =
    let laid = count_at c.args.floor 2048 c.args.at c.args.runs.now.items c.index-run.result.now c.requires.within c.index-run.ensures c.requires.laid in
    let next = count_at c.args.floor 2048 (c.args.at + 1) c.args.runs.now.items c.index-next.result.now (omega arith) c.index-next.ensures c.requires.laid in
    let d : distance c.args.floor c.args.n + c.index-run.result.now.count ≡ distance c.args.floor c.index-run.result.now.hi =
    rw (← c.index-run.ensures) at (c.requires.right_above c.index-run.result.now) in
    omega (arith, laid.below, next.above)

pub returns-then-distance-clause-adds : goal.returns-then-distance-clause-adds
returns-then-distance-clause-adds c =
    let d : distance c.args.floor c.args.n + c.index-run.result.now.count ≡ distance c.args.floor c.index-run.result.now.hi =
    rw (← c.index-run.ensures) at (c.requires.right_above c.index-run.result.now) in
    let e : c.index-next.result.now ≡ get_or c.args.runs.now.items (suc c.args.at) c.index-next.result.now =
    c.index-next.ensures ∙ ap (λ (k : ℕ). get_or c.args.runs.now.items k c.index-next.result.now) (add-one c.args.at) in
    rw c.remove.ensures.items
    (between_at c.args.floor 2048 c.args.n c.args.at c.args.runs.now.items c.index-run.result.now c.index-next.result.now (search rules) (search rules)
    c.requires.within c.index-run.ensures (omega arith) e c.requires.laid c.requires.above d (omega arith))

pub overflow_add-run-2 : goal.overflow_add-run-2
overflow_add-run-2 c =
    let laid = count_at c.args.floor 2048 c.args.at c.args.runs.now.items c.index-run.result.now c.requires.within c.index-run.ensures c.requires.laid in
    omega (arith, laid.above, laid.below)

pub returns-clause-adds : goal.returns-clause-adds
returns-clause-adds c =
    let d : distance c.args.floor c.args.n + c.index-run.result.now.count ≡ distance c.args.floor c.index-run.result.now.hi =
    rw (← c.index-run.ensures) at (c.requires.right_above c.index-run.result.now) in
    let below : AreLaid c.args.floor (distance c.args.floor c.args.n - 1) (drop (suc c.args.at) c.args.runs.now.items) =
    elim c.if-at-len.branch [
      | then-at-len+else-distance w ↦
          let e : w.index-next.result.now ≡ get_or c.args.runs.now.items (suc c.args.at) w.index-next.result.now =
          w.index-next.ensures ∙ ap (λ (k : ℕ). get_or c.args.runs.now.items k w.index-next.result.now) (add-one c.args.at) in
          gap_below c.args.floor 2048 c.args.n c.args.at c.args.runs.now.items c.index-run.result.now w.index-next.result.now
          c.requires.within c.index-run.ensures (omega arith) e c.requires.laid d (λ h. absurd (omega arith))
      | else-at-len w ↦ nothing_below c.args.floor (distance c.args.floor c.args.n - 1) c.args.at c.args.runs.now.items (omega arith)
    ] in
    down_at c.args.floor 2048 c.args.n c.args.at c.args.runs.now.items c.index-run.result.now (search rules) (search rules)
    c.requires.within c.index-run.ensures c.requires.laid c.requires.above d below
