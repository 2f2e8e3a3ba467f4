use Rattle.std.proofs.Common.{◌≡◌, ◌-◌, ◌<◌, ◌∙◌, length, get_or, take, vec_len, arith, rules}
use Rattle.run_list.proofs.At.{count_at}
use Rattle.run_list.proofs.Kept.{drop_last, cut_last}
use Rattle.run_list.proofs.plain_edits.cut.Goals as goal

pub overflow_cast-count : goal.overflow_cast-count
overflow_cast-count c =
    let some : 0 < length c.loop-last.runs.items = rw c.deref.ensures.value at c.in-Some.ensures.item.3.0 in
    let here : c.in-Some.field-0.now ≡ get_or c.loop-last.runs.items (length c.loop-last.runs.items - 1) c.in-Some.field-0.now =
    rw c.deref.ensures.value at c.in-Some.ensures.item.1 in
    let laid = count_at c.args.floor 2048 (length c.loop-last.runs.items - 1) c.loop-last.runs.items c.in-Some.field-0.now
    (omega arith) here c.loop-last.invariant.laid in
    omega (arith, laid.above, laid.below)

pub returns-then-rise-hi-clause-laid : goal.returns-then-rise-hi-clause-laid
returns-then-rise-hi-clause-laid c =
    let some : 0 < length c.loop-last.runs.items = rw c.deref.ensures.value at c.in-Some.ensures.item.3.0 in
    let here : c.in-Some.field-0.now ≡ get_or c.loop-last.runs.items (length c.loop-last.runs.items - 1) c.in-Some.field-0.now =
    rw c.deref.ensures.value at c.in-Some.ensures.item.1 in
    let end : c.len-end.result - 1 ≡ length c.loop-last.runs.items - 1 = omega arith in
    rw end (cut_last c.args.floor c.args.to c.min-count.result c.loop-last.runs.items (length c.loop-last.runs.items - 1) c.in-Some.field-0.now
    (search rules) (search rules) (omega arith) here c.loop-last.invariant.laid (omega arith) (omega arith)).1

pub returns-then-rise-hi-clause-numbers : goal.returns-then-rise-hi-clause-numbers
returns-then-rise-hi-clause-numbers c =
    let some : 0 < length c.loop-last.runs.items = rw c.deref.ensures.value at c.in-Some.ensures.item.3.0 in
    let here : c.in-Some.field-0.now ≡ get_or c.loop-last.runs.items (length c.loop-last.runs.items - 1) c.in-Some.field-0.now =
    rw c.deref.ensures.value at c.in-Some.ensures.item.1 in
    let end : c.len-end.result - 1 ≡ length c.loop-last.runs.items - 1 = omega arith in
    rw end ((cut_last c.args.floor c.args.to c.min-count.result c.loop-last.runs.items (length c.loop-last.runs.items - 1) c.in-Some.field-0.now
    (search rules) (search rules) (omega arith) here c.loop-last.invariant.laid (omega arith) (omega arith)).0 ∙ c.loop-last.invariant.numbers)

pub loop-last-preserved : goal.loop-last-preserved
loop-last-preserved c =
    let some : 0 < length c.loop-last.runs.items = rw c.deref.ensures.value at c.in-Some.ensures.item.3.0 in
    let here : c.in-Some.field-0.now ≡ get_or c.loop-last.runs.items (length c.loop-last.runs.items - 1) c.in-Some.field-0.now =
    rw c.deref.ensures.value at c.in-Some.ensures.item.1 in
    let both = drop_last c.args.floor c.args.to c.loop-last.runs.items (length c.loop-last.runs.items - 1) c.in-Some.field-0.now
    (search rules) (search rules) (omega arith) (omega arith) here c.loop-last.invariant.laid (omega arith) in
    let len : vec_len c.loop-last.runs ≡ length c.loop-last.runs.items = omega arith in
    let rest : c.pop.new.self.items ≡ take (length c.loop-last.runs.items - 1) c.loop-last.runs.items = rw len at c.pop.ensures.rest in
    record { laid = rw rest both.1; room = c.pop.ensures.capacity ∙ c.loop-last.invariant.room; numbers = rw rest (both.0 ∙ c.loop-last.invariant.numbers) }
