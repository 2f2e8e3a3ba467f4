use Rattle.std.proofs.Common.{◌≡◌, ◌<◌, ◌^◌, ℕ, suc, ◌+◌, ◌-◌, ◌∙◌, sym, subst, arith, length, take, true, false, slice_get, Some, None}
use Rattle.seq_circle.specs.Circle.{distance}
use Rattle.ack_vectors.specs.Kept.{is_whole_at, newest_whole}
use Rattle.ack_vectors.proofs.Records.{newest_whole-step, record_there}
use Rattle.ack_vectors.proofs.Near.{none_to}
use Rattle.ack_vectors.proofs.received.newest_among.Goals as goal

-- the record that is looked at is the last of those that are left
pub returns-then-is_whole_at : goal.returns-then-is_whole_at
returns-then-is_whole_at c =
    let r = c.index-records-index.result in let items = c.args.records.now in
    let within = c.loop-index.auto.index in let some = c.loop-index-test.true in
    let there : slice_get items (c.loop-index.index - 1) ≡ Some r = record_there items (c.loop-index.index - 1) r (omega (arith, within, some)) c.index-records-index.is in
    let fits : is_whole_at c.args.n r ≡ true = sym c.is_whole_at.ensures ∙ c.if-is_whole_at.true in
    let one : newest_whole c.args.n (take (c.loop-index.index - 1 + 1) items) ≡ Some r =
    rw fits at (newest_whole-step c.args.n (c.loop-index.index - 1) items r there) in
    let here : c.loop-index.index - 1 + 1 ≡ c.loop-index.index = omega (arith, some) in
    sym (subst (λ (k : ℕ). newest_whole c.args.n (take k items) ≡ Some r) here one) ∙ c.loop-index.invariant

pub loop-index-preserved : goal.loop-index-preserved
loop-index-preserved c =
    let r = c.index-records-index.result in let items = c.args.records.now in let left = newest_whole c.args.n (take (c.loop-index.index - 1) items) in
    let within = c.loop-index.auto.index in let some = c.loop-index-test.true in
    let there : slice_get items (c.loop-index.index - 1) ≡ Some r = record_there items (c.loop-index.index - 1) r (omega (arith, within, some)) c.index-records-index.is in
    let other : is_whole_at c.args.n r ≡ false = sym c.is_whole_at.ensures ∙ c.if-is_whole_at.false in
    let one : newest_whole c.args.n (take (c.loop-index.index - 1 + 1) items) ≡ left =
    rw other at (newest_whole-step c.args.n (c.loop-index.index - 1) items r there) in
    let here : c.loop-index.index - 1 + 1 ≡ c.loop-index.index = omega (arith, some) in
    sym (subst (λ (k : ℕ). newest_whole c.args.n (take k items) ≡ left) here one) ∙ c.loop-index.invariant

-- no record before one that the number is too far below has it
pub returns-then-span-distance : goal.returns-then-span-distance
returns-then-span-distance c =
    let r = c.index-records-index.result in let items = c.args.records.now in
    let within = c.loop-index.auto.index in let some = c.loop-index-test.true in
    let there : slice_get items (c.loop-index.index - 1) ≡ Some r = record_there items (c.loop-index.index - 1) r (omega (arith, within, some)) c.index-records-index.is in
    let past : c.args.span < distance c.args.n r.number = subst (λ (steps : ℕ). c.args.span < steps) c.distance.ensures.value c.if-span-distance.true in
    let low : c.args.span < 2 ^ 48 = omega (arith, past) in
    let one : newest_whole c.args.n (take (suc (c.loop-index.index - 1)) items) ≡ None =
    none_to c.args.n c.args.span (c.loop-index.index - 1) items r there (c.requires low) past in
    let here : suc (c.loop-index.index - 1) ≡ c.loop-index.index = omega (arith, some) in
    sym (subst (λ (k : ℕ). newest_whole c.args.n (take k items) ≡ None) here one) ∙ c.loop-index.invariant
