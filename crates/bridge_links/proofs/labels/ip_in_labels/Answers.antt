-- What follows each label from a place on is found among all labels.
use Rattle.std.proofs.Common.{arith, rules, ◌≡◌, sym, ◌∙◌, ℕ, ◌+◌, ◌≤◌, length}
use Rattle.bridge_links.proofs.Walks.{labels_last, labels_none, labels_short, labels_step}
use Rattle.bridge_links.proofs.labels.ip_in_labels.Goals as goal

pub returns-then-bytes-place-eq1-clause-value : goal.returns-then-bytes-place-eq1-clause-value
returns-then-bytes-place-eq1-clause-value c =
    c.ip_at_either.ensures.value
    ∙ sym (labels_last c.loop-left.left c.loop-left.place c.args.bytes.now (omega (arith, c.loop-left-test.true)) (omega (arith, c.if-place-bytes.true)) c.if-bytes-place-eq1.true)
    ∙ c.loop-left.invariant.same

pub loop-left-preserved : goal.loop-left-preserved
loop-left-preserved c =
    let place : ℕ = c.loop-left.place in
    let room : place + 4 ≤ length c.args.bytes.now = omega (arith, c.if-place-bytes.true) in
    record {
      same =
          sym (labels_step c.loop-left.left place c.args.bytes.now (omega (arith, c.loop-left-test.true)) room c.if-bytes-place-eq1.false)
          ∙ c.loop-left.invariant.same;
      near = omega (arith, room);
    }

pub returns-else-place-bytes-clause-value : goal.returns-else-place-bytes-clause-value
returns-else-place-bytes-clause-value c =
    sym (labels_short c.loop-left.left c.loop-left.place c.args.bytes.now (omega (arith, c.if-place-bytes.false))) ∙ c.loop-left.invariant.same

pub returns-after-loop-left-clause-value : goal.returns-after-loop-left-clause-value
returns-after-loop-left-clause-value c =
    sym (labels_none c.loop-left.left c.loop-left.place c.args.bytes.now (omega (arith, c.loop-left-test.false))) ∙ c.loop-left.invariant.same
