-- What is looked for from each place on is looked for among all parts.
use Rattle.std.proofs.Common.{arith, rules, ◌≡◌, sym, ap, ◌∙◌, ℕ, ◌+◌, ◌-◌, ◌≤◌, ◌<◌, List, length}
use Rattle.bridge_links.specs.Logs.{payload_from}
use Rattle.bridge_links.proofs.Walks.{payload_here, payload_none, payload_short, payload_step}
use Rattle.bridge_links.proofs.logs.payload_place.Goals as goal

pub returns-then-read_u16-eq-PAYLOAD : goal.returns-then-read_u16-eq-PAYLOAD
returns-then-read_u16-eq-PAYLOAD c =
    sym (payload_here c.loop-left.left c.args.order c.loop-left.place c.args.bytes.now (omega (arith, c.loop-left-test.true)) (omega (arith, c.if-place-bytes.true))
    (sym c.read_u16.ensures ∙ c.if-read_u16-eq-PAYLOAD.true)) ∙ c.loop-left.invariant.same

pub loop-left-preserved : goal.loop-left-preserved
loop-left-preserved c =
    let place : ℕ = c.loop-left.place in
    let room : place + 4 ≤ length c.args.bytes.now = omega (arith, c.if-place-bytes.true) in
    record {
      same =
          ap (λ (size : ℕ). payload_from (c.loop-left.left - 1) c.args.order (place + size) c.args.bytes.now) c.part_size-place.ensures.value
          ∙ sym (payload_step c.loop-left.left c.args.order place c.args.bytes.now (omega (arith, c.loop-left-test.true)) room
          (λ is. c.if-read_u16-eq-PAYLOAD.false (c.read_u16.ensures ∙ is)))
          ∙ c.loop-left.invariant.same;
      near = let fits = c.part_size-place.ensures.fits in omega (arith, room, fits);
    }

pub returns-else-place-bytes : goal.returns-else-place-bytes
returns-else-place-bytes c =
    sym (payload_short c.loop-left.left c.args.order c.loop-left.place c.args.bytes.now (omega (arith, c.if-place-bytes.false))) ∙ c.loop-left.invariant.same

pub returns-after-loop-left : goal.returns-after-loop-left
returns-after-loop-left c =
    sym (payload_none c.loop-left.left c.args.order c.loop-left.place c.args.bytes.now (omega (arith, c.loop-left-test.false))) ∙ c.loop-left.invariant.same
