-- What comes after each header comes after all of them.
use Rattle.std.proofs.Common.{arith, rules, ◌≡◌, sym, ap, ◌∙◌, ℕ, ◌+◌, ◌-◌, ◌≤◌, ◌<◌, List, length, slice_index}
use Rattle.bridge_links.specs.Extensions.{extension_size, destination_after, upper_at, upper_from, upper_of}
use Rattle.bridge_links.proofs.Walks.{upper_none, upper_short, upper_step, upper_stop}
use Rattle.bridge_links.proofs.extensions.upper_of.Goals as goal
use Rattle.bridge_links.proofs.extensions.upper_of.Goals.{then-loop-left-test+then-is_extension+else-place-bytes, then-loop-left-test+else-is_extension, else-loop-left-test}

pub loop-left-preserved : goal.loop-left-preserved
loop-left-preserved c =
    let place : ℕ = c.loop-left.place in
    let bytes : List ℕ = c.args.bytes.now in
    let room : place + 8 ≤ length bytes = omega (arith, c.if-place-bytes.true) in
    let value = c.extension_size-place.ensures.value in
    let fits = c.extension_size-place.ensures.fits in
    let inside = c.destination_after-to.ensures.inside in
    record {
      same =
          ap (λ (size : ℕ). upper_from (c.loop-left.left - 1) (slice_index bytes place) (place + size) c.destination_after-to.result bytes) value
          ∙ ap (λ (to : ℕ). upper_from (c.loop-left.left - 1) (slice_index bytes place) (place + extension_size place bytes) to bytes) c.destination_after-to.ensures.value
          ∙ sym (upper_step c.loop-left.left c.loop-left.kind place c.loop-left.to bytes (omega (arith, c.loop-left-test.true))
          (sym c.is_extension.ensures ∙ c.if-is_extension.true) room)
          ∙ c.loop-left.invariant.same;
      least = let least = c.loop-left.invariant.least in omega (arith, least);
      near = omega (arith, room, fits);
      before = omega (arith, inside, value);
    }

pub returns-clause-value : goal.returns-clause-value
returns-clause-value c = c.upper_at.ensures ∙ sym (elim c.loop-left-test.branch [
  | then-loop-left-test+then-is_extension+else-place-bytes w ↦ upper_short c.loop-left.left c.loop-left.kind c.loop-left.place c.loop-left.to c.args.bytes.now (omega (arith, w.if-place-bytes.false))
  | then-loop-left-test+else-is_extension w ↦ upper_stop c.loop-left.left c.loop-left.kind c.loop-left.place c.loop-left.to c.args.bytes.now (sym w.is_extension.ensures ∙ w.if-is_extension.false)
  | else-loop-left-test w ↦ upper_none c.loop-left.left c.loop-left.kind c.loop-left.place c.loop-left.to c.args.bytes.now (omega (arith, w.loop-left-test.false))
]) ∙ c.loop-left.invariant.same
