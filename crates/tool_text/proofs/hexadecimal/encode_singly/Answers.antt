use Rattle.std.proofs.Common.{◌≡◌, sym, ◌+◌, ◌*◌, ◌<◌, length, arith}
use Rattle.std.specs.Prelude.{slice_set}
use Rattle.std.proofs.lemmas.Grind.{common_steps}
use Rattle.tool_text.proofs.HexText.{all_encoded, encode-none, one_encoded}
use Rattle.tool_text.proofs.hexadecimal.encode_singly.Goals as goal

pub loop-place-init : goal.loop-place-init
loop-place-init c = record { within = omega arith; sized = c.requires; done = sym encode-none }

pub loop-place-preserved : goal.loop-place-preserved
loop-place-preserved c =
    let bytes = c.args.bytes.now in
    let room = c.loop-place.room in
    let place = c.loop-place.place in
    let high = c.digit.result in
    let low = c.digit-in-loop-place.result in
    let within : place < length bytes = c.loop-place-test.true in
    let sized = c.loop-place.invariant.sized in
    let first : length (slice_set room (2 * place) high) ≡ length room = grind (arith, common_steps) in
    let second : length (slice_set (slice_set room (2 * place) high) (2 * place + 1) low) ≡ length (slice_set room (2 * place) high) =
    grind (arith, common_steps) in
    record {
      within = omega arith;
      sized = omega arith;
      done = one_encoded bytes room place high low sized within c.loop-place.invariant.done c.digit.ensures c.digit-in-loop-place.ensures;
    }

pub returns : goal.returns
returns c =
    all_encoded c.args.bytes.now c.loop-place.room c.loop-place.place c.loop-place.invariant.sized c.loop-place-test.false c.loop-place.invariant.done
