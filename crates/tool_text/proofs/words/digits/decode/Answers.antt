use Rattle.std.proofs.Common.{◌≡◌, ◌∙◌, ◌<◌, length, arith}
use Rattle.std.specs.Prelude.{slice_set}
use Rattle.std.proofs.lemmas.Grind.{common_steps}
use Rattle.tool_text.proofs.Decoding.{is_pair, one_decoded}
use Rattle.tool_text.proofs.words.digits.decode.Goals as goal

pub byte_of-requires-clause-high : goal.byte_of-requires-clause-high
byte_of-requires-clause-high c =
    let within = c.loop-place-test.true in
    let sized = c.loop-place.invariant.sized in
    let pairs = c.requires.sized in
    (is_pair c.args.text.now c.as_chunks.result.0.now c.loop-place.place c.requires.pairs (omega arith) c.as_chunks.ensures.front).high

pub byte_of-requires-clause-low : goal.byte_of-requires-clause-low
byte_of-requires-clause-low c =
    let within = c.loop-place-test.true in
    let sized = c.loop-place.invariant.sized in
    let pairs = c.requires.sized in
    (is_pair c.args.text.now c.as_chunks.result.0.now c.loop-place.place c.requires.pairs (omega arith) c.as_chunks.ensures.front).low

pub loop-place-preserved : goal.loop-place-preserved
loop-place-preserved c =
    let room = c.loop-place.room in
    let place = c.loop-place.place in
    let within : place < length room = c.loop-place-test.true in
    let same : length (slice_set room place c.byte_of.result) ≡ length room = grind (arith, common_steps) in
    let sized = c.loop-place.invariant.sized in
    let pairs = c.requires.sized in
    let pair = is_pair c.args.text.now c.as_chunks.result.0.now place c.requires.pairs (omega arith) c.as_chunks.ensures.front in
    record {
      within = omega arith;
      sized = omega arith;
      done = one_decoded c.args.text.now room place c.byte_of.result c.requires.pairs (omega arith) within c.loop-place.invariant.done
          (c.byte_of.ensures ∙ pair.byte);
    }
