use Rattle.std.proofs.Common.{◌<◌, length, Some, ap, sym, ◌∙◌, arith}
use Rattle.data_dropped.proofs.Reading.{after-byte, length-byte, within-byte}
use Rattle.data_dropped.proofs.report.code_below.Goals as goal

-- the byte has the number
pub returns-then-left-count : goal.returns-then-left-count
returns-then-left-count c =
    let inside : c.loop-byte.byte-index < length c.args.bytes.now = omega arith in
    sym c.loop-byte.invariant.same
    ∙ within-byte c.args.bytes.now c.loop-byte.byte-index c.numbers_in-count.result inside c.numbers_in-count.ensures c.loop-byte.left c.if-left-count.true
    ∙ ap Some (sym c.code_in.ensures)

-- it lies after it
pub loop-byte-preserved : goal.loop-byte-preserved
loop-byte-preserved c =
    let inside : c.loop-byte.byte-index < length c.args.bytes.now = omega arith in
    let size = length-byte c.args.bytes.now c.loop-byte.byte-index c.numbers_in-count.result inside c.numbers_in-count.ensures in
    record {
      same = after-byte c.args.bytes.now c.loop-byte.byte-index c.numbers_in-count.result inside c.numbers_in-count.ensures c.loop-byte.left
          c.if-left-count.false
          ∙ c.loop-byte.invariant.same;
      passed = omega (arith, size, c.loop-byte.invariant.passed, c.if-left-count.false);
    }
