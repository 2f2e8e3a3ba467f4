use Rattle.std.proofs.Common.{arith}
use Rattle.tool_text.proofs.Decoding.{side_by_side}
use Rattle.tool_text.proofs.words.digits.byte_of.Goals as goal

pub overflow_cast-result : goal.overflow_cast-result
overflow_cast-result c =
    let above = c.requires.high in
    let below = c.requires.low in
    let first = c.from-2.ensures in
    let second = c.from.ensures in
    let values = side_by_side c.from-2.result c.from.result (omega arith) (omega arith) in
    omega arith

pub returns : goal.returns
returns c =
    let above = c.requires.high in
    let below = c.requires.low in
    let first = c.from-2.ensures in
    let second = c.from.ensures in
    let values = side_by_side c.from-2.result c.from.result (omega arith) (omega arith) in
    omega arith
