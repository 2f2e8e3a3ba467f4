use Rattle.std.proofs.Common.{◌-◌, length, sym, arith}
use Rattle.tool_text.proofs.HexLanes.{written-earlier}
use Rattle.tool_text.proofs.HexText.{encode-none}
use Rattle.tool_text.proofs.hexadecimal.encode_blocks.Goals as goal

pub loop-done-init : goal.loop-done-init
loop-done-init c = record { within = omega arith; sized = c.requires.sized; done = sym encode-none }

-- the last block may begin before the place up to which all is written
pub encode_block-requires-2-clause-before : goal.encode_block-requires-2-clause-before
encode_block-requires-2-clause-before c =
    written-earlier c.args.bytes.now c.loop-done.room (length c.args.bytes.now - 16) c.loop-done.done c.loop-done-test.false c.loop-done.invariant.within
    c.loop-done.invariant.done
