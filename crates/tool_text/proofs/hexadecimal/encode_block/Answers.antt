use Rattle.std.proofs.Common.{◌+◌, ◌*◌, length}
use Rattle.tool_text.proofs.HexLanes.{block-written, still-sized}
use Rattle.tool_text.proofs.hexadecimal.encode_block.Goals as goal

pub returns-clause-sized : goal.returns-clause-sized
returns-clause-sized c =
    still-sized c.args.room.now c.halves_of.result.0 c.halves_of.result.1 (2 * c.args.place) (2 * c.args.place + 16) (2 * length c.args.bytes.now)
    c.requires.sized

pub returns-clause-written : goal.returns-clause-written
returns-clause-written c =
    block-written c.args.bytes.now c.args.room.now c.halves_of.result.0 c.halves_of.result.1 c.args.place c.requires.sized c.requires.fits
    c.halves_of.ensures.first c.halves_of.ensures.second c.requires.before c.halves_of.ensures.value
