use Rattle.tool_text.proofs.HexLanes.{block-digits, highs-small, lows-small}
use Rattle.std.proofs.lemmas.Simd.{below_from_Fits}
use Rattle.std.proofs.Common.{w8}
use Rattle.tool_text.proofs.hexadecimal.halves_of.Goals as goal

pub digits_of-highs-requires : goal.digits_of-highs-requires
digits_of-highs-requires c = highs-small c.args.bytes 16 (below_from_Fits w8 c.args.bytes c.fits-bytes.1)

pub digits_of-lows-requires : goal.digits_of-lows-requires
digits_of-lows-requires c = lows-small c.args.bytes 16

pub returns-clause-value : goal.returns-clause-value
returns-clause-value c =
    block-digits c.args.bytes c.digits_of-highs.result c.digits_of-lows.result c.fits-bytes.0 c.digits_of-highs.ensures c.digits_of-lows.ensures
