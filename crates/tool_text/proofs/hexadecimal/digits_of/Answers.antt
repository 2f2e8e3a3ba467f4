use Rattle.tool_text.proofs.HexLanes.{lanes-digits}
use Rattle.tool_text.proofs.hexadecimal.digits_of.Goals as goal

pub returns : goal.returns
returns c = lanes-digits c.args.values 16 c.fits-values.0 c.requires
