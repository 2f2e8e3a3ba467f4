use Rattle.std.proofs.Common.{take}
use Rattle.tool_text.proofs.BlockLaws.{none_there}
use Rattle.tool_text.proofs.words.blocks.first_near.Goals as goal

pub far_from-front-requires-clause-without : goal.far_from-front-requires-clause-without
far_from-front-requires-clause-without g c = none_there (g.S.ByteSearch.sought c.args.what.now) (take c.min-near.result c.args.text.now) c.in-None.ensures.first
