use Rattle.tool_text.proofs.Placed.{words-placed}
use Rattle.tool_text.proofs.words.laws.words_stand_at_their_columns.Goals as goal

pub returns : goal.returns
returns c = words-placed
