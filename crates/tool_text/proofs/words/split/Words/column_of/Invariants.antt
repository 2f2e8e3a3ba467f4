use Rattle.std.proofs.Common.{◌≡◌}
use Rattle.tool_text.specs.Words.{word_at}
use Rattle.tool_text.specs.Left.{left_of}
use Rattle.tool_text.proofs.words.split.Words.column_of.Given as goal

abbrev pub invariant-loop-before : goal.invariant-loop-before
invariant-loop-before l = record { same : word_at l.before (left_of l.words) ≡ word_at l.fn.place (left_of l.fn.self) }

abbrev pub decreases-loop-before : goal.decreases-loop-before
decreases-loop-before l = l.before
