use Rattle.std.proofs.Common.{◌≡◌, ◌++◌, take}
use Rattle.bridge_pictures.specs.Svg.{snippets_text}
use Rattle.bridge_pictures.proofs.svg.put_snippets.Given as goal

abbrev pub invariant-loop-snippet : goal.invariant-loop-snippet
invariant-loop-snippet l = l.text.items ≡ l.fn.text.items ++ snippets_text (take l.snippet-index l.snippets)
