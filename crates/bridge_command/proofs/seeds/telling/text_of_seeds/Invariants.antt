use Rattle.std.proofs.Common.{◌≡◌}
use Rattle.bridge_command.specs.SeedLines.{seed_lines}
use Rattle.bridge_command.proofs.seeds.telling.text_of_seeds.Given as goal

abbrev pub invariant-loop-index : goal.invariant-loop-index
invariant-loop-index l = l.text.items ≡ seed_lines l.range.events l.range.first l.index
