use Rattle.std.proofs.Common.{◌≡◌, ◌++◌, length}
use Rattle.tool_text.specs.Text.{Keeps}
use Rattle.packet_show.specs.Text.{groups_text}
use Rattle.packet_show.proofs.numbers.put_groups.Given as goal

abbrev pub invariant-loop-rest : goal.invariant-loop-rest
invariant-loop-rest l = record {
  keeps : Keeps l.initial.text.items l.text.items;
  joins : l.text.items ++ groups_text l.rest ≡ l.initial.text.items ++ groups_text l.bytes;
}

abbrev pub decreases-loop-rest : goal.decreases-loop-rest
decreases-loop-rest l = length l.rest
