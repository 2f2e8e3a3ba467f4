use Rattle.std.proofs.Common.{◌≡◌, ◌≤◌, length}
use Rattle.tool_text.specs.Words.{parted_by}
use Rattle.schedule_text.specs.Numbers.{numbers_read}
use Rattle.tool_text.specs.Rest.{pieces_left, rest_length}
use Rattle.schedule_text.proofs.ValueLists.{preceded}
use Rattle.schedule_text.proofs.numbers.values_of.Given as goal

abbrev pub invariant-loop-rest : goal.invariant-loop-rest
invariant-loop-rest l = record {
  few : length l.values ≤ 9;
  same : preceded l.values (numbers_read (pieces_left 44 l.rest)) ≡ numbers_read (parted_by 44 l.word);
}

abbrev pub decreases-loop-rest : goal.decreases-loop-rest
decreases-loop-rest l = rest_length l.rest
