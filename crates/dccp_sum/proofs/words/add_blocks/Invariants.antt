use Rattle.std.proofs.Common.{◌+◌, ◌*◌, ◌^◌, ◌≤◌, length}
use Rattle.dccp_sum.specs.Words.{word_sum, IsSameSum}
use Rattle.dccp_sum.proofs.words.add_blocks.Given as goal

abbrev pub invariant-loop-rest : goal.invariant-loop-rest
invariant-loop-rest l = record {
  value : IsSameSum (256 * (l.first + l.second + l.carries) + word_sum l.rest) (word_sum l.bytes);
  bound : l.first + l.second + l.carries + 2 ^ 61 * length l.rest ≤ 2 ^ 61 * length l.bytes;
  counted : l.carries + length l.rest ≤ length l.bytes;
}

abbrev pub decreases-loop-rest : goal.decreases-loop-rest
decreases-loop-rest l = length l.rest
