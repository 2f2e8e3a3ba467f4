use Rattle.std.proofs.Common.{◌+◌, ◌*◌, ◌^◌, ◌≤◌, length}
use Rattle.dccp_sum.specs.Words.{word_sum, IsSameSum}
use Rattle.dccp_sum.proofs.words.add_words.Given as goal

abbrev pub invariant-loop-rest : goal.invariant-loop-rest
invariant-loop-rest l = record {
  value : IsSameSum (l.start + 256 * l.swapped + word_sum l.rest) (l.start + word_sum l.bytes);
  bound : l.swapped + 2 ^ 61 * length l.rest ≤ 2 ^ 61 * length l.bytes;
}

abbrev pub decreases-loop-rest : goal.decreases-loop-rest
decreases-loop-rest l = length l.rest

abbrev pub invariant-loop-rest-2 : goal.invariant-loop-rest-2
invariant-loop-rest-2 l = record {
  value : IsSameSum (l.start + 256 * l.swapped + word_sum l.rest) (l.start + word_sum l.bytes);
  bound : l.swapped + 2 ^ 61 * length l.rest ≤ 2 ^ 61 * length l.bytes;
}

abbrev pub decreases-loop-rest-2 : goal.decreases-loop-rest-2
decreases-loop-rest-2 l = length l.rest

abbrev pub invariant-loop-rest-3 : goal.invariant-loop-rest-3
invariant-loop-rest-3 l = record {
  value : IsSameSum (l.start + 256 * l.swapped + word_sum l.rest) (l.start + word_sum l.bytes);
  bound : l.swapped + 2 ^ 61 * length l.rest ≤ 2 ^ 61 * length l.bytes;
}

abbrev pub decreases-loop-rest-3 : goal.decreases-loop-rest-3
decreases-loop-rest-3 l = length l.rest

abbrev pub invariant-loop-rest-4 : goal.invariant-loop-rest-4
invariant-loop-rest-4 l = record {
  value : IsSameSum (l.start + 256 * l.swapped + word_sum l.rest) (l.start + word_sum l.bytes);
  bound : l.swapped + 2 ^ 61 * length l.rest ≤ 2 ^ 61 * length l.bytes;
}

abbrev pub decreases-loop-rest-4 : goal.decreases-loop-rest-4
decreases-loop-rest-4 l = length l.rest
