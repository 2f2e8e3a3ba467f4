use Rattle.std.proofs.Common.{◌≡◌, ◌-◌, ◌≤◌, ◌++◌, length}
use Rattle.data_dropped.specs.Writing.{bytes_from}
use Rattle.data_dropped.proofs.writing.put_codes.Given as goal

abbrev pub invariant-loop-place : goal.invariant-loop-place
invariant-loop-place l = record {
  within : l.place ≤ length l.codes;
  fits : length l.out.items ≤ 253;
  joins : l.out.items ++ bytes_from l.codes l.place ≡ bytes_from l.codes 0;
}

abbrev pub decreases-loop-place : goal.decreases-loop-place
decreases-loop-place l = length l.codes - l.place
