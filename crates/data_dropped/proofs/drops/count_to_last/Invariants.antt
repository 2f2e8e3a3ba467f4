use Rattle.std.proofs.Common.{◌≡◌, ◌≤◌, length, take}
use Rattle.data_dropped.specs.Drops.{up_to_last_code}
use Rattle.data_dropped.proofs.drops.count_to_last.Given as goal

abbrev pub invariant-loop-count : goal.invariant-loop-count
invariant-loop-count l = record {
  within : l.count ≤ length l.codes;
  same : up_to_last_code (take l.count l.codes) ≡ up_to_last_code l.codes;
}

abbrev pub decreases-loop-count : goal.decreases-loop-count
decreases-loop-count l = l.count
