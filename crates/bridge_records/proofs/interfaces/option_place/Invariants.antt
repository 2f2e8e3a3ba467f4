use Rattle.std.proofs.Common.{◌≡◌, ◌+◌, ◌-◌, ◌≤◌, length}
use Rattle.bridge_records.specs.Interfaces.{option_place}
use Rattle.bridge_records.proofs.Options.{sought}
use Rattle.bridge_records.proofs.interfaces.option_place.Given as goal

abbrev pub invariant-loop-place : goal.invariant-loop-place
invariant-loop-place l = record {
  same : sought l.order l.code l.place l.options ≡ option_place l.order l.code l.options;
  near : l.place ≤ length l.options + 65536;
}

abbrev pub decreases-loop-place : goal.decreases-loop-place
decreases-loop-place l = length l.options + 8 - l.place
