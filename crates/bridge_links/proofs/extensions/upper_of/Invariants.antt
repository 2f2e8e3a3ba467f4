use Rattle.std.proofs.Common.{◌≡◌, ◌+◌, ◌≤◌, length}
use Rattle.bridge_links.specs.Extensions.{upper_from, upper_of}
use Rattle.bridge_links.proofs.extensions.upper_of.Given as goal

abbrev pub invariant-loop-left : goal.invariant-loop-left
invariant-loop-left l = record {
  same : upper_from l.left l.kind l.place l.to l.bytes ≡ upper_of l.bytes;
  least : 40 ≤ l.place;
  near : l.place ≤ length l.bytes + 2048;
  before : l.to + 16 ≤ l.place;
}

abbrev pub decreases-loop-left : goal.decreases-loop-left
decreases-loop-left l = l.left
