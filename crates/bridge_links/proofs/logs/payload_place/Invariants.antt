use Rattle.std.proofs.Common.{◌≡◌, ◌+◌, ◌≤◌, length}
use Rattle.bridge_links.specs.Logs.{payload_from, payload_place}
use Rattle.bridge_links.proofs.logs.payload_place.Given as goal

abbrev pub invariant-loop-left : goal.invariant-loop-left
invariant-loop-left l = record {
  same : payload_from l.left l.order l.place l.bytes ≡ payload_place l.order l.bytes;
  near : l.place ≤ length l.bytes + 65536;
}

abbrev pub decreases-loop-left : goal.decreases-loop-left
decreases-loop-left l = l.left
