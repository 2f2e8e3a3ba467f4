use Rattle.std.proofs.Common.{◌≡◌, ◌+◌, ◌≤◌, length}
use Rattle.bridge_links.specs.Labels.{ip_in_labels, ip_under_labels}
use Rattle.bridge_links.proofs.labels.ip_in_labels.Given as goal

abbrev pub invariant-loop-left : goal.invariant-loop-left
invariant-loop-left l = record {
  same : ip_under_labels l.left l.place l.bytes ≡ ip_in_labels l.first l.bytes;
  near : l.place ≤ length l.bytes + 128;
}

abbrev pub decreases-loop-left : goal.decreases-loop-left
decreases-loop-left l = l.left
