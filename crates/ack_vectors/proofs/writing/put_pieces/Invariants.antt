use Rattle.std.proofs.Common.{◌≡◌, ◌≤◌, ◌++◌, length}
use Rattle.ack_vectors.specs.Vector.{pieces}
use Rattle.ack_vectors.proofs.writing.put_pieces.Given as goal

abbrev pub invariant-loop-left : goal.invariant-loop-left
invariant-loop-left g l = record {
  fits : length l.out.items ≤ l.room;
  joins : l.out.items ++ pieces l.state l.left ≡ l.fn.out.items ++ pieces l.state l.fn.count;
}

abbrev pub decreases-loop-left : goal.decreases-loop-left
decreases-loop-left g l = l.left
