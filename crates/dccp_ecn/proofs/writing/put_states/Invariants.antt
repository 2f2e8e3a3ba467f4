use Rattle.std.proofs.Common.{◌≡◌, ◌≤◌, ◌<◌, ◌^◌, ◌++◌, length}
use Rattle.ack_vectors.specs.Vector.{all_bytes}
use Rattle.dccp_ecn.specs.EcnVector.{ecn_states}
use Rattle.dccp_ecn.proofs.ByPieces.{bytes_down}
use Rattle.dccp_ecn.proofs.writing.put_states.Given as goal

abbrev pub invariant-loop-left : goal.invariant-loop-left
invariant-loop-left l = record {
  fits : length l.out.items ≤ 253;
  top : l.top < 2 ^ 48;
  joins : l.out.items ++ bytes_down (ecn_states l.received) l.left l.top ≡ all_bytes (ecn_states l.received) l.received.set.floor l.fn.ack;
}

abbrev pub decreases-loop-left : goal.decreases-loop-left
decreases-loop-left l = l.left
