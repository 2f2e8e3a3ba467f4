use Rattle.std.proofs.Common.{◌≡◌}
use Rattle.std.specs.Prelude.{replicate}
use Rattle.ack_vectors.specs.Vector.{states_down}
use Rattle.dccp_ecn.specs.EcnVector.{ecn_states}
use Rattle.dccp_ecn.proofs.writing.alike.Given as goal

abbrev pub invariant-loop-count : goal.invariant-loop-count
invariant-loop-count l = states_down (ecn_states l.received) l.count l.top ≡ replicate l.count l.state
