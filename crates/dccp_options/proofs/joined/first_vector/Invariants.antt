use Rattle.std.proofs.Common.{◌≡◌, length, false}
use Rattle.dccp_options.specs.Grammar.{options_of}
use Rattle.dccp_options.specs.Vectors.{ack_vectors}
use Rattle.dccp_options.specs.Left.{entries_left}
use Rattle.dccp_options.proofs.joined.first_vector.Given as goal

abbrev pub invariant-loop-item : goal.invariant-loop-item
invariant-loop-item l = ack_vectors (entries_left false l.options) ≡ ack_vectors (options_of l.area false)

abbrev pub decreases-loop-item : goal.decreases-loop-item
decreases-loop-item l = length (entries_left false l.options)
