use Rattle.std.proofs.Common.{◌≡◌, length, slice_get}
use Rattle.ack_vectors.specs.Coding.{states_of}
use Rattle.data_dropped.specs.Drops.{code_at, code_at_place, drop_coding}
use Rattle.data_dropped.specs.Reports.{drop_data, drop_options}
use Rattle.data_dropped.proofs.report.DropReport.code.Given as goal

abbrev pub invariant-loop-body : goal.invariant-loop-body
invariant-loop-body l = code_at_place (slice_get (states_of drop_coding (drop_data l.options)) l.below) ≡ code_at l.fn.self.ack l.fn.self.bytes l.fn.n

abbrev pub decreases-loop-body : goal.decreases-loop-body
decreases-loop-body l = length (drop_options l.options)
