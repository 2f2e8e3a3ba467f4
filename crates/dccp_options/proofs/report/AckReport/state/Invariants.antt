use Rattle.std.proofs.Common.{◌≡◌, slice_get}
use Rattle.dccp_options.specs.Vectors.{states, state_at}
use Rattle.dccp_options.specs.Left.{bytes_left}
use Rattle.dccp_options.proofs.report.AckReport.state.Given as goal

abbrev pub invariant-loop-byte : goal.invariant-loop-byte
invariant-loop-byte l =
    slice_get (states (bytes_left l.byte-iterator)) l.below ≡ state_at l.fn.self.ack l.fn.self.bytes l.fn.n
