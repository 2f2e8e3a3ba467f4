use Rattle.std.proofs.Common.{◌≡◌, length, false}
use Rattle.dccp_options.specs.Grammar.{options_of}
use Rattle.dccp_options.specs.Vectors.{ack_vectors}
use Rattle.dccp_options.specs.Left.{bytes_left}
use Rattle.dccp_options.proofs.joined.JoinedBytesIterator.next.Given as goal

abbrev pub invariant-loop-self : goal.invariant-loop-self
invariant-loop-self l = bytes_left l.self ≡ bytes_left l.fn.self

abbrev pub decreases-loop-self : goal.decreases-loop-self
decreases-loop-self l = length (ack_vectors (options_of l.self.area.now false))
