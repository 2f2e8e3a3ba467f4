use Rattle.std.proofs.Common.{◌≡◌, ◌+◌, ◌*◌, ◌≤◌, length}
use Rattle.dccp_sum.specs.Words.{word_sum}
use Rattle.server_peers.proofs.naming.word_sum.Given as goal

abbrev pub invariant-loop-rest : goal.invariant-loop-rest
invariant-loop-rest l = record {
  value : l.sum + word_sum l.rest ≡ word_sum l.address;
  bound : l.sum + 65536 * length l.rest ≤ 16 * 65536;
}

abbrev pub decreases-loop-rest : goal.decreases-loop-rest
decreases-loop-rest l = length l.rest
