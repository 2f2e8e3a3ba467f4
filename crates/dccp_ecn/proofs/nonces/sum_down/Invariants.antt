use Rattle.std.proofs.Common.{◌≡◌}
use Rattle.std.specs.Prelude.{Some}
use Rattle.run_list.specs.Runs.{downwards}
use Rattle.dccp_ecn.specs.Nonces.{sum_of, xor_if_known}
use Rattle.dccp_ecn.proofs.nonces.sum_down.Given as goal

abbrev pub invariant-loop-left : goal.invariant-loop-left
invariant-loop-left g l =
    let nonce = g.N.Nonces.nonce_of l.nonces in
    xor_if_known (Some l.sum) (sum_of nonce (downwards l.left l.n)) ≡ sum_of nonce (downwards l.fn.count l.fn.n)

abbrev pub decreases-loop-left : goal.decreases-loop-left
decreases-loop-left g l = l.left
