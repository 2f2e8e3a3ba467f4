use Rattle.std.proofs.Common.{◌≡◌, drop}
use Rattle.std.specs.Prelude.{Some}
use Rattle.dccp_ecn.specs.Nonces.{sum_of, xor_if_known, zeros_in}
use Rattle.dccp_ecn.proofs.nonces.sum_of.Given as goal

abbrev pub invariant-loop-byte : goal.invariant-loop-byte
invariant-loop-byte g l =
    let nonce = g.N.Nonces.nonce_of l.nonces in
    xor_if_known (Some l.sum) (sum_of nonce (zeros_in l.hi (drop l.byte-index l.bytes))) ≡ sum_of nonce (zeros_in l.fn.ack l.bytes)
