use Rattle.std.proofs.Common.{◌<◌, ◌+◌, ◌∙◌, sym, arith, drop, length, slice_index_or, ℕ, List}
use Rattle.std.specs.Prelude.{Some}
use Rattle.std.proofs.lemmas.List.{at_drop_more}
use Rattle.dccp_ecn.specs.Nonces.{sum_of, xor_if_known, zeros_in}
use Rattle.dccp_ecn.proofs.Sums.{byte-lost, byte-more}
use Rattle.dccp_ecn.proofs.nonces.sum_of.Goals as goal

pub returns-in_err-sum_of_byte : goal.returns-in_err-sum_of_byte
returns-in_err-sum_of_byte g c =
    let nonce = g.N.Nonces.nonce_of c.args.nonces.now in
    let inside : c.loop-byte.byte-index < length c.args.bytes.now = omega (arith, c.loop-byte-test.true) in
    let opened = at_drop_more (λ (bytes : List ℕ). xor_if_known (Some c.loop-byte.sum) (sum_of nonce (zeros_in c.loop-byte.hi bytes))) c.args.bytes.now
    c.loop-byte.byte-index 0 inside in
    c.from_residual.ensures
    ∙ byte-lost nonce c.loop-byte.sum c.loop-byte.hi (slice_index_or c.args.bytes.now c.loop-byte.byte-index 0)
    (drop (c.loop-byte.byte-index + 1) c.args.bytes.now) _ (sym c.in_err-sum_of_byte.was ∙ c.sum_of_byte.ensures) (sym opened ∙ c.loop-byte.invariant)

pub loop-byte-preserved : goal.loop-byte-preserved
loop-byte-preserved g c =
    let nonce = g.N.Nonces.nonce_of c.args.nonces.now in
    let inside : c.loop-byte.byte-index < length c.args.bytes.now = omega (arith, c.loop-byte-test.true) in
    let opened = at_drop_more (λ (bytes : List ℕ). xor_if_known (Some c.loop-byte.sum) (sum_of nonce (zeros_in c.loop-byte.hi bytes))) c.args.bytes.now
    c.loop-byte.byte-index 0 inside in
    rw (c.xor-sum.ensures, c.sub-hi.ensures, c.from.ensures, c.run_length.ensures.length)
    (byte-more nonce c.loop-byte.sum c.in_ok-sum_of_byte.field-0 c.loop-byte.hi (slice_index_or c.args.bytes.now c.loop-byte.byte-index 0)
    (drop (c.loop-byte.byte-index + 1) c.args.bytes.now) _ (sym c.in_ok-sum_of_byte.was ∙ c.sum_of_byte.ensures) (sym opened ∙ c.loop-byte.invariant))
