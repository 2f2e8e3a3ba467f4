use Rattle.std.proofs.Common.{◌<◌, ◌∙◌, sym, arith}
use Rattle.dccp_ecn.proofs.Sums.{down-more}
use Rattle.dccp_ecn.proofs.nonces.sum_down.Goals as goal

pub loop-left-preserved : goal.loop-left-preserved
loop-left-preserved g c =
    let left : 0 < c.loop-left.left = omega (arith, c.loop-left-test.true) in
    rw (c.xor-sum.ensures, c.sub-n.ensures)
    (down-more (g.N.Nonces.nonce_of c.args.nonces.now) c.loop-left.sum c.in_ok-nonce.field-0 c.loop-left.left c.loop-left.n _ left
    (sym c.in_ok-nonce.was ∙ c.nonce.ensures) c.loop-left.invariant)
