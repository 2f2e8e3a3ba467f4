use Rattle.std.proofs.Common.{◌≡◌, ◌++◌, ◌∙◌, ap, sym, length, take, min, append_assoc, arith}
use Rattle.ack_vectors.specs.Vector.{pieces}
use Rattle.ack_vectors.proofs.Pieces.{pieces-step, take_full}
use Rattle.ack_vectors.proofs.writing.put_pieces.Goals as goal

pub returns-then-len-room-clause-cut : goal.returns-then-len-room-clause-cut
returns-then-len-room-clause-cut g c =
    let full : length c.loop-left.out.items ≡ c.args.room = omega arith in
    sym (ap (λ xs. take c.args.room xs) (sym c.loop-left.invariant.joins)
    ∙ take_full c.args.room c.loop-left.out.items (pieces c.args.state c.loop-left.left) full)

pub loop-left-preserved : goal.loop-left-preserved
loop-left-preserved g c =
    let step = pieces-step c.args.state c.loop-left.left c.loop-left-test.true in
    let same : c.min-length.result ≡ min c.loop-left.left 64 = c.min-length.ensures in
    record {
      fits = omega (arith, c.push.ensures.len, c.loop-left.invariant.fits);
      joins = rw (c.push.ensures.items, append_assoc c.loop-left.out.items _ _, same)
          (ap (λ xs. c.loop-left.out.items ++ xs) (sym step) ∙ c.loop-left.invariant.joins);
    }
