use Rattle.std.proofs.Common.{◌++◌, ◌∙◌, ap, sym, take, append_assoc}
use Rattle.ack_vectors.specs.Vector.{pieces}
use Rattle.ack_vectors.proofs.Pieces.{take_cut}
use Rattle.ack_vectors.proofs.writing.put_both.Goals as goal

pub returns-then-not-put_run-clause-cut : goal.returns-then-not-put_run-clause-cut
returns-then-not-put_run-clause-cut g c =
    c.if-not-put_run.ensures.cut
    ∙ sym (ap (λ xs. take c.args.room xs) (sym (append_assoc c.args.out.now.items (pieces 3 c.args.missing) (pieces 0 c.args.received)))
    ∙ take_cut c.args.room (c.args.out.now.items ++ pieces 3 c.args.missing) (pieces 0 c.args.received) c.if-not-put_run.ensures.long)
