use Rattle.std.proofs.Common.{◌≡◌, ◌∙◌, ◌++◌, List, Some, sym, subst, ap}
use Rattle.seq_circle.specs.Near.{AreNear}
use Rattle.ack_vectors.specs.Kept.{newest_whole}
use Rattle.ack_vectors.specs.Near.{record_numbers}
use Rattle.ack_vectors.specs.declared.received.VectorRecord.{VectorRecord}
use Rattle.ack_vectors.proofs.Near.{near_earlier, near_later}
use Rattle.ack_vectors.proofs.Records.{newest_whole-earlier, newest_whole-later}
use Rattle.ack_vectors.proofs.received.newest_whole.Goals as goal

pub newest_among-requires : goal.newest_among-requires
newest_among-requires c =
    λ low. near_later c.args.span c.as_slices.result.0.now c.as_slices.result.1.now
    (subst (λ (rs : List VectorRecord). AreNear c.args.span (record_numbers rs)) (sym c.as_slices.ensures) (c.requires low))

pub newest_among-requires-in-None : goal.newest_among-requires-in-None
newest_among-requires-in-None c =
    λ low. near_earlier c.args.span c.as_slices.result.0.now c.as_slices.result.1.now
    (subst (λ (rs : List VectorRecord). AreNear c.args.span (record_numbers rs)) (sym c.as_slices.ensures) (c.requires low))

pub returns-in-Some : goal.returns-in-Some
returns-in-Some c =
    sym (ap (newest_whole c.args.n) (sym c.as_slices.ensures)
    ∙ newest_whole-later c.args.n c.as_slices.result.0.now c.as_slices.result.1.now _ (sym c.newest_among.ensures ∙ c.in-Some.is))

pub returns-in-None : goal.returns-in-None
returns-in-None c =
    c.newest_among-in-None.ensures
    ∙ sym (newest_whole-earlier c.args.n c.as_slices.result.0.now c.as_slices.result.1.now (sym c.newest_among.ensures ∙ c.in-None.is))
    ∙ ap (newest_whole c.args.n) c.as_slices.ensures
