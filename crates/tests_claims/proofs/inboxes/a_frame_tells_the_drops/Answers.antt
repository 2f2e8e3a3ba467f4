use Rattle.std.proofs.Common.{sym, ◌∙◌, arith}
use Rattle.std.proofs.lemmas.Option.{none-some}
use Rattle.tests_claims.proofs.inboxes.a_frame_tells_the_drops.Goals as goal

pub returns-clause-only : goal.returns-clause-only
returns-clause-only c = λ pseudo held own frame tells ack n code r acknowledged read codes ack_fits n_fits none told.
    none-some code
    (sym none ∙ (c.a_frame_is_read_as_its_drops.ensures pseudo held own frame tells ack r acknowledged read codes ack_fits).only n code n_fits told)

pub returns-clause-all : goal.returns-clause-all
returns-clause-all c = λ pseudo held own frame tells ack n code r acknowledged read codes ack_fits n_fits whole near dropped.
    (c.a_frame_is_read_as_its_drops.ensures pseudo held own frame tells ack r acknowledged read codes ack_fits).all n n_fits whole (omega (arith, near))
    ∙ dropped
