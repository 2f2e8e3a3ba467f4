use Rattle.two_ends.proofs.OfWorlds.Consequences.{far-below, counts-below}
use Rattle.two_ends.proofs.laws.what_none_told_is_far_below.Goals as goal

pub returns-clause-by_counts : goal.returns-clause-by_counts
returns-clause-by_counts g c = λ w safe side iss first count floor fits some from before early near isr_is floor_is none among.
    counts-below w.world safe.told side iss first count floor fits some from before early near isr_is floor_is
    (λ was. none was.frame was.ack was.bytes (record { index = was.index; is_there = was.is_there; carries = was.vector_is })
    was.whole was.reaches was.heard)
    among

pub returns-clause-below : goal.returns-clause-below
returns-clause-below g c = λ w safe side iss count n fits some early is below none among.
    far-below w.world safe.told side iss count n fits some early is below
    (λ was. none was.frame was.ack was.bytes (record { index = was.index; is_there = was.is_there; carries = was.vector_is })
    was.whole was.reaches was.heard)
    among
