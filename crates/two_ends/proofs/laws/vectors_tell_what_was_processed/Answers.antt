use Rattle.two_ends.proofs.OfWorlds.Consequences.{told-received, all-told, after-none, missing-none}
use Rattle.two_ends.proofs.laws.vectors_tell_what_was_processed.Goals as goal

pub returns-clause-received : goal.returns-clause-received
returns-clause-received g c = λ w safe side frame ack n bytes sent fits small received.
    told-received w.world safe.truthful side sent.index frame ack n bytes sent.is_there sent.carries fits small received

pub returns-clause-missing : goal.returns-clause-missing
returns-clause-missing g c = λ w safe side frame ack n state bytes sent floor_fits fits small told not_received has_it.
    missing-none w.world safe.truthful side sent.index frame ack n bytes sent.is_there sent.carries state floor_fits fits small told not_received has_it

pub returns-clause-all : goal.returns-clause-all
returns-clause-all g c = λ w safe side frame ack n bytes sent whole spoken has_it.
    all-told w.world safe.truthful side sent.index frame ack n bytes sent.is_there sent.carries whole spoken.floor_fits spoken.ack_fits spoken.fits
    spoken.in_order
    spoken.within has_it

pub returns-clause-none_after : goal.returns-clause-none_after
returns-clause-none_after g c = λ w safe side frame ack n bytes sent has_it before.
    after-none w.world safe.truthful side sent.index frame ack n bytes sent.is_there sent.carries has_it before
