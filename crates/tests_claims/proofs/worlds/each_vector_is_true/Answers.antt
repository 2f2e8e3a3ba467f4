use Rattle.tests_claims.proofs.Reached.{safe}
use Rattle.tests_claims.proofs.worlds.each_vector_is_true.Goals as goal

pub returns-clause-received : goal.returns-clause-received
returns-clause-received g c = λ w reached side frame ack n bytes sent ack_fits n_fits is.
    c.vectors_tell_what_was_processed.ensures.received w (safe g.C.Congestion.control c.every_run_is_safe.ensures w reached) side frame ack n bytes sent ack_fits n_fits is

pub returns-clause-missing : goal.returns-clause-missing
returns-clause-missing g c = λ w reached side frame ack n state bytes sent floor_fits ack_fits n_fits is not has.
    c.vectors_tell_what_was_processed.ensures.missing w (safe g.C.Congestion.control c.every_run_is_safe.ensures w reached) side frame ack n state bytes sent floor_fits ack_fits n_fits is not has

pub returns-clause-all : goal.returns-clause-all
returns-clause-all g c = λ w reached side frame ack n bytes sent whole spoken has.
    c.vectors_tell_what_was_processed.ensures.all w (safe g.C.Congestion.control c.every_run_is_safe.ensures w reached) side frame ack n bytes sent whole spoken has

pub returns-clause-none_after : goal.returns-clause-none_after
returns-clause-none_after g c = λ w reached side frame ack n bytes sent has after.
    c.vectors_tell_what_was_processed.ensures.none_after w (safe g.C.Congestion.control c.every_run_is_safe.ensures w reached) side frame ack n bytes sent has after
