use Rattle.std.proofs.lemmas.Bool.{false≢true}
use Rattle.tests_claims.proofs.Inboxed.{tells}
use Rattle.tests_claims.proofs.inboxes.frames_are_true_of_what_was_taken.Goals as goal

pub returns-clause-processed : goal.returns-clause-processed
returns-clause-processed g c = λ w r side n taken.
    (tells g.C.Congestion.control c.frames_tell_of_what_was_taken.ensures w r side).taken_are_processed n taken

pub returns-clause-dropped : goal.returns-clause-dropped
returns-clause-dropped g c = λ w r side index ack n code frame bytes packet report kept there decoded acknowledges ack_fits told n_fits coded taken.
    (tells g.C.Congestion.control c.frames_tell_of_what_was_taken.ensures w r side).dropped_are_not_taken n code ack frame packet report
    (record { index = index; bytes = bytes; is_kept = kept; is_there = there; is_packet = decoded; acknowledges = acknowledges; ack_fits = ack_fits })
    told n_fits coded taken

pub returns-clause-missing : goal.returns-clause-missing
returns-clause-missing g c = λ w r side index ack n frame bytes packet report kept there decoded acknowledges ack_fits told floor_fits n_fits taken processed missing.
    false≢true
    ((tells g.C.Congestion.control c.frames_tell_of_what_was_taken.ensures w r side).taken_are_received n 3 ack frame packet report
    (record { index = index; bytes = bytes; is_kept = kept; is_there = there; is_packet = decoded; acknowledges = acknowledges; ack_fits = ack_fits })
    told floor_fits n_fits taken processed missing)
