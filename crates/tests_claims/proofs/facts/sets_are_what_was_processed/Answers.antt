use Rattle.tests_claims.proofs.Reached.{facts}
use Rattle.tests_claims.proofs.facts.sets_are_what_was_processed.Goals as goal

pub returns-clause-none_after : goal.returns-clause-none_after
returns-clause-none_after g c = λ w reached side n has after.
    c.sets_hold_what_was_processed.ensures.none_after w.world (facts g.C.Congestion.control c.every_run_numbers_its_frames.ensures w reached) side n has after

pub returns-clause-set : goal.returns-clause-set
returns-clause-set g c = λ w reached side n some fits from to.
    c.sets_hold_what_was_processed.ensures.set w.world (facts g.C.Congestion.control c.every_run_numbers_its_frames.ensures w reached) side n some fits from to

pub returns-clause-counted : goal.returns-clause-counted
returns-clause-counted g c = λ w reached side.
    c.sets_hold_what_was_processed.ensures.counted w.world (facts g.C.Congestion.control c.every_run_numbers_its_frames.ensures w reached) side

pub returns-clause-floor : goal.returns-clause-floor
returns-clause-floor g c = λ w reached side.
    c.sets_hold_what_was_processed.ensures.floor w.world (facts g.C.Congestion.control c.every_run_numbers_its_frames.ensures w reached) side

pub returns-clause-newest : goal.returns-clause-newest
returns-clause-newest g c = λ w reached side index frame packet not_closed some there is acking same.
    c.the_newest_acknowledgement_was_processed.ensures.processed w.world (facts g.C.Congestion.control c.every_run_numbers_its_frames.ensures w reached) side index frame packet not_closed some there is acking same

pub returns-clause-live : goal.returns-clause-live
returns-clause-live g c = λ w reached side index frame packet live there is acking same.
    c.the_newest_acknowledgement_was_processed.ensures.live w.world (facts g.C.Congestion.control c.every_run_numbers_its_frames.ensures w reached) side index frame packet live there is acking same

pub returns-clause-numbers : goal.returns-clause-numbers
returns-clause-numbers g c = λ w reached side bytes packet is reset.
    c.resets_move_nothing.ensures.numbers w.world (facts g.C.Congestion.control c.every_run_numbers_its_frames.ensures w reached) side bytes packet is reset

pub returns-clause-kept : goal.returns-clause-kept
returns-clause-kept g c = λ w reached side bytes packet is reset.
    c.resets_move_nothing.ensures.kept w.world (facts g.C.Congestion.control c.every_run_numbers_its_frames.ensures w reached) side bytes packet is reset
