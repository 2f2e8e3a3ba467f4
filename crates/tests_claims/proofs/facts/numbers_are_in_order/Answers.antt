use Rattle.tests_claims.proofs.Reached.{facts}
use Rattle.tests_claims.proofs.facts.numbers_are_in_order.Goals as goal

pub returns-clause-number : goal.returns-clause-number
returns-clause-number g c = λ w reached side index frame there own.
    c.frames_are_numbered_in_order.ensures.number w.world (facts g.C.Congestion.control c.every_run_numbers_its_frames.ensures w reached) side index frame there own

pub returns-clause-greatest : goal.returns-clause-greatest
returns-clause-greatest g c = λ w reached side.
    c.frames_are_numbered_in_order.ensures.greatest w.world (facts g.C.Congestion.control c.every_run_numbers_its_frames.ensures w reached) side

pub returns-clause-few : goal.returns-clause-few
returns-clause-few g c = λ w reached side.
    c.frames_are_numbered_in_order.ensures.few w.world (facts g.C.Congestion.control c.every_run_numbers_its_frames.ensures w reached) side

pub returns-clause-bare : goal.returns-clause-bare
returns-clause-bare g c = λ w reached side index frame there not_own.
    c.frames_are_numbered_in_order.ensures.bare w.world (facts g.C.Congestion.control c.every_run_numbers_its_frames.ensures w reached) side index frame there not_own

pub returns-clause-heard : goal.returns-clause-heard
returns-clause-heard g c = λ w reached side hears.
    c.what_is_heard_was_sent.ensures.heard w.world (facts g.C.Congestion.control c.every_run_numbers_its_frames.ensures w reached) side hears

pub returns-clause-acknowledged : goal.returns-clause-acknowledged
returns-clause-acknowledged g c = λ w reached side some.
    c.what_is_heard_was_sent.ensures.acknowledged w.world (facts g.C.Congestion.control c.every_run_numbers_its_frames.ensures w reached) side some
