use Rattle.tests_claims.proofs.Reached.{facts}
use Rattle.tests_claims.proofs.facts.records_and_frames_agree.Goals as goal

pub returns-clause-recorded : goal.returns-clause-recorded
returns-clause-recorded g c = λ w reached side r has.
    c.records_are_of_own_frames.ensures w.world (facts g.C.Congestion.control c.every_run_numbers_its_frames.ensures w reached) side r has

pub returns-clause-once : goal.returns-clause-once
returns-clause-once g c = λ w reached side index frame pair there.
    c.frames_say_one_thing_of_a_feature.ensures.once w.world (facts g.C.Congestion.control c.every_run_numbers_its_frames.ensures w reached) side index frame pair there

pub returns-clause-vectors : goal.returns-clause-vectors
returns-clause-vectors g c = λ w reached side index frame packet there is none.
    c.frames_say_one_thing_of_a_feature.ensures.vectors w.world (facts g.C.Congestion.control c.every_run_numbers_its_frames.ensures w reached) side index frame packet there is none
