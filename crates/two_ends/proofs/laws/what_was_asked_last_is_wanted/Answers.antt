use Rattle.two_ends.proofs.OfFeatures.Preferring.{last-asked-wanted, unasked-wanted}
use Rattle.two_ends.proofs.laws.what_was_asked_last_is_wanted.Goals as goal

pub returns-clause-asked : goal.returns-clause-asked
returns-clause-asked g c = λ start events begins side feature place values last.
    last-asked-wanted g.C.Congestion.control c.every_step_has_one_effect.ensures start events begins side feature place values last

pub returns-clause-configured : goal.returns-clause-configured
returns-clause-configured g c = λ start events begins side feature place none.
    unasked-wanted g.C.Congestion.control c.every_step_has_one_effect.ensures start events begins side feature place none
