use Rattle.tests_claims.proofs.Reached.{safe}
use Rattle.tests_claims.proofs.worlds.each_value_was_given.Goals as goal

pub returns-clause-listed : goal.returns-clause-listed
returns-clause-listed g c = λ w reached pair side listed other.
    c.values_come_from_both_sides.ensures.listed w (safe g.C.Congestion.control c.every_run_is_safe.ensures w reached) pair side listed other

pub returns-clause-said : goal.returns-clause-said
returns-clause-said g c = λ w reached pair side single other.
    c.values_come_from_both_sides.ensures.said w (safe g.C.Congestion.control c.every_run_is_safe.ensures w reached) pair side single other

pub returns-clause-silent : goal.returns-clause-silent
returns-clause-silent g c = λ w reached pair quiet side listed none.
    c.values_come_from_both_sides.ensures.silent w (safe g.C.Congestion.control c.every_run_is_safe.ensures w reached) pair quiet side listed none

pub returns-clause-apart : goal.returns-clause-apart
returns-clause-apart g c = λ w reached pair side listed apart.
    c.values_come_from_both_sides.ensures.apart w (safe g.C.Congestion.control c.every_run_is_safe.ensures w reached) pair side listed apart

pub returns-clause-untold : goal.returns-clause-untold
returns-clause-untold g c = λ w reached pair side single none.
    c.values_come_from_both_sides.ensures.untold w (safe g.C.Congestion.control c.every_run_is_safe.ensures w reached) pair side single none
