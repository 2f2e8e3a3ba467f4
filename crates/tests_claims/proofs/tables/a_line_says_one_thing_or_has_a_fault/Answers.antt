use Rattle.tests_claims.proofs.Saying.{apart, either, one}
use Rattle.tests_claims.proofs.tables.a_line_says_one_thing_or_has_a_fault.Goals as goal

pub returns-clause-either : goal.returns-clause-either
returns-clause-either c = λ text.
    either text (c.lines_are_their_forms.ensures text) (c.the_first_fault_is_answered.ensures text)

pub returns-clause-apart : goal.returns-clause-apart
returns-clause-apart c = λ text said fault is has.
    apart text (c.lines_are_their_forms.ensures text) (c.the_first_fault_is_answered.ensures text) said fault is has

pub returns-clause-one : goal.returns-clause-one
returns-clause-one c = λ text said other is others.
    one text (c.lines_are_their_forms.ensures text) (c.the_first_fault_is_answered.ensures text) said other is others
