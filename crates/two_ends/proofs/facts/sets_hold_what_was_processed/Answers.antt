use Rattle.two_ends.proofs.facts.sets_hold_what_was_processed.Goals as goal

pub returns-clause-none_after : goal.returns-clause-none_after
returns-clause-none_after c = λ w facts side n has_it before. (facts.processed side).none_after n has_it before

pub returns-clause-set : goal.returns-clause-set
returns-clause-set c = λ w facts side n some small from upto. (facts.processed side).set n some small from upto

pub returns-clause-counted : goal.returns-clause-counted
returns-clause-counted c = λ w facts side. (facts.processed side).counted

pub returns-clause-floor : goal.returns-clause-floor
returns-clause-floor c = λ w facts side. (facts.processed side).floor
