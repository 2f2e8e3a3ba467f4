use Rattle.two_ends.proofs.facts.resets_move_nothing.Goals as goal

pub returns-clause-numbers : goal.returns-clause-numbers
returns-clause-numbers c = λ w facts side bytes packet read reset.
    let keeps = facts.unmoved side bytes packet read reset in
    (keeps.first, keeps.greatest, keeps.opening, keeps.acknowledged)

pub returns-clause-kept : goal.returns-clause-kept
returns-clause-kept c = λ w facts side bytes packet read reset.
    let keeps = facts.unmoved side bytes packet read reset in
    (keeps.rows, keeps.set, keeps.marked)
