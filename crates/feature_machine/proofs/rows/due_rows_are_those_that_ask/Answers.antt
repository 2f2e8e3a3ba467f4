use Rattle.feature_machine.proofs.DueKeys.{due_order, due_asks, due_distinct, every_stands}
use Rattle.feature_machine.proofs.rows.due_rows_are_those_that_ask.Goals as goal

pub returns-clause-order : goal.returns-clause-order
returns-clause-order c = due_order

pub returns-clause-asks : goal.returns-clause-asks
returns-clause-asks c = due_asks

pub returns-clause-distinct : goal.returns-clause-distinct
returns-clause-distinct c = due_distinct

pub returns-clause-every : goal.returns-clause-every
returns-clause-every c = every_stands
