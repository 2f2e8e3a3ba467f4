use Rattle.feature_machine.proofs.Causes.{late_ignored, no_number, before_number, unsent}
use Rattle.feature_machine.proofs.laws.late_confirms_are_ignored.Goals as goal

pub returns-clause-without : goal.returns-clause-without
returns-clause-without c = λ row body changing. late_ignored row body _ changing (no_number row.opened)

pub returns-clause-before : goal.returns-clause-before
returns-clause-before c = λ row body opened ack changing is before. late_ignored row body _ changing (before_number row.opened opened ack is before)

pub returns-clause-unsent : goal.returns-clause-unsent
returns-clause-unsent c = λ row body ack changing is. late_ignored row body ack changing (unsent row.opened ack is)
