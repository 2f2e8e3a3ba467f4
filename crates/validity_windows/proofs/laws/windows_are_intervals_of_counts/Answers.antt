use Rattle.validity_windows.proofs.Counts.{sequence-count, ack-count, greatest-count, acked-count, no_end-count}
use Rattle.validity_windows.proofs.laws.windows_are_intervals_of_counts.Goals as goal

pub returns-clause-sequence : goal.returns-clause-sequence
returns-clause-sequence c = sequence-count

pub returns-clause-acknowledgement : goal.returns-clause-acknowledgement
returns-clause-acknowledgement c = ack-count

pub returns-clause-after_greatest : goal.returns-clause-after_greatest
returns-clause-after_greatest c = greatest-count

pub returns-clause-from_greatest_acknowledged : goal.returns-clause-from_greatest_acknowledged
returns-clause-from_greatest_acknowledged c = acked-count

pub returns-clause-no_upper_end : goal.returns-clause-no_upper_end
returns-clause-no_upper_end c = no_end-count
