use Rattle.data_dropped.proofs.ReadBack.{all_codes_read, codes_read_back, only_codes_read, reaches_at_most, report_fits}
use Rattle.data_dropped.proofs.laws.a_report_of_drops_reads_back.Goals as goal

pub returns-clause-codes : goal.returns-clause-codes
returns-clause-codes c = codes_read_back

pub returns-clause-only : goal.returns-clause-only
returns-clause-only c = only_codes_read

pub returns-clause-all : goal.returns-clause-all
returns-clause-all c = all_codes_read

pub returns-clause-within : goal.returns-clause-within
returns-clause-within c = reaches_at_most

pub returns-clause-fits : goal.returns-clause-fits
returns-clause-fits c = report_fits
