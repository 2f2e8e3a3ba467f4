use Rattle.dccp_options.proofs.ReadVectors.{report-written, report-first, report-none}
use Rattle.dccp_options.proofs.laws.a_report_is_what_was_written.Goals as goal

pub returns-clause-every : goal.returns-clause-every
returns-clause-every c = report-written

pub returns-clause-one : goal.returns-clause-one
returns-clause-one c = report-first

pub returns-clause-none : goal.returns-clause-none
returns-clause-none c = report-none
