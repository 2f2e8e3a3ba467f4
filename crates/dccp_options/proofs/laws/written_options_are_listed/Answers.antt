use Rattle.dccp_options.proofs.ReadBack.{options_of-written, written-more}
use Rattle.dccp_options.proofs.laws.written_options_are_listed.Goals as goal

pub returns-clause-listed : goal.returns-clause-listed
returns-clause-listed c = options_of-written

pub returns-clause-one_more : goal.returns-clause-one_more
returns-clause-one_more c = written-more
