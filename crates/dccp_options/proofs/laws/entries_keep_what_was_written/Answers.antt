use Rattle.dccp_options.proofs.ReadBack.{items-entries_at, said-entries_at}
use Rattle.dccp_options.proofs.laws.entries_keep_what_was_written.Goals as goal

pub returns-clause-items : goal.returns-clause-items
returns-clause-items c = items-entries_at

pub returns-clause-said : goal.returns-clause-said
returns-clause-said c = said-entries_at
