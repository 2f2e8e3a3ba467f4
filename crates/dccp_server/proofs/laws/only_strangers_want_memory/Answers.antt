use Rattle.dccp_server.proofs.Tying.{calls_want_none, strangers, upkeeps_tied}
use Rattle.dccp_server.proofs.laws.only_strangers_want_memory.Goals as goal

pub returns-clause-kept : goal.returns-clause-kept
returns-clause-kept c = upkeeps_tied

pub returns-clause-memory : goal.returns-clause-memory
returns-clause-memory c = strangers

pub returns-clause-calls : goal.returns-clause-calls
returns-clause-calls c = calls_want_none
