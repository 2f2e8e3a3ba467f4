use Rattle.dccp_server.proofs.Judging.{lives_change_nothing, rules_are_deeds}
use Rattle.dccp_server.proofs.laws.rules_are_deeds.Goals as goal

pub returns-clause-rules : goal.returns-clause-rules
returns-clause-rules c = rules_are_deeds

pub returns-clause-lives : goal.returns-clause-lives
returns-clause-lives c = lives_change_nothing
