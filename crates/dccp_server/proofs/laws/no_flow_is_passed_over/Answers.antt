use Rattle.dccp_server.proofs.Soonest.{each_may_stay, none_passed_over}
use Rattle.dccp_server.proofs.laws.no_flow_is_passed_over.Goals as goal

pub returns-clause-due : goal.returns-clause-due
returns-clause-due c = none_passed_over

pub returns-clause-stays : goal.returns-clause-stays
returns-clause-stays c = each_may_stay
