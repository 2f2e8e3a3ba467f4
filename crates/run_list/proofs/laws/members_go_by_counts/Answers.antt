use Rattle.run_list.proofs.Floors.{marked-member, raised-member}
use Rattle.run_list.proofs.laws.members_go_by_counts.Goals as goal

pub returns : goal.returns
returns c = record { marked = marked-member; raised = raised-member }
