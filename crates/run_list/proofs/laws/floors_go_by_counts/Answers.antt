use Rattle.run_list.proofs.Floors.{marked-count, raised-count, under-count}
use Rattle.run_list.proofs.laws.floors_go_by_counts.Goals as goal

pub returns : goal.returns
returns c = record { marked = marked-count; raised = raised-count; later = under-count }
