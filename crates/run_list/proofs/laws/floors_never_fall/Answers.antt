use Rattle.run_list.proofs.Floors.{from-marked, from-raised}
use Rattle.run_list.proofs.laws.floors_never_fall.Goals as goal

pub returns : goal.returns
returns c = record { marked = from-marked; raised = from-raised }
