use Rattle.run_list.proofs.Floors.{floor-raised, passed-raised}
use Rattle.run_list.proofs.laws.raising_moves_the_floor.Goals as goal

pub returns : goal.returns
returns c = record { floor = floor-raised; passed = passed-raised }
