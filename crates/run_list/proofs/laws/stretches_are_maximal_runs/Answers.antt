use Rattle.std.proofs.Common.{arith}
use Rattle.run_list.specs.MarkedSet.{MarkedSet, IsSound}
use Rattle.run_list.proofs.Found.{laid-stretches}
use Rattle.run_list.proofs.laws.stretches_are_maximal_runs.Goals as goal

pub returns : goal.returns
returns c = record {
  numbers = λ (set : MarkedSet) (s : IsSound set). (laid-stretches set.floor 2048 set.numbers s.floor_fits (omega arith) s.falling).1;
  apart = λ (set : MarkedSet) (s : IsSound set). (laid-stretches set.floor 2048 set.numbers s.floor_fits (omega arith) s.falling).0;
}
