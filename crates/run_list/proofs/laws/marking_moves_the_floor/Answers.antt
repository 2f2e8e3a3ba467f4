use Rattle.run_list.proofs.Floors.{floor-marked, floor-near, floor-far, marked-joins, floor-above, passed-marked}
use Rattle.run_list.proofs.Sets.{reach}
use Rattle.run_list.proofs.laws.marking_moves_the_floor.Goals as goal

pub returns : goal.returns
returns c = record {
  floor = floor-marked;
  stays = floor-near;
  rises = floor-far;
  joined = marked-joins;
  above = floor-above;
  passed = passed-marked;
  under =
      reach;
}
