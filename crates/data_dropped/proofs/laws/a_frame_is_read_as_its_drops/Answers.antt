use Rattle.data_dropped.proofs.Telling.{read_as_drops}
use Rattle.data_dropped.proofs.laws.a_frame_is_read_as_its_drops.Goals as goal

pub returns : goal.returns
returns c = read_as_drops
