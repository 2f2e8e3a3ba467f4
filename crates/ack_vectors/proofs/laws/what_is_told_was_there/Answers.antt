use Rattle.ack_vectors.specs.Vector.{room_of, set_states}
use Rattle.ack_vectors.proofs.ReadBack.{plain-set}
use Rattle.ack_vectors.proofs.Telling.{told-there}
use Rattle.ack_vectors.proofs.laws.what_is_told_was_there.Goals as goal

pub returns : goal.returns
returns c = λ vectors has floor ack n state. told-there (room_of vectors) (set_states has) floor ack n state (plain-set has)
