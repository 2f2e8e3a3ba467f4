use Rattle.ack_vectors.specs.Vector.{room_of, set_states}
use Rattle.ack_vectors.proofs.ReadBack.{plain-set}
use Rattle.ack_vectors.proofs.Telling.{whole-tells}
use Rattle.ack_vectors.proofs.laws.a_whole_vector_tells_all.Goals as goal

pub returns : goal.returns
returns c = λ vectors has floor ack n. whole-tells (room_of vectors) (set_states has) floor ack n (plain-set has)
