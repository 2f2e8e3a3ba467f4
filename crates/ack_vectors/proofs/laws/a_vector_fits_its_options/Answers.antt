use Rattle.ack_vectors.specs.Vector.{room_of, set_states}
use Rattle.ack_vectors.proofs.Telling.{bits-set, room-vector, bytes-vector}
use Rattle.ack_vectors.proofs.laws.a_vector_fits_its_options.Goals as goal

pub returns : goal.returns
returns c = record {
  fits = λ vectors has floor ack. room-vector (room_of vectors) (set_states has) floor ack;
  bytes = λ vectors has floor ack. bytes-vector (room_of vectors) (set_states has) floor ack (bits-set has);
  any_fits = room-vector;
  any_bytes = bytes-vector;
}
