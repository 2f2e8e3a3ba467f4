use Rattle.std.proofs.Common.{arith}
use Rattle.ack_vectors.specs.Vector.{room_of, set_states, vector_under}
use Rattle.ack_vectors.proofs.Options.{one-option, options-joined, options-read, options-fit, options-few, options-full, most-room}
use Rattle.ack_vectors.proofs.Telling.{room-vector}
use Rattle.ack_vectors.proofs.laws.the_options_of_a_vector_hold_it.Goals as goal

pub returns : goal.returns
returns c = record {
  joined = options-joined;
  read = options-read;
  each = λ vectors has floor ack.
      let fits = room-vector (room_of vectors) (set_states has) floor ack in
      options-fit (vector_under has floor ack vectors) (omega (arith, fits, most-room vectors));
  few = λ vectors has floor ack. options-few vectors (vector_under has floor ack vectors) (room-vector (room_of vectors) (set_states has) floor ack);
  one = one-option;
  full = options-full;
}
