use Rattle.std.proofs.Common.{ap}
use Rattle.ack_vectors.specs.Vector.{room_of, state_told, set_states}
use Rattle.ack_vectors.proofs.ReadBack.{vector-same}
use Rattle.ack_vectors.proofs.laws.a_vector_looks_between_floor_and_acknowledgement.Goals as goal

pub returns : goal.returns
returns c = record {
  bytes = λ vectors one other floor ack a b h.
      (vector-same (room_of vectors) (set_states one) (set_states other) floor ack a b (λ n d e f. ap state_told (h n d e f))).0;
  whole = λ vectors one other floor ack a b h.
      (vector-same (room_of vectors) (set_states one) (set_states other) floor ack a b (λ n d e f. ap state_told (h n d e f))).1;
  any_bytes = λ room one other floor ack a b h. (vector-same room one other floor ack a b h).0;
  any_whole = λ room one other floor ack a b h. (vector-same room one other floor ack a b h).1;
}
