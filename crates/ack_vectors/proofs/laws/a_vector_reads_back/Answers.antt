use Rattle.ack_vectors.specs.Vector.{room_of, set_states}
use Rattle.ack_vectors.proofs.ReadBack.{plain-set, read_back, reach_at_most, whole_reaches}
use Rattle.ack_vectors.proofs.laws.a_vector_reads_back.Goals as goal

pub returns : goal.returns
returns c = record {
  states = λ vectors has floor ack n b d. read_back (room_of vectors) (set_states has) floor ack n (plain-set has) b d;
  reach = λ vectors has floor ack. reach_at_most (room_of vectors) (set_states has) floor ack (plain-set has);
  whole = λ vectors has floor ack. whole_reaches (room_of vectors) (set_states has) floor ack (plain-set has);
  any_states = read_back;
  any_reach = reach_at_most;
  any_whole = whole_reaches;
}
