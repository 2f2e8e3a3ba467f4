use Rattle.ack_vectors.specs.Vector.{option_room}
use Rattle.ack_vectors.proofs.ReadBack.{read_back, whole_reaches}
use Rattle.ack_vectors.proofs.Telling.{room-vector}
use Rattle.dccp_ecn.specs.EcnVector.{ecn_states}
use Rattle.dccp_ecn.proofs.Zeros.{plain-ecn}
use Rattle.dccp_ecn.proofs.laws.a_vector_with_marks_reads_back.Goals as goal

pub returns : goal.returns
returns c = record {
  states = λ e ack n fits n_fits. read_back option_room (ecn_states e) e.set.floor ack n (plain-ecn e) fits n_fits;
  fits = λ e ack. room-vector option_room (ecn_states e) e.set.floor ack;
  whole = λ e ack. whole_reaches option_room (ecn_states e) e.set.floor ack (plain-ecn e);
}
