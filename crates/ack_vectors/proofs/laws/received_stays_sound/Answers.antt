use Rattle.run_list.proofs.Sets.{sound-marked}
use Rattle.ack_vectors.proofs.Records.{acked-sound}
use Rattle.ack_vectors.proofs.laws.received_stays_sound.Goals as goal

pub returns : goal.returns
returns c = record {
  fresh = λ floor fits. record { floor_fits = fits; falling = tt };
  marked = λ kept n s fits. sound-marked kept.set n s fits;
  recorded = λ kept number ack whole s. s;
  acked = acked-sound;
}
