use Rattle.std.proofs.Common.{ap}
use Rattle.ack_vectors.specs.Kept.{ReceivedState}
use Rattle.ack_vectors.proofs.Records.{acked-none, acked-some}
use Rattle.ack_vectors.proofs.laws.acknowledging_raises_the_floor.Goals as goal

pub returns : goal.returns
returns c = record {
  some = λ kept n one h. ap (λ (k : ReceivedState). k.set) (acked-some kept n one h);
  none = acked-none;
}
