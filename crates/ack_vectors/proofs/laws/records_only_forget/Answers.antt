use Rattle.std.proofs.Common.{refl}
use Rattle.ack_vectors.specs.Kept.{newest_whole}
use Rattle.ack_vectors.proofs.Records.{recorded-there, raised_by-records}
use Rattle.ack_vectors.proofs.laws.records_only_forget.Goals as goal

pub returns : goal.returns
returns c = record {
  recorded = recorded-there;
  marked = λ kept n. refl;
  acked = λ kept n. raised_by-records kept (newest_whole n kept.records);
}
