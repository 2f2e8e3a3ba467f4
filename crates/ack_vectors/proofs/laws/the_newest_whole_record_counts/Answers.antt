use Rattle.std.proofs.Common.{None}
use Rattle.ack_vectors.proofs.Records.{newest_from-last, newest_from-some, newest_whole-there}
use Rattle.ack_vectors.proofs.laws.the_newest_whole_record_counts.Goals as goal

pub returns : goal.returns
returns c = record {
  newest = λ n records last. newest_from-last n None records last;
  any = λ n records. newest_from-some n None records;
  kept = newest_whole-there;
}
