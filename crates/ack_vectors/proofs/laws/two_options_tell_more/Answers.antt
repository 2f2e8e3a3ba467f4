use Rattle.std.proofs.Common.{arith, sym, take-take}
use Rattle.ack_vectors.specs.Vector.{all_bytes, set_states}
use Rattle.ack_vectors.proofs.Options.{whole-alike, more-told}
use Rattle.ack_vectors.proofs.laws.two_options_tell_more.Goals as goal

pub returns : goal.returns
returns c = record {
  front = λ has floor ack. sym (take-take 253 506 (all_bytes (set_states has) floor ack) (omega arith));
  whole = whole-alike;
  more = more-told;
}
