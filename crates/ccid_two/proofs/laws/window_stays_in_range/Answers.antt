use Rattle.ccid_two.specs.Window.{first_state}
use Rattle.ccid_two.proofs.Range.{sound_run, sound_fresh}
use Rattle.ccid_two.proofs.laws.window_stays_in_range.Goals as goal

pub returns : goal.returns
returns c = record {
  low = λ calls. (sound_run first_state calls sound_fresh).low;
  high = λ calls. (sound_run first_state calls sound_fresh).high;
  threshold_low = λ calls. (sound_run first_state calls sound_fresh).threshold_low;
  threshold_high = λ calls. (sound_run first_state calls sound_fresh).threshold_high;
}
