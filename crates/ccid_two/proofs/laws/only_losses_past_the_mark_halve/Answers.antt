use Rattle.ccid_two.specs.Window.{first_state, ccid_control}
use Rattle.congestion_trait.specs.Calls.{run}
use Rattle.ccid_two.proofs.Range.{falls_where_congested, sound_run, sound_fresh}
use Rattle.ccid_two.proofs.laws.only_losses_past_the_mark_halve.Goals as goal

pub returns : goal.returns
returns c = λ calls states ratio falls.
    falls_where_congested (run ccid_control first_state calls) states ratio (sound_run first_state calls sound_fresh) falls
