use Rattle.two_inboxes.proofs.Apart.{tell_of_their_data}
use Rattle.two_inboxes.proofs.laws.frames_tell_of_what_was_taken.Goals as goal

pub returns : goal.returns
returns g c = tell_of_their_data g.C.Congestion.control c.every_step_has_one_effect.ensures c.every_run_is_safe.ensures
