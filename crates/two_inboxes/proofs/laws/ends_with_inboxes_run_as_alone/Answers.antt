use Rattle.two_inboxes.proofs.Alone.{run_as_alone}
use Rattle.two_inboxes.proofs.laws.ends_with_inboxes_run_as_alone.Goals as goal

pub returns : goal.returns
returns g c = run_as_alone g.C.Congestion.control c.every_step_has_one_effect.ensures
