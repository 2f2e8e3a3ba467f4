use Rattle.two_ends_progress.proofs.Greatest.{greatest-met}
use Rattle.two_ends_progress.proofs.laws.the_greatest_number_was_processed_or_refused.Goals as goal

pub returns : goal.returns
returns g c = λ start events begins side.
    greatest-met g.C.Congestion.control start c.every_step_has_one_effect.ensures begins events side
