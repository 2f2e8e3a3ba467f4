use Rattle.tests_claims.proofs.Reached.{safe}
use Rattle.tests_claims.proofs.worlds.what_lies_below_a_floor_was_told.Goals as goal

pub returns : goal.returns
returns g c = λ w reached side iss first count floor fits some above below early few isr is_floor untold among.
    c.what_none_told_is_far_below.ensures.by_counts w (safe g.C.Congestion.control c.every_run_is_safe.ensures w reached) side iss first count floor fits some above below early few isr is_floor untold among
