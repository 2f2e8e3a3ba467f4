use Rattle.tests_claims.proofs.Reached.{safe}
use Rattle.tests_claims.proofs.worlds.each_number_is_processed_once.Goals as goal

pub returns-clause-once : goal.returns-clause-once
returns-clause-once g c = λ w reached side early n one other.
    c.no_number_is_processed_again.ensures.apart w (safe g.C.Congestion.control c.every_run_is_safe.ensures w reached) side early n one other

pub returns-clause-sent : goal.returns-clause-sent
returns-clause-sent g c = λ w reached side n resets has.
    c.no_number_is_processed_again.ensures.sent w (safe g.C.Congestion.control c.every_run_is_safe.ensures w reached) side n resets has

pub returns-clause-heard : goal.returns-clause-heard
returns-clause-heard g c = λ w reached side n reported.
    c.what_is_reported_arrived.ensures.processed w (safe g.C.Congestion.control c.every_run_is_safe.ensures w reached) side n reported
