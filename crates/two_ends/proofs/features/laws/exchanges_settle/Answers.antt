use Rattle.two_ends.proofs.OfFeatures.FeatureRunning.{asked_reached, crossing_reached}
use Rattle.two_ends.proofs.features.laws.exchanges_settle.Goals as goal

pub returns-clause-asked : goal.returns-clause-asked
returns-clause-asked c = λ pair servers clients may. ∣ asked_reached pair servers clients may ∣₁

pub returns-clause-crossing : goal.returns-clause-crossing
returns-clause-crossing c = λ pair servers clients servers_may clients_may.
    ∣ crossing_reached pair servers clients servers_may clients_may ∣₁
