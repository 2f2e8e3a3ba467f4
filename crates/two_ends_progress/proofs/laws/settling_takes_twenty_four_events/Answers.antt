use Rattle.two_ends_progress.proofs.Settled.{ends-or-opens, settled-there}
use Rattle.two_ends_progress.proofs.Leading.{passive-at}
use Rattle.two_ends_progress.proofs.laws.settling_takes_twenty_four_events.Goals as goal
use Rattle.feature_lists.specs.declared.features.Place.TheVariants.{Here, There}

pub returns-clause-few : goal.returns-clause-few
returns-clause-few g c = λ w way. way.few

pub returns-clause-passive : goal.returns-clause-passive
returns-clause-passive g c = λ w way place e there. passive-at way.events place e way.are_passive there

pub returns-clause-opened : goal.returns-clause-opened
returns-clause-opened g c = λ w way. ends-or-opens _ way.leads

pub returns-clause-settled : goal.returns-clause-settled
returns-clause-settled g c = λ w way opened side feature place. (settled-there _ way.leads opened).are_settled side feature place

pub returns-clause-clients : goal.returns-clause-clients
returns-clause-clients g c = λ w way opened feature. (settled-there _ way.leads opened).hold_one_value feature Here

pub returns-clause-servers : goal.returns-clause-servers
returns-clause-servers g c = λ w way opened feature. (settled-there _ way.leads opened).hold_one_value feature There
