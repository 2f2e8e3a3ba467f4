use Rattle.two_ends_progress.proofs.Leading.{passive-at}
use Rattle.two_ends_progress.proofs.laws.closing_takes_seven_events.Goals as goal

pub returns-clause-few : goal.returns-clause-few
returns-clause-few g c = λ w way. way.few

pub returns-clause-passive : goal.returns-clause-passive
returns-clause-passive g c = λ w way place e there. passive-at way.events place e way.are_passive there

pub returns-clause-over : goal.returns-clause-over
returns-clause-over g c = λ w way side. way.leads side
