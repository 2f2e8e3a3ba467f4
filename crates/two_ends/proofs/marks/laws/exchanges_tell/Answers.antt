use Rattle.std.proofs.Common.{refl}
use Rattle.two_ends.proofs.OfMarks.MarkReachable.{exchange_is_reachable}
use Rattle.two_ends.proofs.marks.laws.exchanges_tell.Goals as goal

pub returns-clause-reached : goal.returns-clause-reached
returns-clause-reached c = exchange_is_reachable

pub returns-clause-first : goal.returns-clause-first
returns-clause-first c = refl

pub returns-clause-floor : goal.returns-clause-floor
returns-clause-floor c = refl

pub returns-clause-reported : goal.returns-clause-reported
returns-clause-reported c = refl
