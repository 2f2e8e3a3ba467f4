use Rattle.std.proofs.Common.{ℕ, ◌<◌, subst, sym}
use Rattle.bridge_records.proofs.Times.{ten_some}
use Rattle.bridge_records.proofs.interfaces.units_of.Goals as goal

pub returns-then-resolution-lt20-clause-some : goal.returns-then-resolution-lt20-clause-some
returns-then-resolution-lt20-clause-some c = subst (λ (n : ℕ). 0 < n) (sym c.pow.ensures) (ten_some c.from.result)
