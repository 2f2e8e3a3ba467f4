use Rattle.std.proofs.Common.{rules, refl}
use Rattle.congestion_trait.proofs.Halves.{in_end}
use Rattle.congestion_trait.proofs.flight.is_among.Goals as goal

pub returns-then-eq : goal.returns-then-eq
returns-then-eq c = (
  λ _. c.loop-newest.invariant.1
      (in_end c.in-Some.older.now c.in-Some.newest.now c.args.entry.now c.loop-newest.left.now c.in-Some.ensures.cases.0 (search rules)),
  λ _. refl,
)
