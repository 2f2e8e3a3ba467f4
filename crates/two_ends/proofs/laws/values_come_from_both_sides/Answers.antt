use Rattle.two_ends.specs.Pairs.{held_at}
use Rattle.two_ends.proofs.OfWorlds.Consequences.{from-silent, from-apart, from-untold, of-lists, of-location}
use Rattle.two_ends.proofs.laws.values_come_from_both_sides.Goals as goal

pub returns-clause-silent : goal.returns-clause-silent
returns-clause-silent g c =
    λ w safe pair quiet side priority none. from-silent w.world pair (held_at w.world pair side).value quiet priority none (safe.given pair side)

pub returns-clause-apart : goal.returns-clause-apart
returns-clause-apart g c = λ w safe pair side priority apart. from-apart w.world pair (held_at w.world pair side).value priority apart (safe.given pair side)

pub returns-clause-untold : goal.returns-clause-untold
returns-clause-untold g c = λ w safe pair side located none. from-untold w.world pair (held_at w.world pair side).value located none (safe.given pair side)

pub returns-clause-listed : goal.returns-clause-listed
returns-clause-listed g c = λ w safe pair side priority other. of-lists w.world pair (held_at w.world pair side).value priority other (safe.given pair side)

pub returns-clause-said : goal.returns-clause-said
returns-clause-said g c = λ w safe pair side located other. of-location w.world pair (held_at w.world pair side).value located other (safe.given pair side)
