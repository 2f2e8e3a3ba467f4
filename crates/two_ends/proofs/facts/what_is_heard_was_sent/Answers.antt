use Rattle.std.proofs.Common.{◌≡◌, ap, sym, ◌∙◌, subst, inl, inr, ℕ, ◌<◌, ◌≤◌, true, arith}
use Rattle.world_events.specs.Actors.{other}
use Rattle.world_events.specs.declared.event.Side.{Side}
use Rattle.two_ends.specs.Numbered.{Facts, Hears}
use Rattle.two_ends.specs.Placed.{count_of_own_numbers}
use Rattle.two_ends.specs.World.{WorldState, half_of}
use Rattle.two_ends.proofs.OfWorlds.Placing.{all-of-side}
use Rattle.two_ends.proofs.facts.what_is_heard_was_sent.Goals as goal

counted : (w : WorldState) (facts : Facts w) (side : Side)
    → (facts.numbered side).count ≡ count_of_own_numbers (half_of w side).end.config.role (half_of w side).frames
counted w facts side =
    all-of-side (half_of w side).end.config.role (half_of w side).end.marks.iss (facts.numbered side).count (half_of w side).frames
    (facts.numbered side).in_order

pub returns-clause-heard : goal.returns-clause-heard
returns-clause-heard c = λ w facts side entered.
    elim (facts.heard side) [
      | inl unset ↦ elim entered [
        | inl live ↦ (let dead = unset.not_live in cc (live, dead))
        | inr some ↦ absurd (some unset.no_first unset.no_greatest)
      ]
      | inr sent ↦ (
        sent.first.place,
        sent.greatest.place,
        sent.in_order,
        omega (arith, sent.greatest.was_sent, counted w facts (other side)),
        sent.first.same,
        sent.greatest.same,
      )
    ]

pub returns-clause-acknowledged : goal.returns-clause-acknowledged
returns-clause-acknowledged c = λ w facts side some.
    let known = facts.acknowledged side (omega (arith, some, counted w facts side)) in
    (known.place, omega (arith, known.was_sent, counted w facts side), known.same)
