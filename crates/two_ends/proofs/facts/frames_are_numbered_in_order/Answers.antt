use Rattle.std.proofs.Common.{◌≡◌, ap, sym, ◌∙◌, ℕ, ◌+◌, ◌-◌, ◌^◌}
use Rattle.seq_circle.specs.Circle.{residue}
use Rattle.two_ends.specs.World.{half_of}
use Rattle.two_ends.proofs.OfWorlds.Placing.{all-of-side, bare-at, number-of-side}
use Rattle.two_ends.proofs.facts.frames_are_numbered_in_order.Goals as goal

pub returns-clause-number : goal.returns-clause-number
returns-clause-number c = λ w facts side index frame there own.
    number-of-side (half_of w side).end.config.role (half_of w side).end.marks.iss (facts.numbered side).count (half_of w side).frames
    (facts.numbered side).in_order index frame there own

pub returns-clause-greatest : goal.returns-clause-greatest
returns-clause-greatest c = λ w facts side.
    (facts.numbered side).up_to_greatest
    ∙ ap (λ (count : ℕ). residue ((half_of w side).end.marks.iss + count + (2 ^ 48 - 1)))
    (all-of-side (half_of w side).end.config.role (half_of w side).end.marks.iss (facts.numbered side).count (half_of w side).frames
    (facts.numbered side).in_order)

pub returns-clause-few : goal.returns-clause-few
returns-clause-few c = λ w facts side. (facts.numbered side).few_frames

pub returns-clause-bare : goal.returns-clause-bare
returns-clause-bare c = λ w facts side index frame there not_own.
    bare-at (half_of w side).end.config.role (half_of w side).end.marks.iss 0 (facts.numbered side).count (half_of w side).frames
    (facts.numbered side).in_order index frame there not_own
