-- The windows in plain counts, of which the marks are the residues.
use Rattle.std.proofs.Common.{◌≡◌, ℕ, ◌+◌, ◌-◌, ◌*◌, ◌/◌, ◌^◌, ◌<◌, ◌≤◌, ◌↔◌, max, inl, inr, arith, rules, ◌∙◌}
use Rattle.std.proofs.lemmas.Bool.{cases_lt}
use Rattle.seq_circle.specs.Circle.{residue, distance, down, later_of, open_end, IsWithin}
use Rattle.validity_windows.specs.declared.marks.Marks.{Marks}
use Rattle.validity_windows.specs.Windows.{InRange, sequence_low, sequence_high, ack_low, ack_high}

pub later_of-before : (a b : ℕ) → 1 ≤ distance a b → distance a b < 2 ^ 47 → later_of a b ≡ b
later_of-before a b low high = search rules

pub later_of-same : (a b : ℕ) → distance a b ≡ 0 → later_of a b ≡ a
later_of-same a b none = search rules

pub later_of-past : (a b : ℕ) → 2 ^ 47 ≤ distance a b → later_of a b ≡ a
later_of-past a b far = search rules

-- the low end of a window: this many below the greatest, but nothing before the first
pub low-count : (first greatest width f g : ℕ) → f ≡ residue first → g ≡ residue greatest → width < 2 ^ 46 → first ≤ greatest
    → greatest < first + 2 ^ 47 → later_of (down (residue (g + 1)) width) f ≡ residue (max (greatest + 1 - width) first)
low-count first greatest width f g ef eg small from within =
    let low : ℕ = down (residue (g + 1)) width in
    elim (cases_lt (greatest + 1) (first + width)) [
      | inl below ↦ later_of-before low f (omega arith) (omega arith) ∙ omega arith
      | inr above ↦ elim (cases_lt (first + width) (greatest + 1)) [
        | inl past ↦ later_of-past low f (omega arith) ∙ omega arith
        | inr level ↦ later_of-same low f (omega arith) ∙ omega arith
      ]
    ]

-- an interval of the circle is one of counts, for counts from the first on within one turn
pub within-count : (first low high n l h : ℕ) → l ≡ residue low → h ≡ residue high → first ≤ low → low ≤ first + 2 ^ 47 → low ≤ high
    → high < low + 2 ^ 47 → first ≤ n → n < first + 2 ^ 48 → IsWithin (residue n) l h ↔ ((low ≤ n) × (n ≤ high))
within-count first low high n l h el eh from near up wide after within =
    (λ inside. (omega arith, omega arith), λ inside. omega arith)

-- and so is one with no upper end
pub from-count : (first low n l : ℕ) → l ≡ residue low → first ≤ low → low < first + 2 ^ 47 → first ≤ n → n < first + 2 ^ 48
    → IsWithin (residue n) l (open_end l) ↔ ((low ≤ n) × (n < low + 2 ^ 47))
from-count first low n l el from near after within =
    (λ inside. (omega arith, omega arith), λ inside. omega arith)

pub sequence-count : (m : Marks) (isr gsr n : ℕ) → InRange m → m.isr ≡ residue isr → m.gsr ≡ residue gsr → isr ≤ gsr → gsr < isr + 2 ^ 47
    → isr ≤ n → n < isr + 2 ^ 48
    → IsWithin (residue n) (sequence_low m) (sequence_high m)
    ↔ ((max (gsr + 1 - m.peer_w / 4) isr ≤ n) × (n ≤ gsr + (3 * m.peer_w + 3) / 4))
sequence-count m isr gsr n range ei eg from within after near =
    within-count isr (max (gsr + 1 - m.peer_w / 4) isr) (gsr + (3 * m.peer_w + 3) / 4) n (sequence_low m) (sequence_high m)
    (low-count isr gsr (m.peer_w / 4) m.isr m.gsr ei eg (omega arith) from within)
    (omega arith) (omega arith) (omega arith) (omega arith) (omega arith) after near

pub ack-count : (m : Marks) (iss gss n : ℕ) → InRange m → m.iss ≡ residue iss → m.gss ≡ residue gss → iss ≤ gss → gss < iss + 2 ^ 47
    → iss ≤ n → n < iss + 2 ^ 48
    → IsWithin (residue n) (ack_low m) (ack_high m) ↔ ((max (gss + 1 - m.own_w) iss ≤ n) × (n ≤ gss))
ack-count m iss gss n range ei eg from within after near =
    within-count iss (max (gss + 1 - m.own_w) iss) gss n (ack_low m) (ack_high m)
    (low-count iss gss m.own_w m.iss m.gss ei eg (omega arith) from within)
    eg (omega arith) (omega arith) (omega arith) (omega arith) after near

pub greatest-count : (m : Marks) (isr gsr n : ℕ) → InRange m → m.gsr ≡ residue gsr → isr ≤ gsr → gsr < isr + 2 ^ 47
    → isr ≤ n → n < isr + 2 ^ 48
    → IsWithin (residue n) (residue (m.gsr + 1)) (sequence_high m) ↔ ((gsr < n) × (n ≤ gsr + (3 * m.peer_w + 3) / 4))
greatest-count m isr gsr n range eg from within after near =
    let counts =
    within-count isr (gsr + 1) (gsr + (3 * m.peer_w + 3) / 4) n (residue (m.gsr + 1)) (sequence_high m)
    (omega arith) (omega arith) (omega arith) (omega arith) (omega arith) (omega arith) after near in
    (λ inside. let lies = counts.0 inside in (omega (arith, lies.0), lies.1), λ lies. counts.1 (omega (arith, lies.0), lies.1))

pub acked-count : (m : Marks) (iss gar gss n : ℕ) → m.gar ≡ residue gar → m.gss ≡ residue gss → iss ≤ gar → gar ≤ gss
    → gss < iss + 2 ^ 47 → iss ≤ n → n < iss + 2 ^ 48 → IsWithin (residue n) m.gar (ack_high m) ↔ ((gar ≤ n) × (n ≤ gss))
acked-count m iss gar gss n ea eg low up within after near =
    within-count iss gar gss n m.gar m.gss ea eg low (omega arith) up (omega arith) after near

pub no_end-count : (m : Marks) (isr gsr n : ℕ) → InRange m → m.isr ≡ residue isr → m.gsr ≡ residue gsr → isr ≤ gsr → gsr < isr + 2 ^ 47
    → isr ≤ n → n < isr + 2 ^ 48
    → IsWithin (residue n) (sequence_low m) (open_end (sequence_low m))
    ↔ ((max (gsr + 1 - m.peer_w / 4) isr ≤ n) × (n < max (gsr + 1 - m.peer_w / 4) isr + 2 ^ 47))
no_end-count m isr gsr n range ei eg from within after near =
    from-count isr (max (gsr + 1 - m.peer_w / 4) isr) n (sequence_low m)
    (low-count isr gsr (m.peer_w / 4) m.isr m.gsr ei eg (omega arith) from within)
    (omega arith) (omega arith) after near
