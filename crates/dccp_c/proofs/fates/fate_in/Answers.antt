use Rattle.std.proofs.Common.{ℕ, ◌≡◌, ◌≤◌, ◌⊎◌, inl, inr, arith}
use Rattle.dccp_c.proofs.fates.fate_in.Goals as goal

-- a fate of data that have come is none of those from 3 on to 4, nor 1
three-never : (fate : ℕ) → (fate ≡ 2) ⊎ (4 ≤ fate) → fate ≡ 3 → ⊥
three-never fate came is = elim came [ inl two ↦ omega (arith, is, two) | inr more ↦ omega (arith, is, more) ]

one-never : (fate : ℕ) → (fate ≡ 2) ⊎ (4 ≤ fate) → fate ≡ 1 → ⊥
one-never fate came is = elim came [ inl two ↦ omega (arith, is, two) | inr more ↦ omega (arith, is, more) ]

pub returns-then-stands : goal.returns-then-stands
returns-then-stands c =
    let has = c.stands.ensures.0 c.if-stands.true in
    let by = c.fate_by.ensures in
    record {
      delivered = (λ so. (has, by.delivered.0 so), λ h. by.delivered.1 h.1);
      dropped = λ k. (λ so. (has, (by.dropped k).0 so), λ h. (by.dropped k).1 h.1);
      lost = (λ so. absurd (three-never c.fate_by.result by.came so), λ h. absurd (h.1 has));
      in_flight = (λ so. absurd (one-never c.fate_by.result by.came so), λ h. absurd (h.2 has));
    }
