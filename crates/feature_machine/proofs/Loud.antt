-- How many rows have something to say by themselves.
use Rattle.std.proofs.Common.{◌≡◌, ◌==◌, ℕ, zero, suc, ◌+◌, ◌≤◌, ◌<◌, true, false, List, [], ◌∷◌, length, refl, sym, ap, ◌∙◌, arith, inl, inr, set, get_or}
use Rattle.std.proofs.lemmas.Bool.{cases_Bool, ne_eqb}
use Rattle.feature_machine.specs.Negotiating.{are_quiet, is_quiet, loud_of, loud_rows}
use Rattle.feature_machine.specs.declared.row.Row.{Row}

loud_at_most : (row : Row) → loud_of row ≤ 1
loud_at_most row = elim (cases_Bool (is_quiet row)) [
  | inl quiet ↦ rw quiet (omega arith)
  | inr loud ↦ rw loud (omega arith)
]

pub loud_within : (rows : List Row) → loud_rows rows ≤ length rows
loud_within [] = omega arith
loud_within (row ∷ rows) = let one = loud_at_most row in let rest = loud_within rows in omega arith

-- a row counts among all
pub loud_among : (rows : List Row) (place : ℕ) (default : Row) → place < length rows → loud_of (get_or rows place default) ≤ loud_rows rows
loud_among [] place default inside = absurd (omega arith)
loud_among (row ∷ rows) zero default inside = omega arith
loud_among (row ∷ rows) (suc place) default inside =
    let before : place < length rows = omega arith in
    let among = loud_among rows place default before in
    omega arith

-- where a row is another, the count is that of all, without the row that was there, and with the new one
pub loud_put : (rows : List Row) (place : ℕ) (default new : Row) → place < length rows
    → loud_rows (set rows place new) + loud_of (get_or rows place default) ≡ loud_rows rows + loud_of new
loud_put [] place default new inside = absurd (omega arith)
loud_put (row ∷ rows) zero default new inside = omega arith
loud_put (row ∷ rows) (suc place) default new inside =
    let before : place < length rows = omega arith in
    let rest = loud_put rows place default new before in
    omega arith

-- where none counts, none has anything to say
pub none_is_loud : (rows : List Row) → (loud_rows rows == 0) ≡ are_quiet rows
none_is_loud [] = refl
none_is_loud (row ∷ rows) =
    elim (cases_Bool (is_quiet row)) [
      | inl quiet ↦
          let rest : 0 + loud_rows rows ≡ loud_rows rows = omega arith in
          rw quiet (ap (λ n. n == 0) rest ∙ none_is_loud rows)
      | inr loud ↦ rw loud (ne_eqb (1 + loud_rows rows) 0 (λ none. absurd (omega (arith, none))))
    ]
