-- The due rows, one by one.
use Rattle.std.proofs.Common.{◌≡◌, ℕ, suc, ◌+◌, ◌<◌, Bool, true, false, List, ◌∷◌, length, drop, Some, slice_get, ap, ◌∙◌, arith, cond}
use Rattle.std.proofs.lemmas.Option.{get_or_from_slice_get}
use Rattle.std.proofs.Math.Seq.{drop-cons}
use Rattle.feature_machine.specs.declared.row.Row.{Row}
use Rattle.feature_machine.specs.Negotiating.{due_keys, is_due}

pub drop_at : (rows : List Row) (index : ℕ) (row : Row) → index < length rows → slice_get rows index ≡ Some row → drop index rows ≡ row ∷ drop (index + 1) rows
drop_at rows index row inside is =
    let next : suc index ≡ index + 1 = omega arith in
    drop-cons rows index row inside ∙ ap (λ r. r ∷ drop (suc index) rows) (get_or_from_slice_get rows index row row is) ∙ ap (λ n. row ∷ drop n rows) next

due_cons : (row : Row) (rest : List Row) (b : Bool) → is_due row ≡ b → due_keys (row ∷ rest) ≡ cond b ((row.feature, row.place) ∷ due_keys rest) (due_keys rest)
due_cons row rest true e = cc
due_cons row rest false e = cc

pub due_taken : (rows : List Row) (index : ℕ) (row : Row) → index < length rows → slice_get rows index ≡ Some row → is_due row ≡ true
    → due_keys (drop index rows) ≡ (row.feature, row.place) ∷ due_keys (drop (index + 1) rows)
due_taken rows index row inside is due = ap (λ l. due_keys l) (drop_at rows index row inside is) ∙ due_cons row (drop (index + 1) rows) true due
