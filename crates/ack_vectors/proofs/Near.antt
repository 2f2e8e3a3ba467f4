-- Records with at most this many steps between their numbers, and how a number further below one of them is none before it.
use Rattle.std.proofs.Common.{◌≡◌, ℕ, zero, suc, ◌-◌, ◌≤◌, ◌<◌, false, ◌==◌, List, [], ◌∷◌, ◌++◌, Some, None, length, take, drop, slice_get, refl, sym, ◌∙◌, subst, inl, inr, arith}
use Rattle.std.proofs.lemmas.Bool.{cases_Bool, and_parts, eqb-true}
use Rattle.std.specs.List.{AllByRecursion}
use Rattle.std.proofs.lemmas.List.{drop-map}
use mathlib.Core.List.{map-append}
use Rattle.circular_buffer.specs.Buffer.{keep_last}
use Rattle.seq_circle.specs.Circle.{distance}
use Rattle.seq_circle.specs.Near.{AreNear}
use Rattle.seq_circle.proofs.Near.{all_to, near_drop, number_at}
use Rattle.ack_vectors.specs.declared.received.VectorRecord.{VectorRecord}
use Rattle.ack_vectors.specs.Kept.{is_whole_at, newest_whole}
use Rattle.ack_vectors.specs.Near.{record_numbers}

-- what is recorded is near where the list with it was
pub near_recorded : (span : ℕ) (new : VectorRecord) (records : List VectorRecord) → AreNear span (record_numbers records ++ new.number ∷ [])
    → AreNear span (record_numbers (keep_last 64 (records ++ new ∷ [])))
near_recorded span new records near =
    let all : record_numbers (records ++ new ∷ []) ≡ record_numbers records ++ new.number ∷ [] = map-append (λ (e : VectorRecord). e.number) records (new ∷ []) in
    let n = length (records ++ new ∷ []) - 64 in
    let kept : drop n (record_numbers (records ++ new ∷ [])) ≡ record_numbers (keep_last 64 (records ++ new ∷ [])) =
    drop-map (λ (e : VectorRecord). e.number) n (records ++ new ∷ []) in
    subst (AreNear span) kept (near_drop span n (record_numbers (records ++ new ∷ [])) (subst (AreNear span) (sym all) near))

some_is : (x y : VectorRecord) → Some x ≡ Some y → x ≡ y
some_is x y is = cc

-- a number that is another's is not this one's
not_at : (n : ℕ) (q : VectorRecord) → (q.number ≡ n → ⊥) → is_whole_at n q ≡ false
not_at n q other = elim (cases_Bool (is_whole_at n q)) [
  | inl fits ↦ absurd (other (eqb-true q.number n (and_parts q.whole (q.number == n) fits).1))
  | inr other_one ↦ other_one
]

no_step : (x : ℕ) → distance x x ≡ 0
no_step x = omega arith

-- a record that does not count is passed over
pass : (n : ℕ) (q : VectorRecord) (rs : List VectorRecord) → is_whole_at n q ≡ false → newest_whole n (q ∷ rs) ≡ newest_whole n rs
pass n q rs other = rw other refl

-- a number that is further below one record than any before it has none of these
pub none_to : (n span k : ℕ) (rs : List VectorRecord) (r : VectorRecord) → slice_get rs k ≡ Some r → AreNear span (record_numbers rs) → span < distance n r.number
    → newest_whole n (take (suc k) rs) ≡ None
none_to n span k [] r there near past = cc
none_to n span zero (q ∷ rs) r there near past =
    let same : q ≡ r = some_is q r there in
    let past_q : span < distance n q.number = subst (λ (e : VectorRecord). span < distance n e.number) (sym same) past in
    let other : is_whole_at n q ≡ false = not_at n q (λ is. absurd (omega (arith, no_step n, subst (λ (m : ℕ). span < distance n m) is past_q))) in
    pass n q [] other
none_to n span (suc k) (q ∷ rs) r there near past =
    let close : distance q.number r.number ≤ span = all_to (λ o. distance q.number o ≤ span) k (record_numbers rs) r.number (number_at (λ (e : VectorRecord). e.number) rs k r there) near.1 in
    let other : is_whole_at n q ≡ false = not_at n q (λ is. absurd (omega (arith, past, subst (λ (m : ℕ). distance m r.number ≤ span) is close))) in
    pass n q (take (suc k) rs) other ∙ none_to n span k rs r there near.2 past

-- of records in two parts, those of each part are as near
module _ (span : ℕ) where
  pub near_later : (earlier later : List VectorRecord) → AreNear span (record_numbers (earlier ++ later)) → AreNear span (record_numbers later)
  near_later [] later near = near
  near_later (q ∷ earlier) later near = near_later earlier later near.2

  all_earlier : (P : ℕ → Type 0) (earlier later : List VectorRecord) → AllByRecursion P (record_numbers (earlier ++ later))
      → AllByRecursion P (record_numbers earlier)
  all_earlier P [] later all = tt
  all_earlier P (q ∷ earlier) later all = (all.0, all_earlier P earlier later all.1)

  pub near_earlier : (earlier later : List VectorRecord) → AreNear span (record_numbers (earlier ++ later)) → AreNear span (record_numbers earlier)
  near_earlier [] later near = tt
  near_earlier (q ∷ earlier) later near =
      (near.0, all_earlier (λ other. distance q.number other ≤ span) earlier later near.1, near_earlier earlier later near.2)
