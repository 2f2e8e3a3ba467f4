-- Records of sent vectors: which one counts, and what acknowledging does.
use Rattle.std.proofs.Common.{◌≡◌, ℕ, suc, ◌+◌, ◌-◌, ◌<◌, Bool, true, false, ◌||◌, ◌==◌, List, [], ◌∷◌, ◌++◌, length, take, drop, get_or, Option, Some, None, if◌then◌else◌, refl, ap, sym, subst, ◌∙◌, arith, inl, inr, ◌⊎◌, ⊎_elim}
use Rattle.std.specs.Prelude.{is_some}
use Rattle.std.specs.List.{list_any, Contains, slice_get}
use Rattle.std.proofs.lemmas.Bool.{cases_Bool, and_parts, eqb-true, or_right}
use Rattle.std.proofs.Math.Seq.{take-suc}
use Rattle.std.proofs.lemmas.Option.{get_or_from_slice_get, slice_get_cases, slice_get_within}
use Rattle.std.proofs.lemmas.List.{take-append-drop}
use Rattle.std.proofs.lemmas.List.Elements.{Contains-append_right, Contains-push_cases}
use Rattle.seq_circle.specs.Circle.{residue}
use Rattle.run_list.specs.MarkedSet.{IsSound, raised}
use Rattle.run_list.proofs.Sets.{sound-raised}
use Rattle.ack_vectors.specs.Kept.{ReceivedState, recorded, raised_by, acked, is_whole_at, newest_from, newest_whole}
use Rattle.ack_vectors.specs.declared.received.VectorRecord.{VectorRecord}

-- the newest record of a whole vector, and that there is one
pub newest_from-last : (n : ℕ) (found : Option VectorRecord) (rs : List VectorRecord) (r : VectorRecord)
    → newest_from n found (rs ++ r ∷ []) ≡ (if is_whole_at n r then Some r else newest_from n found rs)
newest_from-last n found [] r = refl
newest_from-last n found (q ∷ rs) r = newest_from-last n (if is_whole_at n q then Some q else found) rs r

-- of the records up to one, that one counts if it fits, and else those before it
pub newest_whole-step : (n k : ℕ) (rs : List VectorRecord) (r : VectorRecord) → slice_get rs k ≡ Some r
    → newest_whole n (take (k + 1) rs) ≡ (if is_whole_at n r then Some r else newest_whole n (take k rs))
newest_whole-step n k rs r there =
    let next : suc k ≡ k + 1 = omega arith in
    let more : take (k + 1) rs ≡ take k rs ++ r ∷ [] =
    subst (λ (m : ℕ). take m rs ≡ take k rs ++ r ∷ []) next
    (take-suc rs k r (slice_get_within rs k r there) ∙ ap (λ x. take k rs ++ x ∷ []) (get_or_from_slice_get rs k r r there)) in
    ap (newest_whole n) more ∙ newest_from-last n None (take k rs) r

pub newest_from-some : (n : ℕ) (found : Option VectorRecord) (rs : List VectorRecord) → is_some (newest_from n found rs) ≡ is_some found || list_any (is_whole_at n) rs
newest_from-some n found [] = elim (is_some found) as (λ b. b ≡ b || false) [ true ↦ refl | false ↦ refl ]
newest_from-some n found (r ∷ rs) =
    elim (cases_Bool (is_whole_at n r)) [
      | inl fits ↦ rw fits (newest_from-some n (Some r) rs ∙ sym (or_right (is_some found) true refl))
      | inr other ↦ rw other (newest_from-some n found rs)
    ]

-- the record that is read at a place is there
pub record_there : (rs : List VectorRecord) (k : ℕ) (r : VectorRecord) → k < length rs → r ≡ get_or rs k r → slice_get rs k ≡ Some r
record_there rs k r inside is =
    elim ((slice_get_cases rs k).1) [
      | inl found ↦ subst (λ (x : VectorRecord). slice_get rs k ≡ Some x) (sym (get_or_from_slice_get rs k found.0 r found.2) ∙ sym is) found.2
      | inr past ↦ absurd omega (arith, past.0)
    ]

-- of records in two parts, one that counts in the later part comes first, and else one of the earlier part
newest_from-append : (n : ℕ) (found : Option VectorRecord) (rs later : List VectorRecord)
    → newest_from n found (rs ++ later) ≡ newest_from n (newest_from n found rs) later
newest_from-append n found [] later = refl
newest_from-append n found (q ∷ rs) later = newest_from-append n (if is_whole_at n q then Some q else found) rs later

newest_from-found : (n : ℕ) (found : Option VectorRecord) (rs : List VectorRecord) (r : VectorRecord) → newest_whole n rs ≡ Some r → newest_from n found rs ≡ Some r
newest_from-found n found [] r there = absurd cc
newest_from-found n found (q ∷ rs) r there =
    elim (cases_Bool (is_whole_at n q)) [
      | inl fits ↦ rw fits (rw fits at there)
      | inr other ↦ rw other (newest_from-found n found rs r (rw other at there))
    ]

newest_from-none : (n : ℕ) (found : Option VectorRecord) (rs : List VectorRecord) → newest_whole n rs ≡ None → newest_from n found rs ≡ found
newest_from-none n found [] none = refl
newest_from-none n found (q ∷ rs) none =
    elim (cases_Bool (is_whole_at n q)) [
      | inl fits ↦
          let gone : newest_from n (Some q) rs ≡ None = rw fits at none in
          let bad : false ≡ true = sym (ap is_some gone) ∙ newest_from-some n (Some q) rs in
          absurd cc
      | inr other ↦ rw other (newest_from-none n found rs (rw other at none))
    ]

pub newest_whole-later : (n : ℕ) (earlier later : List VectorRecord) (r : VectorRecord) → newest_whole n later ≡ Some r
    → newest_whole n (earlier ++ later) ≡ Some r
newest_whole-later n earlier later r there =
    newest_from-append n None earlier later ∙ newest_from-found n (newest_whole n earlier) later r there

pub newest_whole-earlier : (n : ℕ) (earlier later : List VectorRecord) → newest_whole n later ≡ None
    → newest_whole n (earlier ++ later) ≡ newest_whole n earlier
newest_whole-earlier n earlier later none =
    newest_from-append n None earlier later ∙ newest_from-none n (newest_whole n earlier) later none

-- a record that counts is the first, or follows it
found_first : (n : ℕ) (q : VectorRecord) (rs : List VectorRecord) (r : VectorRecord) → is_whole_at n q ≡ true → ◌≡◌ {A = Option VectorRecord} (Some q) (Some r)
    → Contains (q ∷ rs) r × (is_whole_at n r ≡ true)
found_first n q rs r fits same =
    let is : q ≡ r = cc in
    ((0, omega arith, is), ap (is_whole_at n) (sym is) ∙ fits)

found_after : (n : ℕ) (q : VectorRecord) (rs : List VectorRecord) (r : VectorRecord) → Contains rs r × (is_whole_at n r ≡ true)
    → Contains (q ∷ rs) r × (is_whole_at n r ≡ true)
found_after n q rs r k = (Contains-append_right (q ∷ []) rs r k.0, k.1)

-- the record that counts was kept, or found before
pub newest_from-there : (n : ℕ) (found : Option VectorRecord) (rs : List VectorRecord) (r : VectorRecord) → newest_from n found rs ≡ Some r
    → (found ≡ Some r) ⊎ (Contains rs r × (is_whole_at n r ≡ true))
newest_from-there n found [] r h = inl h
newest_from-there n found (q ∷ rs) r h =
    elim (cases_Bool (is_whole_at n q)) [
      | inl fits ↦
          let rest : newest_from n (Some q) rs ≡ Some r = rw fits at h in
          ⊎_elim (λ same. inr (found_first n q rs r fits same)) (λ later. inr (found_after n q rs r later))
          (newest_from-there n (Some q) rs r rest)
      | inr other ↦
          let rest : newest_from n found rs ≡ Some r = rw other at h in
          ⊎_elim (λ before. inl before) (λ later. inr (found_after n q rs r later)) (newest_from-there n found rs r rest)
    ]

pub newest_whole-there : (n : ℕ) (rs : List VectorRecord) (r : VectorRecord) → newest_whole n rs ≡ Some r
    → Contains rs r × (r.number ≡ n) × (r.whole ≡ true)
newest_whole-there n rs r h =
    elim (newest_from-there n None rs r h) [
      | inl none ↦ let bad : ◌≡◌ {A = Option VectorRecord} None (Some r) = none in absurd cc
      | inr there ↦
          let parts = and_parts r.whole (r.number == n) there.1 in
          (there.0, eqb-true r.number n parts.1, parts.0)
    ]

-- of records one more is kept at most
pub recorded-there : (kept : ReceivedState) (number ack : ℕ) (whole : Bool) (r : VectorRecord) → Contains (recorded kept number ack whole).records r
    → Contains kept.records r ⊎ (◌≡◌ {A = VectorRecord} r (record { number = number; ack = ack; whole = whole }))
recorded-there kept number ack whole r h =
    let new : VectorRecord = record { number = number; ack = ack; whole = whole } in
    let all : List VectorRecord = kept.records ++ new ∷ [] in
    let P : List VectorRecord → Type 0 = λ rs. Contains rs r in
    let there : Contains all r = subst P (take-append-drop (length all - 64) all)
    (Contains-append_right (take (length all - 64) all) (drop (length all - 64) all) r h) in
    elim (Contains-push_cases kept.records new r there) [
      | inl before ↦ inl before
      | inr last ↦ inr (sym last)
    ]

-- what acknowledging does to the set
pub acked-none : (kept : ReceivedState) (n : ℕ) → newest_whole n kept.records ≡ None → acked kept n ≡ kept
acked-none kept n h = ap (raised_by kept) h

pub acked-some : (kept : ReceivedState) (n : ℕ) (r : VectorRecord) → newest_whole n kept.records ≡ Some r
    → acked kept n ≡ record { set = raised kept.set (residue (r.ack + 1)); records = kept.records }
acked-some kept n r h = ap (raised_by kept) h

pub raised_by-records : (kept : ReceivedState) (found : Option VectorRecord) → (raised_by kept found).records ≡ kept.records
raised_by-records kept None = refl
raised_by-records kept (Some r) = refl

pub raised_by-sound : (kept : ReceivedState) (found : Option VectorRecord) → IsSound kept.set → IsSound (raised_by kept found).set
raised_by-sound kept None s = s
raised_by-sound kept (Some r) s = sound-raised kept.set (residue (r.ack + 1)) s (omega arith)

pub acked-sound : (kept : ReceivedState) (n : ℕ) → IsSound kept.set → IsSound (acked kept n).set
acked-sound kept n s = raised_by-sound kept (newest_whole n kept.records) s
