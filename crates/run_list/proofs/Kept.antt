-- Runs under a floor that rises.
use Rattle.std.proofs.Common.{◌≡◌, ℕ, ◌+◌, ◌-◌, ◌^◌, ◌<◌, ◌≤◌, List, [], ◌∷◌, ◌++◌, suc, ap, arith, sym, ◌∙◌, filter, append_assoc, append-nil, min, inl, inr, subst, length, take, get_or, set}
use Rattle.std.proofs.lemmas.List.{drop_all, set_split}
use Rattle.std.proofs.lemmas.Bool.{cases_lt}
use Rattle.std.proofs.lemmas.List.Elements.{filter-append}
use Rattle.seq_circle.specs.Circle.{residue, distance}
use Rattle.run_list.specs.declared.walking.Stretch.{Stretch}
use Rattle.run_list.specs.MarkedSet.{is_from}
use Rattle.run_list.specs.Stretches.{stretch}
use Rattle.run_list.specs.Runs.{downwards, numbers_of, bound_below, AreLaid, bound_after}
use Rattle.run_list.proofs.Steps.{distance_raised, back, back_up}
use Rattle.run_list.proofs.Downs.{downwards-add, kept-downwards, dropped-downwards}
use Rattle.run_list.proofs.Laid.{split_at, numbers_of-append, laid_front, laid_back, bound_falls}

-- the last run lies below the new floor
pub last_dropped : (f to b : ℕ) (ss : List Stretch) (s : Stretch) → f < 2 ^ 48 → to < 2 ^ 48 → distance f to < 2 ^ 47 → AreLaid f b (ss ++ s ∷ [])
    → distance f s.hi < distance f to
    → filter (is_from to) (numbers_of (ss ++ s ∷ [])) ≡ filter (is_from to) (numbers_of ss)
last_dropped f to b ss s p q r h k =
    let laid : AreLaid f (bound_after f b ss) (s ∷ []) = laid_back f b ss (s ∷ []) h in
    let gone : filter (is_from to) (downwards s.count s.hi ++ []) ≡ [] = dropped-downwards f to s.count s.hi [] p q laid.0.fits r k laid.0.above in
    rw (numbers_of-append ss (s ∷ []), filter-append (is_from to) (numbers_of ss) (downwards s.count s.hi ++ []), gone)
    (append-nil (filter (is_from to) (numbers_of ss)))

-- a run that the new floor cuts, or leaves whole
pub run_cut : (f to count hi kept : ℕ) → f < 2 ^ 48 → to < 2 ^ 48 → hi < 2 ^ 48 → distance f hi < 2 ^ 47 → distance f to ≤ distance f hi
    → count ≤ distance f hi + 1
    → kept ≡ min count (distance f hi - distance f to + 1) → filter (is_from to) (downwards count hi ++ []) ≡ downwards kept hi ++ []
run_cut f to count hi kept p q r h k l e =
    elim (cases_lt (distance f hi - distance f to + 1) count) [
      | inl lt ↦ cut_short lt
      | inr ge ↦ whole ge
    ]
  where
    whole : count ≤ distance f hi - distance f to + 1 → filter (is_from to) (downwards count hi ++ []) ≡ downwards kept hi ++ []
    whole ge =
        let same : kept ≡ count = omega arith in
        rw same (kept-downwards f to count hi [] p q r h (omega arith))

    cut_short : distance f hi - distance f to + 1 < count → filter (is_from to) (downwards count hi ++ []) ≡ downwards kept hi ++ []
    cut_short lt =
        let top : kept ≡ distance f hi - distance f to + 1 = omega arith in
        let parts : count ≡ kept + (count - kept) = omega arith in
        let n : ℕ = residue (hi + (2 ^ 48 - kept)) in
        let low : distance f n + kept ≡ distance f hi = back f hi kept p r (omega arith) in
        let split : downwards (kept + (count - kept)) hi ≡ downwards kept hi ++ downwards (count - kept) n =
        downwards-add kept (count - kept) hi n r (omega arith) (back_up f hi kept p r (omega arith)) in
        let gone : filter (is_from to) (downwards (count - kept) n ++ []) ≡ [] =
        dropped-downwards f to (count - kept) n [] p q (omega arith) (omega arith) (omega arith) (omega arith) in
        ap (λ c. filter (is_from to) (downwards c hi ++ [])) parts
        ∙ ap (λ ns. filter (is_from to) (ns ++ [])) split
        ∙ ap (λ ns. filter (is_from to) ns) (append_assoc (downwards kept hi) (downwards (count - kept) n) [])
        ∙ kept-downwards f to kept hi (downwards (count - kept) n ++ []) p q r h (omega arith)
        ∙ ap (λ ns. downwards kept hi ++ ns) gone

-- the last run lies above it, at least in part
pub last_kept : (f to b count : ℕ) (ss : List Stretch) (s : Stretch) → f < 2 ^ 48 → to < 2 ^ 48 → b ≤ 2 ^ 47 → AreLaid f b (ss ++ s ∷ [])
    → distance f to ≤ distance f s.hi
    → count ≡ min s.count (distance f s.hi - distance f to + 1)
    → (filter (is_from to) (numbers_of (ss ++ s ∷ [])) ≡ numbers_of (ss ++ stretch s.hi count ∷ []))
    × AreLaid to (b - distance f to) (ss ++ stretch s.hi count ∷ [])
last_kept f to b count [] s p q r h k e =
    let near : distance to s.hi + distance f to ≡ distance f s.hi = distance_raised f to s.hi p q h.0.fits k in
    let below : distance f s.hi < b = h.0.below in
    let some : 1 ≤ s.count = h.0.some in (
      run_cut f to s.count s.hi count p q h.0.fits (omega arith) k h.0.above e,
      (record { fits = h.0.fits; some = omega arith; below = omega arith; above = omega arith }, tt),
    )
last_kept f to b count (t ∷ ss) s p q r h k e =
    let last : AreLaid f (bound_after f (bound_below f t) ss) (s ∷ []) = laid_back f (bound_below f t) ss (s ∷ []) h.1 in
    let fall : bound_after f (bound_below f t) ss ≤ bound_below f t = bound_falls f (bound_below f t) ss (laid_front f (bound_below f t) ss (s ∷ []) h.1) in
    let under : distance f s.hi < bound_after f (bound_below f t) ss = last.0.below in
    let below : distance f t.hi < b = h.0.below in
    let near : distance to t.hi + distance f to ≡ distance f t.hi = distance_raised f to t.hi p q h.0.fits (omega arith) in
    let ih = last_kept f to (bound_below f t) count ss s p q (omega arith) h.1 k e in
    let bound : bound_below to t ≡ bound_below f t - distance f to = omega arith in (
      kept-downwards f to t.count t.hi (numbers_of (ss ++ s ∷ [])) p q h.0.fits (omega arith) (omega arith)
          ∙ ap (λ ns. downwards t.count t.hi ++ ns) ih.0,
      (record { fits = h.0.fits; some = h.0.some; below = omega arith; above = omega arith }, rw bound ih.1),
    )

pub laid_wider : (f b c : ℕ) (ss : List Stretch) → b ≤ c → AreLaid f b ss → AreLaid f c ss
laid_wider f b c [] h k = tt
laid_wider f b c (s ∷ ss) h k =
    let below : distance f s.hi < b = k.0.below in
    (record { fits = k.0.fits; some = k.0.some; below = omega arith; above = k.0.above }, k.1)

-- the last run, by its place
pub last_split : (ss : List Stretch) (i : ℕ) (s : Stretch) → suc i ≡ length ss → s ≡ get_or ss i s → ss ≡ take i ss ++ s ∷ []
last_split ss i s h e =
    split_at ss i s (omega arith) e ∙ ap (λ ts. take i ss ++ s ∷ ts) (drop_all (suc i) ss (omega arith))

pub last_set : (ss : List Stretch) (i : ℕ) (s : Stretch) → suc i ≡ length ss → set ss i s ≡ take i ss ++ s ∷ []
last_set ss i s h =
    set_split ss i s (omega arith) ∙ ap (λ ts. take i ss ++ s ∷ ts) (drop_all (suc i) ss (omega arith))

pub drop_last : (f to : ℕ) (ss : List Stretch) (i : ℕ) (s : Stretch) → f < 2 ^ 48 → to < 2 ^ 48 → distance f to < 2 ^ 47 → suc i ≡ length ss → s ≡ get_or ss i s
    → AreLaid f 2048 ss → distance f s.hi < distance f to
    → (filter (is_from to) (numbers_of (take i ss)) ≡ filter (is_from to) (numbers_of ss)) × AreLaid f 2048 (take i ss)
drop_last f to ss i s p q r h e k d =
    let P : List Stretch → Type 0 = λ ts. AreLaid f 2048 ts in
    let parts : ss ≡ take i ss ++ s ∷ [] = last_split ss i s h e in
    let laid : AreLaid f 2048 (take i ss ++ s ∷ []) = subst P parts k in (
      sym (ap (λ ts. filter (is_from to) (numbers_of ts)) parts ∙ last_dropped f to 2048 (take i ss) s p q r laid d),
      laid_front f 2048 (take i ss) (s ∷ []) laid,
    )

pub cut_last : (f to count : ℕ) (ss : List Stretch) (i : ℕ) (s : Stretch) → f < 2 ^ 48 → to < 2 ^ 48 → suc i ≡ length ss → s ≡ get_or ss i s
    → AreLaid f 2048 ss → distance f to ≤ distance f s.hi → count ≡ min s.count (distance f s.hi - distance f to + 1)
    → (numbers_of (set ss i (stretch s.hi count)) ≡ filter (is_from to) (numbers_of ss)) × AreLaid to 2048 (set ss i (stretch s.hi count))
cut_last f to count ss i s p q h e k d m =
    let P : List Stretch → Type 0 = λ ts. AreLaid f 2048 ts in
    let parts : ss ≡ take i ss ++ s ∷ [] = last_split ss i s h e in
    let laid : AreLaid f 2048 (take i ss ++ s ∷ []) = subst P parts k in
    let both = last_kept f to 2048 count (take i ss) s p q (omega arith) laid d m in
    let new : set ss i (stretch s.hi count) ≡ take i ss ++ stretch s.hi count ∷ [] = last_set ss i (stretch s.hi count) h in (
      ap numbers_of new ∙ sym (ap (λ ts. filter (is_from to) (numbers_of ts)) parts ∙ both.0),
      rw new (laid_wider to (2048 - distance f to) 2048 (take i ss ++ stretch s.hi count ∷ []) (omega arith) both.1),
    )
