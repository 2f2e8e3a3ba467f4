-- The edits of one run at a place.
use Rattle.std.proofs.Common.{◌≡◌, ℕ, ◌+◌, ◌-◌, ◌^◌, ◌<◌, ◌≤◌, true, List, [], ◌∷◌, ◌++◌, zero, suc, ap, subst, arith, sym, ◌∙◌, length, take, drop, get_or, set, append_assoc, drop-cons}
use Rattle.std.specs.Prelude.{remove}
use Rattle.std.proofs.lemmas.List.{set_split, take_more_set, drop-set-lt}
use Rattle.seq_circle.specs.Circle.{distance}
use Rattle.run_list.specs.declared.walking.Stretch.{Stretch}
use Rattle.run_list.specs.MarkedSet.{has}
use Rattle.run_list.specs.Stretches.{stretch}
use Rattle.run_list.specs.Runs.{numbers_of, IsLaid, bound_below, AreLaid, bound_after, Adds}
use Rattle.run_list.proofs.Downs.{inside-present}
use Rattle.run_list.proofs.Laid.{adds_at, laid_at, laid_below, adds_up, adds_down, adds_between, split_at, present_after, laid_front, bound_falls}

-- each run lies below the bound of all
pub count_at : (f b i : ℕ) (ss : List Stretch) (s : Stretch) → i < length ss → s ≡ get_or ss i s → AreLaid f b ss → IsLaid f b s
count_at f b i ss s h e k =
    let here : IsLaid f (bound_after f b (take i ss)) s = (laid_at f b i ss s h e k).0 in
    let P : List Stretch → Type 0 = λ ts. AreLaid f b ts in
    let front : AreLaid f b (take i ss) = laid_front f b (take i ss) (s ∷ drop (suc i) ss) (subst P (split_at ss i s h e) k) in
    let fall : bound_after f b (take i ss) ≤ b = bound_falls f b (take i ss) front in
    let below : distance f s.hi < bound_after f b (take i ss) = here.below in
    record { fits = here.fits; some = here.some; below = omega arith; above = here.above }

pub up_at : (f b n i : ℕ) (ss : List Stretch) (s : Stretch) → f < 2 ^ 48 → n < 2 ^ 48 → i < length ss → s ≡ get_or ss i s → AreLaid f b ss
    → distance f n < bound_after f b (take i ss) → distance f s.hi + 1 ≡ distance f n → Adds f b n ss (set ss i (stretch n (s.count + 1)))
up_at f b n i ss s p q h e k a d =
    rw (set_split ss i (stretch n (s.count + 1)) h)
    (adds_at f b n i ss s (stretch n (s.count + 1) ∷ drop (suc i) ss) p h e k a
    (adds_up f (bound_after f b (take i ss)) n s (drop (suc i) ss) p q a (laid_at f b i ss s h e k) d))

-- nothing is below, or a run with a gap
pub down_at : (f b n i : ℕ) (ss : List Stretch) (s : Stretch) → f < 2 ^ 48 → n < 2 ^ 48 → i < length ss → s ≡ get_or ss i s → AreLaid f b ss
    → distance f n < bound_after f b (take i ss) → distance f n + s.count ≡ distance f s.hi → AreLaid f (distance f n - 1) (drop (suc i) ss)
    → Adds f b n ss (set ss i (stretch s.hi (s.count + 1)))
down_at f b n i ss s p q h e k a d r =
    rw (set_split ss i (stretch s.hi (s.count + 1)) h)
    (adds_at f b n i ss s (stretch s.hi (s.count + 1) ∷ drop (suc i) ss) p h e k a
    (adds_down f (bound_after f b (take i ss)) n s (drop (suc i) ss) p q (laid_at f b i ss s h e k) d r))

pub nothing_below : (f c i : ℕ) (ss : List Stretch) → length ss ≤ suc i → AreLaid f c (drop (suc i) ss)
nothing_below f c i [] h = tt
nothing_below f c zero (s ∷ []) h = tt
nothing_below f c zero (s ∷ t ∷ ss) h = absurd (omega arith)
nothing_below f c (suc i) (s ∷ ss) h = nothing_below f c i ss (omega arith)

pub gap_below : (f b n i : ℕ) (ss : List Stretch) (s t : Stretch) → i < length ss → s ≡ get_or ss i s → suc i < length ss → t ≡ get_or ss (suc i) t
    → AreLaid f b ss
    → distance f n + s.count ≡ distance f s.hi → ((distance f t.hi + 1 ≡ distance f n) → ⊥) → AreLaid f (distance f n - 1) (drop (suc i) ss)
gap_below f b n i ss s t h e g u k d ne =
    let here : AreLaid f (bound_after f b (take i ss)) (s ∷ drop (suc i) ss) = laid_at f b i ss s h e k in
    let parts : drop (suc i) ss ≡ t ∷ drop (suc (suc i)) ss = drop-cons ss (suc i) t g ∙ ap (λ x. x ∷ drop (suc (suc i)) ss) (sym u) in
    let next : AreLaid f (bound_below f s) (t ∷ drop (suc (suc i)) ss) = rw parts at here.1 in
    let under : distance f t.hi < bound_below f s = next.0.below in
    rw parts (laid_below f (bound_below f s) (distance f n - 1) t (drop (suc (suc i)) ss) (omega arith) next)

pub between_at : (f b n i : ℕ) (ss : List Stretch) (s t : Stretch) → f < 2 ^ 48 → n < 2 ^ 48 → i < length ss → s ≡ get_or ss i s → suc i < length ss
    → t ≡ get_or ss (suc i) t → AreLaid f b ss
    → distance f n < bound_after f b (take i ss) → distance f n + s.count ≡ distance f s.hi → distance f t.hi + 1 ≡ distance f n
    → Adds f b n ss (remove (set ss i (stretch s.hi (s.count + 1 + t.count))) (i + 1))
between_at f b n i ss s t p q h e g u k a d r =
    let new : Stretch = stretch s.hi (s.count + 1 + t.count) in
    let here : AreLaid f (bound_after f b (take i ss)) (s ∷ drop (suc i) ss) = laid_at f b i ss s h e k in
    let parts : drop (suc i) ss ≡ t ∷ drop (suc (suc i)) ss = drop-cons ss (suc i) t g ∙ ap (λ x. x ∷ drop (suc (suc i)) ss) (sym u) in
    let both : AreLaid f (bound_after f b (take i ss)) (s ∷ t ∷ drop (suc (suc i)) ss) = rw parts at here in
    let old : Adds f (bound_after f b (take i ss)) n (s ∷ t ∷ drop (suc (suc i)) ss) (new ∷ drop (suc (suc i)) ss) =
    adds_between f (bound_after f b (take i ss)) n s t (drop (suc (suc i)) ss) p q both d r in
    let front : take (i + 1) (set ss i new) ≡ take i ss ++ new ∷ [] = take_more_set ss i new h in
    let back : drop (suc (suc i)) (set ss i new) ≡ drop (suc (suc i)) ss = drop-set-lt (suc (suc i)) ss i new (omega arith) in
    let next : suc (i + 1) ≡ suc (suc i) = omega arith in
    rw (front, next, back, append_assoc (take i ss) (new ∷ []) (drop (suc (suc i)) ss))
    (adds_at f b n i ss s (new ∷ drop (suc (suc i)) ss) p h e k a (rw parts old))

-- the number lies in the run
pub present_at : (f b n i : ℕ) (ss : List Stretch) (s : Stretch) → f < 2 ^ 48 → n < 2 ^ 48 → i < length ss → s ≡ get_or ss i s → AreLaid f b ss
    → distance f n < bound_after f b (take i ss) → distance f n ≤ distance f s.hi → distance f s.hi < distance f n + s.count → has (numbers_of ss) n ≡ true
present_at f b n i ss s p q h e k a d r =
    let here : AreLaid f (bound_after f b (take i ss)) (s ∷ drop (suc i) ss) = laid_at f b i ss s h e k in
    let P : List Stretch → Type 0 = λ ts. AreLaid f b ts in
    let parts : ss ≡ take i ss ++ s ∷ drop (suc i) ss = split_at ss i s h e in
    let there : has (numbers_of (s ∷ drop (suc i) ss)) n ≡ true = inside-present f n s.count s.hi (numbers_of (drop (suc i) ss)) p here.0.fits q d r in
    ap (λ ts. has (numbers_of ts) n) parts ∙ present_after f b n (take i ss) (s ∷ drop (suc i) ss) p (subst P parts k) a there

-- a run at a place that lies below another bound, and those after it
pub far_at : (f b c i : ℕ) (ss : List Stretch) (s : Stretch) → i < length ss → s ≡ get_or ss i s → AreLaid f b ss → distance f s.hi < c
    → AreLaid f c (drop i ss)
far_at f b c i ss s h e k d =
    let here : AreLaid f (bound_after f b (take i ss)) (s ∷ drop (suc i) ss) = laid_at f b i ss s h e k in
    let parts : drop i ss ≡ s ∷ drop (suc i) ss = drop-cons ss i s h ∙ ap (λ x. x ∷ drop (suc i) ss) (sym e) in
    rw parts (laid_below f (bound_after f b (take i ss)) c s (drop (suc i) ss) d here)
