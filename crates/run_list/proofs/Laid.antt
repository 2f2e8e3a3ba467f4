-- Runs in a row: what an edit at one place makes of them all.
use Rattle.std.proofs.Common.{◌≡◌, ℕ, ◌+◌, ◌-◌, ◌*◌, ◌^◌, ◌<◌, ◌≤◌, true, List, [], ◌∷◌, ◌++◌, zero, suc, refl, ap, subst, arith, sym, ◌∙◌, length, take, drop, get_or, append_assoc, add-one, drop-cons, length-append}
use Rattle.std.proofs.Math.Nat.{suc-add}
use Rattle.std.proofs.lemmas.List.{take-append-drop}
use Rattle.seq_circle.specs.Circle.{distance}
use Rattle.run_list.specs.declared.walking.Stretch.{Stretch}
use Rattle.run_list.specs.MarkedSet.{has, with_number, AreFalling}
use Rattle.run_list.specs.Stretches.{stretch}
use Rattle.run_list.specs.Runs.{downwards, numbers_of, bound_below, AreLaid, bound_after, Adds}
use Rattle.run_list.proofs.Steps.{down, further, right_below}
use Rattle.run_list.proofs.Downs.{downwards-add, falling-run, below-absent, above-with, above-absent}

-- a number above all of a list is at its head
with_number-falling : (f b n : ℕ) (ns : List ℕ) → AreFalling f b ns → b ≤ distance f n → with_number f n ns ≡ n ∷ ns
with_number-falling f b n [] h k = refl
with_number-falling f b n (m ∷ ms) h k = let le : distance f m < distance f n = omega arith in grind arith

-- the numbers of laid runs fall
pub falling_numbers : (f b : ℕ) (ss : List Stretch) → f < 2 ^ 48 → AreLaid f b ss → AreFalling f b (numbers_of ss)
falling_numbers f b [] p h = tt
falling_numbers f b (s ∷ ss) p h =
    falling-run f b s.count s.hi (numbers_of ss) p h.0.fits h.0.below h.0.some h.0.above (falling_numbers f (bound_below f s) ss p h.1)

-- there are at most half as many runs as numbers
pub room_for_runs : (f b : ℕ) (ss : List Stretch) → AreLaid f b ss → 2 * length ss ≤ b + 1
room_for_runs f b [] h = omega arith
room_for_runs f b (s ∷ ss) h =
    let ih : 2 * length ss ≤ bound_below f s + 1 = room_for_runs f (bound_below f s) ss h.1 in
    let some : 1 ≤ s.count = h.0.some in
    let below : distance f s.hi < b = h.0.below in
    omega arith

pub numbers_of-append : (ss ts : List Stretch) → numbers_of (ss ++ ts) ≡ numbers_of ss ++ numbers_of ts
numbers_of-append [] ts = refl
numbers_of-append (s ∷ ss) ts = ap (λ ns. downwards s.count s.hi ++ ns) (numbers_of-append ss ts)
    ∙ sym (append_assoc (downwards s.count s.hi) (numbers_of ss) (numbers_of ts))

-- runs in front, and runs after them
pub laid_front : (f b : ℕ) (ss ts : List Stretch) → AreLaid f b (ss ++ ts) → AreLaid f b ss
laid_front f b [] ts h = tt
laid_front f b (s ∷ ss) ts h = (h.0, laid_front f (bound_below f s) ss ts h.1)

pub laid_back : (f b : ℕ) (ss ts : List Stretch) → AreLaid f b (ss ++ ts) → AreLaid f (bound_after f b ss) ts
laid_back f b [] ts h = h
laid_back f b (s ∷ ss) ts h = laid_back f (bound_below f s) ss ts h.1

pub laid_append : (f b : ℕ) (ss ts : List Stretch) → AreLaid f b ss → AreLaid f (bound_after f b ss) ts → AreLaid f b (ss ++ ts)
laid_append f b [] ts h k = k
laid_append f b (s ∷ ss) ts h k = (h.0, laid_append f (bound_below f s) ss ts h.1 k)

pub bound_falls : (f b : ℕ) (ss : List Stretch) → AreLaid f b ss → bound_after f b ss ≤ b
bound_falls f b [] h = omega arith
bound_falls f b (s ∷ ss) h =
    let ih : bound_after f (bound_below f s) ss ≤ bound_below f s = bound_falls f (bound_below f s) ss h.1 in
    let below : distance f s.hi < b = h.0.below in
    omega arith

-- runs above a number are not touched by it
pub above_runs-with : (f b n : ℕ) (ss : List Stretch) (rest : List ℕ) → f < 2 ^ 48 → AreLaid f b ss → distance f n < bound_after f b ss
    → with_number f n (numbers_of ss ++ rest) ≡ numbers_of ss ++ with_number f n rest
above_runs-with f b n [] rest p h k = refl
above_runs-with f b n (s ∷ ss) rest p h k =
    let fall : bound_after f (bound_below f s) ss ≤ bound_below f s = bound_falls f (bound_below f s) ss h.1 in
    rw (append_assoc (downwards s.count s.hi) (numbers_of ss) rest, append_assoc (downwards s.count s.hi) (numbers_of ss) (with_number f n rest))
    (above-with f n s.count s.hi (numbers_of ss ++ rest) p h.0.fits (omega arith)
    ∙ ap (λ ns. downwards s.count s.hi ++ ns) (above_runs-with f (bound_below f s) n ss rest p h.1 k))

pub above_runs-absent : (f b n : ℕ) (ss : List Stretch) (rest : List ℕ) → f < 2 ^ 48 → AreLaid f b ss → distance f n < bound_after f b ss
    → has (numbers_of ss ++ rest) n ≡ has rest n
above_runs-absent f b n [] rest p h k = refl
above_runs-absent f b n (s ∷ ss) rest p h k =
    let fall : bound_after f (bound_below f s) ss ≤ bound_below f s = bound_falls f (bound_below f s) ss h.1 in
    rw (append_assoc (downwards s.count s.hi) (numbers_of ss) rest)
    (above-absent f n s.count s.hi (numbers_of ss ++ rest) p h.0.fits (omega arith)
    ∙ above_runs-absent f (bound_below f s) n ss rest p h.1 k)

-- what is added after is added to all
pub adds_after : (f b n : ℕ) (ss old new : List Stretch) → f < 2 ^ 48 → AreLaid f b (ss ++ old) → distance f n < bound_after f b ss
    → Adds f (bound_after f b ss) n old new → Adds f b n (ss ++ old) (ss ++ new)
adds_after f b n ss old new p h k a =
    let front : AreLaid f b ss = laid_front f b ss old h in
    record {
      laid = laid_append f b ss new front a.laid;
      fresh = rw numbers_of-append (above_runs-absent f b n ss (numbers_of old) p front k ∙ a.fresh);
      numbers = rw (numbers_of-append ss new, numbers_of-append ss old, above_runs-with f b n ss (numbers_of old) p front k, a.numbers) refl;
    }

-- a number that is in the runs after is in all
pub present_after : (f b n : ℕ) (ss old : List Stretch) → f < 2 ^ 48 → AreLaid f b (ss ++ old) → distance f n < bound_after f b ss
    → has (numbers_of old) n ≡ true → has (numbers_of (ss ++ old)) n ≡ true
present_after f b n ss old p h k a =
    rw numbers_of-append (above_runs-absent f b n ss (numbers_of old) p (laid_front f b ss old h) k ∙ a)

-- the numbers right at a number of the runs below it
pub with_number-below : (f b n : ℕ) (ss : List Stretch) → f < 2 ^ 48 → AreLaid f b ss → b ≤ distance f n
    → with_number f n (numbers_of ss) ≡ n ∷ numbers_of ss
with_number-below f b n ss p h k = with_number-falling f b n (numbers_of ss) (falling_numbers f b ss p h) k

-- a run of its own
pub adds_alone : (f b n : ℕ) (ss : List Stretch) → f < 2 ^ 48 → n < 2 ^ 48 → distance f n < b → AreLaid f (distance f n - 1) ss
    → Adds f b n ss (stretch n 1 ∷ ss)
adds_alone f b n ss p q k h =
    record {
      laid = (record { fits = q; some = omega arith; below = k; above = omega arith }, h);
      fresh = below-absent f (distance f n - 1) n (numbers_of ss) (omega arith) (falling_numbers f (distance f n - 1) ss p h);
      numbers = sym (with_number-below f (distance f n - 1) n ss p h (omega arith));
    }

-- the run right below goes one up
pub adds_up : (f b n : ℕ) (s : Stretch) (ss : List Stretch) → f < 2 ^ 48 → n < 2 ^ 48 → distance f n < b → AreLaid f b (s ∷ ss)
    → distance f s.hi + 1 ≡ distance f n
    → Adds f b n (s ∷ ss) (stretch n (s.count + 1) ∷ ss)
adds_up f b n s ss p q k h e =
    let above : s.count ≤ distance f s.hi + 1 = h.0.above in
    let bound : distance f n - (s.count + 1) ≡ bound_below f s = omega arith in
    let lower : down n ≡ s.hi = right_below f s.hi n p h.0.fits q e in
    let old : AreFalling f (distance f s.hi + 1) (numbers_of (s ∷ ss)) =
    falling-run f (distance f s.hi + 1) s.count s.hi (numbers_of ss) p h.0.fits (omega arith) h.0.some above (falling_numbers f (bound_below f s) ss p h.1) in
    record {
      laid = (record { fits = q; some = omega arith; below = k; above = omega arith }, rw bound h.1);
      fresh = below-absent f (distance f s.hi + 1) n (numbers_of (s ∷ ss)) (omega arith) old;
      numbers = rw (add-one, lower) (sym (with_number-falling f (distance f s.hi + 1) n (numbers_of (s ∷ ss)) old (omega arith)));
    }

-- the run right above goes one down
pub adds_down : (f b n : ℕ) (s : Stretch) (ss : List Stretch) → f < 2 ^ 48 → n < 2 ^ 48 → AreLaid f b (s ∷ ss) → distance f n + s.count ≡ distance f s.hi
    → AreLaid f (distance f n - 1) ss
    → Adds f b n (s ∷ ss) (stretch s.hi (s.count + 1) ∷ ss)
adds_down f b n s ss p q h e k =
    let bound : distance f s.hi - (s.count + 1) ≡ distance f n - 1 = omega arith in
    let parts : downwards (s.count + 1) s.hi ≡ downwards s.count s.hi ++ n ∷ [] =
    downwards-add s.count 1 s.hi n h.0.fits q (further f n s.hi s.count p q h.0.fits e) in
    let fall : AreFalling f (distance f n - 1) (numbers_of ss) = falling_numbers f (distance f n - 1) ss p k in
    record {
      laid = (record { fits = h.0.fits; some = omega arith; below = h.0.below; above = omega arith }, rw bound k);
      fresh = above-absent f n s.count s.hi (numbers_of ss) p h.0.fits (omega arith)
          ∙ below-absent f (distance f n - 1) n (numbers_of ss) (omega arith) fall;
      numbers = rw (parts, append_assoc (downwards s.count s.hi) (n ∷ []) (numbers_of ss))
          (sym (above-with f n s.count s.hi (numbers_of ss) p h.0.fits (omega arith)
          ∙ ap (λ ns. downwards s.count s.hi ++ ns) (with_number-falling f (distance f n - 1) n (numbers_of ss) fall (omega arith))));
    }

-- and takes the run right below with it
pub adds_between : (f b n : ℕ) (s t : Stretch) (ss : List Stretch) → f < 2 ^ 48 → n < 2 ^ 48 → AreLaid f b (s ∷ t ∷ ss)
    → distance f n + s.count ≡ distance f s.hi → distance f t.hi + 1 ≡ distance f n
    → Adds f b n (s ∷ t ∷ ss) (stretch s.hi (s.count + 1 + t.count) ∷ ss)
adds_between f b n s t ss p q h e k =
    let above : t.count ≤ distance f t.hi + 1 = h.1.0.above in
    let bound : distance f s.hi - (s.count + 1 + t.count) ≡ bound_below f t = omega arith in
    let lower : down n ≡ t.hi = right_below f t.hi n p h.1.0.fits q k in
    let regroup : s.count + 1 + t.count ≡ s.count + suc t.count = omega arith in
    let parts : downwards (s.count + suc t.count) s.hi ≡ downwards s.count s.hi ++ n ∷ downwards t.count (down n) =
    downwards-add s.count (suc t.count) s.hi n h.0.fits q (further f n s.hi s.count p q h.0.fits e) in
    let fall : AreFalling f (distance f t.hi + 1) (numbers_of (t ∷ ss)) =
    falling-run f (distance f t.hi + 1) t.count t.hi (numbers_of ss) p h.1.0.fits (omega arith) h.1.0.some above
    (falling_numbers f (bound_below f t) ss p h.1.1) in
    record {
      laid = (record { fits = h.0.fits; some = omega arith; below = h.0.below; above = omega arith }, rw bound h.1.1);
      fresh = above-absent f n s.count s.hi (numbers_of (t ∷ ss)) p h.0.fits (omega arith)
          ∙ below-absent f (distance f t.hi + 1) n (numbers_of (t ∷ ss)) (omega arith) fall;
      numbers = rw (regroup, parts, lower, append_assoc (downwards s.count s.hi) (n ∷ downwards t.count t.hi) (numbers_of ss))
          (sym (above-with f n s.count s.hi (numbers_of (t ∷ ss)) p h.0.fits (omega arith)
          ∙ ap (λ ns. downwards s.count s.hi ++ ns) (with_number-falling f (distance f t.hi + 1) n (numbers_of (t ∷ ss)) fall (omega arith))));
    }

-- the bound that a run leaves, where it is the last of those passed
pub bound_after-more : (f b i : ℕ) (ss : List Stretch) (d : Stretch) → i < length ss → bound_after f b (take (i + 1) ss) ≡ bound_below f (get_or ss i d)
bound_after-more f b i [] d h = absurd (omega arith)
bound_after-more f b zero (s ∷ ss) d h = refl
bound_after-more f b (suc i) (s ∷ ss) d h = rw (suc-add i 1) (bound_after-more f (bound_below f s) i ss d (omega arith))

-- runs below a wider or a narrower bound
pub laid_below : (f b c : ℕ) (s : Stretch) (ss : List Stretch) → distance f s.hi < c → AreLaid f b (s ∷ ss) → AreLaid f c (s ∷ ss)
laid_below f b c s ss h k = (record { fits = k.0.fits; some = k.0.some; below = h; above = k.0.above }, k.1)

-- the run at a place, and those after it
pub split_at : (ss : List Stretch) (i : ℕ) (s : Stretch) → i < length ss → s ≡ get_or ss i s → ss ≡ take i ss ++ s ∷ drop (suc i) ss
split_at ss i s h e =
    let parts : drop i ss ≡ get_or ss i s ∷ drop (suc i) ss = drop-cons ss i s h in
    sym (take-append-drop i ss) ∙ ap (λ ts. take i ss ++ ts) (parts ∙ ap (λ x. x ∷ drop (suc i) ss) (sym e))

pub laid_at : (f b i : ℕ) (ss : List Stretch) (s : Stretch) → i < length ss → s ≡ get_or ss i s → AreLaid f b ss
    → AreLaid f (bound_after f b (take i ss)) (s ∷ drop (suc i) ss)
laid_at f b i ss s h e k =
    let P : List Stretch → Type 0 = λ ts. AreLaid f b ts in
    laid_back f b (take i ss) (s ∷ drop (suc i) ss) (subst P (split_at ss i s h e) k)

-- what is added at a place
pub adds_at : (f b n i : ℕ) (ss : List Stretch) (s : Stretch) (new : List Stretch) → f < 2 ^ 48 → i < length ss → s ≡ get_or ss i s → AreLaid f b ss
    → distance f n < bound_after f b (take i ss) → Adds f (bound_after f b (take i ss)) n (s ∷ drop (suc i) ss) new → Adds f b n ss (take i ss ++ new)
adds_at f b n i ss s new p h e k a d =
    let P : List Stretch → Type 0 = λ ts. AreLaid f b ts in
    let Q : List Stretch → Type 0 = λ ts. Adds f b n ts (take i ss ++ new) in
    let parts : ss ≡ take i ss ++ s ∷ drop (suc i) ss = split_at ss i s h e in
    subst Q (sym parts) (adds_after f b n (take i ss) (s ∷ drop (suc i) ss) new p (subst P parts k) a d)

-- a run of its own, at a place
pub begins_at : (f b n i : ℕ) (ss : List Stretch) → f < 2 ^ 48 → n < 2 ^ 48 → AreLaid f b ss
    → distance f n < bound_after f b (take i ss) → AreLaid f (distance f n - 1) (drop i ss) → Adds f b n ss (take i ss ++ stretch n 1 ∷ drop i ss)
begins_at f b n i ss p q k a d =
    let P : List Stretch → Type 0 = λ ts. AreLaid f b ts in
    let Q : List Stretch → Type 0 = λ ts. Adds f b n ts (take i ss ++ stretch n 1 ∷ drop i ss) in
    let parts : take i ss ++ drop i ss ≡ ss = take-append-drop i ss in
    subst Q parts (adds_after f b n (take i ss) (drop i ss) (stretch n 1 ∷ drop i ss) p (subst P (sym parts) k) a
    (adds_alone f (bound_after f b (take i ss)) n (drop i ss) p q a d))

-- with a run of its own there are at most 1,024
pub room_for_one : (f n i : ℕ) (ss : List Stretch) → Adds f 2048 n ss (take i ss ++ stretch n 1 ∷ drop i ss) → length ss < 1024
room_for_one f n i ss a =
    let most : 2 * length (take i ss ++ stretch n 1 ∷ drop i ss) ≤ 2048 + 1 = room_for_runs f 2048 (take i ss ++ stretch n 1 ∷ drop i ss) a.laid in
    let all : length (take i ss ++ drop i ss) ≡ length ss = ap length (take-append-drop i ss) in
    let one : length (take i ss ++ stretch n 1 ∷ drop i ss) ≡ length (take i ss) + suc (length (drop i ss)) =
    length-append (take i ss) (stretch n 1 ∷ drop i ss) in
    let two : length (take i ss ++ drop i ss) ≡ length (take i ss) + length (drop i ss) = length-append (take i ss) (drop i ss) in
    omega arith
