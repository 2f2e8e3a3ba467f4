-- Each kind of step keeps the rule: making, a claim, a split, a join; and what the rule tells at the end.
use Rattle.std.proofs.Common.{◌≡◌, ℕ, ◌+◌, ◌-◌, ◌%◌, ◌^◌, ◌≤◌, ◌<◌, min, Bool, true, false, List, [], ◌∷◌, ◌++◌, length, set, All, nat_lt, slice_index, slice_set, refl, sym, ap, subst, ◌∙◌, ⊎_elim, arith}
use mathlib.Core.Option.{some, some-injective}
use lib.ListN.{get_elem?}
use Rattle.std.proofs.lemmas.List.{length-append}
use Rattle.std.proofs.lemmas.List.Sums.{sum_by-append, sum_by_push}
use Rattle.atomic_table.specs.Table.{State, Me, Allows, Splits, Joins, Final, Seen, keeps}
use Rattle.atomic_table.specs.Seated.{TableId}
use Rattle.atomic_table.proofs.Lists.{at_set, at_snoc}
use Rattle.campaign_claims.specs.declared.rule.View.{View}
use Rattle.campaign_claims.specs.Numbers.{times, once_below, AreOnceBelow}
use Rattle.campaign_claims.specs.Views.{Claimant, held, with_claimed, with_none, claimed, kept, given, both, spent}
use Rattle.campaign_claims.specs.Rule.{all_drawn, ViewFits, AreCounted, Draws}
use Rattle.campaign_claims.proofs.Sums.{sum_set, part_of_sum, sum_le, alone}
use Rattle.campaign_claims.proofs.Below.{is, lie_below, once_below-min, passed, not_passed, below_limit, past_limit}

-- what is added up of all views
abbrev drawn_of : View → ℕ
drawn_of v = v.drawn

abbrev share_of : View → ℕ
share_of v = v.share

abbrev times_of : ℕ → View → ℕ
times_of x v = times x v.numbers

times-append : (x : ℕ) (xs ys : List ℕ) → times x (xs ++ ys) ≡ times x xs + times x ys
times-append x xs ys = sum_by-append (is x) xs ys

times-push : (x : ℕ) (xs : List ℕ) (y : ℕ) → times x (xs ++ y ∷ []) ≡ times x xs + is x y
times-push x xs y = sum_by_push (is x) xs y

-- a word that counts 2^62 claims at most does not wrap
all_fit : (n : ℕ) (s : State ℕ View) → AreCounted n s → all_drawn s.views ≤ 2 ^ 62
all_fit n s rule =
    let le = sum_le drawn_of share_of s.views (λ k v at. (rule.each k v at).within) in
    let all = rule.shares in
    omega arith

-- each view fits after one was put in the place of another
fit_after : (n : ℕ) (views : List View) (id : ℕ) (w : View) → ((k : ℕ) (v : View) → get_elem? views k ≡ some v → ViewFits n v) → ViewFits n w
    → (k : ℕ) (u : View) → get_elem? (set views id w) k ≡ some u → ViewFits n u
fit_after n views id w each fits k u at = ⊎_elim
    (λ here. subst (ViewFits n) here.1 fits)
    (λ there. each k u there.1)
    (at_set views id k w u at)

-- a claim: the word and one view count one more, and the number that was passed is that view's, if there is one
claim_keeps : (n id : ℕ) (s : State ℕ View) (v w : View) → AreCounted n s → get_elem? s.views id ≡ some v → v.drawn < v.share
    → w.drawn ≡ v.drawn + 1 → w.share ≡ v.share → w.limit ≡ v.limit → length w.numbers ≤ v.drawn + 1
    → ((x : ℕ) → times x w.numbers + once_below x (min n (all_drawn s.views)) ≡ times x v.numbers + once_below x (min n (all_drawn s.views + 1)))
    → AreCounted n record { words = slice_set s.words 0 ((slice_index s.words 0 + 1) % 2 ^ 64); homes = s.homes; views = slice_set s.views id w }
claim_keeps n id s v w rule at part drawn share limit few once =
    let fits = rule.each id v at in
    let all = all_fit n s rule in
    let more : all_drawn (set s.views id w) ≡ all_drawn s.views + 1 = (let a = sum_set drawn_of s.views id v w at in omega arith) in
    record {
      word = subst (λ words. slice_set words 0 ((slice_index words 0 + 1) % 2 ^ 64) ≡ all_drawn (set s.views id w) ∷ []) (sym rule.word)
          (ap (λ k. k ∷ []) (omega arith));
      shares = (let a = sum_set share_of s.views id v w at in let b = rule.shares in omega arith);
      each = fit_after n s.views id w rule.each (record {
        within = omega arith;
        few = omega arith;
        same = λ some. limit ∙ fits.same (omega arith);
      });
      once = λ x.
          let a = sum_set (times_of x) s.views id v w at in
          let b = rule.once x in
          let c = once x in
          rw more (omega arith);
    }

-- all numbers of a claimer lie below the word
claim_above : (n id : ℕ) (s : State ℕ View) (v : View) → AreCounted n s → get_elem? s.views id ≡ some v
    → slice_index s.words 0 ≡ all_drawn s.views → All (λ x. x < slice_index s.words 0) v.numbers
claim_above n id s v rule at word = lie_below (slice_index s.words 0) v.numbers (λ x.
    let part = part_of_sum (times_of x) s.views id v at in
    let all = rule.once x in
    let less = once_below-min x n (all_drawn s.views) in
    rw word (omega arith))

claim_goes : (n id : ℕ) (s : State ℕ View) (v : View) → AreCounted n s → get_elem? s.views id ≡ some v → v.drawn < v.share
    → slice_index s.words 0 ≡ all_drawn s.views → (b : Bool) → nat_lt (slice_index s.words 0) v.limit ≡ b
    → AreCounted n record {
      words = slice_set s.words 0 ((slice_index s.words 0 + 1) % 2 ^ 64);
      homes = s.homes;
      views = slice_set s.views id (claimed v (slice_index s.words 0));
    }
claim_goes n id s v rule at part word true test =
    let fits = rule.each id v at in
    let limit : v.limit ≡ n = fits.same (omega arith) in
    let few = fits.few in
    let found = slice_index s.words 0 in
    rw test (claim_keeps n id s v (with_claimed v found) rule at part refl refl refl (omega (arith, length-append v.numbers (found ∷ [])))
    (λ x. rw (times-push x v.numbers found, word)
    (passed x n (all_drawn s.views) (times x v.numbers) (below_limit found (all_drawn s.views) v.limit n word limit test))))
claim_goes n id s v rule at part word false test =
    let fits = rule.each id v at in
    let limit : v.limit ≡ n = fits.same (omega arith) in
    let few = fits.few in
    rw test (claim_keeps n id s v (with_none v) rule at part refl refl refl (omega arith)
    (λ x. not_passed x n (all_drawn s.views) (times x v.numbers) (past_limit (slice_index s.words 0) (all_drawn s.views) v.limit n word limit test)))

pub claims : (n slots id : ℕ) (me : Me ℕ View) → me.0.drawn < me.0.share
    → Allows (AreCounted n) slots id me 0 (λ word. (word + 1) % 2 ^ 64) (Draws me)
claims n slots id me part s rule homes at wide =
    let found = slice_index s.words 0 in
    let is_all : found ≡ all_drawn s.views = ap (λ words. slice_index words 0) rule.word in
    (claimed me.0 found, keeps, tt, claim_goes n id s me.0 rule at part is_all (nat_lt found me.0.limit) refl, (refl, claim_above n id s me.0 rule at is_all))

pub splits : (n id : ℕ) (v : View) → 2 ≤ v.share - v.drawn → Splits (AreCounted n) id v (kept v) (given v)
splits n id v room s rule at =
    let fits = rule.each id v at in
    let few = fits.few in
    let all : all_drawn (set s.views id (kept v) ++ given v ∷ []) ≡ all_drawn s.views =
    omega (arith, sum_by_push drawn_of (set s.views id (kept v)) (given v), sum_set drawn_of s.views id v (kept v) at) in
    record {
      word = rule.word ∙ ap (λ k. k ∷ []) (sym all);
      shares = (let a = rule.shares in omega (arith, sum_by_push share_of (set s.views id (kept v)) (given v), sum_set share_of s.views id v (kept v) at));
      each = λ k u there. ⊎_elim
          (λ old. fit_after n s.views id (kept v) rule.each (record { within = omega arith; few = few; same = λ some. fits.same (omega arith) }) k u old)
          (λ new. subst (ViewFits n) new (record { within = omega arith; few = omega arith; same = λ some. fits.same (omega arith) }))
          (at_snoc (set s.views id (kept v)) (given v) u k there);
      once = λ x. rw all (
          let a = rule.once x in
          omega (arith, sum_by_push (times_of x) (set s.views id (kept v)) (given v), sum_set (times_of x) s.views id v (kept v) at));
    }

pub joins : (n id : ℕ) (v : View) (other : ℕ) (w : View) → 0 < v.share → Joins (AreCounted n) id v other w (both v w) spent
joins n id v other w some_share s rule at apart at_other =
    let fits = rule.each id v at in
    let within = fits.within in
    let few = fits.few in
    let fits_w : ViewFits n w = ⊎_elim (λ here. absurd (apart here.0)) (λ there. rule.each other w there.1) (at_set s.views id other (both v w) w at_other) in
    let within_w = fits_w.within in
    let few_w = fits_w.few in
    let one = set s.views id (both v w) in
    let all : all_drawn (set one other spent) ≡ all_drawn s.views =
    omega (arith, sum_set drawn_of s.views id v (both v w) at, sum_set drawn_of one other w spent at_other) in
    record {
      word = rule.word ∙ ap (λ k. k ∷ []) (sym all);
      shares = (let a = rule.shares in omega (arith, sum_set share_of s.views id v (both v w) at, sum_set share_of one other w spent at_other));
      each = fit_after n one other spent
          (fit_after n s.views id (both v w) rule.each (record {
            within = omega arith;
            few = omega (arith, length-append v.numbers w.numbers);
            same = λ some. fits.same some_share;
          }))
          (record { within = omega arith; few = omega arith; same = λ some. absurd (omega arith) });
      once = λ x. rw all (
          let a = rule.once x in
          omega (arith, times-append x v.numbers w.numbers, sum_set (times_of x) s.views id v (both v w) at, sum_set (times_of x) one other w spent at_other));
    }

-- what the rule tells of the last word and of one claimer
pub record Ends (v : View) (word : ℕ) : Type 0 where
  pub least : v.drawn ≤ word
  pub apart : (x : ℕ) → times x v.numbers ≤ once_below x (min v.limit word)
  pub drawn : v.share ≡ 2 ^ 62 → word ≡ v.drawn
  pub all : v.share ≡ 2 ^ 62 → AreOnceBelow (min v.limit word) v.numbers

none_of_none : (x : ℕ) (xs : List ℕ) → length xs ≤ 0 → times x xs ≡ 0
none_of_none x [] few = refl
none_of_none x (y ∷ ys) few = absurd (omega arith)

ends_by : (n id : ℕ) (v : View) (s : State ℕ View) → AreCounted n s → get_elem? s.views id ≡ some v → 0 < v.share → Ends v (all_drawn s.views)
ends_by n id v s rule at some_share =
    let fits = rule.each id v at in
    let limit : v.limit ≡ n = fits.same some_share in
    let shares = rule.shares in
    record {
      least = part_of_sum drawn_of s.views id v at;
      apart = λ x. rw limit (let a = rule.once x in let b = part_of_sum (times_of x) s.views id v at in omega arith);
      drawn = λ whole. alone drawn_of share_of s.views id v at
          (λ k u there none. let f = rule.each k u there in let w = f.within in omega arith)
          (omega arith);
      all = λ whole x. rw limit (sym (alone (times_of x) share_of s.views id v at
          (λ k u there none. let f = rule.each k u there in let w = f.within in let m = f.few in none_of_none x u.numbers (omega arith))
          (omega arith)) ∙ rule.once x);
    }

ends : (n id : ℕ) (v : View) (words items : List ℕ) (word : ℕ) → 0 < v.share → Final (Seen (AreCounted n) id v) words items
    → get_elem? words 0 ≡ some word → Ends v word
ends n id v words items word some_share (s, (rule, at), is_words, homes, values) read =
    let found : all_drawn s.views ≡ word = some-injective (all_drawn s.views) word (ap (λ ws. get_elem? ws 0) (sym rule.word ∙ is_words) ∙ read) in
    subst (Ends v) found (ends_by n id v s rule at some_share)

-- of a claimer as its callers see it
pub closes : (n id : ℕ) (table : TableId) (v : View) (last : Claimant) (words items : List ℕ) (word : ℕ) → held table v ≡ last → 0 < v.share
    → Final (Seen (AreCounted n) id v) words items → get_elem? words 0 ≡ some word → Ends last.view word
closes n id table v last words items word seen_as some_share final read =
    subst (λ (h : Claimant). Ends h.view word) seen_as (ends n id v words items word some_share final read)
