-- What is kept of receipts is what came: a fact of each receipt holds of how each number of the set came first.
use Rattle.std.proofs.Common.{◌≡◌, ℕ, ◌^◌, ◌<◌, ◌==◌, ◌&&◌, Bool, true, false, List, [], ◌∷◌, ◌++◌, refl, ap, sym, subst, ◌∙◌, inl, inr}
use Rattle.std.specs.Prelude.{Option, Some, None, is_some, if◌then◌else◌}
use Rattle.std.proofs.lemmas.Bool.{and_parts, both_ways, cases_Bool, cond_both, eqb-true}
use Rattle.std.proofs.lemmas.Option.{none-some, same_Some}
use Rattle.seq_circle.specs.Circle.{is_before}
use Rattle.run_list.specs.declared.answers.Marked.{Marked}
use Rattle.run_list.specs.declared.answers.Marked.TheVariants as answer
use Rattle.run_list.specs.MarkedSet.{IsSound, answer_to, has, is_from, marked}
use Rattle.run_list.proofs.Sets.{has-marked, sound-marked}
use Rattle.dccp_ecn.specs.declared.arrived.Arrived.{Arrived}
use Rattle.dccp_ecn.specs.Arrivals.{Receipt, Arrivals, arrival_of, how_in, known_or_marked, none_arrived, taken_in, taken_as}
use Rattle.dccp_ecn.specs.World.{greatest_came}
use Rattle.dccp_ecn.specs.Run.{greatest_from, number_or_0, received_from}
use Rattle.dccp_ecn.proofs.Taking.{how_in-all}

-- a fact of each receipt
abbrev pub EachArrival : (ℕ → Arrived → Type 0) → List Receipt → Type 0
EachArrival P [] = Unit {0}
EachArrival P (a ∷ rest) = (a.number < 2 ^ 48) × P a.number a.how × EachArrival P rest

pub each_arrival-push : (P : ℕ → Arrived → Type 0) (rs : List Receipt) (n : ℕ) (how : Arrived) → n < 2 ^ 48 → P n how → EachArrival P rs
    → EachArrival P (rs ++ arrival_of n how ∷ [])
each_arrival-push P [] n how fits p each = (fits, p, tt)
each_arrival-push P (r ∷ rs) n how fits p each = (each.0, each.1, each_arrival-push P rs n how fits p each.2)

pub each_arrival-weaker : (P Q : ℕ → Arrived → Type 0) (rs : List Receipt) → ((n : ℕ) (how : Arrived) → P n how → Q n how) → EachArrival P rs → EachArrival Q rs
each_arrival-weaker P Q [] h each = tt
each_arrival-weaker P Q (r ∷ rs) h each = (each.0, h r.number r.how each.1, each_arrival-weaker P Q rs h each.2)

-- the set is sound, tells how each of its numbers came first, and of no other, and the fact holds of each
pub record IsKept (P : ℕ → Arrived → Type 0) (e : Arrivals) : Type 0 where
  pub sound : IsSound e.set
  pub told : (n : ℕ) → has e.set.numbers n ≡ is_some (how_in e.first n)
  pub each : (n : ℕ) (how : Arrived) → how_in e.first n ≡ Some how → P n how

pub kept-none : (P : ℕ → Arrived → Type 0) (floor : ℕ) → floor < 2 ^ 48 → IsKept P (none_arrived floor)
kept-none P floor fits =
    record {
      sound = record { floor_fits = fits; falling = tt };
      told = λ n. refl;
      each = λ n how e. absurd (none-some how e);
    }

some-if : (b : Bool) (how : Arrived) → is_some (if b then Some how else None) ≡ b
some-if true how = refl
some-if false how = refl

told-how : (b : Bool) (one other : Arrived) → (if b then Some one else None) ≡ Some other → (b ≡ true) × (one ≡ other)
told-how true one other e = (refl, same_Some one other e)
told-how false one other e = absurd (none-some other e)

module _ (P : ℕ → Arrived → Type 0) (e : Arrivals) (n : ℕ) (how : Arrived) (fits : n < 2 ^ 48) (p : P n how) (k : IsKept P e) where
  -- how each number came, with one that is new
  abbrev telling : ℕ → Arrived
  telling m = known_or_marked (how_in (arrival_of n how ∷ e.first) m)

  told-before : (m : ℕ) (before : Option Arrived) → how_in e.first m ≡ before → is_some before ≡ true → P m (known_or_marked before)
  told-before m None is some = absurd (both_ways false refl some)
  told-before m (Some h) is some = k.each m h is

  told-each : (m : ℕ) → answer_to e.set n ≡ answer.New → has (marked e.set n).numbers m ≡ true → P m (telling m)
  told-each m is there =
      elim (cases_Bool (n == m)) [
        | inl same ↦ rw same (subst (λ x. P x how) (eqb-true n m same) p)
        | inr other ↦
            let parts : is_from (marked e.set n).floor m && has e.set.numbers m ≡ true =
            sym (has-marked e.set n m k.sound fits is ∙ rw other refl) ∙ there in
            let present : has e.set.numbers m ≡ true = (and_parts (is_from (marked e.set n).floor m) (has e.set.numbers m) parts).1 in
            rw other (told-before m (how_in e.first m) refl (sym (k.told m) ∙ present))
      ]

  kept-new : (a : Marked) → answer_to e.set n ≡ a → IsKept P (taken_as a e n how)
  kept-new answer.Again is = k
  kept-new answer.BelowFloor is = k
  kept-new answer.New is =
      let numbers : List ℕ = (marked e.set n).numbers in
      record {
        sound = sound-marked e.set n k.sound fits;
        told = λ m. sym (ap is_some (how_in-all telling numbers m) ∙ some-if (has numbers m) (telling m));
        each = λ m h came.
            let both = told-how (has numbers m) (telling m) h (sym (how_in-all telling numbers m) ∙ came) in
            subst (λ x. P m x) both.1 (told-each m is both.0);
      }

  pub kept-taken : IsKept P (taken_in e n how)
  kept-taken = kept-new (answer_to e.set n) refl

pub kept-from : (P : ℕ → Arrived → Type 0) (e : Arrivals) (rs : List Receipt) → IsKept P e → EachArrival P rs → IsKept P (received_from e rs)
kept-from P e [] k each = k
kept-from P e (r ∷ rs) k each = kept-from P (taken_in e r.number r.how) rs (kept-taken P e r.number r.how each.0 each.1 k) each.2

-- one more receipt
pub received-push : (e : Arrivals) (rs : List Receipt) (a : Receipt) → received_from e (rs ++ a ∷ []) ≡ taken_in (received_from e rs) a.number a.how
received-push e [] a = refl
received-push e (r ∷ rs) a = received-push (taken_in e r.number r.how) rs a

pub greatest-push : (greatest : Option ℕ) (rs : List Receipt) (a : Receipt)
    → greatest_from greatest (rs ++ a ∷ []) ≡ greatest_came (greatest_from greatest rs) a.number
greatest-push greatest [] a = refl
greatest-push greatest (r ∷ rs) a = greatest-push (greatest_came greatest r.number) rs a

-- the greatest number of receipts is a sequence number
pub greatest-fits : (P : ℕ → Arrived → Type 0) (greatest : Option ℕ) (rs : List Receipt) → number_or_0 greatest < 2 ^ 48 → EachArrival P rs
    → number_or_0 (greatest_from greatest rs) < 2 ^ 48
greatest-fits P greatest [] fits each = fits
greatest-fits P greatest (r ∷ rs) fits each = greatest-fits P (greatest_came greatest r.number) rs (with-fits greatest fits) each.2
  where
    with-fits : (before : Option ℕ) → number_or_0 before < 2 ^ 48 → number_or_0 (greatest_came before r.number) < 2 ^ 48
    with-fits None h = each.0
    with-fits (Some m) h = cond_both (is_before m r.number) r.number m (λ k. k < 2 ^ 48) (λ _. each.0) (λ _. h)
