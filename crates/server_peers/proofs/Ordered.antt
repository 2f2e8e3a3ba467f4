-- Lists of keys in strict order: where a binary search leads, and what an edit there makes.
use Rattle.std.proofs.Common.{◌≡◌, ◌≢◌, refl, sym, ap, ◌∙◌, subst, ℕ, zero, suc, ◌≤◌, ◌<◌, Bool, true, false, cond, not, ◌&&◌, T, List, [], ◌∷◌, length, get_or, inl, inr, Result, Ok, Err, Ordering, Less, Equal, Greater, is_eq, is_lt, arith, IsSome, Option, Some, None}
use Rattle.std.proofs.lemmas.Bool.{cases_lt, false≢true}
use Rattle.std.specs.BTreeSet.{insert_key}
use Rattle.std.specs.Cmp.{IsTotalOrder}
use Rattle.std.proofs.lemmas.Cmp.{alike_right}
use Rattle.std.specs.FinMap.Entries.{below_all, by_order, is_sorted, put, where_key}
use Rattle.std.specs.List.{filter, insert, remove}
use Rattle.std.specs.List.Sorted.{IsBinarySearchResult, IsNonDecreasingBy, IsSearchInRange}
use Rattle.std.specs.Map.{keys_of}
use Rattle.std.specs.Ordering.{match_ordering, ordering_index, ordering_reverse}
use Rattle.std.specs.Prelude.{OnErr, OnOk, OnSome}
use Rattle.std.specs.Result.{MatchResult}
use Rattle.dccp_listener.proofs.Searching.{index_by}
use Rattle.server_peers.specs.Queues.{paired}

pub first_of : (a b : Bool) → T (a && b) → T a
first_of true b p = tt
first_of false b p = p

pub rest_of : (a b : Bool) → T (a && b) → T b
rest_of true b p = p
rest_of false b p = absurd p

pub less_from : (o : Ordering) → T (is_lt o) → o ≡ Less
less_from Less p = refl
less_from Equal p = absurd p
less_from Greater p = absurd p

-- an insertion succeeds where there is room
pub inserted : {X Y : Type 0} {P : Type 0} {n room : ℕ} (r : Result X Y) → OnOk r P → OnErr r (room ≤ n) → n < room → P
inserted (Ok x) items full lt = items
inserted (Err e) items full lt = absurd (omega (arith, full, lt))

-- and a removal where there is something
pub removed : {X : Type 0} {P : Type 0} (r : Option X) → OnSome r P → IsSome r → P
removed None items there = absurd (false≢true there)
removed (Some x) items there = items

module _ {K : Type 0} where
  unpaired : (ks : List K) → keys_of (paired ks) ≡ ks
  unpaired [] = refl
  unpaired (k ∷ ks) = ap (λ (l : List K). k ∷ l) (unpaired ks)

  pub same_paired : (xs ys : List K) → paired xs ≡ paired ys → xs ≡ ys
  same_paired xs ys same = sym (unpaired xs) ∙ ap (λ (l : List (K × Unit {0})). keys_of l) same ∙ unpaired ys

  all_kept : (p : K → Bool) (ks : List K) → ((j : ℕ) (d : K) → j < length ks → p (get_or ks j d) ≡ true) → filter p ks ≡ ks
  all_kept p [] all = refl
  all_kept p (x ∷ xs) all =
      ap (λ (b : Bool). cond b (x ∷ filter p xs) (filter p xs)) (all 0 x (omega arith))
      ∙ ap (λ (l : List K). x ∷ l) (all_kept p xs (λ j d lt. all (suc j) d (omega (arith, lt))))

  one_out : (p : K → Bool) (ks : List K) (i : ℕ) → i < length ks → ((d : K) → p (get_or ks i d) ≡ false)
      → ((j : ℕ) (d : K) → j < length ks → j ≢ i → p (get_or ks j d) ≡ true) → remove ks i ≡ filter p ks
  one_out p [] i within here others = absurd (omega (arith, within))
  one_out p (x ∷ xs) zero within here others =
      sym (all_kept p xs (λ j d lt. others (suc j) d (omega (arith, lt)) (λ same. omega (arith, same))))
      ∙ sym (ap (λ (b : Bool). cond b (x ∷ filter p xs) (filter p xs)) (here x))
  one_out p (x ∷ xs) (suc i) within here others =
      ap (λ (l : List K). x ∷ l)
      (one_out p xs i (omega (arith, within)) here
      (λ j d lt differs. others (suc j) d (omega (arith, lt)) (λ same. differs (omega (arith, same)))))
      ∙ sym (ap (λ (b : Bool). cond b (x ∷ filter p xs) (filter p xs)) (others 0 x (omega arith) (λ same. omega (arith, same))))

  module _ (R : K → K → Ordering) where
    put-by : (k x : K) (xs : List K) (o : Ordering) → paired (insert_key R xs k) ≡ put R k tt (paired xs)
        → paired (match_ordering o (k ∷ x ∷ xs) (x ∷ xs) (x ∷ insert_key R xs k))
        ≡ by_order o ((k, tt) ∷ (x, tt) ∷ paired xs) ((x, tt) ∷ paired xs) ((x, tt) ∷ put R k tt (paired xs))
    put-by k x xs Less later = refl
    put-by k x xs Equal later = refl
    put-by k x xs Greater later = ap (λ (l : List (K × Unit {0})). (x, tt) ∷ l) later

    pub put_paired : (k : K) (ks : List K) → paired (insert_key R ks k) ≡ put R k tt (paired ks)
    put_paired k [] = refl
    put_paired k (x ∷ xs) = put-by k x xs (R k x) (put_paired k xs)

    kept-by : (p : K → Bool) (x : K) (xs : List K) (b : Bool) → paired (filter p xs) ≡ where_key R p (paired xs)
        → paired (cond b (x ∷ filter p xs) (filter p xs)) ≡ cond b ((x, tt) ∷ where_key R p (paired xs)) (where_key R p (paired xs))
    kept-by p x xs true later = ap (λ (l : List (K × Unit {0})). (x, tt) ∷ l) later
    kept-by p x xs false later = later

    pub filter_paired : (p : K → Bool) (ks : List K) → paired (filter p ks) ≡ where_key R p (paired ks)
    filter_paired p [] = refl
    filter_paired p (x ∷ xs) = kept-by p x xs (p x) (filter_paired p xs)

    below_at : (x : K) (ks : List K) (j : ℕ) (d : K) → T (below_all R x (paired ks)) → j < length ks → R x (get_or ks j d) ≡ Less
    below_at x [] j d h lt = absurd (omega (arith, lt))
    below_at x (k ∷ ks) zero d h lt = less_from (R x k) (first_of (is_lt (R x k)) (below_all R x (paired ks)) h)
    below_at x (k ∷ ks) (suc j) d h lt = below_at x ks j d (rest_of (is_lt (R x k)) (below_all R x (paired ks)) h) (omega (arith, lt))

    pub less_at : (ks : List K) (i j : ℕ) (d : K) → T (is_sorted R (paired ks)) → i < j → j < length ks → R (get_or ks i d) (get_or ks j d) ≡ Less
    less_at [] i j d h before lt = absurd (omega (arith, lt))
    less_at (k ∷ ks) zero zero d h before lt = absurd (omega (arith, before))
    less_at (k ∷ ks) zero (suc j) d h before lt = below_at k ks j d (first_of (below_all R k (paired ks)) (is_sorted R (paired ks)) h) (omega (arith, lt))
    less_at (k ∷ ks) (suc i) zero d h before lt = absurd (omega (arith, before))
    less_at (k ∷ ks) (suc i) (suc j) d h before lt =
        less_at ks i j d (rest_of (below_all R k (paired ks)) (is_sorted R (paired ks)) h) (omega (arith, before)) (omega (arith, lt))

    put_here : (k : K) (ks : List K) (i : ℕ) → i ≤ length ks → ((j : ℕ) (d : K) → j < i → R k (get_or ks j d) ≡ Greater)
        → ((j : ℕ) (d : K) → i ≤ j → j < length ks → R k (get_or ks j d) ≡ Less) → insert ks i k ≡ insert_key R ks k
    put_here k [] zero within before after = refl
    put_here k [] (suc i) within before after = absurd (omega (arith, within))
    put_here k (x ∷ xs) zero within before after =
        sym (ap (λ (o : Ordering). match_ordering o (k ∷ x ∷ xs) (x ∷ xs) (x ∷ insert_key R xs k)) (after 0 x (omega arith) (omega arith)))
    put_here k (x ∷ xs) (suc i) within before after =
        ap (λ (l : List K). x ∷ l)
        (put_here k xs i (omega (arith, within)) (λ j d lt. before (suc j) d (omega (arith, lt)))
        (λ j d from lt. after (suc j) d (omega (arith, from)) (omega (arith, lt))))
        ∙ sym (ap (λ (o : Ordering). match_ordering o (k ∷ x ∷ xs) (x ∷ xs) (x ∷ insert_key R xs k)) (before 0 x (omega arith)))

    is_there : (k : K) (ks : List K) (i : ℕ) → i < length ks → ((j : ℕ) (d : K) → j < i → R k (get_or ks j d) ≡ Greater)
        → ((d : K) → R k (get_or ks i d) ≡ Equal) → insert_key R ks k ≡ ks
    is_there k [] i within before here = absurd (omega (arith, within))
    is_there k (x ∷ xs) zero within before here =
        ap (λ (o : Ordering). match_ordering o (k ∷ x ∷ xs) (x ∷ xs) (x ∷ insert_key R xs k)) (here x)
    is_there k (x ∷ xs) (suc i) within before here =
        ap (λ (o : Ordering). match_ordering o (k ∷ x ∷ xs) (x ∷ xs) (x ∷ insert_key R xs k)) (before 0 x (omega arith))
        ∙ ap (λ (l : List K). x ∷ l) (is_there k xs i (omega (arith, within)) (λ j d lt. before (suc j) d (omega (arith, lt))) here)

    module _ (o : IsTotalOrder R) (k : K) (ks : List K) (h : T (is_sorted R (paired ks))) where
      rises-by : (x y : K) → R x y ≡ Less → ordering_index (R x k) ≤ ordering_index (R y k)
      rises-by x y less = index_by (R x k) (R y k) (λ is. o.trans x y k less is) (λ is. sym (alike_right o y k x is) ∙ less)

      rises : IsNonDecreasingBy (λ y. ordering_index (R y k)) ks
      rises i j d le lt = elim (cases_lt i j) [
        | inl before ↦ rises-by (get_or ks i d) (get_or ks j d) (less_at ks i j d h before lt)
        | inr at_least ↦ subst (λ (n : ℕ). ordering_index (R (get_or ks i d) k) ≤ ordering_index (R (get_or ks n d) k)) {x = i} (omega (arith, le, at_least)) (omega arith)
      ]

      turned : (x : K) (r : Ordering) → R x k ≡ r → R k x ≡ ordering_reverse r
      turned x r is = o.antisymm k x ∙ ap ordering_reverse is

      before-equal : (i : ℕ) → i < length ks → ((d : K) → R (get_or ks i d) k ≡ Equal) → (j : ℕ) (d : K) → j < i → R k (get_or ks j d) ≡ Greater
      before-equal i within here j d lt =
          turned (get_or ks j d) Less (sym (alike_right o (get_or ks i d) k (get_or ks j d) (here d)) ∙ less_at ks j i d h lt within)

      after-equal : (i : ℕ) → ((d : K) → R (get_or ks i d) k ≡ Equal) → (j : ℕ) (d : K) → i < j → j < length ks → R k (get_or ks j d) ≡ Less
      after-equal i here j d before lt = sym (o.congr (get_or ks i d) k (get_or ks j d) (here d)) ∙ less_at ks i j d h before lt

      apart-by : (i j : ℕ) (d : K) → i < length ks → ((d : K) → R (get_or ks i d) k ≡ Equal) → j < length ks → j ≢ i → is_eq (R k (get_or ks j d)) ≡ false
      apart-by i j d within here lt differs = elim (cases_lt j i) [
        | inl before ↦ ap is_eq (before-equal i within here j d before)
        | inr at_least ↦ ap is_eq (after-equal i here j d (elim (cases_lt i j) [ inl past ↦ past | inr most ↦ absurd (differs (omega (arith, at_least, most))) ]) lt)
      ]

      -- what putting k there makes, or that it is there
      pub putting : (r : Result ℕ ℕ) → IsSearchInRange r (length ks) → IsBinarySearchResult (λ y. R y k) ks r
          → MatchResult r (λ i. insert_key R ks k ≡ ks) (λ i. insert ks i k ≡ insert_key R ks k)
      putting (Ok i) within here =
          is_there k ks i within (before-equal i within here) (λ d. turned (get_or ks i d) Equal (here d))
      putting (Err i) within parted =
          put_here k ks i within (λ j d lt. turned (get_or ks j d) Less ((parted rises).0 j d (omega arith) lt))
          (λ j d from lt. turned (get_or ks j d) Greater ((parted rises).1 j d from lt))

      one-side-by : (i j : ℕ) (d : K) → ((j : ℕ) (d : K) → j < i → R (get_or ks j d) k ≡ Less)
          → ((j : ℕ) (d : K) → i ≤ j → j < length ks → R (get_or ks j d) k ≡ Greater) → j < length ks → is_eq (R k (get_or ks j d)) ≡ false
      one-side-by i j d before after lt = elim (cases_lt j i) [
        | inl past ↦ ap is_eq (turned (get_or ks j d) Less (before j d past))
        | inr from ↦ ap is_eq (turned (get_or ks j d) Greater (after j d from lt))
      ]

      -- what taking k out makes, or that it does not stand there
      pub taking : (r : Result ℕ ℕ) → IsSearchInRange r (length ks) → IsBinarySearchResult (λ y. R y k) ks r
          → MatchResult r (λ i. remove ks i ≡ filter (λ x. not (is_eq (R k x))) ks) (λ i. ks ≡ filter (λ x. not (is_eq (R k x))) ks)
      taking (Ok i) within here =
          one_out (λ x. not (is_eq (R k x))) ks i within (λ d. ap (λ (o : Ordering). not (is_eq o)) (turned (get_or ks i d) Equal (here d)))
          (λ j d lt differs. ap not (apart-by i j d within here lt differs))
      taking (Err i) within parted =
          sym (all_kept (λ x. not (is_eq (R k x))) ks
          (λ j d lt. ap not (one-side-by i j d (λ j d past. (parted rises).0 j d (omega arith) past) (λ j d from lt. (parted rises).1 j d from lt) lt)))
