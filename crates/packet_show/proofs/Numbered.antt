-- A map that is ordered by keys has the number of each flow that was seen: what is the same to the order is the key of the same flow, and
-- one more is found under the next number, and all others as before.
use Rattle.std.proofs.Common.{◌≡◌, refl, sym, ap, ◌∙◌, subst, arith, ℕ, suc, ◌+◌, ◌==◌, nat_lt, Bool, true, false, ◌&&◌, ◌||◌, cond, if◌then◌else◌, List, [], ◌∷◌, ◌++◌, length, Option, Some, None, Result, Ok, Err, OnOk, eqb-true, eq-eqb, append_assoc}
use Rattle.std.proofs.lemmas.Bool.{and_parts, ltb-false, ltb-true}
use Rattle.std.proofs.lemmas.Iterator.Adapters.{position_from-zero}
use Rattle.std.specs.Prelude.{is_some, position}
use Rattle.std.specs.BTreeMap.{is_at}
use Rattle.std.specs.Cmp.{both_tied, unsigned_ties}
use Rattle.std.specs.List.{list_any, position_from}
use Rattle.std.specs.Map.{lookup}
use Rattle.std.specs.Option.{option_map}
use Rattle.std.specs.Ordering.{nat_cmp, ordering_then}
use Rattle.packet_show.specs.Flows.{AddressAndPort, Flow, HasNumbers, IsSplit, FlowKey, first_further, key_cmp, key_of, mixed, most_first, flow_number_from, flow_number, flow_number_at, number_if_seen, same_end, same_flow, with_flow}

one-end : (a b : AddressAndPort) → same_end a b ≡ true → a ≡ b
one-end a b is =
    let both = and_parts (a.0 == b.0) (a.1 == b.1) is in
    let address : a.0 ≡ b.0 = eqb-true a.0 b.0 both.0 in
    let port : a.1 ≡ b.1 = eqb-true a.1 b.1 both.1 in
    λ i. (address i, port i)

one-flow : (a b : Flow) → same_flow a b ≡ true → a ≡ b
one-flow a b is =
    let all = and_parts (a.0 == b.0 && same_end a.1 b.1) (same_end a.2 b.2) is in
    let front = and_parts (a.0 == b.0) (same_end a.1 b.1) all.0 in
    let version : a.0 ≡ b.0 = eqb-true a.0 b.0 front.0 in
    let lesser : a.1 ≡ b.1 = one-end a.1 b.1 front.1 in
    let other : a.2 ≡ b.2 = one-end a.2 b.2 all.1 in
    λ i. (version i, lesser i, other i)

and-true : (a b : Bool) → a ≡ true → b ≡ true → (a && b) ≡ true
and-true true b one other = other
and-true false b one other = cc one

end-itself : (a : AddressAndPort) → same_end a a ≡ true
end-itself a = and-true (a.0 == a.0) (a.1 == a.1) (eq-eqb a.0 a.0 refl) (eq-eqb a.1 a.1 refl)

itself : (a : Flow) → same_flow a a ≡ true
itself a =
    and-true (a.0 == a.0 && same_end a.1 a.1) (same_end a.2 a.2)
    (and-true (a.0 == a.0) (same_end a.1 a.1) (eq-eqb a.0 a.0 refl) (end-itself a.1)) (end-itself a.2)

-- what the order calls the same is the key of the same flow

abbrev same-rest : (a b : Flow) → Bool
same-rest a b = (a.1.1 == b.1.1 && a.2.1 == b.2.1) && a.0 == b.0

abbrev same-key : (a b : Flow) → Bool
same-key a b = (mixed a == mixed b && same-rest a b) && (a.1.0 == b.1.0 && a.2.0 == b.2.0)

key-tied : (a b : Flow) → same-key a b ≡ is_at (key_cmp (key_of a)) (key_of b)
key-tied a b =
    both_tied (mixed a == mixed b && same-rest a b) (a.1.0 == b.1.0 && a.2.0 == b.2.0)
    (ordering_then (nat_cmp (mixed a) (mixed b)) (ordering_then (ordering_then (nat_cmp a.1.1 b.1.1) (nat_cmp a.2.1 b.2.1)) (nat_cmp a.0 b.0)))
    (ordering_then (nat_cmp a.1.0 b.1.0) (nat_cmp a.2.0 b.2.0))
    (both_tied (mixed a == mixed b) (same-rest a b) (nat_cmp (mixed a) (mixed b))
    (ordering_then (ordering_then (nat_cmp a.1.1 b.1.1) (nat_cmp a.2.1 b.2.1)) (nat_cmp a.0 b.0)) (unsigned_ties (mixed a) (mixed b))
    (both_tied (a.1.1 == b.1.1 && a.2.1 == b.2.1) (a.0 == b.0) (ordering_then (nat_cmp a.1.1 b.1.1) (nat_cmp a.2.1 b.2.1)) (nat_cmp a.0 b.0)
    (both_tied (a.1.1 == b.1.1) (a.2.1 == b.2.1) (nat_cmp a.1.1 b.1.1) (nat_cmp a.2.1 b.2.1) (unsigned_ties a.1.1 b.1.1) (unsigned_ties a.2.1 b.2.1))
    (unsigned_ties a.0 b.0)))
    (both_tied (a.1.0 == b.1.0) (a.2.0 == b.2.0) (nat_cmp a.1.0 b.1.0) (nat_cmp a.2.0 b.2.0) (unsigned_ties a.1.0 b.1.0) (unsigned_ties a.2.0 b.2.0))

key-itself : (a : Flow) → same-key a a ≡ true
key-itself a =
    and-true (mixed a == mixed a && same-rest a a) (a.1.0 == a.1.0 && a.2.0 == a.2.0)
    (and-true (mixed a == mixed a) (same-rest a a) (eq-eqb (mixed a) (mixed a) refl)
    (and-true (a.1.1 == a.1.1 && a.2.1 == a.2.1) (a.0 == a.0)
    (and-true (a.1.1 == a.1.1) (a.2.1 == a.2.1) (eq-eqb a.1.1 a.1.1 refl) (eq-eqb a.2.1 a.2.1 refl)) (eq-eqb a.0 a.0 refl)))
    (and-true (a.1.0 == a.1.0) (a.2.0 == a.2.0) (eq-eqb a.1.0 a.1.0 refl) (eq-eqb a.2.0 a.2.0 refl))

key-flow : (a b : Flow) → same-key a b ≡ true → same_flow a b ≡ true
key-flow a b is =
    let all = and_parts (mixed a == mixed b && same-rest a b) (a.1.0 == b.1.0 && a.2.0 == b.2.0) is in
    let front = and_parts (mixed a == mixed b) (same-rest a b) all.0 in
    let rest = and_parts (a.1.1 == b.1.1 && a.2.1 == b.2.1) (a.0 == b.0) front.1 in
    let ports = and_parts (a.1.1 == b.1.1) (a.2.1 == b.2.1) rest.0 in
    let addresses = and_parts (a.1.0 == b.1.0) (a.2.0 == b.2.0) all.1 in
    and-true (a.0 == b.0 && same_end a.1 b.1) (same_end a.2 b.2)
    (and-true (a.0 == b.0) (same_end a.1 b.1) rest.1 (and-true (a.1.0 == b.1.0) (a.1.1 == b.1.1) addresses.0 ports.0))
    (and-true (a.2.0 == b.2.0) (a.2.1 == b.2.1) addresses.1 ports.1)

flow-key : (a b : Flow) → same_flow a b ≡ true → same-key a b ≡ true
flow-key a b is = subst (λ (x : Flow). same-key a x ≡ true) (one-flow a b is) (key-itself a)

bools-same : (one other : Bool) → (one ≡ true → other ≡ true) → (other ≡ true → one ≡ true) → one ≡ other
bools-same true true there back = refl
bools-same true false there back = sym (there refl)
bools-same false true there back = back refl
bools-same false false there back = refl

tied : (a b : Flow) → is_at (key_cmp (key_of a)) (key_of b) ≡ same_flow a b
tied a b = sym (key-tied a b) ∙ bools-same (same-key a b) (same_flow a b) (key-flow a b) (flow-key a b)

turned : (a b : Flow) → same_flow a b ≡ false → same_flow b a ≡ false
turned a b is = by (same_flow b a) refl where
  by : (same : Bool) → same_flow b a ≡ same → same_flow b a ≡ false
  by true so =
      let one : same_flow a b ≡ true = subst (λ (x : Flow). same_flow x b ≡ true) (one-flow b a so) (itself b) in
      cc (is, one)
  by false so = so

-- the place of a flow in a list, by a test

pushed : (t : Flow → Bool) (i : ℕ) (xs : List Flow) (y : Flow) → t y ≡ true → position_from t i xs ≡ None
    → position_from t i (xs ++ y ∷ []) ≡ Some (i + length xs)
pushed t i [] y same none =
    let here : i ≡ i + 0 = omega arith in
    ap (λ (b : Bool). cond b (Some i) None) same ∙ ap Some here
pushed t i (x ∷ xs) y same none = by (t x) (pushed t (i + 1) xs y same) none where
  by : (b : Bool) → (position_from t (i + 1) xs ≡ None → position_from t (i + 1) (xs ++ y ∷ []) ≡ Some (i + 1 + length xs))
      → cond b (Some i) (position_from t (i + 1) xs) ≡ None → cond b (Some i) (position_from t (i + 1) (xs ++ y ∷ [])) ≡ Some (i + suc (length xs))
  by true more found = cc found
  by false more later =
      let further : i + 1 + length xs ≡ i + suc (length xs) = omega arith in
      more later ∙ ap Some further

passed : (t : Flow → Bool) (i : ℕ) (xs : List Flow) (y : Flow) → t y ≡ false
    → position_from t i (xs ++ y ∷ []) ≡ position_from t i xs
passed t i [] y differs = ap (λ (b : Bool). cond b (Some i) None) differs
passed t i (x ∷ xs) y differs = ap (λ (r : Option ℕ). cond (t x) (Some i) r) (passed t (i + 1) xs y differs)

shifted : (t : Flow → Bool) (i : ℕ) (xs : List Flow) → position_from t (i + 1) xs ≡ option_map (λ n. n + 1) (position_from t i xs)
shifted t i [] = refl
shifted t i (x ∷ xs) = by (t x) (shifted t (i + 1) xs) where
  by : (b : Bool) → position_from t (i + 1 + 1) xs ≡ option_map (λ n. n + 1) (position_from t (i + 1) xs)
      → cond b (Some (i + 1)) (position_from t (i + 1 + 1) xs) ≡ option_map (λ n. n + 1) (cond b (Some i) (position_from t (i + 1) xs))
  by true rest = refl
  by false rest = rest

any-found : (t : Flow → Bool) (i : ℕ) (xs : List Flow) → is_some (position_from t i xs) ≡ list_any t xs
any-found t i [] = refl
any-found t i (x ∷ xs) = by (t x) (any-found t (i + 1) xs) where
  by : (b : Bool) → is_some (position_from t (i + 1) xs) ≡ list_any t xs
      → is_some (cond b (Some i) (position_from t (i + 1) xs)) ≡ (b || list_any t xs)
  by true rest = refl
  by false rest = rest

-- the number of a flow

placed : (flow : Flow) (seen : List Flow) → number_if_seen flow seen ≡ option_map (λ n. n + 1) (position (same_flow flow) seen)
placed flow seen =
    shifted (same_flow flow) 0 seen ∙ ap (option_map (λ n. n + 1)) (sym (position_from-zero (same_flow flow) seen))

pub numbered_so : (flow : Flow) (seen : List Flow) (number : ℕ) → number_if_seen flow seen ≡ Some number → number ≡ flow_number flow seen
numbered_so flow seen number is = by (position (same_flow flow) seen) (sym (placed flow seen) ∙ is) where
  by : (place : Option ℕ) → option_map (λ n. n + 1) place ≡ Some number → number ≡ flow_number_at place seen
  by (Some place) found = cc found
  by None found = cc found

pub next_so : (flow : Flow) (seen : List Flow) → number_if_seen flow seen ≡ None → length seen + 1 ≡ flow_number flow seen
next_so flow seen is = by (position (same_flow flow) seen) (sym (placed flow seen) ∙ is) where
  by : (place : Option ℕ) → option_map (λ n. n + 1) place ≡ None → length seen + 1 ≡ flow_number_at place seen
  by (Some place) found = cc found
  by None found = refl

-- a flow is noted

pub noted_before : (flow : Flow) (seen : List Flow) (number : ℕ) → number_if_seen flow seen ≡ Some number → seen ≡ with_flow flow seen
noted_before flow seen number is =
    sym (ap (λ (b : Bool). if b then seen else seen ++ flow ∷ []) (sym (any-found (same_flow flow) 1 seen) ∙ ap is_some is))

pub noted_now : (flow : Flow) (seen : List Flow) → number_if_seen flow seen ≡ None → seen ++ flow ∷ [] ≡ with_flow flow seen
noted_now flow seen is =
    sym (ap (λ (b : Bool). if b then seen else seen ++ flow ∷ []) (sym (any-found (same_flow flow) 1 seen) ∙ ap is_some is))

pub numbers_now : (flow : Flow) (before after : List (FlowKey × ℕ)) (seen : List Flow) → HasNumbers before seen → flow_number_from first_further flow seen ≡ None
    → ((q : FlowKey)
    → lookup (is_at (key_cmp q)) after ≡ cond (is_at (key_cmp (key_of flow)) q) (Some (length seen + first_further)) (lookup (is_at (key_cmp q)) before))
    → HasNumbers after (seen ++ flow ∷ [])
numbers_now flow before after seen has none updates q = by (is_at (key_cmp (key_of flow)) (key_of q)) refl where
  by : (same : Bool) → is_at (key_cmp (key_of flow)) (key_of q) ≡ same
      → lookup (is_at (key_cmp (key_of q))) after ≡ flow_number_from first_further q (seen ++ flow ∷ [])
  by true is =
      let one : flow ≡ q = one-flow flow q (sym (tied flow q) ∙ is) in
      let next : length seen + first_further ≡ first_further + length seen = omega arith in
      updates (key_of q)
      ∙ ap (λ (b : Bool). cond b (Some (length seen + first_further)) (lookup (is_at (key_cmp (key_of q))) before)) is
      ∙ ap Some next
      ∙ sym (subst (λ (x : Flow). flow_number_from first_further x (seen ++ flow ∷ []) ≡ Some (first_further + length seen)) one
      (pushed (same_flow flow) first_further seen flow (itself flow) none))
  by false is =
      let apart : same_flow q flow ≡ false = turned flow q (sym (tied flow q) ∙ is) in
      updates (key_of q)
      ∙ ap (λ (b : Bool). cond b (Some (length seen + first_further)) (lookup (is_at (key_cmp (key_of q))) before)) is
      ∙ has q
      ∙ sym (passed (same_flow q) first_further seen flow apart)

-- flows in a set and after it

found-in-front : (t : Flow → Bool) (i n : ℕ) (xs ys : List Flow) → position_from t i xs ≡ Some n → position_from t i (xs ++ ys) ≡ Some n
found-in-front t i n [] ys is = cc is
found-in-front t i n (x ∷ xs) ys is = by (t x) (found-in-front t (i + 1) n xs ys) is where
  by : (b : Bool) → (position_from t (i + 1) xs ≡ Some n → position_from t (i + 1) (xs ++ ys) ≡ Some n)
      → cond b (Some i) (position_from t (i + 1) xs) ≡ Some n → cond b (Some i) (position_from t (i + 1) (xs ++ ys)) ≡ Some n
  by true more found = found
  by false more found = more found

found-after : (t : Flow → Bool) (i : ℕ) (xs ys : List Flow) → position_from t i xs ≡ None
    → position_from t i (xs ++ ys) ≡ position_from t (i + length xs) ys
found-after t i [] ys none =
    let here : i ≡ i + 0 = omega arith in
    ap (λ (n : ℕ). position_from t n ys) here
found-after t i (x ∷ xs) ys none = by (t x) (found-after t (i + 1) xs ys) none where
  by : (b : Bool) → (position_from t (i + 1) xs ≡ None → position_from t (i + 1) (xs ++ ys) ≡ position_from t (i + 1 + length xs) ys)
      → cond b (Some i) (position_from t (i + 1) xs) ≡ None
      → cond b (Some i) (position_from t (i + 1) (xs ++ ys)) ≡ position_from t (i + suc (length xs)) ys
  by true more found = cc found
  by false more later =
      let further : i + 1 + length xs ≡ i + suc (length xs) = omega arith in
      more later ∙ ap (λ (n : ℕ). position_from t n ys) further

pub number_in_first : (flow : Flow) (first further : List Flow) (place : ℕ) → position (same_flow flow) first ≡ Some place
    → Some (place + 1) ≡ number_if_seen flow (first ++ further)
number_in_first flow first further place is =
    sym (found-in-front (same_flow flow) 1 (place + 1) first further (placed flow first ∙ ap (option_map (λ n. n + 1)) is))

none-first : (flow : Flow) (first : List Flow) → position (same_flow flow) first ≡ None → number_if_seen flow first ≡ None
none-first flow first none = placed flow first ∙ ap (option_map (λ n. n + 1)) none

-- after a set that is full the numbers go on, and after one that is not there is no flow
numbers-go-on : (flow : Flow) (first further : List Flow) (full : Bool) → nat_lt (length first) most_first ≡ full → IsSplit first further
    → position_from (same_flow flow) (1 + length first) further ≡ flow_number_from first_further flow further
numbers-go-on flow first further true is split =
    let none : further ≡ [] = split.full (ltb-true (length first) most_first is) in
    subst (λ (fs : List Flow). position_from (same_flow flow) (1 + length first) fs ≡ flow_number_from first_further flow fs) (sym none) refl
numbers-go-on flow first further false is split =
    let least = ltb-false (length first) most_first is in
    let most = split.few in
    let start : 1 + length first ≡ first_further = omega (arith, least, most) in
    ap (λ (n : ℕ). position_from (same_flow flow) n further) start

pub number_past_first : (flow : Flow) (first further : List Flow) → IsSplit first further → position (same_flow flow) first ≡ None
    → flow_number_from first_further flow further ≡ number_if_seen flow (first ++ further)
number_past_first flow first further split none =
    sym (found-after (same_flow flow) 1 first further (none-first flow first none)
    ∙ numbers-go-on flow first further (nat_lt (length first) most_first) refl split)

-- a flow that was not seen is in neither part
not-in-front : (t : Flow → Bool) (i : ℕ) (xs ys : List Flow) → position_from t i (xs ++ ys) ≡ None → position_from t i xs ≡ None
not-in-front t i xs ys none = by (position_from t i xs) refl where
  by : (r : Option ℕ) → position_from t i xs ≡ r → position_from t i xs ≡ None
  by None is = is
  by (Some n) is = cc (sym (found-in-front t i n xs ys is) ∙ none)

pub none_further : (flow : Flow) (first further : List Flow) → IsSplit first further → number_if_seen flow (first ++ further) ≡ None
    → flow_number_from first_further flow further ≡ None
none_further flow first further split none =
    sym (numbers-go-on flow first further (nat_lt (length first) most_first) refl split)
    ∙ sym (found-after (same_flow flow) 1 first further (not-in-front (same_flow flow) 1 first further none)) ∙ none

-- what comes of a flow that is put after the set
pub noted_further : {A E : Type 0} (result : Result A E) (flow : Flow) (first further more seen : List Flow) → first ++ further ≡ seen
    → number_if_seen flow seen ≡ None
    → OnOk result (more ≡ further ++ flow ∷ []) → OnOk result (first ++ more ≡ with_flow flow seen)
noted_further (Ok _) flow first further more seen is none put =
    let unseen : number_if_seen flow (first ++ further) ≡ None = ap (λ (list : List Flow). number_if_seen flow list) is ∙ none in
    ap (λ (list : List Flow). first ++ list) put ∙ sym (append_assoc first further (flow ∷ [])) ∙ noted_now flow (first ++ further) unseen
    ∙ ap (λ (list : List Flow). with_flow flow list) is
noted_further (Err _) flow first further more seen is none put = tt
