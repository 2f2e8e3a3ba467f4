-- Paths along links, and what an edit of one node makes of them.
use Rattle.std.proofs.Common.{◌≡◌, ℕ, ◌+◌, ◌<◌, ◌≤◌, true, false, List, [], ◌∷◌, ◌++◌, zero, suc, refl, ap, subst, arith, sym, ◌∙◌, inl, inr, length, set, get_or}
use Rattle.std.proofs.Common.{nat_lt as ltb}
use Rattle.std.proofs.lemmas.Bool.{cases_eq, cases_lt, eq-eqb, ne_eqb, lt-ltb, le-ltb}
use Rattle.std.proofs.lemmas.List.{get_or-set_other, get_or_default, length-set}
use Rattle.std.proofs.lemmas.Grind.{get_or-set_at}
use Rattle.run_list.specs.declared.walking.Stretch.{Stretch}
use Rattle.run_list.specs.declared.nodes.Node.{Node}
use Rattle.run_list.specs.Linked.{run_of, runs_at, IsPath, walked, runs_from, times_listed, IsLast, Points}
use Rattle.run_list.specs.Nodes.{no_node, node_at}

-- what is read at an index is the node there
pub read_at : (nodes : List Node) (i j : ℕ) (n : Node) → n ≡ get_or nodes i n → i ≡ j → i < length nodes → n ≡ node_at nodes j
read_at nodes i j n e same h = e ∙ get_or_default nodes i n no_node h ∙ ap (λ (k : ℕ). node_at nodes k) same

-- an index at the head of a list
pub times-here : (i j : ℕ) (js : List ℕ) → i ≡ j → times_listed i (j ∷ js) ≡ 1 + times_listed i js
times-here i j js e = rw (eq-eqb i j e) refl

pub times-other : (i j : ℕ) (js : List ℕ) → ((i ≡ j) → ⊥) → times_listed i (j ∷ js) ≡ times_listed i js
times-other i j js e = rw (ne_eqb i j e) (omega arith)

pub times-append : (i : ℕ) (xs ys : List ℕ) → times_listed i (xs ++ ys) ≡ times_listed i xs + times_listed i ys
times-append i [] ys = omega arith
times-append i (x ∷ xs) ys =
    let ih = times-append i xs ys in
    elim (cases_eq i x) [
      | inl same ↦ let one = times-here i x xs same in let two = times-here i x (xs ++ ys) same in omega arith
      | inr other ↦ let one = times-other i x xs other in let two = times-other i x (xs ++ ys) other in omega arith
    ]

pub times-cons : (i j : ℕ) (js : List ℕ) → times_listed i (j ∷ js) ≡ times_listed i (j ∷ []) + times_listed i js
times-cons i j js = times-append i (j ∷ []) js

-- what is not in a list is not at its head, nor after it
pub times-none : (i j : ℕ) (js : List ℕ) → times_listed i (j ∷ js) ≡ 0 → ((j ≡ i) → ⊥) × (times_listed i js ≡ 0)
times-none i j js h =
    elim (cases_eq i j) [
      | inl same ↦ let one = times-here i j js same in absurd (omega arith)
      | inr other ↦ let one = times-other i j js other in (λ e. other (sym e), omega arith)
    ]

pub times-last : (i : ℕ) (js : List ℕ) → i < 1024 → IsLast js i → 1 ≤ times_listed i js
times-last i [] h k = absurd (omega arith)
times-last i (j ∷ []) h k = let one = times-here i j [] k in omega arith
times-last i (j ∷ l ∷ js) h k =
    let ih = times-last i (l ∷ js) h k in
    elim (cases_eq i j) [
      | inl same ↦ let one = times-here i j (l ∷ js) same in omega arith
      | inr other ↦ let one = times-other i j (l ∷ js) other in omega arith
    ]

-- a path names nodes alone
pub times-outside : (nodes : List Node) (i a b : ℕ) (js : List ℕ) → 1024 ≤ i → IsPath nodes a js b → times_listed i js ≡ 0
times-outside nodes i a b [] h p = refl
times-outside nodes i a b (j ∷ js) h p =
    let bound : j < 1024 = p.1 in
    let ih = times-outside nodes i (node_at nodes j).next b js h p.2 in
    let one = times-other i j js (λ e. absurd (omega arith)) in
    omega arith

-- the last one of a list is in no list that has none of its indices
pub last_apart : (nodes : List Node) (i a b : ℕ) (passed js : List ℕ) → IsLast passed i → IsPath nodes a js b
    → ((k : ℕ) → k < 1024 → times_listed k passed + times_listed k js ≤ 1) → times_listed i js ≡ 0
last_apart nodes i a b passed js l p h =
    elim (cases_lt i 1024) [
      | inl lt ↦ let there = times-last i passed lt l in let most = h i lt in omega arith
      | inr ge ↦ times-outside nodes i a b js ge p
    ]

pub path-append : (nodes : List Node) (a b c : ℕ) (xs ys : List ℕ) → IsPath nodes a xs b → IsPath nodes b ys c → IsPath nodes a (xs ++ ys) c
path-append nodes a b c [] ys p q =
    let P : ℕ → Type 0 = λ k. IsPath nodes k ys c in
    subst P (sym p) q
path-append nodes a b c (x ∷ xs) ys p q = (p.0, p.1, path-append nodes (node_at nodes x).next b c xs ys p.2 q)

-- the links lead to no node by one path alone
pub one_path : (nodes : List Node) (a : ℕ) (xs ys : List ℕ) → IsPath nodes a xs 1024 → IsPath nodes a ys 1024 → xs ≡ ys
one_path nodes a [] [] p q = refl
one_path nodes a [] (y ∷ ys) p q = absurd (omega arith)
one_path nodes a (x ∷ xs) [] p q = absurd (omega arith)
one_path nodes a (x ∷ xs) (y ∷ ys) p q =
    let same : y ≡ x = sym q.0 ∙ p.0 in
    let P : ℕ → Type 0 = λ k. IsPath nodes (node_at nodes k).next ys 1024 in
    let ih : xs ≡ ys = one_path nodes (node_at nodes x).next xs ys p.2 (subst P same q.2) in
    ap (λ (l : List ℕ). x ∷ l) ih ∙ ap (λ (k : ℕ). k ∷ ys) (sym same)

-- what follows from an index that is no node, and from one that is
pub path-end : (nodes : List Node) (a : ℕ) (js : List ℕ) → 1024 ≤ a → IsPath nodes a js 1024 → js ≡ []
path-end nodes a [] h p = refl
path-end nodes a (j ∷ js) h p = absurd (omega arith)

pub path-fits : (nodes : List Node) (a : ℕ) (js : List ℕ) → IsPath nodes a js 1024 → a ≤ 1024
path-fits nodes a [] p = omega arith
path-fits nodes a (j ∷ js) p = omega arith

pub path-some : (nodes : List Node) (a : ℕ) (js : List ℕ) → 1 ≤ length js → IsPath nodes a js 1024 → a < 1024
path-some nodes a [] h p = absurd (omega arith)
path-some nodes a (j ∷ js) h p = omega arith

-- all but the first of a list
abbrev pub following : List ℕ → List ℕ
following [] = []
following (j ∷ js) = js

pub path-head : (nodes : List Node) (a : ℕ) (js : List ℕ) → a < 1024 → IsPath nodes a js 1024 → (js ≡ a ∷ following js)
    × IsPath nodes (node_at nodes a).next (following js) 1024
path-head nodes a [] h p = absurd (omega arith)
path-head nodes a (j ∷ js) h p =
    let P : ℕ → Type 0 = λ k. IsPath nodes (node_at nodes k).next js 1024 in
    (ap (λ (k : ℕ). k ∷ js) (sym p.0), subst P (sym p.0) p.2)

-- one step more
pub path-more : (nodes : List Node) (a i : ℕ) (passed : List ℕ) → i < 1024 → IsPath nodes a passed i → IsPath nodes a (passed ++ i ∷ []) (node_at nodes i).next
path-more nodes a i passed h p = path-append nodes a i (node_at nodes i).next passed (i ∷ []) p (refl, h, refl)

pub last-more : (i : ℕ) (passed : List ℕ) → IsLast (passed ++ i ∷ []) i
last-more i [] = refl
last-more i (j ∷ []) = refl
last-more i (j ∷ l ∷ js) = last-more i (l ∷ js)

-- no node is the last one of no list but the empty one
pub last-none : (nodes : List Node) (a b i : ℕ) (passed : List ℕ) → 1024 ≤ i → IsPath nodes a passed b → IsLast passed i → passed ≡ []
last-none nodes a b i [] h p l = refl
last-none nodes a b i (j ∷ []) h p l = absurd (omega arith)
last-none nodes a b i (j ∷ k ∷ js) h p l =
    let no : k ∷ js ≡ [] = last-none nodes (node_at nodes j).next b i (k ∷ js) h p.2 l in
    absurd (cc)

-- the list except for its last
abbrev pub front : List ℕ → List ℕ
front [] = []
front (j ∷ []) = []
front (j ∷ k ∷ js) = j ∷ front (k ∷ js)

pub last-front : (i : ℕ) (passed : List ℕ) → i < 1024 → IsLast passed i → passed ≡ front passed ++ i ∷ []
last-front i [] h l = absurd (omega arith)
last-front i (j ∷ []) h l = ap (λ (k : ℕ). k ∷ []) (sym l)
last-front i (j ∷ k ∷ js) h l = ap (λ (ks : List ℕ). j ∷ ks) (last-front i (k ∷ js) h l)

pub runs-append : (nodes : List Node) (xs ys : List ℕ) → runs_at nodes (xs ++ ys) ≡ runs_at nodes xs ++ runs_at nodes ys
runs-append nodes [] ys = refl
runs-append nodes (x ∷ xs) ys = ap (λ (ss : List Stretch). run_of (node_at nodes x) ∷ ss) (runs-append nodes xs ys)

pub length-runs : (nodes : List Node) (xs : List ℕ) → length (runs_at nodes xs) ≡ length xs
length-runs nodes [] = refl
length-runs nodes (x ∷ xs) = ap suc (length-runs nodes xs)

-- a walk along the links meets the runs of the path
pub walked-path : (nodes : List Node) (fuel a : ℕ) (xs : List ℕ) → length xs ≤ fuel → IsPath nodes a xs 1024 → walked fuel nodes a ≡ runs_at nodes xs
walked-path nodes zero a [] h p = refl
walked-path nodes zero a (x ∷ xs) h p = absurd (omega arith)
walked-path nodes (suc fuel) a [] h p = let test : ltb a 1024 ≡ false = le-ltb a 1024 (omega arith) in rw test refl
walked-path nodes (suc fuel) a (x ∷ xs) h p =
    let test : ltb a 1024 ≡ true = lt-ltb a 1024 (omega arith) in
    let ih : walked fuel nodes (node_at nodes x).next ≡ runs_at nodes xs = walked-path nodes fuel (node_at nodes x).next xs (omega arith) p.2 in
    let P : ℕ → Type 0 = λ k. run_of (node_at nodes k) ∷ walked fuel nodes (node_at nodes k).next ≡ run_of (node_at nodes x) ∷ runs_at nodes xs in
    rw test (subst P (sym p.0) (ap (λ (ss : List Stretch). run_of (node_at nodes x) ∷ ss) ih))

pub from-path : (nodes : List Node) (a : ℕ) (xs : List ℕ) → length nodes ≡ 1024 → length xs ≤ 1024 → IsPath nodes a xs 1024
    → runs_from nodes a ≡ runs_at nodes xs
from-path nodes a xs s h p = walked-path nodes (length nodes) a xs (omega arith) p

-- an edit of a node that is not on the path
pub path-set : (nodes : List Node) (i a b : ℕ) (x : Node) (js : List ℕ) → times_listed i js ≡ 0 → IsPath nodes a js b → IsPath (set nodes i x) a js b
path-set nodes i a b x [] h p = p
path-set nodes i a b x (j ∷ js) h p =
    let apart = times-none i j js h in
    let same : node_at (set nodes i x) j ≡ node_at nodes j = get_or-set_other nodes i j x no_node apart.0 in
    let ih = path-set nodes i (node_at nodes j).next b x js apart.1 p.2 in
    let P : Node → Type 0 = λ n. IsPath (set nodes i x) n.next js b in
    (p.0, p.1, subst P (sym same) ih)

pub runs-set : (nodes : List Node) (i : ℕ) (x : Node) (js : List ℕ) → times_listed i js ≡ 0 → runs_at (set nodes i x) js ≡ runs_at nodes js
runs-set nodes i x [] h = refl
runs-set nodes i x (j ∷ js) h =
    let apart = times-none i j js h in
    let same : node_at (set nodes i x) j ≡ node_at nodes j = get_or-set_other nodes i j x no_node apart.0 in
    ap (λ (n : Node). run_of n ∷ runs_at (set nodes i x) js) same ∙ ap (λ (ss : List Stretch). run_of (node_at nodes j) ∷ ss) (runs-set nodes i x js apart.1)

-- an edit that keeps the link
next-same : (nodes : List Node) (i j : ℕ) (x : Node) → i < length nodes → x.next ≡ (node_at nodes i).next
    → (node_at (set nodes i x) j).next ≡ (node_at nodes j).next
next-same nodes i j x h e =
    elim (cases_eq j i) [
      | inl same ↦ ap (λ (n : Node). n.next) (get_or-set_at nodes i j x no_node same h) ∙ e ∙ ap (λ (k : ℕ). (node_at nodes k).next) (sym same)
      | inr other ↦ ap (λ (n : Node). n.next) (get_or-set_other nodes i j x no_node other)
    ]

pub path-same : (nodes : List Node) (i a b : ℕ) (x : Node) (js : List ℕ) → i < length nodes → x.next ≡ (node_at nodes i).next → IsPath nodes a js b
    → IsPath (set nodes i x) a js b
path-same nodes i a b x [] h e p = p
path-same nodes i a b x (j ∷ js) h e p =
    let ih = path-same nodes i (node_at nodes j).next b x js h e p.2 in
    let P : ℕ → Type 0 = λ k. IsPath (set nodes i x) k js b in
    (p.0, p.1, subst P (sym (next-same nodes i j x h e)) ih)

-- an edit that keeps the run
run-same : (nodes : List Node) (i j : ℕ) (x : Node) → i < length nodes → run_of x ≡ run_of (node_at nodes i)
    → run_of (node_at (set nodes i x) j) ≡ run_of (node_at nodes j)
run-same nodes i j x h e =
    elim (cases_eq j i) [
      | inl same ↦ ap (λ (n : Node). run_of n) (get_or-set_at nodes i j x no_node same h) ∙ e ∙ ap (λ (k : ℕ). run_of (node_at nodes k)) (sym same)
      | inr other ↦ ap (λ (n : Node). run_of n) (get_or-set_other nodes i j x no_node other)
    ]

pub runs-same : (nodes : List Node) (i : ℕ) (x : Node) (js : List ℕ) → i < length nodes → run_of x ≡ run_of (node_at nodes i)
    → runs_at (set nodes i x) js ≡ runs_at nodes js
runs-same nodes i x [] h e = refl
runs-same nodes i x (j ∷ js) h e =
    ap (λ (s : Stretch). s ∷ runs_at (set nodes i x) js) (run-same nodes i j x h e)
    ∙ ap (λ (ss : List Stretch). run_of (node_at nodes j) ∷ ss) (runs-same nodes i x js h e)

-- an edit of the last node of a path leads it elsewhere
pub path-redirect : (nodes : List Node) (i a b : ℕ) (x : Node) (passed : List ℕ) → i < length nodes → i < 1024 → IsPath nodes a passed b → IsLast passed i
    → times_listed i passed ≤ 1 → IsPath (set nodes i x) a passed x.next
path-redirect nodes i a b x [] s h p l t = absurd (omega arith)
path-redirect nodes i a b x (j ∷ []) s h p l t =
    (p.0, p.1, ap (λ (n : Node). n.next) (get_or-set_at nodes i j x no_node (sym l) s))
path-redirect nodes i a b x (j ∷ k ∷ js) s h p l t =
    let there : 1 ≤ times_listed i (k ∷ js) = times-last i (k ∷ js) h l in
    elim (cases_eq i j) [
      | inl same ↦ let one = times-here i j (k ∷ js) same in absurd (omega arith)
      | inr other ↦
          let one = times-other i j (k ∷ js) other in
          let ih = path-redirect nodes i (node_at nodes j).next b x (k ∷ js) s h p.2 l (omega arith) in
          let same : node_at (set nodes i x) j ≡ node_at nodes j = get_or-set_other nodes i j x no_node (λ e. other (sym e)) in
          let P : Node → Type 0 = λ n. IsPath (set nodes i x) n.next (k ∷ js) x.next in
          (p.0, p.1, subst P (sym same) ih)
    ]

-- an edit of one node among others
pub runs-edited : (nodes : List Node) (i : ℕ) (x : Node) (passed rest : List ℕ) → i < length nodes → times_listed i passed ≡ 0 → times_listed i rest ≡ 0
    → runs_at (set nodes i x) (passed ++ i ∷ rest) ≡ runs_at nodes passed ++ run_of x ∷ runs_at nodes rest
runs-edited nodes i x passed rest s h k =
    let here : node_at (set nodes i x) i ≡ x = get_or-set_at nodes i i x no_node refl s in
    runs-append (set nodes i x) passed (i ∷ rest)
    ∙ ap (λ (ss : List Stretch). ss ++ runs_at (set nodes i x) (i ∷ rest)) (runs-set nodes i x passed h)
    ∙ ap (λ (n : Node). runs_at nodes passed ++ run_of n ∷ runs_at (set nodes i x) rest) here
    ∙ ap (λ (ss : List Stretch). runs_at nodes passed ++ run_of x ∷ ss) (runs-set nodes i x rest k)

-- the links change at one place alone
pub points_first : (nodes : List Node) (first before to : ℕ) → 1024 ≤ before → Points nodes nodes first to before to
points_first nodes first before to h =
    record {
      size = refl;
      runs = λ js. refl;
      path = λ passed at p l once. (let none : passed ≡ [] = last-none nodes first at before passed h p l in
          let P : List ℕ → Type 0 = λ js. IsPath nodes to js to in subst P (sym none) refl);
      others = λ from into js apart p. p;
    }

pub points_after : (nodes : List Node) (first before : ℕ) (x : Node) → length nodes ≡ 1024 → before < 1024 → run_of x ≡ run_of (node_at nodes before)
    → Points nodes (set nodes before x) first first before x.next
points_after nodes first before x s h e =
    record {
      size = length-set nodes before x;
      runs = λ js. runs-same nodes before x js (omega arith) e;
      path = λ passed at p l once. path-redirect nodes before first at x passed (omega arith) h p l (once before h);
      others = λ from into js apart p. path-set nodes before from into x js apart p;
    }

pub last-fits : (nodes : List Node) (a b i : ℕ) (passed : List ℕ) → IsPath nodes a passed b → IsLast passed i → i ≤ 1024
last-fits nodes a b i [] p l = omega arith
last-fits nodes a b i (j ∷ []) p l = omega arith
last-fits nodes a b i (j ∷ k ∷ js) p l = last-fits nodes (node_at nodes j).next b i (k ∷ js) p.2 l
