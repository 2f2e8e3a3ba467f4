-- Nodes that are not made yet, and all nodes where some are.
use Rattle.std.proofs.Common.{◌≡◌, ℕ, ◌+◌, ◌-◌, ◌<◌, ◌≤◌, List, [], ◌∷◌, ◌++◌, zero, suc, refl, ap, subst, arith, sym, ◌∙◌, inl, inr, length, set, append_assoc, length-append}
use Rattle.std.proofs.lemmas.Bool.{cases_eq, cases_lt}
use Rattle.std.proofs.lemmas.List.{length-set, get_or_append_left, get_or-append_right, set-append_left, set-append_right}
use Rattle.run_list.specs.declared.nodes.Node.{Node}
use Rattle.run_list.specs.Linked.{runs_at, runs_from, IsPath, times_listed, AreIdle, IsLinked}
use Rattle.run_list.specs.Nodes.{no_node, node_at, unmade, all_nodes}
use Rattle.run_list.proofs.Paths.{times-here, times-other, from-path}

-- a node without a number
abbrev bare : ℕ → Node
bare next = record { hi = 0; count = 0; next = next }

length-unmade : (count at : ℕ) → length (unmade count at) ≡ count
length-unmade zero at = refl
length-unmade (suc count) at = ap suc (length-unmade count (at + 1))

unmade-node : (count at i : ℕ) → i < count → node_at (unmade count at) i ≡ bare (at + i + 1)
unmade-node zero at i h = absurd (omega arith)
unmade-node (suc count) at zero h = let same : at + 1 ≡ at + 0 + 1 = omega arith in ap (λ (k : ℕ). bare k) same
unmade-node (suc count) at (suc i) h =
    let same : at + 1 + i + 1 ≡ at + suc i + 1 = omega arith in
    unmade-node count (at + 1) i (omega arith) ∙ ap (λ (k : ℕ). bare k) same

pub all-size : (made : List Node) → length made ≤ 1024 → length (all_nodes made) ≡ 1024
all-size made h =
    let both : length (made ++ unmade (1024 - length made) (length made)) ≡ length made + length (unmade (1024 - length made) (length made)) =
    length-append made (unmade (1024 - length made) (length made)) in
    let rest : length (unmade (1024 - length made) (length made)) ≡ 1024 - length made = length-unmade (1024 - length made) (length made) in
    omega arith

-- what is read at an index below the number of nodes that are made, and at another
pub made-node : (made : List Node) (i : ℕ) → i < length made → node_at (all_nodes made) i ≡ node_at made i
made-node made i h = get_or_append_left made (unmade (1024 - length made) (length made)) no_node i h

pub new-node : (made : List Node) (i : ℕ) → length made ≤ i → i < 1024 → node_at (all_nodes made) i ≡ bare (i + 1)
new-node made i h k =
    let same : length made + (i - length made) + 1 ≡ i + 1 = omega arith in
    get_or-append_right made (unmade (1024 - length made) (length made)) (length made) i no_node refl h
    ∙ unmade-node (1024 - length made) (length made) (i - length made) (omega arith)
    ∙ ap (λ (n : ℕ). bare n) same

-- a node that is made is written
pub written-nodes : (made : List Node) (i : ℕ) (x : Node) → i < length made → all_nodes (set made i x) ≡ set (all_nodes made) i x
written-nodes made i x h =
    ap (λ (n : ℕ). set made i x ++ unmade (1024 - n) n) (length-set made i x)
    ∙ sym (set-append_left made (unmade (1024 - length made) (length made)) i x h)

-- one more is made
pub more-nodes : (made : List Node) (x : Node) → length made < 1024 → all_nodes (made ++ x ∷ []) ≡ set (all_nodes made) (length made) x
more-nodes made x h =
    let n : ℕ = length made in
    let rest : List Node = unmade (1024 - (n + 1)) (n + 1) in
    let long : length (made ++ x ∷ []) ≡ n + 1 = length-append made (x ∷ []) in
    let count : 1024 - n ≡ suc (1024 - (n + 1)) = omega arith in
    let none : n - n ≡ 0 = omega arith in
    let at : set (all_nodes made) n x ≡ made ++ set (unmade (1024 - n) n) (n - n) x =
    set-append_right made (unmade (1024 - n) n) n n x refl (omega arith) in
    let first : made ++ set (unmade (1024 - n) n) (n - n) x ≡ made ++ x ∷ rest =
    ap (λ (c : ℕ). made ++ set (unmade c n) (n - n) x) count ∙ ap (λ (k : ℕ). made ++ set (bare (n + 1) ∷ rest) k x) none in
    ap (λ (k : ℕ). (made ++ x ∷ []) ++ unmade (1024 - k) k) long ∙ append_assoc made (x ∷ []) rest ∙ sym (at ∙ first)

-- the links from a node that is not made lead over none below it
none_below : (made : List Node) (i from : ℕ) (js : List ℕ) → length made ≤ from → i < from → IsPath (all_nodes made) from js 1024 → times_listed i js ≡ 0
none_below made i from [] h k p = refl
none_below made i from (j ∷ js) h k p =
    let at : from ≡ j = p.0 in
    let within : j < 1024 = p.1 in
    let next : (node_at (all_nodes made) j).next ≡ j + 1 = ap (λ (n : Node). n.next) (new-node made j (omega arith) within) in
    let P : ℕ → Type 0 = λ l. IsPath (all_nodes made) l js 1024 in
    let ih : times_listed i js ≡ 0 = none_below made i (j + 1) js (omega arith) (omega arith) (subst P next p.2) in
    let one = times-other i j js (λ e. absurd (omega arith)) in
    omega arith

-- the first free node is made, or is the first one that is not
pub free_is_next : (made : List Node) (first free : ℕ) → IsLinked (all_nodes made) first free (length made) → free < 1024 → free ≤ length made
free_is_next made first free l h =
    elim (cases_lt (length made) free) [
      | inl lt ↦
          let one : times_listed (length made) l.spare ≡ 1 = l.unused (length made) (omega arith) (omega arith) in
          let none : times_listed (length made) l.spare ≡ 0 = none_below made (length made) free l.spare (omega arith) lt l.spare_path in
          absurd (omega arith)
      | inr ge ↦ ge
    ]

-- this many indices, from one up
abbrev upwards : ℕ → ℕ → List ℕ
upwards zero at = []
upwards (suc count) at = at ∷ upwards count (at + 1)

times-below : (i count at : ℕ) → i < at → times_listed i (upwards count at) ≡ 0
times-below i zero at h = refl
times-below i (suc count) at h =
    let ih : times_listed i (upwards count (at + 1)) ≡ 0 = times-below i count (at + 1) (omega arith) in
    let one = times-other i at (upwards count (at + 1)) (λ e. absurd (omega arith)) in
    omega arith

times-within : (i count at : ℕ) → at ≤ i → i < at + count → times_listed i (upwards count at) ≡ 1
times-within i zero at h k = absurd (omega arith)
times-within i (suc count) at h k =
    elim (cases_eq i at) [
      | inl same ↦
          let none : times_listed i (upwards count (at + 1)) ≡ 0 = times-below i count (at + 1) (omega arith) in
          let one = times-here i at (upwards count (at + 1)) same in omega arith
      | inr other ↦
          let ih : times_listed i (upwards count (at + 1)) ≡ 1 = times-within i count (at + 1) (omega arith) (omega arith) in
          let one = times-other i at (upwards count (at + 1)) other in omega arith
    ]

length-upwards : (count at : ℕ) → length (upwards count at) ≡ count
length-upwards zero at = refl
length-upwards (suc count) at = ap suc (length-upwards count (at + 1))

-- each of the nodes from an index up leads to the next, and has no number
path_up : (made : List Node) (count at : ℕ) → length made ≤ at → at + count ≡ 1024 → IsPath (all_nodes made) at (upwards count at) 1024
path_up made zero at h e = omega arith
path_up made (suc count) at h e =
    let next : (node_at (all_nodes made) at).next ≡ at + 1 = ap (λ (n : Node). n.next) (new-node made at h (omega arith)) in
    let P : ℕ → Type 0 = λ k. IsPath (all_nodes made) k (upwards count (at + 1)) 1024 in
    (refl, omega arith, subst P (sym next) (path_up made count (at + 1) (omega arith) (omega arith)))

idle_up : (made : List Node) (count at : ℕ) → length made ≤ at → at + count ≡ 1024 → AreIdle (runs_at (all_nodes made) (upwards count at))
idle_up made zero at h e = tt
idle_up made (suc count) at h e =
    (ap (λ (n : Node). n.count) (new-node made at h (omega arith)), idle_up made count (at + 1) (omega arith) (omega arith))

-- where none is made, all are free
pub none_made : (made : List Node) (count free : ℕ) → length made ≡ 0 → free ≡ 0 → free + count ≡ 1024
    → IsLinked (all_nodes made) 1024 free (length made) × (runs_from (all_nodes made) 1024 ≡ [])
none_made made count free none e all =
    let size : length (all_nodes made) ≡ 1024 = all-size made (omega arith) in
    let long : length (upwards count free) ≡ count = length-upwards count free in (
      record {
        used = [];
        spare = upwards count free;
        size = size;
        used_path = refl;
        spare_path = path_up made count free (omega arith) all;
        once = λ i h. (let one : times_listed i (upwards count free) ≡ 1 = times-within i count free (omega arith) (omega arith) in omega arith);
        all = omega arith;
        idle = idle_up made count free (omega arith) all;
        unused = λ i g h. times-within i count free (omega arith) (omega arith);
      },
      from-path (all_nodes made) 1024 [] size (omega arith) refl,
    )
