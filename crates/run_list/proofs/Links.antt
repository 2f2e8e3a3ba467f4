-- Used and free nodes, and what an edit makes of both.
use Rattle.std.proofs.Common.{◌≡◌, ℕ, ◌+◌, ◌*◌, ◌-◌, ◌^◌, ◌<◌, ◌≤◌, true, List, [], ◌∷◌, ◌++◌, suc, refl, ap, subst, arith, sym, ◌∙◌, inl, inr, length, set, length-append}
use Rattle.std.proofs.lemmas.Bool.{cases_eq, cases_lt}
use Rattle.std.proofs.lemmas.List.{length-set}
use Rattle.std.proofs.lemmas.Grind.{get_or-set_at}
use Rattle.seq_circle.specs.Circle.{distance}
use Rattle.run_list.specs.declared.walking.Stretch.{Stretch}
use Rattle.run_list.specs.declared.nodes.Node.{Node}
use Rattle.run_list.specs.MarkedSet.{has}
use Rattle.run_list.specs.Stretches.{stretch}
use Rattle.run_list.specs.Runs.{numbers_of, AreLaid, bound_below, bound_after, Adds}
use Rattle.run_list.specs.Linked.{run_of, runs_at, runs_from, IsPath, times_listed, IsChained, IsParted, IsLinked, IsPlace, AreIdle, Points}
use Rattle.run_list.specs.Nodes.{no_node, node_at}
use Rattle.run_list.proofs.Downs.{inside-present}
use Rattle.run_list.proofs.Places.{place_step}
use Rattle.run_list.proofs.Laid.{adds_after, adds_alone, laid_back, laid_front, laid_below, present_after, bound_falls, room_for_runs}
use Rattle.run_list.proofs.Paths.{times-here, times-other, times-last, times-append, times-cons, last_apart, path-append, one_path, path-end, path-fits, path-some, following, path-head, path-more, last-more, runs-append, length-runs, from-path, path-set, runs-set, path-same, runs-edited}

-- free nodes after an edit of one that is not among them, and without the first
pub idle_set : (nodes : List Node) (i : ℕ) (x : Node) (js : List ℕ) → times_listed i js ≡ 0 → AreIdle (runs_at nodes js) → AreIdle (runs_at (set nodes i x) js)
idle_set nodes i x js h idle = subst AreIdle (sym (runs-set nodes i x js h)) idle

idle_after : (nodes : List Node) (js : List ℕ) → AreIdle (runs_at nodes js) → AreIdle (runs_at nodes (following js))
idle_after nodes [] idle = idle
idle_after nodes (j ∷ js) idle = idle.1

-- one more is free
idle_more : (nodes : List Node) (i : ℕ) (x : Node) (js : List ℕ) → node_at nodes i ≡ x → x.count ≡ 0 → AreIdle (runs_at nodes js) → AreIdle (runs_at nodes (i ∷ js))
idle_more nodes i x js read none idle = (ap (λ (n : Node). n.count) read ∙ none, idle)

-- a node with a number is not among the free ones
idle_apart : (nodes : List Node) (i : ℕ) (js : List ℕ) → 1 ≤ (node_at nodes i).count → AreIdle (runs_at nodes js) → times_listed i js ≡ 0
idle_apart nodes i [] some idle = refl
idle_apart nodes i (j ∷ js) some idle =
    let ih = idle_apart nodes i js some idle.1 in
    elim (cases_eq i j) [
      | inl same ↦ let none : (node_at nodes i).count ≡ 0 = ap (λ (k : ℕ). (node_at nodes k).count) same ∙ idle.0 in absurd (omega arith)
      | inr other ↦ let one = times-other i j js other in omega arith
    ]

-- a set with its chain is one whose links lead to an end
pub linked_chained : {made : ℕ} (nodes : List Node) (first free : ℕ) → IsLinked nodes first free made → IsChained nodes first made
linked_chained nodes first free l =
    let all = l.all in
    record {
      chain = l.used;
      size = l.size;
      path = l.used_path;
      few = omega arith;
      within = λ i g h. (let once = l.once i h in let free = l.unused i g h in omega arith);
    }

-- the used nodes are those before a place and those from it on
pub linked_place : {made : ℕ} (nodes : List Node) (first free before at : ℕ) (l : IsLinked nodes first free made) (p : IsPlace nodes first before at)
    → l.used ≡ p.passed ++ p.rest
linked_place nodes first free before at l p =
    one_path nodes first l.used (p.passed ++ p.rest) l.used_path (path-append nodes first at 1024 p.passed p.rest p.passed_path p.rest_path)

pub place_runs : (nodes : List Node) (first before at : ℕ) (p : IsPlace nodes first before at) → length nodes ≡ 1024
    → runs_from nodes first ≡ runs_at nodes p.passed ++ runs_at nodes p.rest
place_runs nodes first before at p s =
    let few = p.few in
    let both : length (p.passed ++ p.rest) ≡ length p.passed + length p.rest = length-append p.passed p.rest in
    from-path nodes first (p.passed ++ p.rest) s (omega arith) (path-append nodes first at 1024 p.passed p.rest p.passed_path p.rest_path)
    ∙ runs-append nodes p.passed p.rest

pub rest_runs : (nodes : List Node) (first before at : ℕ) (p : IsPlace nodes first before at) → length nodes ≡ 1024 → runs_from nodes at ≡ runs_at nodes p.rest
rest_runs nodes first before at p s = let few = p.few in from-path nodes at p.rest s (omega arith) p.rest_path

-- each index is once before the place, from it on, or among the free ones
pub place_once : {made : ℕ} (nodes : List Node) (first free before at i : ℕ) (l : IsLinked nodes first free made) (p : IsPlace nodes first before at) → i < 1024
    → times_listed i p.passed + times_listed i p.rest + times_listed i l.spare ≡ 1
place_once nodes first free before at i l p h =
    let once : times_listed i l.used + times_listed i l.spare ≡ 1 = l.once i h in
    let parts : times_listed i l.used ≡ times_listed i (p.passed ++ p.rest) =
    ap (λ (js : List ℕ). times_listed i js) (linked_place nodes first free before at l p) in
    let both : times_listed i (p.passed ++ p.rest) ≡ times_listed i p.passed + times_listed i p.rest = times-append i p.passed p.rest in
    omega arith

pub place_all : {made : ℕ} (nodes : List Node) (first free before at : ℕ) (l : IsLinked nodes first free made) (p : IsPlace nodes first before at)
    → length p.passed + length p.rest + length l.spare ≡ 1024
place_all nodes first free before at l p =
    let all : length l.used + length l.spare ≡ 1024 = l.all in
    let parts : length l.used ≡ length (p.passed ++ p.rest) = ap (λ (js : List ℕ). length js) (linked_place nodes first free before at l p) in
    let both : length (p.passed ++ p.rest) ≡ length p.passed + length p.rest = length-append p.passed p.rest in
    omega arith

-- what is added after some runs
pub adds_runs : (f n : ℕ) (before old new all made : List Stretch) → f < 2 ^ 48 → all ≡ before ++ old → made ≡ before ++ new → AreLaid f 2048 all
    → distance f n < bound_after f 2048 before → Adds f (bound_after f 2048 before) n old new → Adds f 2048 n all made
adds_runs f n before old new all made p e d laid above a =
    let P : List Stretch → Type 0 = λ ts. AreLaid f 2048 ts in
    let Q : List Stretch → Type 0 = λ ts. Adds f 2048 n ts (before ++ new) in
    let R : List Stretch → Type 0 = λ ts. Adds f 2048 n all ts in
    subst R (sym d) (subst Q (sym e) (adds_after f 2048 n before old new p (subst P e laid) above a))

pub laid_rest : (f : ℕ) (before old all : List Stretch) → all ≡ before ++ old → AreLaid f 2048 all → AreLaid f (bound_after f 2048 before) old
laid_rest f before old all e laid =
    let P : List Stretch → Type 0 = λ ts. AreLaid f 2048 ts in
    laid_back f 2048 before old (subst P e laid)

-- a run of its own finds a free node
pub link_room : {made : ℕ} (f n : ℕ) (nodes : List Node) (first free before at : ℕ) (l : IsLinked nodes first free made) (p : IsPlace nodes first before at) → f < 2 ^ 48
    → n < 2 ^ 48
    → AreLaid f 2048 (runs_from nodes first) → distance f n < bound_after f 2048 (runs_at nodes p.passed) → AreLaid f (distance f n - 1) (runs_from nodes at)
    → free < 1024
link_room f n nodes first free before at l p q r laid above below =
    let P : List Stretch → Type 0 = λ ts. AreLaid f (distance f n - 1) ts in
    let alone = adds_alone f (bound_after f 2048 (runs_at nodes p.passed)) n (runs_at nodes p.rest) q r above
    (subst P (rest_runs nodes first before at p l.size) below) in
    let adds = adds_runs f n (runs_at nodes p.passed) (runs_at nodes p.rest) (stretch n 1 ∷ runs_at nodes p.rest) (runs_from nodes first)
    (runs_at nodes p.passed ++ stretch n 1 ∷ runs_at nodes p.rest) q (place_runs nodes first before at p l.size) refl laid above alone in
    let most : 2 * length (runs_at nodes p.passed ++ stretch n 1 ∷ runs_at nodes p.rest) ≤ 2048 + 1 =
    room_for_runs f 2048 (runs_at nodes p.passed ++ stretch n 1 ∷ runs_at nodes p.rest) adds.laid in
    let one : length (runs_at nodes p.passed ++ stretch n 1 ∷ runs_at nodes p.rest) ≡ length (runs_at nodes p.passed) + suc (length (runs_at nodes p.rest)) =
    length-append (runs_at nodes p.passed) (stretch n 1 ∷ runs_at nodes p.rest) in
    let two : length (runs_at nodes p.passed) ≡ length p.passed = length-runs nodes p.passed in
    let three : length (runs_at nodes p.rest) ≡ length p.rest = length-runs nodes p.rest in
    let all : length p.passed + length p.rest + length l.spare ≡ 1024 = place_all nodes first free before at l p in
    path-some nodes free l.spare (omega arith) l.spare_path

-- a free node goes between the node before a place and the one at it
pub link_linked : {made : ℕ} (nodes new : List Node) (first new_first free before at more : ℕ) (x : Node) (l : IsLinked nodes first free made)
    (p : IsPlace nodes first before at) → free < 1024 → x.next ≡ at → Points (set nodes free x) new first new_first before free → made ≤ more → free < more
    → IsLinked new new_first (node_at nodes free).next more × (runs_from new new_first ≡ runs_at nodes p.passed ++ run_of x ∷ runs_at nodes p.rest)
link_linked nodes new first new_first free before at more x l p h e t m u =
    let spare : List ℕ = following l.spare in
    let mid : List Node = set nodes free x in
    let follows : ℕ = (node_at nodes free).next in
    let head = path-head nodes free l.spare h l.spare_path in
    let size : length nodes ≡ 1024 = l.size in
    let sums : (i : ℕ) → i < 1024 → times_listed i p.passed + times_listed i p.rest + (times_listed i (free ∷ []) + times_listed i spare) ≡ 1 = λ i k.
    (let once : times_listed i p.passed + times_listed i p.rest + times_listed i l.spare ≡ 1 = place_once nodes first free before at i l p k in
    let one : times_listed i l.spare ≡ times_listed i (free ∷ spare) = ap (λ (js : List ℕ). times_listed i js) head.0 in
    let two : times_listed i (free ∷ spare) ≡ times_listed i (free ∷ []) + times_listed i spare = times-cons i free spare in
    omega arith) in
    let self : times_listed free (free ∷ []) ≡ 1 + times_listed free [] = times-here free free [] refl in
    let here = sums free h in
    let no_passed : times_listed free p.passed ≡ 0 = omega arith in
    let no_rest : times_listed free p.rest ≡ 0 = omega arith in
    let no_spare : times_listed free spare ≡ 0 = omega arith in
    let few : (i : ℕ) → i < 1024 → times_listed i p.passed ≤ 1 = λ i k. (let s = sums i k in omega arith) in
    let after_passed : IsPath new new_first p.passed free =
    t.path p.passed at (path-set nodes free first at x p.passed no_passed p.passed_path) p.last few in
    let read : node_at mid free ≡ x = get_or-set_at nodes free free x no_node refl (omega arith) in
    let P : ℕ → Type 0 = λ k. IsPath mid k p.rest 1024 in
    let tail : IsPath mid (node_at mid free).next p.rest 1024 =
    subst P (sym (ap (λ (n : Node). n.next) read ∙ e)) (path-set nodes free at 1024 x p.rest no_rest p.rest_path) in
    let apart : times_listed before (free ∷ p.rest) ≡ 0 = last_apart mid before free 1024 p.passed (free ∷ p.rest) p.last (refl, h, tail)
    (λ i k. (let s = sums i k in let c : times_listed i (free ∷ p.rest) ≡ times_listed i (free ∷ []) + times_listed i p.rest = times-cons i free p.rest in
    omega arith)) in
    let apart_spare : times_listed before spare ≡ 0 =
    last_apart nodes before follows 1024 p.passed spare p.last head.1 (λ i k. (let s = sums i k in omega arith)) in
    let used_path : IsPath new new_first (p.passed ++ free ∷ p.rest) 1024 =
    path-append new new_first free 1024 p.passed (free ∷ p.rest) after_passed (t.others free 1024 (free ∷ p.rest) apart (refl, h, tail)) in
    let new_size : length new ≡ 1024 = t.size ∙ length-set nodes free x ∙ l.size in
    let lengths : length (p.passed ++ free ∷ p.rest) ≡ length p.passed + suc (length p.rest) = length-append p.passed (free ∷ p.rest) in
    let all : length p.passed + length p.rest + length l.spare ≡ 1024 = place_all nodes first free before at l p in
    let left : length l.spare ≡ suc (length spare) = ap (λ (js : List ℕ). length js) head.0 in (
      record {
        used = p.passed ++ free ∷ p.rest;
        spare = spare;
        size = new_size;
        used_path = used_path;
        spare_path = t.others follows 1024 spare apart_spare (path-set nodes free follows 1024 x spare no_spare head.1);
        once = λ i k. (let s = sums i k in let c : times_listed i (free ∷ p.rest) ≡ times_listed i (free ∷ []) + times_listed i p.rest =
            times-cons i free p.rest in
            let d : times_listed i (p.passed ++ free ∷ p.rest) ≡ times_listed i p.passed + times_listed i (free ∷ p.rest) =
            times-append i p.passed (free ∷ p.rest) in omega arith);
        all = omega arith;
        idle = subst AreIdle (sym (t.runs spare ∙ runs-set nodes free x spare no_spare)) (idle_after nodes l.spare l.idle);
        unused = λ i g k. (let old : times_listed i l.spare ≡ 1 = l.unused i (omega arith) k in
            let one : times_listed i l.spare ≡ times_listed i (free ∷ spare) = ap (λ (js : List ℕ). times_listed i js) head.0 in
            let two = times-other i free spare (λ e. absurd (omega arith)) in omega arith);
      },
      from-path new new_first (p.passed ++ free ∷ p.rest) new_size (omega arith) used_path
          ∙ t.runs (p.passed ++ free ∷ p.rest) ∙ runs-edited nodes free x p.passed p.rest (omega arith) no_passed no_rest,
    )

-- the node at a place is in no other place
pub place_head : {made : ℕ} (nodes : List Node) (first free before at i : ℕ) (l : IsLinked nodes first free made) (p : IsPlace nodes first before at) → at < 1024 → i < 1024
    → times_listed i p.passed + times_listed i (at ∷ []) + times_listed i (following p.rest) + times_listed i l.spare ≡ 1
place_head nodes first free before at i l p h k =
    let head = path-head nodes at p.rest h p.rest_path in
    let once : times_listed i p.passed + times_listed i p.rest + times_listed i l.spare ≡ 1 = place_once nodes first free before at i l p k in
    let one : times_listed i p.rest ≡ times_listed i (at ∷ following p.rest) = ap (λ (js : List ℕ). times_listed i js) head.0 in
    let two : times_listed i (at ∷ following p.rest) ≡ times_listed i (at ∷ []) + times_listed i (following p.rest) = times-cons i at (following p.rest) in
    omega arith

-- the node at a place is made, as is the one before it
pub at_is_made : {made : ℕ} (nodes : List Node) (first free before at : ℕ) (l : IsLinked nodes first free made) (p : IsPlace nodes first before at) → at < 1024
    → at < made
at_is_made {made} nodes first free before at l p h =
    elim (cases_lt at made) [
      | inl lt ↦ lt
      | inr ge ↦
          let once = place_head nodes first free before at at l p h h in
          let self : times_listed at (at ∷ []) ≡ 1 + times_listed at [] = times-here at at [] refl in
          let free = l.unused at ge h in absurd (omega arith)
    ]

pub before_is_made : {made : ℕ} (nodes : List Node) (first free before at : ℕ) (l : IsLinked nodes first free made) (p : IsPlace nodes first before at)
    → before < 1024 → before < made
before_is_made {made} nodes first free before at l p h =
    elim (cases_lt before made) [
      | inl lt ↦ lt
      | inr ge ↦
          let once = place_once nodes first free before at before l p h in
          let there = times-last before p.passed h p.last in
          let free = l.unused before ge h in absurd (omega arith)
    ]

-- so is the one after it
pub next_is_made : {made : ℕ} (nodes : List Node) (first free before at next : ℕ) (l : IsLinked nodes first free made) (p : IsPlace nodes first before at)
    → at < 1024 → next ≡ (node_at nodes at).next → next < 1024 → next < made
next_is_made nodes first free before at next l p h e k =
    rw e (at_is_made nodes first free at (node_at nodes at).next l (place_step nodes first before at p h) (rw (← e) k))

-- the run at a place changes where it is
pub edit_linked : {made : ℕ} (nodes : List Node) (first free before at : ℕ) (x : Node) (l : IsLinked nodes first free made) (p : IsPlace nodes first before at)
    → at < 1024 → x.next ≡ (node_at nodes at).next
    → IsLinked (set nodes at x) first free made × (runs_from (set nodes at x) first ≡ runs_at nodes p.passed ++ run_of x ∷ runs_at nodes (following p.rest))
edit_linked nodes first free before at x l p h e =
    let size : length nodes ≡ 1024 = l.size in
    let all : length l.used + length l.spare ≡ 1024 = l.all in
    let head = path-head nodes at p.rest h p.rest_path in
    let self : times_listed at (at ∷ []) ≡ 1 + times_listed at [] = times-here at at [] refl in
    let once = place_head nodes first free before at at l p h h in
    let used_path : IsPath (set nodes at x) first l.used 1024 = path-same nodes at first 1024 x l.used (omega arith) e l.used_path in
    let new_size : length (set nodes at x) ≡ 1024 = length-set nodes at x ∙ l.size in
    let parts : l.used ≡ p.passed ++ at ∷ following p.rest =
    linked_place nodes first free before at l p ∙ ap (λ (js : List ℕ). p.passed ++ js) head.0 in (
      record {
        used = l.used;
        spare = l.spare;
        size = new_size;
        used_path = used_path;
        spare_path = path-same nodes at free 1024 x l.spare (omega arith) e l.spare_path;
        once = l.once;
        all = l.all;
        idle = idle_set nodes at x l.spare (omega arith) l.idle;
        unused = l.unused;
      },
      from-path (set nodes at x) first l.used new_size (omega arith) used_path
          ∙ ap (λ (js : List ℕ). runs_at (set nodes at x) js) parts
          ∙ runs-edited nodes at x p.passed (following p.rest) (omega arith) (omega arith) (omega arith),
    )

-- the run at a place takes that after it in, and the node of that is free
pub join_linked : {made : ℕ} (nodes : List Node) (first free before at next : ℕ) (x y : Node) (l : IsLinked nodes first free made) (p : IsPlace nodes first before at)
    → at < 1024 → next ≡ (node_at nodes at).next → next < 1024 → x.next ≡ (node_at nodes next).next → y.next ≡ free → y.count ≡ 0
    → IsLinked (set (set nodes at x) next y) first next made
    × (runs_from (set (set nodes at x) next y) first ≡ runs_at nodes p.passed ++ run_of x ∷ runs_at nodes (following (following p.rest)))
join_linked nodes first free before at next x y l p h e g d c z =
    let size : length nodes ≡ 1024 = l.size in
    let rest : List ℕ = following (following p.rest) in
    let mid : List Node = set nodes at x in
    let new : List Node = set mid next y in
    let mid_size : length mid ≡ 1024 = length-set nodes at x ∙ l.size in
    let new_size : length new ≡ 1024 = length-set mid next y ∙ mid_size in
    let head = path-head nodes at p.rest h p.rest_path in
    let Q : ℕ → Type 0 = λ k. IsPath nodes k (following p.rest) 1024 in
    let second = path-head nodes next (following p.rest) g (subst Q (sym e) head.1) in
    let sums : (i : ℕ) → i < 1024
    → times_listed i p.passed + times_listed i (at ∷ []) + (times_listed i (next ∷ []) + times_listed i rest) + times_listed i l.spare ≡ 1 = λ i k.
    (let once = place_head nodes first free before at i l p h k in
    let one : times_listed i (following p.rest) ≡ times_listed i (next ∷ rest) = ap (λ (js : List ℕ). times_listed i js) second.0 in
    let two : times_listed i (next ∷ rest) ≡ times_listed i (next ∷ []) + times_listed i rest = times-cons i next rest in
    omega arith) in
    let self : times_listed at (at ∷ []) ≡ 1 + times_listed at [] = times-here at at [] refl in
    let other : times_listed next (next ∷ []) ≡ 1 + times_listed next [] = times-here next next [] refl in
    let here = sums at h in
    let there = sums next g in
    let cons : times_listed next (at ∷ rest) ≡ times_listed next (at ∷ []) + times_listed next rest = times-cons next at rest in
    let both : times_listed next (p.passed ++ at ∷ rest) ≡ times_listed next p.passed + times_listed next (at ∷ rest) =
    times-append next p.passed (at ∷ rest) in
    let free_of : times_listed next (p.passed ++ at ∷ rest) ≡ 0 = omega arith in
    let passed_next : times_listed next p.passed ≡ 0 = omega arith in
    let at_next : times_listed next (at ∷ rest) ≡ 0 = omega arith in
    let spare_next : times_listed next l.spare ≡ 0 = omega arith in
    let passed_at : times_listed at p.passed ≡ 0 = omega arith in
    let rest_at : times_listed at rest ≡ 0 = omega arith in
    let spare_at : times_listed at l.spare ≡ 0 = omega arith in
    let read : node_at mid at ≡ x = get_or-set_at nodes at at x no_node refl (omega arith) in
    let read_next : node_at new next ≡ y = get_or-set_at mid next next y no_node refl (omega arith) in
    let P : ℕ → Type 0 = λ k. IsPath mid k rest 1024 in
    let tail : IsPath mid (node_at mid at).next rest 1024 =
    subst P (sym (ap (λ (n : Node). n.next) read ∙ d)) (path-set nodes at (node_at nodes next).next 1024 x rest rest_at second.1) in
    let mid_used : IsPath mid first (p.passed ++ at ∷ rest) 1024 =
    path-append mid first at 1024 p.passed (at ∷ rest) (path-set nodes at first at x p.passed passed_at p.passed_path) (refl, h, tail) in
    let used_path : IsPath new first (p.passed ++ at ∷ rest) 1024 = path-set mid next first 1024 y (p.passed ++ at ∷ rest) free_of mid_used in
    let mid_spare : IsPath new free l.spare 1024 =
    path-set mid next free 1024 y l.spare spare_next (path-set nodes at free 1024 x l.spare spare_at l.spare_path) in
    let R : ℕ → Type 0 = λ k. IsPath new k l.spare 1024 in
    let all : length p.passed + length p.rest + length l.spare ≡ 1024 = place_all nodes first free before at l p in
    let lengths : length (p.passed ++ at ∷ rest) ≡ length p.passed + suc (length rest) = length-append p.passed (at ∷ rest) in
    let one : length p.rest ≡ suc (length (following p.rest)) = ap (λ (js : List ℕ). length js) head.0 in
    let two : length (following p.rest) ≡ suc (length rest) = ap (λ (js : List ℕ). length js) second.0 in (
      record {
        used = p.passed ++ at ∷ rest;
        spare = next ∷ l.spare;
        size = new_size;
        used_path = used_path;
        spare_path = (refl, g, subst R (sym (ap (λ (n : Node). n.next) read_next ∙ c)) mid_spare);
        once = λ i k. (let s = sums i k in
            let a : times_listed i (next ∷ l.spare) ≡ times_listed i (next ∷ []) + times_listed i l.spare = times-cons i next l.spare in
            let b : times_listed i (at ∷ rest) ≡ times_listed i (at ∷ []) + times_listed i rest = times-cons i at rest in
            let f : times_listed i (p.passed ++ at ∷ rest) ≡ times_listed i p.passed + times_listed i (at ∷ rest) = times-append i p.passed (at ∷ rest) in
            omega arith);
        all = omega arith;
        idle = idle_more new next y l.spare read_next z (idle_set mid next y l.spare spare_next (idle_set nodes at x l.spare spare_at l.idle));
        unused = λ i g k. (let old = l.unused i g k in let s = sums i k in
            let a : times_listed i (next ∷ l.spare) ≡ times_listed i (next ∷ []) + times_listed i l.spare = times-cons i next l.spare in omega arith);
      },
      from-path new first (p.passed ++ at ∷ rest) new_size (omega arith) used_path
          ∙ runs-set mid next y (p.passed ++ at ∷ rest) free_of
          ∙ runs-edited nodes at x p.passed rest (omega arith) passed_at rest_at,
    )

-- a node that is being freed comes before the free ones
pub parted_step : {made : ℕ} (nodes : List Node) (first free from : ℕ) (x : Node) (d : IsParted nodes first free from made) → from < 1024 → x.next ≡ free → x.count ≡ 0
    → IsParted (set nodes from x) first from (node_at nodes from).next made × (runs_from (set nodes from x) first ≡ runs_from nodes first)
parted_step nodes first free from x d h e z =
    let size : length nodes ≡ 1024 = d.size in
    let new : List Node = set nodes from x in
    let new_size : length new ≡ 1024 = length-set nodes from x ∙ d.size in
    let loose : List ℕ = following d.loose in
    let head = path-head nodes from d.loose h d.loose_path in
    let sums : (i : ℕ) → i < 1024 → times_listed i d.used + times_listed i d.spare + (times_listed i (from ∷ []) + times_listed i loose) ≡ 1 = λ i k.
    (let once : times_listed i d.used + times_listed i d.spare + times_listed i d.loose ≡ 1 = d.once i k in
    let one : times_listed i d.loose ≡ times_listed i (from ∷ loose) = ap (λ (js : List ℕ). times_listed i js) head.0 in
    let two : times_listed i (from ∷ loose) ≡ times_listed i (from ∷ []) + times_listed i loose = times-cons i from loose in
    omega arith) in
    let self : times_listed from (from ∷ []) ≡ 1 + times_listed from [] = times-here from from [] refl in
    let here = sums from h in
    let no_used : times_listed from d.used ≡ 0 = omega arith in
    let no_spare : times_listed from d.spare ≡ 0 = omega arith in
    let no_loose : times_listed from loose ≡ 0 = omega arith in
    let read : node_at new from ≡ x = get_or-set_at nodes from from x no_node refl (omega arith) in
    let R : ℕ → Type 0 = λ k. IsPath new k d.spare 1024 in
    let all : length d.used + length d.spare + length d.loose ≡ 1024 = d.all in
    let one : length d.loose ≡ suc (length loose) = ap (λ (js : List ℕ). length js) head.0 in
    let used_path : IsPath new first d.used 1024 = path-set nodes from first 1024 x d.used no_used d.used_path in (
      record {
        used = d.used;
        spare = from ∷ d.spare;
        loose = loose;
        size = new_size;
        used_path = used_path;
        spare_path = (refl, h, subst R (sym (ap (λ (n : Node). n.next) read ∙ e)) (path-set nodes from free 1024 x d.spare no_spare d.spare_path));
        loose_path = path-set nodes from (node_at nodes from).next 1024 x loose no_loose head.1;
        once = λ i k. (let s = sums i k in let a : times_listed i (from ∷ d.spare) ≡ times_listed i (from ∷ []) + times_listed i d.spare =
            times-cons i from d.spare in omega arith);
        all = omega arith;
        idle = idle_more new from x d.spare read z (idle_set nodes from x d.spare no_spare d.idle);
        unused = λ i g k. (let old = d.unused i g k in let s = sums i k in
            let a : times_listed i (from ∷ d.spare) ≡ times_listed i (from ∷ []) + times_listed i d.spare = times-cons i from d.spare in omega arith);
      },
      from-path new first d.used new_size (omega arith) used_path ∙ runs-set nodes from x d.used no_used
          ∙ sym (from-path nodes first d.used d.size (omega arith) d.used_path),
    )

-- a node that is being freed is made
pub loose_is_made : {made : ℕ} (nodes : List Node) (first free from : ℕ) (d : IsParted nodes first free from made) → from < 1024 → from < made
loose_is_made {made} nodes first free from d h =
    elim (cases_lt from made) [
      | inl lt ↦ lt
      | inr ge ↦
          let head = path-head nodes from d.loose h d.loose_path in
          let once = d.once from h in
          let one : times_listed from d.loose ≡ times_listed from (from ∷ following d.loose) = ap (λ (js : List ℕ). times_listed from js) head.0 in
          let self = times-here from from (following d.loose) refl in
          let free = d.unused from ge h in absurd (omega arith)
    ]

-- how many are left to be freed
pub parted_left : {made : ℕ} (nodes : List Node) (first free from : ℕ) (d : IsParted nodes first free from made) → length (runs_from nodes from) ≡ length d.loose
parted_left nodes first free from d =
    let all = d.all in
    ap (λ (ss : List Stretch). length ss) (from-path nodes from d.loose d.size (omega arith) d.loose_path) ∙ length-runs nodes d.loose

pub parted_falls : {made : ℕ} (nodes : List Node) (first free from : ℕ) (x : Node) (d : IsParted nodes first free from made) → from < 1024 → x.next ≡ free → x.count ≡ 0
    → length (runs_from (set nodes from x) (node_at nodes from).next) < length (runs_from nodes from)
unfolding parted_step
parted_falls nodes first free from x d h e z =
    let next = (parted_step nodes first free from x d h e z).0 in
    let old : length (runs_from nodes from) ≡ length d.loose = parted_left nodes first free from d in
    let new : length (runs_from (set nodes from x) (node_at nodes from).next) ≡ length (following d.loose) =
    parted_left (set nodes from x) first from (node_at nodes from).next next in
    let one : length d.loose ≡ suc (length (following d.loose)) = ap (λ (js : List ℕ). length js) (path-head nodes from d.loose h d.loose_path).0 in
    omega arith

-- where none is left, all are used or free
pub parted_end : {made : ℕ} (nodes : List Node) (first free from : ℕ) → IsParted nodes first free from made → 1024 ≤ from → IsLinked nodes first free made
parted_end nodes first free from d h =
    let none : d.loose ≡ [] = path-end nodes from d.loose h d.loose_path in
    let zero : length d.loose ≡ 0 = ap (λ (js : List ℕ). length js) none in
    let all = d.all in
    record {
      used = d.used;
      spare = d.spare;
      size = d.size;
      used_path = d.used_path;
      spare_path = d.spare_path;
      once = λ i k. (let once = d.once i k in let no : times_listed i d.loose ≡ 0 = ap (λ (js : List ℕ). times_listed i js) none in omega arith);
      all = omega arith;
      idle = d.idle;
      unused = d.unused;
    }

-- no node is used any more
pub all_parted : {made : ℕ} (nodes : List Node) (first free : ℕ) → IsLinked nodes first free made → IsParted nodes 1024 free first made × (runs_from nodes 1024 ≡ [])
all_parted nodes first free l =
    let all = l.all in (
      record {
        used = [];
        spare = l.spare;
        loose = l.used;
        size = l.size;
        used_path = refl;
        spare_path = l.spare_path;
        loose_path = l.used_path;
        once = λ i k. (let once = l.once i k in omega arith);
        all = omega arith;
        idle = l.idle;
        unused = l.unused;
      },
      from-path nodes 1024 [] l.size (omega arith) refl,
    )

-- the runs at a place and after it
pub place_parts : (nodes : List Node) (first before at : ℕ) (p : IsPlace nodes first before at) → at < 1024
    → runs_at nodes p.rest ≡ run_of (node_at nodes at) ∷ runs_at nodes (following p.rest)
place_parts nodes first before at p h = ap (λ (js : List ℕ). runs_at nodes js) (path-head nodes at p.rest h p.rest_path).0

-- the run at a place is laid, with those after it
pub place_laid : (f : ℕ) (nodes : List Node) (first before at : ℕ) (p : IsPlace nodes first before at) → length nodes ≡ 1024 → at < 1024
    → AreLaid f 2048 (runs_from nodes first)
    → AreLaid f (bound_after f 2048 (runs_at nodes p.passed)) (run_of (node_at nodes at) ∷ runs_at nodes (following p.rest))
place_laid f nodes first before at p s h laid =
    let P : List Stretch → Type 0 = λ ts. AreLaid f (bound_after f 2048 (runs_at nodes p.passed)) ts in
    subst P (place_parts nodes first before at p h)
    (laid_rest f (runs_at nodes p.passed) (runs_at nodes p.rest) (runs_from nodes first) (place_runs nodes first before at p s) laid)

-- what comes before a place is no higher than all
pub place_bound : (f : ℕ) (nodes : List Node) (first before at : ℕ) (p : IsPlace nodes first before at) → length nodes ≡ 1024
    → AreLaid f 2048 (runs_from nodes first)
    → bound_after f 2048 (runs_at nodes p.passed) ≤ 2048
place_bound f nodes first before at p s laid =
    let P : List Stretch → Type 0 = λ ts. AreLaid f 2048 ts in
    bound_falls f 2048 (runs_at nodes p.passed)
    (laid_front f 2048 (runs_at nodes p.passed) (runs_at nodes p.rest) (subst P (place_runs nodes first before at p s) laid))

-- what an edit at a place adds
pub adds_place : (f n : ℕ) (nodes : List Node) (first before at : ℕ) (p : IsPlace nodes first before at) (new made : List Stretch) → length nodes ≡ 1024
    → f < 2 ^ 48 → at < 1024
    → AreLaid f 2048 (runs_from nodes first) → distance f n < bound_after f 2048 (runs_at nodes p.passed) → made ≡ runs_at nodes p.passed ++ new
    → Adds f (bound_after f 2048 (runs_at nodes p.passed)) n (run_of (node_at nodes at) ∷ runs_at nodes (following p.rest)) new
    → Adds f 2048 n (runs_from nodes first) made
adds_place f n nodes first before at p new made s q h laid above e a =
    adds_runs f n (runs_at nodes p.passed) (run_of (node_at nodes at) ∷ runs_at nodes (following p.rest)) new (runs_from nodes first) made q
    (place_runs nodes first before at p s ∙ ap (λ (ss : List Stretch). runs_at nodes p.passed ++ ss) (place_parts nodes first before at p h)) e laid above a

-- the runs after that at a place: one and those after it, or none
pub below_parts : (nodes : List Node) (first before at next : ℕ) (p : IsPlace nodes first before at) → at < 1024 → next ≡ (node_at nodes at).next → next < 1024
    → runs_at nodes (following p.rest) ≡ run_of (node_at nodes next) ∷ runs_at nodes (following (following p.rest))
below_parts nodes first before at next p h e k =
    let Q : ℕ → Type 0 = λ i. IsPath nodes i (following p.rest) 1024 in
    ap (λ (js : List ℕ). runs_at nodes js) (path-head nodes next (following p.rest) k (subst Q (sym e) (path-head nodes at p.rest h p.rest_path).1)).0

pub below_none : (nodes : List Node) (first before at : ℕ) (p : IsPlace nodes first before at) → at < 1024 → 1024 ≤ (node_at nodes at).next
    → runs_at nodes (following p.rest) ≡ []
below_none nodes first before at p h k =
    ap (λ (js : List ℕ). runs_at nodes js) (path-end nodes (node_at nodes at).next (following p.rest) k (path-head nodes at p.rest h p.rest_path).1)

-- both runs, laid
pub both_laid : (f : ℕ) (nodes : List Node) (first before at next : ℕ) (p : IsPlace nodes first before at) → length nodes ≡ 1024 → at < 1024
    → next ≡ (node_at nodes at).next → next < 1024
    → AreLaid f 2048 (runs_from nodes first)
    → AreLaid f (bound_after f 2048 (runs_at nodes p.passed)) (run_of (node_at nodes at) ∷ run_of (node_at nodes next) ∷ runs_at nodes (following (following p.rest)))
both_laid f nodes first before at next p s h e k laid =
    let P : List Stretch → Type 0 = λ ts. AreLaid f (bound_after f 2048 (runs_at nodes p.passed)) (run_of (node_at nodes at) ∷ ts) in
    subst P (below_parts nodes first before at next p h e k) (place_laid f nodes first before at p s h laid)

-- a gap is left below a number under a run, where no run ends right below it
pub gap_left : (f n : ℕ) (nodes : List Node) (first before at next : ℕ) (p : IsPlace nodes first before at) → length nodes ≡ 1024 → at < 1024
    → next ≡ (node_at nodes at).next → next < 1024
    → AreLaid f 2048 (runs_from nodes first) → distance f n + (node_at nodes at).count ≡ distance f (node_at nodes at).hi
    → ((distance f (node_at nodes next).hi + 1 ≡ distance f n) → ⊥) → AreLaid f (distance f n - 1) (runs_at nodes (following p.rest))
gap_left f n nodes first before at next p s h e k laid d ne =
    let both = both_laid f nodes first before at next p s h e k laid in
    let under : distance f (node_at nodes next).hi < bound_below f (run_of (node_at nodes at)) = both.1.0.below in
    let P : List Stretch → Type 0 = λ ts. AreLaid f (distance f n - 1) ts in
    subst P (sym (below_parts nodes first before at next p h e k))
    (laid_below f (bound_below f (run_of (node_at nodes at))) (distance f n - 1) (run_of (node_at nodes next)) (runs_at nodes (following (following p.rest)))
    (omega arith) both.1)

-- what is below the place of a number: no run, one with a gap, or one that has it
pub below_end : (f c : ℕ) (nodes : List Node) (at : ℕ) → length nodes ≡ 1024 → at ≡ 1024 → AreLaid f c (runs_from nodes at)
below_end f c nodes at s e =
    let P : List Stretch → Type 0 = λ ts. AreLaid f c ts in
    subst P (sym (from-path nodes at [] s (omega arith) e)) tt

pub below_far : (f c : ℕ) (nodes : List Node) (first before at : ℕ) (p : IsPlace nodes first before at) → length nodes ≡ 1024 → at < 1024
    → AreLaid f 2048 (runs_from nodes first)
    → distance f (node_at nodes at).hi < c → AreLaid f c (runs_from nodes at)
below_far f c nodes first before at p s h laid d =
    let P : List Stretch → Type 0 = λ ts. AreLaid f c ts in
    subst P (sym (rest_runs nodes first before at p s ∙ place_parts nodes first before at p h))
    (laid_below f (bound_after f 2048 (runs_at nodes p.passed)) c (run_of (node_at nodes at)) (runs_at nodes (following p.rest)) d
    (place_laid f nodes first before at p s h laid))

pub present_in : (f n : ℕ) (nodes : List Node) (first before at : ℕ) (p : IsPlace nodes first before at) → length nodes ≡ 1024 → f < 2 ^ 48 → n < 2 ^ 48
    → at < 1024
    → AreLaid f 2048 (runs_from nodes first) → distance f n < bound_after f 2048 (runs_at nodes p.passed) → distance f n ≤ distance f (node_at nodes at).hi
    → distance f (node_at nodes at).hi < distance f n + (node_at nodes at).count → has (numbers_of (runs_from nodes first)) n ≡ true
present_in f n nodes first before at p s q r h laid above d k =
    let P : List Stretch → Type 0 = λ ts. AreLaid f 2048 ts in
    let here = place_laid f nodes first before at p s h laid in
    let old : List Stretch = run_of (node_at nodes at) ∷ runs_at nodes (following p.rest) in
    let parts : runs_from nodes first ≡ runs_at nodes p.passed ++ old =
    place_runs nodes first before at p s ∙ ap (λ (ss : List Stretch). runs_at nodes p.passed ++ ss) (place_parts nodes first before at p h) in
    let there : has (numbers_of old) n ≡ true =
    inside-present f n (node_at nodes at).count (node_at nodes at).hi (numbers_of (runs_at nodes (following p.rest))) q here.0.fits r d k in
    ap (λ (ts : List Stretch). has (numbers_of ts) n) parts ∙ present_after f 2048 n (runs_at nodes p.passed) old q (subst P parts laid) above there

-- the walk goes on after a node, and ends if there is none
pub chain_step : {made : ℕ} (nodes : List Node) (at : ℕ) → IsChained nodes at made → at < 1024
    → IsChained nodes (node_at nodes at).next made × (runs_from nodes at ≡ run_of (node_at nodes at) ∷ runs_from nodes (node_at nodes at).next)
chain_step nodes at k h =
    let few = k.few in
    let head = path-head nodes at k.chain h k.path in
    let one : length k.chain ≡ suc (length (following k.chain)) = ap (λ (js : List ℕ). length js) head.0 in (
      record {
        chain = following k.chain;
        size = k.size;
        path = head.1;
        few = omega arith;
        within = λ i g j. (let none = k.within i g j in
            let one : times_listed i k.chain ≡ times_listed i (at ∷ following k.chain) = ap (λ (js : List ℕ). times_listed i js) head.0 in
            let two : times_listed i (at ∷ following k.chain) ≡ times_listed i (at ∷ []) + times_listed i (following k.chain) =
            times-cons i at (following k.chain) in omega arith);
      },
      from-path nodes at k.chain k.size k.few k.path
          ∙ ap (λ (js : List ℕ). runs_at nodes js) head.0
          ∙ ap (λ (ss : List Stretch). run_of (node_at nodes at) ∷ ss)
          (sym (from-path nodes (node_at nodes at).next (following k.chain) k.size (omega arith) head.1)),
    )

pub chain_stop : {made : ℕ} (nodes : List Node) (at : ℕ) → IsChained nodes at made → at ≡ 1024 → runs_from nodes at ≡ []
chain_stop nodes at k e = from-path nodes at [] k.size (omega arith) e

-- and it is at a node that is made
pub chain_is_made : {made : ℕ} (nodes : List Node) (at : ℕ) → IsChained nodes at made → at < 1024 → at < made
chain_is_made {made} nodes at k h =
    elim (cases_lt at made) [
      | inl lt ↦ lt
      | inr ge ↦
          let head = path-head nodes at k.chain h k.path in
          let none = k.within at ge h in
          let one : times_listed at k.chain ≡ times_listed at (at ∷ following k.chain) = ap (λ (js : List ℕ). times_listed at js) head.0 in
          let self = times-here at at (following k.chain) refl in absurd (omega arith)
    ]

pub chain_fits : {made : ℕ} (nodes : List Node) (at : ℕ) → IsChained nodes at made → at ≤ 1024
chain_fits nodes at k = path-fits nodes at k.chain k.path

-- the links to a node on a path, and from it on
record IsParting (nodes : List Node) (first at most : ℕ) : Type 0 where
  passed : List ℕ
  rest : List ℕ
  few : length passed + length rest ≤ most
  passed_path : IsPath nodes first passed at
  rest_path : IsPath nodes at rest 1024

parting : (nodes : List Node) (first at : ℕ) (js : List ℕ) → IsPath nodes first js 1024 → 1 ≤ times_listed at js → IsParting nodes first at (length js)
parting nodes first at [] p there = absurd (omega arith)
parting nodes first at (j ∷ js) p there =
    elim (cases_eq at j) [
      | inl same ↦ record {
        passed = [];
        rest = j ∷ js;
        few = omega arith;
        passed_path = p.0 ∙ sym same;
        rest_path = (same, p.1, p.2);
      }
      | inr other ↦
          let one = times-other at j js other in
          let ih = parting nodes (node_at nodes j).next at js p.2 (omega arith) in
          let few = ih.few in
          record {
            passed = j ∷ ih.passed;
            rest = ih.rest;
            few = omega arith;
            passed_path = (p.0, p.1, ih.passed_path);
            rest_path = ih.rest_path;
          }
    ]

-- the place after a node that has a number
pub place_after : {made : ℕ} (nodes : List Node) (first free at : ℕ) → IsLinked nodes first free made → at < 1024 → 1 ≤ (node_at nodes at).count
    → IsPlace nodes first at (node_at nodes at).next
place_after nodes first free at l h some =
    let once = l.once at h in
    let all = l.all in
    let apart = idle_apart nodes at l.spare some l.idle in
    let p = parting nodes first at l.used l.used_path (omega arith) in
    let few = p.few in
    let head = path-head nodes at p.rest h p.rest_path in
    let one : length p.rest ≡ suc (length (following p.rest)) = ap (λ (js : List ℕ). length js) head.0 in
    let two : length (p.passed ++ at ∷ []) ≡ length p.passed + suc 0 = length-append p.passed (at ∷ []) in
    record {
      passed = p.passed ++ at ∷ [];
      rest = following p.rest;
      few = omega arith;
      passed_path = path-more nodes first at p.passed h p.passed_path;
      rest_path = head.1;
      last = last-more at p.passed;
    }
