-- A risen floor cuts the chain of used nodes.
use Rattle.std.proofs.Common.{◌≡◌, ℕ, ◌+◌, ◌-◌, ◌^◌, ◌<◌, ◌≤◌, List, [], ◌∷◌, ◌++◌, refl, ap, subst, arith, sym, ◌∙◌, inl, inr, length, set, filter, min, append-nil}
use Rattle.std.proofs.lemmas.Bool.{cases_lt}
use Rattle.std.proofs.lemmas.List.{length-set}
use Rattle.std.proofs.lemmas.List.Elements.{filter-append}
use Rattle.seq_circle.specs.Circle.{distance}
use Rattle.run_list.specs.declared.walking.Stretch.{Stretch}
use Rattle.run_list.specs.declared.nodes.Node.{Node}
use Rattle.run_list.specs.MarkedSet.{is_from}
use Rattle.run_list.specs.Stretches.{stretch}
use Rattle.run_list.specs.Runs.{numbers_of, AreLaid, bound_below, bound_after}
use Rattle.run_list.specs.Linked.{run_of, runs_at, runs_from, IsPath, times_listed, IsParted, IsLinked, IsPlace, IsPlaceBelow}
use Rattle.run_list.specs.Nodes.{node_at}
use Rattle.run_list.proofs.Downs.{dropped-downwards}
use Rattle.run_list.proofs.Laid.{numbers_of-append, laid_front, laid_back, bound_falls}
use Rattle.run_list.proofs.Kept.{last_kept, laid_wider}
use Rattle.run_list.proofs.Paths.{times-here, times-append, times-last, path-fits, path-set, path-redirect, last-none, front, last-front, runs-append, runs-edited, from-path}
use Rattle.run_list.proofs.Links.{idle_set, place_runs, rest_runs, place_once, place_all, all_parted, below_end, below_far}

-- runs that lie below the new floor are dropped
runs-dropped : (f to b : ℕ) (ss : List Stretch) → f < 2 ^ 48 → to < 2 ^ 48 → distance f to < 2 ^ 47 → b ≤ distance f to → AreLaid f b ss
    → filter (is_from to) (numbers_of ss) ≡ []
runs-dropped f to b [] p q r h k = refl
runs-dropped f to b (s ∷ ss) p q r h k =
    let below : distance f s.hi < b = k.0.below in
    dropped-downwards f to s.count s.hi (numbers_of ss) p q k.0.fits r (omega arith) k.0.above
    ∙ runs-dropped f to (bound_below f s) ss p q r (omega arith) k.1

-- those from the place on do
pub rest_low : (f to : ℕ) (nodes : List Node) (first before at : ℕ) → IsPlaceBelow f (distance f to) nodes first before at → length nodes ≡ 1024
    → AreLaid f 2048 (runs_from nodes first) → AreLaid f (distance f to) (runs_from nodes at)
rest_low f to nodes first before at p s laid =
    let fits : at ≤ 1024 = path-fits nodes at p.place.rest p.place.rest_path in
    elim (cases_lt at 1024) [
      | inl lt ↦ below_far f (distance f to) nodes first before at p.place s lt laid (p.dropped lt)
      | inr ge ↦ below_end f (distance f to) nodes at s (omega arith)
    ]

-- no run is left
pub cut_first : {made : ℕ} (f to : ℕ) (nodes : List Node) (first free before at : ℕ) → IsLinked nodes first free made
    → IsPlaceBelow f (distance f to) nodes first before at → before ≡ 1024
    → f < 2 ^ 48 → to < 2 ^ 48 → distance f to < 2 ^ 47 → AreLaid f 2048 (runs_from nodes first)
    → IsParted nodes 1024 free at made × (runs_from nodes 1024 ≡ []) × (filter (is_from to) (numbers_of (runs_from nodes first)) ≡ [])
cut_first {made} f to nodes first free before at l p e q r d laid =
    let none : p.place.passed ≡ [] = last-none nodes first at before p.place.passed (omega arith) p.place.passed_path p.place.last in
    let R : List ℕ → Type 0 = λ js. IsPath nodes first js at in
    let same : first ≡ at = subst R none p.place.passed_path in
    let P : ℕ → Type 0 = λ k. IsParted nodes 1024 free k made in
    let all = all_parted nodes first free l in
    let low = runs-dropped f to (distance f to) (runs_from nodes at) q r d (omega arith) (rest_low f to nodes first before at p l.size laid) in
    (subst P same all.0, all.1, ap (λ (k : ℕ). filter (is_from to) (numbers_of (runs_from nodes k))) same ∙ low)

-- the last run that is left keeps what lies at the new floor or above
pub cut_runs : (f to count : ℕ) (ss rest : List Stretch) (s : Stretch) → f < 2 ^ 48 → to < 2 ^ 48 → distance f to < 2 ^ 47
    → AreLaid f 2048 ((ss ++ s ∷ []) ++ rest) → distance f to ≤ distance f s.hi
    → count ≡ min s.count (distance f s.hi - distance f to + 1) → AreLaid f (distance f to) rest
    → AreLaid to 2048 (ss ++ stretch s.hi count ∷ []) × (numbers_of (ss ++ stretch s.hi count ∷ []) ≡ filter (is_from to) (numbers_of ((ss ++ s ∷ []) ++ rest)))
cut_runs f to count ss rest s p q r laid h e low =
    let kept = last_kept f to 2048 count ss s p q (omega arith) (laid_front f 2048 (ss ++ s ∷ []) rest laid) h e in
    let gone : filter (is_from to) (numbers_of rest) ≡ [] = runs-dropped f to (distance f to) rest p q r (omega arith) low in (
      laid_wider to (2048 - distance f to) 2048 (ss ++ stretch s.hi count ∷ []) (omega arith) kept.1,
      sym (ap (λ (ns : List ℕ). filter (is_from to) ns) (numbers_of-append (ss ++ s ∷ []) rest)
          ∙ filter-append (is_from to) (numbers_of (ss ++ s ∷ [])) (numbers_of rest)
          ∙ ap (λ (ns : List ℕ). filter (is_from to) (numbers_of (ss ++ s ∷ [])) ++ ns) gone
          ∙ append-nil (filter (is_from to) (numbers_of (ss ++ s ∷ [])))
          ∙ kept.0),
    )

pub cut_parted : {made : ℕ} (nodes : List Node) (first free before at : ℕ) (x : Node) (l : IsLinked nodes first free made) (p : IsPlace nodes first before at) → before < 1024
    → x.next ≡ 1024
    → IsParted (set nodes before x) first free at made × (runs_from (set nodes before x) first ≡ runs_at nodes (front p.passed) ++ run_of x ∷ [])
cut_parted nodes first free before at x l p h e =
    let size : length nodes ≡ 1024 = l.size in
    let new : List Node = set nodes before x in
    let new_size : length new ≡ 1024 = length-set nodes before x ∙ l.size in
    let all : length p.passed + length p.rest + length l.spare ≡ 1024 = place_all nodes first free before at l p in
    let once : times_listed before p.passed + times_listed before p.rest + times_listed before l.spare ≡ 1 =
    place_once nodes first free before at before l p h in
    let there : 1 ≤ times_listed before p.passed = times-last before p.passed h p.last in
    let no_rest : times_listed before p.rest ≡ 0 = omega arith in
    let no_spare : times_listed before l.spare ≡ 0 = omega arith in
    let parts : p.passed ≡ front p.passed ++ before ∷ [] = last-front before p.passed h p.last in
    let counts : times_listed before p.passed ≡ times_listed before (front p.passed ++ before ∷ []) = ap (λ (js : List ℕ). times_listed before js) parts in
    let both : times_listed before (front p.passed ++ before ∷ []) ≡ times_listed before (front p.passed) + times_listed before (before ∷ []) =
    times-append before (front p.passed) (before ∷ []) in
    let self : times_listed before (before ∷ []) ≡ 1 + times_listed before [] = times-here before before [] refl in
    let no_front : times_listed before (front p.passed) ≡ 0 = omega arith in
    let P : ℕ → Type 0 = λ k. IsPath new first p.passed k in
    let used_path : IsPath new first p.passed 1024 =
    subst P e (path-redirect nodes before first at x p.passed (omega arith) h p.passed_path p.last (omega arith)) in (
      record {
        used = p.passed;
        spare = l.spare;
        loose = p.rest;
        size = new_size;
        used_path = used_path;
        spare_path = path-set nodes before free 1024 x l.spare no_spare l.spare_path;
        loose_path = path-set nodes before at 1024 x p.rest no_rest p.rest_path;
        once = λ i k. (let one = place_once nodes first free before at i l p k in omega arith);
        all = omega arith;
        idle = idle_set nodes before x l.spare no_spare l.idle;
        unused = l.unused;
      },
      from-path new first p.passed new_size (omega arith) used_path
          ∙ ap (λ (js : List ℕ). runs_at new js) parts
          ∙ runs-edited nodes before x (front p.passed) [] (omega arith) no_front refl,
    )

pub cut_after : {made : ℕ} (f to count : ℕ) (nodes : List Node) (first free before at : ℕ) (l : IsLinked nodes first free made)
    (p : IsPlaceBelow f (distance f to) nodes first before at) → before < 1024
    → f < 2 ^ 48 → to < 2 ^ 48 → distance f to < 2 ^ 47 → AreLaid f 2048 (runs_from nodes first)
    → count ≡ min (node_at nodes before).count (distance f (node_at nodes before).hi - distance f to + 1)
    → AreLaid to 2048 (runs_at nodes (front p.place.passed) ++ stretch (node_at nodes before).hi count ∷ [])
    × (numbers_of (runs_at nodes (front p.place.passed) ++ stretch (node_at nodes before).hi count ∷ []) ≡ filter (is_from to)
    (numbers_of (runs_from nodes first)))
cut_after f to count nodes first free before at l p h q r d laid e =
    let ss : List Stretch = runs_at nodes (front p.place.passed) in
    let s : Stretch = run_of (node_at nodes before) in
    let rest : List Stretch = runs_at nodes p.place.rest in
    let parts : runs_at nodes p.place.passed ≡ ss ++ s ∷ [] =
    ap (λ (js : List ℕ). runs_at nodes js) (last-front before p.place.passed h p.place.last) ∙ runs-append nodes (front p.place.passed) (before ∷ []) in
    let all : runs_from nodes first ≡ (ss ++ s ∷ []) ++ rest =
    place_runs nodes first before at p.place l.size ∙ ap (λ (ts : List Stretch). ts ++ rest) parts in
    let P : List Stretch → Type 0 = λ ts. AreLaid f 2048 ts in
    let Q : List Stretch → Type 0 = λ ts. AreLaid f (distance f to) ts in
    let both = cut_runs f to count ss rest s q r d (subst P all laid) (p.kept h) e
    (subst Q (rest_runs nodes first before at p.place l.size) (rest_low f to nodes first before at p l.size laid)) in
    (both.0, both.1 ∙ sym (ap (λ (ts : List Stretch). filter (is_from to) (numbers_of ts)) all))

-- the last run that is left lies below the bound
pub cut_low : (f : ℕ) (nodes : List Node) (first before at : ℕ) (p : IsPlace nodes first before at) → length nodes ≡ 1024 → before < 1024
    → AreLaid f 2048 (runs_from nodes first)
    → distance f (node_at nodes before).hi < 2048
cut_low f nodes first before at p s h laid =
    let ss : List Stretch = runs_at nodes (front p.passed) in
    let last : Stretch = run_of (node_at nodes before) in
    let parts : runs_at nodes p.passed ≡ ss ++ last ∷ [] =
    ap (λ (js : List ℕ). runs_at nodes js) (last-front before p.passed h p.last) ∙ runs-append nodes (front p.passed) (before ∷ []) in
    let all : runs_from nodes first ≡ (ss ++ last ∷ []) ++ runs_at nodes p.rest =
    place_runs nodes first before at p s ∙ ap (λ (ts : List Stretch). ts ++ runs_at nodes p.rest) parts in
    let P : List Stretch → Type 0 = λ ts. AreLaid f 2048 ts in
    let kept : AreLaid f 2048 (ss ++ last ∷ []) = laid_front f 2048 (ss ++ last ∷ []) (runs_at nodes p.rest) (subst P all laid) in
    let here : AreLaid f (bound_after f 2048 ss) (last ∷ []) = laid_back f 2048 ss (last ∷ []) kept in
    let fall : bound_after f 2048 ss ≤ 2048 = bound_falls f 2048 ss (laid_front f 2048 ss (last ∷ []) kept) in
    let below : distance f last.hi < bound_after f 2048 ss = here.0.below in
    omega arith
