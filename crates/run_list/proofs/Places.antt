-- Walking to a place in the chain.
use Rattle.std.proofs.Common.{◌≡◌, ℕ, ◌+◌, ◌<◌, ◌≤◌, List, [], ◌∷◌, ◌++◌, suc, refl, ap, arith, ◌∙◌, inl, inr, length, length-append}
use Rattle.std.proofs.lemmas.Bool.{cases_lt}
use Rattle.seq_circle.specs.Circle.{distance}
use Rattle.run_list.specs.declared.walking.Stretch.{Stretch}
use Rattle.run_list.specs.declared.nodes.Node.{Node}
use Rattle.run_list.specs.Runs.{bound_below, bound_after, Touches}
use Rattle.run_list.specs.Linked.{run_of, runs_at, runs_from, IsPlace, IsBegin, IsPassed, IsPlaceFor}
use Rattle.run_list.specs.Nodes.{node_at}
use Rattle.run_list.proofs.Paths.{path-more, last-more, last-none, front, last-front, following, path-head, runs-append, length-runs, from-path}

-- one node further
pub place_lengths : (nodes : List Node) (first before at : ℕ) (p : IsPlace nodes first before at) → at < 1024
    → length (p.passed ++ at ∷ []) + length (following p.rest) ≤ 1024
place_lengths nodes first before at p h =
    let few = p.few in
    let one : length p.rest ≡ suc (length (following p.rest)) = ap (λ (js : List ℕ). length js) (path-head nodes at p.rest h p.rest_path).0 in
    let two : length (p.passed ++ at ∷ []) ≡ length p.passed + suc 0 = length-append p.passed (at ∷ []) in
    omega arith

abbrev pub place_step : (nodes : List Node) (first before at : ℕ) (p : IsPlace nodes first before at) → at < 1024
    → IsPlace nodes first at (node_at nodes at).next
place_step nodes first before at p h =
    record {
      passed = p.passed ++ at ∷ [];
      rest = following p.rest;
      few = place_lengths nodes first before at p h;
      passed_path = path-more nodes first at p.passed h p.passed_path;
      rest_path = (path-head nodes at p.rest h p.rest_path).1;
      last = last-more at p.passed;
    }

pub place_falls : (nodes : List Node) (first before at : ℕ) → IsPlace nodes first before at → length nodes ≡ 1024 → at < 1024
    → length (runs_from nodes (node_at nodes at).next) < length (runs_from nodes at)
place_falls nodes first before at p s h =
    let few = p.few in
    let head = path-head nodes at p.rest h p.rest_path in
    let one : length p.rest ≡ suc (length (following p.rest)) = ap (λ (js : List ℕ). length js) head.0 in
    let old : length (runs_from nodes at) ≡ length p.rest =
    ap (λ (ss : List Stretch). length ss) (from-path nodes at p.rest s (omega arith) p.rest_path) ∙ length-runs nodes p.rest in
    let new : length (runs_from nodes (node_at nodes at).next) ≡ length (following p.rest) =
    ap (λ (ss : List Stretch). length ss) (from-path nodes (node_at nodes at).next (following p.rest) s (omega arith) head.1)
    ∙ length-runs nodes (following p.rest) in
    omega arith

bound-last : (f b : ℕ) (ss : List Stretch) (s : Stretch) → bound_after f b (ss ++ s ∷ []) ≡ bound_below f s
bound-last f b [] s = refl
bound-last f b (t ∷ ss) s = bound-last f (bound_below f t) ss s

-- what lies below a run with a gap lies below the bound that it leaves
pub passed_from : (f n : ℕ) (nodes : List Node) (first before at : ℕ) → IsBegin f n nodes first before at → distance f n < 2048
    → IsPassed f n nodes first before at
passed_from f n nodes first before at b h =
    let p = b.place in
    elim (cases_lt before 1024) [
      | inl lt ↦
          let above = b.above lt in
          let parts : p.passed ≡ front p.passed ++ before ∷ [] = last-front before p.passed lt p.last in
          let all : runs_at nodes p.passed ≡ runs_at nodes (front p.passed) ++ run_of (node_at nodes before) ∷ [] =
          ap (λ (js : List ℕ). runs_at nodes js) parts ∙ runs-append nodes (front p.passed) (before ∷ []) in
          let bound : bound_after f 2048 (runs_at nodes p.passed) ≡ bound_below f (run_of (node_at nodes before)) =
          ap (λ (ss : List Stretch). bound_after f 2048 ss) all ∙ bound-last f 2048 (runs_at nodes (front p.passed)) (run_of (node_at nodes before)) in
          record { place = p; above = omega arith }
      | inr ge ↦
          let none : p.passed ≡ [] = last-none nodes first at before p.passed ge p.passed_path p.last in
          let bound : bound_after f 2048 (runs_at nodes p.passed) ≡ 2048 = ap (λ (js : List ℕ). bound_after f 2048 (runs_at nodes js)) none in
          record { place = p; above = omega arith }
    ]

pub passed_step : (f n : ℕ) (nodes : List Node) (first before at : ℕ) → IsPassed f n nodes first before at → at < 1024
    → distance f n + (node_at nodes at).count < distance f (node_at nodes at).hi → IsPassed f n nodes first at (node_at nodes at).next
passed_step f n nodes first before at p h d =
    let all : runs_at nodes (p.place.passed ++ at ∷ []) ≡ runs_at nodes p.place.passed ++ run_of (node_at nodes at) ∷ [] =
    runs-append nodes p.place.passed (at ∷ []) in
    let bound : bound_after f 2048 (runs_at nodes (p.place.passed ++ at ∷ [])) ≡ bound_below f (run_of (node_at nodes at)) =
    ap (λ (ss : List Stretch). bound_after f 2048 ss) all ∙ bound-last f 2048 (runs_at nodes p.place.passed) (run_of (node_at nodes at)) in
    record { place = place_step nodes first before at p.place h; above = omega arith }

pub passed_end : (f n : ℕ) (nodes : List Node) (first before at : ℕ)
    → IsPassed f n nodes first before at → (at < 1024 → Touches f n (run_of (node_at nodes at)))
    → IsPlaceFor f n nodes first before at
passed_end f n nodes first before at p t = record { place = p.place; above = p.above; touches = t }

-- a place all before which end at the risen floor or above
pub below_step : (f rise : ℕ) (nodes : List Node) (first before at : ℕ) → IsPlace nodes first before at → at < 1024 → rise ≤ distance f (node_at nodes at).hi
    → IsPlace nodes first at (node_at nodes at).next × (at < 1024 → rise ≤ distance f (node_at nodes at).hi)
below_step f rise nodes first before at p h d = (place_step nodes first before at p h, λ k. d)
