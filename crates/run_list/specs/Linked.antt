-- Runs as they are linked: one chain of nodes from the greatest run down, and one of free nodes. Index 1,024 means no node.
--
-- A count (`times_listed`), and not a permutation, says that each index is once in one of the chains: an edit that moves an index to another
-- chain then changes a sum. Only one path leads from an index along the links to no node. So the records have the chains of a state, and the
-- place that a walk found, as lists of indices.
use Rattle.std.specs.Prelude.{◌≡◌, ℕ, ◌+◌, ◌<◌, ◌≤◌, ◌==◌, nat_lt, List, [], ◌∷◌, zero, suc, length, if◌then◌else◌}
use Rattle.run_list.specs.declared.walking.Stretch.{Stretch}
use Rattle.run_list.specs.declared.linked.NodeList.{NodeList}
use Rattle.run_list.specs.declared.nodes.Node.{Node}
use Rattle.run_list.specs.Nodes.{all_nodes, node_at}
use Rattle.run_list.specs.Runs.{Touches, bound_after}
use Rattle.seq_circle.specs.Circle.{distance}

-- the run of a node
abbrev pub run_of : Node → Stretch
run_of node = record { hi = node.hi; count = node.count }

-- the runs of the nodes with these indices
abbrev pub runs_at : List Node → List ℕ → List Stretch
runs_at nodes [] = []
runs_at nodes (i ∷ is) = run_of (node_at nodes i) ∷ runs_at nodes is

-- the links lead from an index over those of the list to another index
abbrev pub IsPath : List Node → ℕ → List ℕ → ℕ → Type 0
IsPath nodes from [] to = from ≡ to
IsPath nodes from (i ∷ is) to = (from ≡ i) × (i < 1024) × IsPath nodes (node_at nodes i).next is to

-- the runs along the links, at most this many
abbrev pub walked : ℕ → List Node → ℕ → List Stretch
walked zero nodes at = []
walked (suc fuel) nodes at =
    if nat_lt at 1024 then run_of (node_at nodes at) ∷ walked fuel nodes (node_at nodes at).next else []

-- the runs from an index down; a chain has at most as many as there are nodes
abbrev pub runs_from : List Node → ℕ → List Stretch
runs_from nodes at = walked (length nodes) nodes at

-- how often the list has the index
abbrev pub times_listed : ℕ → List ℕ → ℕ
times_listed i [] = 0
times_listed i (j ∷ js) = (if i == j then 1 else 0) + times_listed i js

-- the last index of the list, or 1,024 if it has none
abbrev pub IsLast : List ℕ → ℕ → Type 0
IsLast [] last = last ≡ 1024
IsLast (i ∷ []) last = last ≡ i
IsLast (i ∷ j ∷ js) last = IsLast (j ∷ js) last

-- runs without a number: those of nodes that are free
abbrev pub AreIdle : List Stretch → Type 0
AreIdle [] = Unit {0}
AreIdle (s ∷ ss) = (s.count ≡ 0) × AreIdle ss

-- the links lead from the index to no node, over at most 1,024 that are made
pub record IsChained (nodes : List Node) (at made : ℕ) : Type 0 where
  pub chain : List ℕ
  pub size : length nodes ≡ 1024
  pub path : IsPath nodes at chain 1024
  pub few : length chain ≤ 1024
  pub within : (i : ℕ) → made ≤ i → i < 1024 → times_listed i chain ≡ 0

-- each index is once in one of three chains: the used nodes, the free ones with all that are not made, and those that are being freed
pub record IsParted (nodes : List Node) (first free from made : ℕ) : Type 0 where
  pub used : List ℕ
  pub spare : List ℕ
  pub loose : List ℕ
  pub size : length nodes ≡ 1024
  pub used_path : IsPath nodes first used 1024
  pub spare_path : IsPath nodes free spare 1024
  pub loose_path : IsPath nodes from loose 1024
  pub once : (i : ℕ) → i < 1024 → times_listed i used + times_listed i spare + times_listed i loose ≡ 1
  pub all : length used + length spare + length loose ≡ 1024
  pub idle : AreIdle (runs_at nodes spare)
  pub unused : (i : ℕ) → made ≤ i → i < 1024 → times_listed i spare ≡ 1

-- each index is once in one of two chains: the used nodes, and the free ones with all that are not made
pub record IsLinked (nodes : List Node) (first free made : ℕ) : Type 0 where
  pub used : List ℕ
  pub spare : List ℕ
  pub size : length nodes ≡ 1024
  pub used_path : IsPath nodes first used 1024
  pub spare_path : IsPath nodes free spare 1024
  pub once : (i : ℕ) → i < 1024 → times_listed i used + times_listed i spare ≡ 1
  pub all : length used + length spare ≡ 1024
  pub idle : AreIdle (runs_at nodes spare)
  pub unused : (i : ℕ) → made ≤ i → i < 1024 → times_listed i spare ≡ 1

-- the runs of a set's nodes, from the greatest down
abbrev pub linked_runs : NodeList → List Stretch
linked_runs runs = runs_from (all_nodes runs.nodes) runs.first

-- the same of a set's nodes
abbrev pub AreLinked : NodeList → Type 0
AreLinked runs = IsLinked (all_nodes runs.nodes) runs.first runs.free (length runs.nodes)

-- a place in the chain: the links lead from the first node to `at`, after `before`, and from there on to no node
pub record IsPlace (nodes : List Node) (first before at : ℕ) : Type 0 where
  pub passed : List ℕ
  pub rest : List ℕ
  pub few : length passed + length rest ≤ 1024
  pub passed_path : IsPath nodes first passed at
  pub rest_path : IsPath nodes at rest 1024
  pub last : IsLast passed before

-- a place where the walk to a number may begin: the first node, or the one after a run above the number, with a gap
pub record IsBegin (floor n : ℕ) (nodes : List Node) (first before at : ℕ) : Type 0 where
  pub place : IsPlace nodes first before at
  pub above : before < 1024 → distance floor n + (node_at nodes before).count < distance floor (node_at nodes before).hi

-- a place such that all runs before it lie above a number, with a gap
pub record IsPassed (floor n : ℕ) (nodes : List Node) (first before at : ℕ) : Type 0 where
  pub place : IsPlace nodes first before at
  pub above : distance floor n < bound_after floor 2048 (runs_at nodes place.passed)

-- the place of a number: all runs before it lie above the number, with a gap, and the one at it does not
pub record IsPlaceFor (floor n : ℕ) (nodes : List Node) (first before at : ℕ) : Type 0 where
  pub place : IsPlace nodes first before at
  pub above : distance floor n < bound_after floor 2048 (runs_at nodes place.passed)
  pub touches : at < 1024 → Touches floor n (run_of (node_at nodes at))

-- the place where a risen floor cuts: the run before it ends at the floor or above, and the one at it ends below
pub record IsPlaceBelow (floor rise : ℕ) (nodes : List Node) (first before at : ℕ) : Type 0 where
  pub place : IsPlace nodes first before at
  pub kept : before < 1024 → rise ≤ distance floor (node_at nodes before).hi
  pub dropped : at < 1024 → distance floor (node_at nodes at).hi < rise

-- the links are as before, except that another node follows `before`, or comes first if `before` is none
pub record Points (old new : List Node) (old_first new_first before to : ℕ) : Type 0 where
  pub size : length new ≡ length old
  pub runs : (js : List ℕ) → runs_at new js ≡ runs_at old js
  pub path : (passed : List ℕ) (at : ℕ) → IsPath old old_first passed at → IsLast passed before
      → ((i : ℕ) → i < 1024 → times_listed i passed ≤ 1) → IsPath new new_first passed to
  pub others : (from to : ℕ) (js : List ℕ) → times_listed before js ≡ 0 → IsPath old from js to → IsPath new from js to
