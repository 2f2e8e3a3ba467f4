-- The 1,024 nodes of a set, as contracts see them: those that are made, and then those that are not yet.
use Rattle.std.specs.Prelude.{ℕ, ◌+◌, ◌-◌, List, [], ◌∷◌, ◌++◌, zero, suc, length, slice_index_or}
use Rattle.run_list.specs.declared.nodes.Node.{Node}

-- what is read at an index that no node has
abbrev pub no_node : Node
no_node = record { hi = 0; count = 0; next = 1024 }

-- the node at an index
abbrev pub node_at : List Node → ℕ → Node
node_at nodes at = slice_index_or nodes at no_node

-- nodes that are not made yet, this many from an index on: each leads to the next
abbrev pub unmade : ℕ → ℕ → List Node
unmade zero at = []
unmade (suc count) at = record { hi = 0; count = 0; next = at + 1 } ∷ unmade count (at + 1)

-- these nodes that are made, and those that are not yet: 1,024 in all
abbrev pub all_nodes : List Node → List Node
all_nodes made = made ++ unmade (1024 - length made) (length made)
