-- What a walk over the options of a packet finds of its Ack Vectors.
use Rattle.std.specs.Prelude.{◌≡◌, List, ◌∷◌, Option, Some, None, Result}
use Rattle.dccp_options.specs.Grammar.{Entry}
use Rattle.dccp_options.specs.Vectors.{ack_vectors}
use Rattle.dccp_options.specs.declared.option.OptFault.{OptFault}
use Rattle.dccp_endpoint.specs.declared.heeding.FirstVector.{FirstVector}

-- A walk over the items has left the second list. It has found no Ack Vector of them before that, or it has the first, with the items after it.
abbrev pub IsFirstOf : Option FirstVector → List (Result Entry OptFault) → List (Result Entry OptFault) → Type 0
IsFirstOf None left items = ack_vectors items ≡ ack_vectors left
IsFirstOf (Some first) left items = ack_vectors items ≡ first.data.now ∷ ack_vectors first.following
