-- Objects of JSON as they are put together, member by member (RFC 8259, section 4).
use Rattle.std.specs.Prelude.{ℕ, ◌++◌, Bool, List, [], ◌∷◌, map, codes}
use Rattle.std.specs.Borrow.{Bor}
use Rattle.serde_json.specs.Data.{Data, Members, array, boolean, number, object, put, string, unsigned}
use Rattle.serde_json.specs.View.{items_of, members_view, view}
use Rattle.serde_json.specs.Written.{compact_text}
use Rattle.bridge_command.specs.declared.json.objects.Items.{Items}
use Rattle.bridge_command.specs.declared.json.objects.Object.{Object}

-- the members that an object has
abbrev pub members_seen : Object → Members
members_seen o = members_view o.members.entries

-- the values that a list holds
abbrev pub listed : Items → List Data
listed i = map view i.values.items

-- the members with a number of this name
abbrev pub with_number_named : List ℕ → ℕ → Members → Members
with_number_named name n members = put name (number (unsigned n)) members

-- the same with numbers of these names, one after the other
abbrev pub with_numbers : List (Bor (List ℕ) × ℕ) → Members → Members
with_numbers [] members = members
with_numbers (named ∷ rest) members = with_numbers rest (with_number_named named.0.now named.1 members)

-- the same with a text
abbrev pub with_text_named : List ℕ → List ℕ → Members → Members
with_text_named name text members = put name (string text) members

-- the same with true or false
abbrev pub with_truth_named : List ℕ → Bool → Members → Members
with_truth_named name is members = put name (boolean is) members

-- the same with a list
abbrev pub with_list_named : List ℕ → List Data → Members → Members
with_list_named name items members = put name (array (items_of items)) members

-- an object on a separate line, without spaces
abbrev pub object_line : Members → List ℕ
object_line members = compact_text (object members) ++ codes "\n"
