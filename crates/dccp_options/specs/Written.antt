-- What a writer of options writes (RFC 4340, section 5.8).
use Rattle.std.specs.Prelude.{ℕ, ◌+◌, ◌≤◌, ◌<◌, Bool, true, false, if◌then◌else◌, List, [], ◌∷◌, ◌++◌, length, Result}
use Rattle.dccp_options.specs.Grammar.{Entry, marked_entries, raw_options}
use Rattle.dccp_options.specs.declared.option.OptFault.{OptFault}
use Rattle.dccp_options.specs.Vectors.{is_ack_vector}

-- an option to be written
pub record Item : Type 0 where
  pub mandatory : Bool
  pub kind : ℕ
  pub body : List ℕ

-- the Mandatory before an option that it marks
abbrev pub mark : Bool → List ℕ
mark false = []
mark true = 1 ∷ []

-- an option's bytes: its mark, its type, its length and its data
abbrev pub spelled : Bool → ℕ → List ℕ → List ℕ
spelled mandatory kind body = mark mandatory ++ kind ∷ (length body + 2) ∷ body

-- the bytes of several options, one after the other
abbrev pub written : List Item → List ℕ
written [] = []
written (item ∷ rest) = spelled item.mandatory item.kind item.body ++ written rest

-- the option can be written: its type has a length, and its data fits one
pub record IsWritable (item : Item) : Type 0 where
  pub has_length : 32 ≤ item.kind
  pub is_byte : item.kind < 256
  pub fits : length item.body ≤ 253

-- the entries of these options, where the first byte of all is at this place
abbrev pub entries_at : ℕ → List Item → List Entry
entries_at place [] = []
entries_at place (item ∷ rest) =
    record {
      place = place + length (mark item.mandatory);
      mandatory = item.mandatory;
      kind = item.kind;
      body = item.body;
    }
    ∷ entries_at (place + length (spelled item.mandatory item.kind item.body)) rest

-- the option that an entry is, wherever it is
abbrev pub item_at : Entry → Item
item_at entry = record { mandatory = entry.mandatory; kind = entry.kind; body = entry.body }

-- the data of the Ack Vectors among options to be written, in their order
abbrev pub item_vectors : List Item → List (List ℕ)
item_vectors [] = []
item_vectors (item ∷ rest) = (if is_ack_vector item.kind then item.body ∷ [] else []) ++ item_vectors rest

-- what bytes are listed as on each packet but Data, where the first of them is at this place
abbrev pub listed_from : ℕ → List ℕ → List (Result Entry OptFault)
listed_from place bytes = marked_entries false (raw_options place 0 bytes)
