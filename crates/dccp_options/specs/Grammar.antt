-- The options of a packet, as its option area lists them (RFC 4340, section 5.8).
use Rattle.std.specs.Prelude.{ℕ, zero, suc, ◌+◌, ◌-◌, Bool, true, false, not, ◌&&◌, ◌==◌, nat_le, List, [], ◌∷◌, length, take, filter, Option, Some, None, Result, Ok, Err, if◌then◌else◌}
use Rattle.dccp_options.specs.Kinds.{padding, mandatory}
pub use Rattle.dccp_options.specs.Kinds.{is_one_byte, is_ignored_on_data}
use Rattle.dccp_options.specs.declared.option.OptFault.{OptFault}
use Rattle.dccp_options.specs.declared.option.OptFault.TheVariants.{MandatoryAtEnd, MandatoryTwice}

-- an option as the list has it: where its type byte is in the area, counted from 0, and whether it is marked
pub record Entry : Type 0 where
  pub place : ℕ
  pub mandatory : Bool
  pub kind : ℕ
  pub body : List ℕ

-- an option as it is in the area, Padding and Mandatory among them
pub record RawOption : Type 0 where
  pub place : ℕ
  pub kind : ℕ
  pub body : List ℕ

-- the data after the type byte and the length, which counts the type and itself too; none if the length is below 2 or beyond the area (RFC 4340,
-- section 5.8)
abbrev pub counted_body : List ℕ → Option (List ℕ)
counted_body [] = None
counted_body (count ∷ rest) =
    if nat_le 2 count && nat_le (count - 2) (length rest) then Some (take (count - 2) rest) else None

-- the data of the option of this type that the bytes follow
abbrev pub option_body : ℕ → List ℕ → Option (List ℕ)
option_body kind rest = if is_one_byte kind then Some [] else counted_body rest

-- how many bytes of the option follow its type byte
abbrev pub bytes_after : ℕ → List ℕ → ℕ
bytes_after kind body = if is_one_byte kind then 0 else length body + 1

-- an option and what follows it; one whose length is wrong ends the list (RFC 4340, section 5.8)
abbrev pub raw_then : ℕ → ℕ → Option (List ℕ) → (ℕ → List RawOption) → List RawOption
raw_then place kind None _ = []
raw_then place kind (Some body) following =
    record { place = place; kind = kind; body = body } ∷ following (bytes_after kind body)

-- all options of an area, from this place on; the first `skip` bytes belong to the option before
abbrev pub raw_options : ℕ → ℕ → List ℕ → List RawOption
raw_options place skip [] = []
raw_options place (suc skip) (_ ∷ rest) = raw_options (place + 1) skip rest
raw_options place zero (kind ∷ rest) =
    raw_then place kind (option_body kind rest) (λ skip. raw_options (place + 1) skip rest)

-- the options that count on the packet: all, or on Data those that Data packets do not ignore
abbrev pub counted_options : Bool → List RawOption → List RawOption
counted_options false raws = raws
counted_options true raws = filter (λ raw. not (is_ignored_on_data raw.kind)) raws

-- what an option is to the list
pub data Part : Type 0 where
  Padding : Part
  Mandatory : Part
  Listed : Part

-- by its type an option fills the area up, marks the next one, or is a member of the list
abbrev pub part_of : ℕ → Part
part_of kind = if kind == padding then Padding else if kind == mandatory then Mandatory else Listed

-- an option, with its mark, and what follows it. Padding is left out, and cancels a mark before it; Mandatory marks the next option, and twice
-- in a row is a fault, which ends the list (RFC 4340, sections 5.8.1 and 5.8.2)
abbrev pub entry_then : Part → Bool → RawOption → (Bool → List (Result Entry OptFault))
    → List (Result Entry OptFault)
entry_then Padding _ _ following = following false
entry_then Mandatory false _ following = following true
entry_then Mandatory true _ _ = Err MandatoryTwice ∷ []
entry_then Listed marked raw following =
    Ok (record { place = raw.place; mandatory = marked; kind = raw.kind; body = raw.body }) ∷ following false

-- a Mandatory with nothing after it is a fault (RFC 4340, section 5.8.2)
abbrev pub at_end : Bool → List (Result Entry OptFault)
at_end false = []
at_end true = Err MandatoryAtEnd ∷ []

-- the list of these options, after a Mandatory or not
abbrev pub marked_entries : Bool → List RawOption → List (Result Entry OptFault)
marked_entries marked [] = at_end marked
marked_entries marked (raw ∷ rest) = entry_then (part_of raw.kind) marked raw (λ next. marked_entries next rest)

-- the list of an area, on a Data packet or on another
abbrev pub options_of : List ℕ → Bool → List (Result Entry OptFault)
options_of area on_data = marked_entries false (counted_options on_data (raw_options 0 0 area))
