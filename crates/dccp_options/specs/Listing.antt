-- The list of an option area, case by case of its first byte (RFC 4340, section 5.8). That it is the list which Grammar
-- computes, and the only one, is a law.
use Rattle.std.specs.Prelude.{◌≡◌, ℕ, ◌+◌, ◌<◌, ◌≤◌, ◌⊎◌, Bool, true, false, List, [], ◌∷◌, ◌++◌, length, Result, Ok, Err}
use Rattle.dccp_options.specs.declared.option.OptFault.{OptFault}
use Rattle.dccp_options.specs.declared.option.OptFault.TheVariants.{MandatoryTwice}
use Rattle.dccp_options.specs.Grammar.{Entry, at_end, is_ignored_on_data}

-- after a type byte there is no length, one below 2, or one beyond the area
abbrev pub IsCut : List ℕ → Type 0
IsCut [] = Unit {0}
IsCut (count ∷ rest) = (count < 2) ⊎ (length rest + 2 < count)

-- The bytes of an area from a place on, after a Mandatory or not, have this list.
pub data IsListed (on_data : Bool) : Bool → ℕ → List ℕ → List (Result Entry OptFault) → Type 0 where
  -- no byte is left
  at_the_end : {marked : Bool} {place : ℕ} → IsListed on_data marked place [] (at_end marked)
  -- a length is wrong: the list ends there
  cut : {marked : Bool} {place kind : ℕ} {rest : List ℕ} → 32 ≤ kind → IsCut rest
      → IsListed on_data marked place (kind ∷ rest) (at_end marked)
  -- Padding is left out, with a Mandatory before it
  padding : {marked : Bool} {place : ℕ} {rest : List ℕ} {items : List (Result Entry OptFault)}
      → IsListed on_data false (place + 1) rest items → IsListed on_data marked place (0 ∷ rest) items
  -- Mandatory marks what follows
  mandatory : {place : ℕ} {rest : List ℕ} {items : List (Result Entry OptFault)} → on_data ≡ false
      → IsListed on_data true (place + 1) rest items → IsListed on_data false place (1 ∷ rest) items
  -- twice in a row it is a fault
  twice : {place : ℕ} {rest : List ℕ} → on_data ≡ false
      → IsListed on_data true place (1 ∷ rest) (Err MandatoryTwice ∷ [])
  -- on Data it is passed over
  mandatory_on_data : {marked : Bool} {place : ℕ} {rest : List ℕ} {items : List (Result Entry OptFault)} → on_data ≡ true
      → IsListed on_data marked (place + 1) rest items → IsListed on_data marked place (1 ∷ rest) items
  -- another option of one byte
  one_byte : {marked : Bool} {place kind : ℕ} {rest : List ℕ} {items : List (Result Entry OptFault)}
      → 2 ≤ kind → kind < 32 → IsListed on_data false (place + 1) rest items
      → IsListed on_data marked place (kind ∷ rest)
      (Ok (record { place = place; mandatory = marked; kind = kind; body = [] }) ∷ items)
  -- an option with a length
  with_length : {marked : Bool} {place kind : ℕ} {items : List (Result Entry OptFault)} (body rest : List ℕ)
      → 32 ≤ kind → (on_data ≡ true → is_ignored_on_data kind ≡ false)
      → IsListed on_data false (place + (length body + 2)) rest items
      → IsListed on_data marked place (kind ∷ (length body + 2) ∷ (body ++ rest))
      (Ok (record { place = place; mandatory = marked; kind = kind; body = body }) ∷ items)
  -- one that Data packets ignore
  ignored : {marked : Bool} {place kind : ℕ} {items : List (Result Entry OptFault)} (body rest : List ℕ)
      → 32 ≤ kind → on_data ≡ true → is_ignored_on_data kind ≡ true
      → IsListed on_data marked (place + (length body + 2)) rest items
      → IsListed on_data marked place (kind ∷ (length body + 2) ∷ (body ++ rest)) items
