-- What is reported of drops: which packets' data were dropped, and why (RFC 4340, section 11.7).
use Rattle.std.specs.Prelude.{ℕ, ◌+◌, ◌-◌, ◌*◌, ◌/◌, ◌%◌, ◌<◌, ◌==◌, nat_le, nat_lt, Bool, true, false, List, [], ◌∷◌, length, take, Option, Some, None, slice_get, if◌then◌else◌}
use Rattle.std.specs.List.{All}
use Rattle.seq_circle.specs.Circle.{distance}
use Rattle.ack_vectors.specs.Coding.{Coding, coded_bytes, states_down, states_of}
use Rattle.data_dropped.specs.declared.drops.DropEntry.{DropEntry}

-- among these drops, the oldest first, the code of the last one that is meant; the given code if there is none
abbrev pub last_code : {Drop : Type 0} → (Drop → Bool) → (Drop → ℕ) → Option ℕ → List Drop → Option ℕ
last_code is_meant code found [] = found
last_code is_meant code found (d ∷ ds) = last_code is_meant code (if is_meant d then Some (code d) else found) ds

-- the code of a number is that of its latest entry (own)
abbrev pub drop_code : List DropEntry → ℕ → Option ℕ
drop_code drops n = last_code (λ (d : DropEntry). d.number == n) (λ (d : DropEntry). d.code) None drops

-- The codes of the 2,048 numbers from one downwards (own).
unfoldable pub code_table : List DropEntry → ℕ → List (Option ℕ)
code_table drops ack = states_down (drop_code drops) 2048 ack

-- a number before the codes of those below it; without a code it counts if one below it has one
abbrev pub before_codes : Option ℕ → List (Option ℕ) → List (Option ℕ)
before_codes None [] = []
before_codes None (code ∷ codes) = None ∷ code ∷ codes
before_codes (Some code) codes = Some code ∷ codes

-- codes up to the last one that is there
abbrev pub up_to_last_code : List (Option ℕ) → List (Option ℕ)
up_to_last_code [] = []
up_to_last_code (code ∷ codes) = before_codes code (up_to_last_code codes)

-- What a report at an acknowledgement number should say: the codes of the numbers from it down to the lowest that has a
-- code (own).
abbrev pub codes_reported : List DropEntry → ℕ → List (Option ℕ)
codes_reported drops ack = up_to_last_code (code_table drops ack)

-- the data of two numbers were dropped for the same reason, or neither were dropped
abbrev pub same_code : Option ℕ → Option ℕ → Bool
same_code None None = true
same_code None (Some code) = false
same_code (Some code) None = false
same_code (Some one) (Some other) = one == other

-- how many numbers a byte covers at most: 128 without a drop, 16 with one (RFC 4340, section 11.7)
abbrev pub most_numbers : Option ℕ → ℕ
most_numbers None = 128
most_numbers (Some code) = 16

-- The byte of this many numbers: a Normal Block has their number less one in seven bits; a Drop Block has its upper bit set, then the code in
-- three bits and that number in four (RFC 4340, section 11.7).
abbrev pub drop_byte : Option ℕ → ℕ → ℕ
drop_byte None count = count - 1
drop_byte (Some code) count = 128 + 16 * (code % 8) + (count - 1)

-- the code that a byte gives its numbers, or none (RFC 4340, section 11.7)
abbrev pub code_in : ℕ → Option ℕ
code_in byte = if nat_lt byte 128 then None else Some (byte / 16 % 8)

-- how many numbers a byte covers (RFC 4340, section 11.7)
abbrev pub numbers_in : ℕ → ℕ
numbers_in byte = if nat_lt byte 128 then byte + 1 else byte % 16 + 1

-- codes as the bytes of Data Dropped
abbrev pub drop_coding : Coding (Option ℕ)
drop_coding =
    record { same = same_code; most = most_numbers; byte = drop_byte; state_of = code_in; run_length = numbers_in }

-- all bytes of a report, before any are cut off
abbrev pub all_drop_bytes : List DropEntry → ℕ → List ℕ
all_drop_bytes drops ack = coded_bytes drop_coding (codes_reported drops ack)

-- the report of these drops: the bytes that one option has room for (RFC 4340, section 5.8; that it is one option is
-- own)
abbrev pub drop_bytes : List DropEntry → ℕ → List ℕ
drop_bytes drops ack = take 253 (all_drop_bytes drops ack)

-- the report is whole: nothing was cut off
abbrev pub tells_all : List DropEntry → ℕ → Bool
tells_all drops ack = nat_le (length (all_drop_bytes drops ack)) 253

-- the code of a number that is within the report's reach and has one
abbrev pub code_at_place : Option (Option ℕ) → Option ℕ
code_at_place None = None
code_at_place (Some code) = code

-- the code that the bytes of a report give a number, or none if it has no drop or they do not reach it
abbrev pub code_at : ℕ → List ℕ → ℕ → Option ℕ
code_at ack bytes n = code_at_place (slice_get (states_of drop_coding bytes) (distance n ack))

-- how many numbers a report of these drops reaches, from the acknowledgement number down
abbrev pub numbers_reached : List DropEntry → ℕ → ℕ
numbers_reached drops ack = length (states_of drop_coding (drop_bytes drops ack))

-- each code is one of three bits (RFC 4340, section 11.7)
abbrev pub HaveCodes : List DropEntry → Type 0
HaveCodes drops = All (λ (d : DropEntry). d.code < 8) drops
