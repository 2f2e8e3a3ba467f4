-- The Ack Vector of numbers with states, a floor and an acknowledgement (RFC 4340, section 11.4).
--
-- The definitions take the state of each number and the number of bytes, so packets marked by ECN and a second option need no others. A set is a
-- test on numbers, such as membership in a list.
use Rattle.std.specs.Prelude.{ℕ, ◌+◌, ◌-◌, ◌*◌, ◌==◌, nat_le, Bool, true, false, List, [], ◌∷◌, length, take, drop, if◌then◌else◌}
use Rattle.seq_circle.specs.Circle.{distance, is_from}
use Rattle.dccp_options.specs.Vectors.{run_length, state_of, states}
use Rattle.ack_vectors.specs.Coding.{Coding}
pub use Rattle.ack_vectors.specs.Coding.{Group, group, states_down}
use Rattle.ack_vectors.specs.Coding as coded
use Rattle.ack_vectors.specs.declared.room.Vectors.{Vectors}
use Rattle.ack_vectors.specs.declared.room.Vectors.TheVariants.{One, Two}

-- the state of a number: 0 received, 3 not yet received (RFC 4340, section 11.4)
abbrev pub state_told : Bool → ℕ
state_told true = 0
state_told false = 3

-- the state that a set gives each number
abbrev pub set_states : (ℕ → Bool) → ℕ → ℕ
set_states has n = state_told (has n)

-- how many numbers there are from an acknowledgement down to the floor, both counted; none if it is below the floor
abbrev pub numbers_between : ℕ → ℕ → ℕ
numbers_between floor ack = if is_from floor ack then distance floor ack + 1 else 0

-- the states that a vector has to report
abbrev pub states_between : (ℕ → ℕ) → ℕ → ℕ → List ℕ
states_between state floor ack = states_down state (numbers_between floor ack) ack

-- the byte of a piece: its state in the upper two bits, and its length less one in the lower six
abbrev pub piece : ℕ → ℕ → ℕ
piece state count = state * 64 + (count - 1)

-- states as the bytes of Ack Vectors, of which each covers up to 64 numbers (RFC 4340, section 11.4)
abbrev pub vector_coding : Coding ℕ
vector_coding =
    record { same = λ one other. one == other; most = λ state. 64; byte = piece; state_of = state_of; run_length = run_length }

-- a state before the runs of those after it
abbrev pub grouped_with : ℕ → List (Group ℕ) → List (Group ℕ)
grouped_with = coded.grouped_with vector_coding

-- the maximal runs of one state
abbrev pub groups : List ℕ → List (Group ℕ)
groups = coded.groups vector_coding

-- the last piece of a run, if the pieces of 64 leave one
abbrev pub last_piece : ℕ → ℕ → List ℕ
last_piece = coded.last_piece vector_coding

-- a run as its pieces, from the top: as many of 64 as there are, and what is left
abbrev pub pieces : ℕ → ℕ → List ℕ
pieces = coded.pieces vector_coding

-- the bytes of runs
abbrev pub bytes_of_groups : List (Group ℕ) → List ℕ
bytes_of_groups = coded.bytes_of_groups vector_coding

-- the bytes of any number of states
abbrev pub all_bytes : (ℕ → ℕ) → ℕ → ℕ → List ℕ
all_bytes state floor ack = bytes_of_groups (groups (states_between state floor ack))

-- the vector that this many bytes have room for: the first of all its bytes
abbrev pub vector_within : ℕ → (ℕ → ℕ) → ℕ → ℕ → List ℕ
vector_within room state floor ack = take room (all_bytes state floor ack)

-- it is whole if there are no more bytes
abbrev pub is_whole_within : ℕ → (ℕ → ℕ) → ℕ → ℕ → Bool
is_whole_within room state floor ack = nat_le (length (all_bytes state floor ack)) room

-- how many numbers its bytes reach, from the acknowledgement down
abbrev pub numbers_told_within : ℕ → (ℕ → ℕ) → ℕ → ℕ → ℕ
numbers_told_within room state floor ack = length (states (vector_within room state floor ack))

-- the bytes of data that one option has room for (RFC 4340, section 5.8)
abbrev pub option_room : ℕ
option_room = 253

-- how many options a vector takes up at most (own)
abbrev pub most_options : Vectors → ℕ
most_options One = 1
most_options Two = 2

-- the bytes that this many options have room for
abbrev pub room_of : Vectors → ℕ
room_of vectors = option_room * most_options vectors

-- the vector of a set of numbers in this many options
abbrev pub vector_under : (ℕ → Bool) → ℕ → ℕ → Vectors → List ℕ
vector_under has floor ack vectors = vector_within (room_of vectors) (set_states has) floor ack

-- whether nothing of that vector is cut
abbrev pub is_whole_under : (ℕ → Bool) → ℕ → ℕ → Vectors → Bool
is_whole_under has floor ack vectors = is_whole_within (room_of vectors) (set_states has) floor ack

-- how many numbers it reaches
abbrev pub numbers_told_under : (ℕ → Bool) → ℕ → ℕ → Vectors → ℕ
numbers_told_under has floor ack vectors = numbers_told_within (room_of vectors) (set_states has) floor ack

-- The data of the options that carry a vector, in their order: one option if it has room for all bytes, also if there are none; otherwise a full
-- one, and a second with the rest (own).
abbrev pub option_data : List ℕ → List (List ℕ)
option_data bytes =
    if nat_le (length bytes) option_room then bytes ∷ [] else take option_room bytes ∷ drop option_room bytes ∷ []
