-- What the Ack Vectors of a packet report (RFC 4340, section 11.4).
use Rattle.std.specs.Prelude.{◌≡◌, ℕ, ◌+◌, ◌/◌, ◌%◌, Bool, false, ◌||◌, ◌==◌, nat_lt, List, [], ◌∷◌, ◌++◌, replicate, Option, Some, None, Result, Ok, Err, slice_get, if◌then◌else◌}
use Rattle.std.specs.List.{concat}
use Rattle.seq_circle.specs.Circle.{distance, down}
use Rattle.dccp_options.specs.declared.option.OptFault.{OptFault}
use Rattle.dccp_options.specs.declared.report.Run.{Run}
use Rattle.dccp_options.specs.Grammar.{Entry}
use Rattle.dccp_options.specs.Kinds.{ack_vector_0, ack_vector_1}

-- an acknowledgement number and the bytes of the vectors that go down from it
pub record VectorReport : Type 0 where
  pub ack : ℕ
  pub bytes : List ℕ

-- the types of Ack Vectors, with nonce 0 and 1 (RFC 4340, section 11.4)
abbrev pub is_ack_vector : ℕ → Bool
is_ack_vector kind = kind == ack_vector_0 || kind == ack_vector_1

-- the vector that an item of the list is, if it is one
abbrev pub vector_in : Result Entry OptFault → List (List ℕ)
vector_in (Err _) = []
vector_in (Ok entry) = if is_ack_vector entry.kind then entry.body ∷ [] else []

-- the Ack Vectors of a packet, in their order
abbrev pub ack_vectors : List (Result Entry OptFault) → List (List ℕ)
ack_vectors [] = []
ack_vectors (item ∷ rest) = vector_in item ++ ack_vectors rest

-- several vectors of a packet continue each other (RFC 4340, section 11.4)
abbrev pub vector_bytes : List (Result Entry OptFault) → List ℕ
vector_bytes items = concat (ack_vectors items)

-- what the options of a packet with this acknowledgement number report, or none if there is no Ack Vector
abbrev pub joined_report : ℕ → List (List ℕ) → Option VectorReport
joined_report ack [] = None
joined_report ack (vector ∷ others) = Some (record { ack = ack; bytes = concat (vector ∷ others) })

-- all Ack Vectors of the packet are one report, which begins at the acknowledgement number
abbrev pub report_of : ℕ → List (Result Entry OptFault) → Option VectorReport
report_of ack items = joined_report ack (ack_vectors items)

-- the state in a byte's upper two bits: 0 received, 1 received ECN marked, 3 not yet received (RFC 4340, section 11.4);
-- the reserved 2 is read as 3 (own)
abbrev pub state_of : ℕ → ℕ
state_of byte = if byte / 64 == 2 then 3 else byte / 64

-- how many numbers a byte covers: one more than the run length in its lower six bits (RFC 4340, section 11.4)
abbrev pub run_length : ℕ → ℕ
run_length byte = byte % 64 + 1

-- the states that the bytes give, from the acknowledgement number downwards
abbrev pub states : List ℕ → List ℕ
states [] = []
states (byte ∷ rest) = replicate (run_length byte) (state_of byte) ++ states rest

-- the state that the bytes give a number, or none if they do not reach it
abbrev pub state_at : ℕ → List ℕ → ℕ → Option ℕ
state_at ack bytes n = slice_get (states bytes) (distance n ack)

-- the state that a packet with this acknowledgement number and these options reports of a number
abbrev pub reported : ℕ → List (Result Entry OptFault) → ℕ → Option ℕ
reported ack items n = state_at ack (vector_bytes items) n

-- state 0: received, without a mark (RFC 4340, section 11.4)
abbrev pub is_unmarked : Option ℕ → Bool
is_unmarked None = false
is_unmarked (Some state) = state == 0

-- state 1: received, ECN marked
abbrev pub is_marked : Option ℕ → Bool
is_marked None = false
is_marked (Some state) = state == 1

-- received, marked or not
abbrev pub is_received : Option ℕ → Bool
is_received state = is_unmarked state || is_marked state

-- the runs of the bytes, one a byte, each with its highest number, from this number downwards
abbrev pub runs_of : ℕ → List ℕ → List Run
runs_of hi [] = []
runs_of hi (byte ∷ rest) =
    record { hi = hi; count = run_length byte; state = state_of byte }
    ∷ runs_of (down hi (run_length byte)) rest

-- how many numbers runs cover
abbrev pub numbers_covered : List Run → ℕ
numbers_covered [] = 0
numbers_covered (run ∷ rest) = run.count + numbers_covered rest

-- some of these runs, which cover this many numbers, were passed, and the last argument is left
abbrev pub HavePassed : List Run → ℕ → List Run → Type 0
HavePassed runs numbers left = (passed : List Run) × (runs ≡ passed ++ left) × (numbers ≡ numbers_covered passed)

-- the number is one of the run's
abbrev pub is_in_run : Run → ℕ → Bool
is_in_run run n = nat_lt (distance n run.hi) run.count

-- the state that the first run with the number gives it
abbrev pub state_in : List Run → ℕ → Option ℕ
state_in [] n = None
state_in (run ∷ rest) n = if is_in_run run n then Some run.state else state_in rest n
