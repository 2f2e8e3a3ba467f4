-- What a sender keeps of the nonces that it sent, and its verdict on a vector by them (RFC 4340, section 12.2; how many
-- it keeps is own).
use Rattle.std.specs.Prelude.{ℕ, ◌+◌, ◌%◌, ◌==◌, zero, suc, Bool, false, List, [], ◌∷◌, take, slice_get, slice_index_or, Option, Some, None, if◌then◌else◌}
use Rattle.seq_circle.specs.Circle.{distance, down, residue}
use Rattle.dccp_ecn.specs.declared.ledger.Check.{Check}
use Rattle.dccp_ecn.specs.declared.ledger.Check.TheVariants.{Fits, Unfit, Unknown}
use Rattle.dccp_ecn.specs.Nonces.{kind_of_sum, sum_of, zeros_in}

-- the number of the next packet, and the nonces of those before it that are kept, the newest first
pub record Ledger : Type 0 where
  pub next : ℕ
  pub nonces : List Bool

-- the next number with these nonces
abbrev pub ledger : ℕ → List Bool → Ledger
ledger next nonces = record { next = next; nonces = nonces }

-- after one more packet: of all nonces the last 4,096 are kept
abbrev pub with_nonce_sent : Ledger → Bool → Ledger
with_nonce_sent l nonce = ledger (residue (l.next + 1)) (take 4096 (nonce ∷ l.nonces))

-- the nonce of a packet, or none if it is not kept: the newest packet's comes first, then those before it
abbrev pub nonce_kept : Ledger → ℕ → Option Bool
nonce_kept l n = slice_get l.nonces (distance n (down l.next 1))

-- the verdict on a vector's type by an exclusive or of kept nonces
abbrev pub check_verdict : ℕ → Option Bool → Check
check_verdict kind None = Unknown
check_verdict kind (Some sum) = if kind_of_sum (Some sum) == kind then Fits else Unfit

-- The ledger's verdict on a vector: whether its type is that of the nonces of all numbers that it reports as received
-- unmarked, if these are kept (RFC 4340, section 12.2).
abbrev pub vector_checked : Ledger → ℕ → ℕ → List ℕ → Check
vector_checked l ack kind bytes = check_verdict kind (sum_of (nonce_kept l) (zeros_in ack bytes))

-- the nonces of this many packets from one down, each from the place of its remainder by 4,096
abbrev pub kept_down : List Bool → ℕ → ℕ → List Bool
kept_down ring n zero = []
kept_down ring n (suc count) = slice_index_or ring (n % 4096) false ∷ kept_down ring (down n 1) count
