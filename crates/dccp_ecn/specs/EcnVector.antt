-- The Ack Vector of packets that came marked or unmarked, and its nonce (RFC 4340, sections 11.4 and 12.2).
use Rattle.std.specs.Prelude.{ℕ, Bool, List, Option, Some, None}
use Rattle.ack_vectors.specs.Vector.{option_room, vector_within, is_whole_within}
use Rattle.dccp_ecn.specs.declared.arrived.Arrived.{Arrived}
use Rattle.dccp_ecn.specs.declared.arrived.Arrived.TheVariants as came
use Rattle.dccp_ecn.specs.Arrivals.{Arrivals, how_in}
use Rattle.dccp_ecn.specs.Nonces.{kind_of_sum, sum_of, zeros_in}

-- the state of a number by how it came: 0 unmarked, 1 ECN marked, 3 not yet received (RFC 4340, section 11.4)
abbrev pub state_told_of : Option Arrived → ℕ
state_told_of None = 3
state_told_of (Some (came.Nonce nonce)) = 0
state_told_of (Some came.Marked) = 1

-- the state of each number
abbrev pub ecn_states : Arrivals → ℕ → ℕ
ecn_states e n = state_told_of (how_in e.first n)

-- the nonce with which a packet came; one that was marked, or did not come, has none (RFC 4340, section 12.2)
abbrev pub nonce_told_of : Option Arrived → Option Bool
nonce_told_of None = None
nonce_told_of (Some (came.Nonce nonce)) = Some nonce
nonce_told_of (Some came.Marked) = None

-- the nonce of each number
abbrev pub nonces_received : Arrivals → ℕ → Option Bool
nonces_received e n = nonce_told_of (how_in e.first n)

-- the bytes of the vector from an acknowledgement down to the floor, as many as one option has room for
abbrev pub ecn_bytes : Arrivals → ℕ → List ℕ
ecn_bytes e ack = vector_within option_room (ecn_states e) e.set.floor ack

-- there are no more
abbrev pub is_ecn_whole : Arrivals → ℕ → Bool
is_ecn_whole e ack = is_whole_within option_room (ecn_states e) e.set.floor ack

-- the vector's type: by the nonces of the packets that these bytes report as received unmarked (RFC 4340, section 12.2)
abbrev pub ecn_kind : Arrivals → ℕ → ℕ
ecn_kind e ack = kind_of_sum (sum_of (nonces_received e) (zeros_in ack (ecn_bytes e ack)))
