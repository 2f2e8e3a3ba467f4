-- The nonces that a vector reports: its ECN Nonce Echo (RFC 4340, section 12.2).
use Rattle.std.specs.Prelude.{ℕ, ◌==◌, ◌++◌, Bool, true, false, not, List, [], ◌∷◌, Option, Some, None, if◌then◌else◌}
use Rattle.run_list.specs.Runs.{downwards}
use Rattle.dccp_options.specs.Kinds.{ack_vector_0, ack_vector_1}
use Rattle.dccp_options.specs.Vectors.{runs_of}
use Rattle.dccp_options.specs.declared.report.Run.{Run}

-- the numbers of a run that is reported as received unmarked: state 0 (RFC 4340, section 11.4)
abbrev pub zeros_of_run : Run → List ℕ
zeros_of_run run = if run.state == 0 then downwards run.count run.hi else []

-- the numbers of runs that are reported so
abbrev pub zeros_of : List Run → List ℕ
zeros_of [] = []
zeros_of (run ∷ runs) = zeros_of_run run ++ zeros_of runs

-- the numbers that the bytes of a vector report so, from the acknowledgement down
abbrev pub zeros_in : ℕ → List ℕ → List ℕ
zeros_in ack bytes = zeros_of (runs_of ack bytes)

-- the exclusive or of two nonces
abbrev pub nonce_xor : Bool → Bool → Bool
nonce_xor true nonce = not nonce
nonce_xor false nonce = nonce

-- the same, where both are known
abbrev pub xor_if_known : Option Bool → Option Bool → Option Bool
xor_if_known (Some one) (Some other) = Some (nonce_xor one other)
xor_if_known (Some one) None = None
xor_if_known None other = None

-- The exclusive or of the nonces of numbers, or none if one of them is not known (RFC 4340, section 12.2).
abbrev pub sum_of : (ℕ → Option Bool) → List ℕ → Option Bool
sum_of nonce [] = Some false
sum_of nonce (n ∷ ns) = xor_if_known (nonce n) (sum_of nonce ns)

-- the type of an Ack Vector by its ECN Nonce Echo (RFC 4340, section 11.4); also 38 if the echo is not known, which is
-- so for no vector that is written
abbrev pub kind_of_sum : Option Bool → ℕ
kind_of_sum None = ack_vector_0
kind_of_sum (Some false) = ack_vector_0
kind_of_sum (Some true) = ack_vector_1
