-- Data that an end delivers lie within the bytes that arrived.
use Rattle.std.proofs.Common.{◌≡◌, sym, ap, subst, ℕ, ◌-◌, ◌≤◌, List, [], length, Bool, true, false, Option, arith}
use Rattle.run_list.specs.MarkedSet.{answer_to}
use Rattle.dccp_endpoint.specs.Causes.{Came}
use Rattle.dccp_endpoint.specs.End.{EndState}
use Rattle.dccp_endpoint.specs.Incoming.{Incoming}
use Rattle.dccp_endpoint.specs.Inputs.{Input, Arrives}
use Rattle.dccp_endpoint.specs.Outcomes.{HasCause, IsTaken}
use Rattle.dccp_endpoint.specs.Reporting.{delivered_if, delivers}
use Rattle.dccp_states.specs.declared.outcome.Outcome.{Outcome}
use Rattle.dccp_states.specs.declared.outcome.Outcome.TheVariants.{Took, Dropped, Synced, WasReset, SentReset}
use Rattle.data_dropped.specs.Buffering.{HasDataWithin}

abbrev bytes_given : Input → List ℕ
bytes_given (Arrives bytes) = bytes
bytes_given _ = []

-- the place lies within the bytes
abbrev pub IsWithin : List ℕ → ℕ × ℕ → Type 0
IsWithin bytes place = (place.0 ≤ place.1) × (place.1 ≤ length bytes)

came-within : (e : EndState) (bytes : List ℕ) (a : Incoming) → Came e (Arrives bytes) a → IsWithin bytes a.data_place
came-within e bytes a came =
    let given : came.bytes ≡ bytes = sym (ap bytes_given came.is_given) in
    let size : length came.bytes ≡ length bytes = ap length given in
    let place : a.data_place ≡ (length came.bytes - length came.packet.payload, length came.bytes) = ap (λ (x : Incoming). x.data_place) came.same in
    subst (IsWithin bytes) (sym place) (omega arith, omega (arith, size))

data-if : (bytes : List ℕ) (place : ℕ × ℕ) (new : Bool) → IsWithin bytes place → HasDataWithin bytes (Took (delivered_if new place))
data-if bytes place true inside = inside
data-if bytes place false inside = tt

taken-within : (e : EndState) (bytes : List ℕ) (delivered : Option (ℕ × ℕ)) → IsTaken e bytes delivered → HasDataWithin bytes (Took delivered)
taken-within e bytes delivered taken =
    subst (λ (d : Option (ℕ × ℕ)). HasDataWithin bytes (Took d)) (sym taken.delivery)
    (data-if bytes taken.packet.data_place (delivers taken.packet.kind taken.to (answer_to taken.entered.received.set taken.packet.number))
    (came-within e bytes taken.packet taken.admitted.valid.came))

pub data_within : (e : EndState) (bytes : List ℕ) (outcome : Outcome) → HasCause e bytes outcome → HasDataWithin bytes outcome
data_within e bytes (Took delivered) cause = taken-within e bytes delivered cause
data_within e bytes _ cause = tt
