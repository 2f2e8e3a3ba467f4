-- The check of a report: what its nonce is, and what the sender keeps of the packets that it tells of.
--
-- Each number that the vector reports as received unmarked came first so, with the nonce that its packet was sent with; so
-- the sender's sum is the receiver's, unless a nonce is kept no more.
use Rattle.std.proofs.Common.{◌≡◌, ℕ, ◌-◌, ◌^◌, ◌<◌, ◌≤◌, ◌||◌, Bool, true, false, List, [], ◌∷◌, length, refl, ap, ◌∙◌, arith, slice_get}
use Rattle.std.specs.Prelude.{Option, Some, None, if◌then◌else◌}
use Rattle.std.specs.List.{list_any}
use Rattle.dccp_ecn.specs.declared.arrived.Arrived.{Arrived}
use Rattle.dccp_ecn.specs.declared.arrived.Arrived.TheVariants as came
use Rattle.dccp_ecn.specs.declared.ledger.Check.TheVariants.{Fits, Unfit, Unknown}
use Rattle.dccp_ecn.specs.Arrivals.{Receipt, Arrivals, how_in, none_arrived}
use Rattle.dccp_ecn.specs.EcnVector.{ecn_bytes, ecn_states, nonce_told_of, nonces_received, state_told_of}
use Rattle.dccp_ecn.specs.Ledger.{nonce_kept, check_verdict}
use Rattle.dccp_ecn.specs.Nonces.{kind_of_sum, nonce_xor, sum_of, xor_if_known, zeros_in}
use Rattle.dccp_ecn.specs.World.{checks, checks_forged, other_kind}
use Rattle.dccp_ecn.specs.Run.{greatest_of, is_old, ledger_by, number_or_0, received_after, report_by, unless_old}
use Rattle.dccp_ecn.proofs.Ledgers.{kept-nonce}
use Rattle.dccp_ecn.proofs.Receipts.{EachArrival, IsKept, greatest-fits, kept-from, kept-none}
use Rattle.dccp_ecn.proofs.Zeros.{Each, each-weaker, zeros-told}

-- a packet came as it was sent: with its nonce, if it came unmarked
abbrev pub IsSent : List Bool → ℕ → Arrived → Type 0
IsSent sent n how = (nonce : Bool) → how ≡ came.Nonce nonce → (1 ≤ n) × (n ≤ length sent) × (slice_get sent (n - 1) ≡ Some nonce)

-- a number whose nonce is known, and that a second telling knows unless it is old
pub record IsKnown (received kept : ℕ → Option Bool) (old : ℕ → Bool) (n : ℕ) : Type 0 where
  pub nonce : Bool
  pub told : received n ≡ Some nonce
  pub again : kept n ≡ (if old n then None else Some nonce)

-- the same of a sum
pub record IsSummed (received kept : ℕ → Option Bool) (old : ℕ → Bool) (ns : List ℕ) : Type 0 where
  pub sum : Bool
  pub told : sum_of received ns ≡ Some sum
  pub again : sum_of kept ns ≡ (if list_any old ns then None else Some sum)

pub known-summed : (received kept : ℕ → Option Bool) (old : ℕ → Bool) (ns : List ℕ) → Each (IsKnown received kept old) ns → IsSummed received kept old ns
known-summed received kept old [] each = record { sum = false; told = refl; again = refl }
known-summed received kept old (n ∷ ns) each =
    let first : IsKnown received kept old n = each.0 in
    let rest : IsSummed received kept old ns = known-summed received kept old ns each.1 in
    record {
      sum = nonce_xor first.nonce rest.sum;
      told = ap (λ a. xor_if_known a (sum_of received ns)) first.told ∙ ap (λ a. xor_if_known (Some first.nonce) a) rest.told;
      again =
          ap (λ a. xor_if_known a (sum_of kept ns)) first.again
          ∙ ap (λ a. xor_if_known (if old n then None else Some first.nonce) a) rest.again
          ∙ both (old n) (list_any old ns) first.nonce rest.sum;
    }
  where
    both : (one other : Bool) (a b : Bool)
        → xor_if_known (if one then None else Some a) (if other then None else Some b) ≡ (if one || other then None else Some (nonce_xor a b))
    both true true a b = refl
    both true false a b = refl
    both false true a b = refl
    both false false a b = refl

-- the nonce of an own vector is known
pub zero-known : (e : Arrivals) (n : ℕ) → ecn_states e n ≡ 0 → (nonce : Bool) × (how_in e.first n ≡ Some (came.Nonce nonce))
zero-known e n is = by (how_in e.first n) refl is
  where
    by : (how : Option Arrived) → how_in e.first n ≡ how → state_told_of how ≡ 0 → (nonce : Bool) × (how_in e.first n ≡ Some (came.Nonce nonce))
    by None told zero = absurd (omega arith)
    by (Some (came.Nonce nonce)) told zero = (nonce, told)
    by (Some came.Marked) told zero = absurd (omega arith)

pub vector-summed : (e : Arrivals) (ack : ℕ) → ack < 2 ^ 48 → (nonce : Bool) × (sum_of (nonces_received e) (zeros_in ack (ecn_bytes e ack)) ≡ Some nonce)
vector-summed e ack fits =
    let zeros : List ℕ = zeros_in ack (ecn_bytes e ack) in
    let each : Each (IsKnown (nonces_received e) (nonces_received e) (λ n. false)) zeros =
    each-weaker (λ n. (n < 2 ^ 48) × (ecn_states e n ≡ 0)) (IsKnown (nonces_received e) (nonces_received e) (λ n. false)) zeros
    (λ n both. let known = zero-known e n both.1 in
    record { nonce = known.0; told = ap nonce_told_of known.1; again = ap nonce_told_of known.1 })
    (zeros-told e ack fits) in
    let summed : IsSummed (nonces_received e) (nonces_received e) (λ n. false) zeros =
    known-summed (nonces_received e) (nonces_received e) (λ n. false) zeros each in
    (summed.sum, summed.told)

-- what the sender tells of a sum that it knows, or does not
verdict-fits : (sum old : Bool) → check_verdict (kind_of_sum (Some sum)) (if old then None else Some sum) ≡ (if old then Unknown else Fits)
verdict-fits true true = refl
verdict-fits true false = refl
verdict-fits false true = refl
verdict-fits false false = refl

verdict-unfit : (sum old : Bool) → check_verdict (other_kind (kind_of_sum (Some sum))) (if old then None else Some sum) ≡ (if old then Unknown else Unfit)
verdict-unfit true true = refl
verdict-unfit true false = refl
verdict-unfit false true = refl
verdict-unfit false false = refl

pub report-honest : (sent : List Bool) (receipts : List Receipt) → length sent ≤ 2 ^ 46 → EachArrival (IsSent sent) receipts
    → (checks (ledger_by sent) (report_by receipts) ≡ unless_old sent (report_by receipts) Fits)
    × (checks_forged (ledger_by sent) (report_by receipts) ≡ unless_old sent (report_by receipts) Unfit)
report-honest sent receipts few each =
    let e : Arrivals = received_after receipts in
    let ack : ℕ = number_or_0 (greatest_of receipts) in
    let fits : ack < 2 ^ 48 = greatest-fits (IsSent sent) None receipts (omega arith) each in
    let kept : IsKept (IsSent sent) e = kept-from (IsSent sent) (none_arrived 1) receipts (kept-none (IsSent sent) 1 (omega arith)) each in
    let zeros : List ℕ = zeros_in ack (ecn_bytes e ack) in
    let known : Each (IsKnown (nonces_received e) (nonce_kept (ledger_by sent)) (is_old sent)) zeros =
    each-weaker (λ n. (n < 2 ^ 48) × (ecn_states e n ≡ 0)) (IsKnown (nonces_received e) (nonce_kept (ledger_by sent)) (is_old sent)) zeros
    (λ n both. number-known n both.1 kept) (zeros-told e ack fits) in
    let summed : IsSummed (nonces_received e) (nonce_kept (ledger_by sent)) (is_old sent) zeros =
    known-summed (nonces_received e) (nonce_kept (ledger_by sent)) (is_old sent) zeros known in
    let old : Bool = list_any (is_old sent) zeros in (
      ap (λ s. check_verdict (kind_of_sum s) (sum_of (nonce_kept (ledger_by sent)) zeros)) summed.told
          ∙ ap (λ s. check_verdict (kind_of_sum (Some summed.sum)) s) summed.again ∙ verdict-fits summed.sum old,
      ap (λ s. check_verdict (other_kind (kind_of_sum s)) (sum_of (nonce_kept (ledger_by sent)) zeros)) summed.told
          ∙ ap (λ s. check_verdict (other_kind (kind_of_sum (Some summed.sum))) s) summed.again ∙ verdict-unfit summed.sum old,
    )
  where
    number-known : (n : ℕ) → ecn_states (received_after receipts) n ≡ 0 → IsKept (IsSent sent) (received_after receipts)
        → IsKnown (nonces_received (received_after receipts)) (nonce_kept (ledger_by sent)) (is_old sent) n
    number-known n is kept =
        let known = zero-known (received_after receipts) n is in
        let was_sent = kept.each n (came.Nonce known.0) known.1 known.0 refl in
        record {
          nonce = known.0;
          told = ap nonce_told_of known.1;
          again = kept-nonce sent n known.0 few was_sent.0 was_sent.1 was_sent.2;
        }
