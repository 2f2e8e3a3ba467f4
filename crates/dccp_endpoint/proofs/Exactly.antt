-- No outcome of `receive` but its own has a cause: each cause is put into the steps, from the first on.
use Rattle.std.proofs.Common.{◌≡◌, ◌≢◌, refl, ap, ◌∙◌, ℕ, List, [], ◌∷◌, Bool, true, false, if◌then◌else◌}
use Rattle.dccp_packets.specs.declared.header.PacketType.{PacketType}
use Rattle.dccp_packets.specs.declared.header.PacketType.TheVariants as types
use Rattle.dccp_states.specs.declared.reply.Reply.{Reply}
use Rattle.dccp_states.specs.declared.reply.Reply.TheVariants as reply
use Rattle.dccp_endpoint.specs.Causes.{Came}
use Rattle.dccp_endpoint.specs.End.{EndState, with_rows}
use Rattle.dccp_endpoint.specs.Heeding.{DueConfirm}
use Rattle.dccp_endpoint.specs.Incoming.{Incoming}
use Rattle.dccp_endpoint.specs.Inputs.{Input, Arrives}
use Rattle.dccp_endpoint.specs.Outcomes.{HasCause, HasNoOtherCause, IsAdmitted, IsReset, IsValid, IsValidPacket, IsValidReset, OutOfWindow, Unexpected, NoConnection, OtherService, NoAnswer, OtherType, OtherRequest, WrongService, Faulted, AnswersClose, OpensConnection, ResponseToRequest, PacketInWindow, ResetToRequest, ResetInWindow, StrayWithoutConnection, StrayInRequest}
use Rattle.dccp_endpoint.specs.Receiving.{Course, Goes, Leaves, accounted, acknowledges, answers, checks_type, ends_as, ends_by_reset, heeded, moved_to, needs_ack, raises, reads_options, receives, replies, started, takes, through, with_raised_marks}
use Rattle.dccp_endpoint.specs.Reporting.{counts_data, delivered_if, delivers}
use Rattle.run_list.specs.MarkedSet.{answer_to}
use Rattle.dccp_endpoint.specs.Steps.{Step, detail_of, idle}
use Rattle.dccp_endpoint.specs.declared.exit.Exit.TheVariants as exits
use Rattle.dccp_states.specs.declared.outcome.Fault.{Fault}
use Rattle.dccp_states.specs.declared.outcome.Outcome.{Outcome}
use Rattle.dccp_states.specs.declared.outcome.Outcome.TheVariants.{Dropped, SentReset, Synced, Took, WasReset}
use Rattle.dccp_states.specs.declared.outcome.Why.{Why}
use Rattle.dccp_states.specs.declared.outcome.Why.TheVariants as why
use Rattle.dccp_endpoint.proofs.Phases.{accept-so}

-- A packet that is no Reset goes past what is made of Resets.
pub record IsNoReset (a : Incoming) (e : EndState) (t : PacketType) : Type 0 where
  pub passes : (x : EndState) → ends_by_reset a t x ≡ Goes x
  pub rises : raises a e t ≡ Goes (with_raised_marks e a)
  pub responds : answers a e t true ≡ Goes (started e e.phase a)
  pub fails : answers a e t false ≡ Leaves e exits.PacketError

pub no-reset : (a : Incoming) (e : EndState) (t : PacketType) → t ≢ types.Reset → IsNoReset a e t
no-reset a e types.Reset other = absurd (other refl)
no-reset a e _ other = record { passes = λ x. refl; rises = refl; responds = refl; fails = refl }

taken-answers : (e : EndState) (a : Incoming) (confirms : List DueConfirm) (took : Outcome) (r : Reply) → r ≢ reply.ResetClosed
    → (replies e a confirms took r).answer ≡ took
taken-answers e a confirms took reply.ResetClosed no_reset = absurd (no_reset refl)
taken-answers e a confirms took reply.Nothing no_reset = by (needs_ack e.phase confirms e.rows e.unacked) where
  by : (due : Bool) → (if due then acknowledges e confirms took else idle e took).answer ≡ took
  by true = refl
  by false = refl
taken-answers e a confirms took _ no_reset = refl

abbrev answer_of : Step Outcome → Outcome
answer_of step = step.answer

-- the steps that are left
abbrev pub from : Incoming → Course → List (EndState → Course) → Step Outcome
from a course steps = ends_as a (through course steps)

module _ (e : EndState) (bytes : List ℕ) where
  -- step 1
  pub came-goes : (a : Incoming) → Came e (Arrives bytes) a → receives e bytes ≡ takes e a
  unfolding receives
  came-goes a came =
      let given : Input.Arrives bytes ≡ Arrives came.bytes = came.is_given in
      let same : bytes ≡ came.bytes = cc given in
      rw (same, came.is_packet, came.sum_fits, came.is_ours, came.reads, came.same) refl

  -- steps 2 to 6
  valid-goes : (a : Incoming) (entered : EndState) → IsValidPacket e bytes a entered
      → receives e bytes ≡ from a (Goes entered) (checks_type a ∷ [])
  valid-goes a entered valid = by valid.is_valid where
    by : IsValid e a entered → receives e bytes ≡ from a (Goes entered) (checks_type a ∷ [])
    by (OpensConnection is ours same) =
        let other = no-reset a e a.kind (λ reset. cc ((accept-so e.phase a.kind is).1, reset)) in
        rw (came-goes a valid.came, same, is) (rw (ours, other.passes _, through) refl)
    by (ResponseToRequest is no_reset fits same) =
        let other = no-reset a e a.kind no_reset in
        rw (came-goes a valid.came, same, is) (rw (fits, other.responds, other.passes _, through) refl)
    by (PacketInWindow is no_reset fits same) =
        let other = no-reset a e a.kind no_reset in
        rw (came-goes a valid.came, same, is) (rw (fits, other.rises, other.passes _, through) refl)

  -- step 7
  admitted-goes : (a : Incoming) (entered : EndState) → IsAdmitted e bytes a entered → receives e bytes ≡ heeded entered a (reads_options entered a)
  admitted-goes a entered admitted = rw (valid-goes a entered admitted.valid) (rw (admitted.expected, admitted.for_us, through) refl)

  reset-answers : (fault : Fault) → IsReset e bytes fault → (receives e bytes).answer ≡ SentReset fault.code (detail_of fault)
  reset-answers fault (NoConnection a came is) = rw (came-goes a came, is) refl
  reset-answers fault (OtherService a came is other) = rw (came-goes a came, is) (rw (other, through) refl)
  reset-answers fault (NoAnswer a came (OtherType is)) = rw (came-goes a came, is) refl
  reset-answers fault (NoAnswer a came (OtherRequest is no_reset wrong)) =
      rw (came-goes a came, is) (rw (wrong, (no-reset a e a.kind no_reset).fails, through) refl)
  reset-answers fault (WrongService a entered valid expected other) = rw (valid-goes a entered valid) (rw (expected, other, through) refl)
  reset-answers fault (Faulted a entered first admitted is) = rw (admitted-goes a entered admitted) (rw (is, through) refl)
  reset-answers fault (AnswersClose a entered h to admitted none row) = rw (admitted-goes a entered admitted) (rw (none, row, through) refl)

  dropped-so : (w : Why) → HasCause e bytes (Dropped w) → (receives e bytes).answer ≡ Dropped w
  unfolding receives
  dropped-so (why.Malformed fault) is = rw is refl
  dropped-so (why.Sum fault) is = rw (is.is_packet, is.sum_fails) refl
  dropped-so why.OtherFlow is = rw (is.is_packet, is.sum_fits, is.not_ours) refl
  dropped-so why.ShortOff is = rw (is.is_packet, is.sum_fits, is.is_ours, is.is_short, is.not_taken) refl
  dropped-so why.StrayReset (StrayWithoutConnection a came is) = ap answer_of (came-goes a came) ∙ rw is refl
  dropped-so why.StrayReset (StrayInRequest a came is reset wrong) = ap answer_of (came-goes a came) ∙ rw is (rw (wrong, reset, through) refl)
  dropped-so why.BadSync is = ap answer_of (came-goes is.packet is.came) ∙ rw is.is_checked (rw (is.is_bad, through) refl)

  answers-so : (outcome : Outcome) → HasCause e bytes outcome → (receives e bytes).answer ≡ outcome
  answers-so (Dropped w) is = dropped-so w is
  answers-so (Synced number) (OutOfWindow a came is bad) = rw (came-goes a came, is) (rw (bad, through) refl)
  answers-so (Synced number) (Unexpected a entered valid out same) = rw (valid-goes a entered valid, same) (rw (out, through) refl)
  answers-so (WasReset code) is = ending is.is_valid where
    ending : IsValidReset e is.packet → (receives e bytes).answer ≡ WasReset code
    ending (ResetToRequest entrance fits) = rw (came-goes is.packet is.came, entrance, is.has_code) (rw (fits, is.is_reset, is.is_reset, through) refl)
    ending (ResetInWindow entrance fits) = rw (came-goes is.packet is.came, entrance, is.has_code) (rw (fits, is.is_reset, is.is_reset, through) refl)
  answers-so (SentReset code detail) is = reset-answers is.fault is.why ∙ rw (is.has_code, is.has_detail) refl
  answers-so (Took delivered) is =
      let new : Bool = delivers is.packet.kind is.to (answer_to is.entered.received.set is.packet.number) in
      let x : EndState = counts_data (moved_to (accounted (with_rows is.entered is.heeding.rows) is.packet) is.to is.packet.number) new in
      rw (admitted-goes is.packet is.entered is.admitted, is.delivery) (rw (is.no_fault, is.row)
      (taken-answers x is.packet is.heeding.confirms (Took (delivered_if new is.packet.data_place)) is.answer is.no_reset))

-- as the contract of `receive` says it
pub no_other_cause : (e : EndState) (bytes : List ℕ) (step : Step Outcome) → step ≡ receives e bytes → HasNoOtherCause e bytes step.answer
no_other_cause e bytes step same = λ other cause. ap answer_of same ∙ answers-so e bytes other cause
