-- The two ends come to what the run by itself tells, event by event; and what holds of every run.
use Rattle.std.proofs.Common.{◌≡◌, ℕ, ◌-◌, ◌^◌, ◌<◌, ◌≤◌, Bool, true, false, List, [], ◌∷◌, ◌++◌, zero, suc, length, length-append, map, nat_le, refl, ap, sym, subst, ◌∙◌, arith, slice_get}
use Rattle.std.specs.Prelude.{Option, Some, None, Result, Ok, Err, IfOk, OnErr, if◌then◌else◌}
use Rattle.std.proofs.lemmas.Bool.{both_ways, leb-false}
use Rattle.std.proofs.lemmas.List.{length-map, map_push}
use Rattle.std.proofs.lemmas.Option.{none-some, same_Some, slice_get_within}
use Rattle.dccp_ecn.specs.declared.arrived.Arrived.{Arrived}
use Rattle.dccp_ecn.specs.declared.arrived.Arrived.TheVariants as came
use Rattle.dccp_ecn.specs.declared.ledger.Check.{Check}
use Rattle.dccp_ecn.specs.declared.ledger.Check.TheVariants.{Fits, Unfit}
use Rattle.dccp_ecn.specs.declared.event.EcnEvent.{EcnEvent}
use Rattle.dccp_ecn.specs.declared.event.EcnEvent.TheVariants as event
use Rattle.dccp_ecn.specs.declared.event.EcnSeen.{EcnSeen}
use Rattle.dccp_ecn.specs.declared.event.EcnSeen.TheVariants as seen
use Rattle.dccp_ecn.specs.declared.event.EcnFault.{EcnFault}
use Rattle.dccp_ecn.specs.declared.event.EcnFault.TheVariants as fault
use Rattle.dccp_ecn.specs.Arrivals.{Receipt, none_arrived}
use Rattle.dccp_ecn.specs.EcnVector.{nonce_told_of}
use Rattle.dccp_ecn.specs.Ledger.{ledger}
use Rattle.dccp_ecn.specs.World.{EcnReport, EcnState, after_events, receipt_step, checks, checks_forged, ecn_begins, ecn_state, ecn_step, happens_by, is_checked, marked_at, most_sent, packet_number, report_at, reports_to, after_send, state_after, unmarked_at}
use Rattle.dccp_ecn.specs.Run.{AreHonest, EcnRun, IsRunOf, ecn_run, run_goes_on, run_goes_on_by, greatest_of, ledger_by, number_or_0, received_after, report_by, run_of_events, state_by, unless_old, run_with_receipt, run_with_report}
use Rattle.dccp_ecn.proofs.Checks.{IsSent, report-honest}
use Rattle.dccp_ecn.proofs.Ledgers.{get-front, ledger-push}
use Rattle.dccp_ecn.proofs.Receipts.{EachArrival, each_arrival-push, each_arrival-weaker, greatest-push, received-push}

-- a check changes nothing
checked-goes : (w : EcnState) (check : EcnReport → Check) (report : Option EcnReport) → state_after w (is_checked w check report) ≡ w
checked-goes w check None = refl
checked-goes w check (Some report) = refl

arrives-goes : (r : EcnRun) (a : Option Receipt) → state_after (state_by r) (receipt_step (state_by r) a) ≡ state_by (run_with_receipt r a)
arrives-goes r None = refl
arrives-goes r (Some a) =
    let receipts : List Receipt = r.receipts ++ a ∷ [] in
    let reports : List EcnReport = map report_by r.heard in
    ap (λ e. ecn_state r.sent (ledger_by r.sent) e (state_after (state_by r) (receipt_step (state_by r) (Some a))).greatest reports)
    (sym (received-push (none_arrived 1) r.receipts a))
    ∙ ap (λ greatest. ecn_state r.sent (ledger_by r.sent) (received_after receipts) greatest reports) (sym (greatest-push None r.receipts a))

report-goes : (r : EcnRun) (greatest : Option ℕ) → greatest_of r.receipts ≡ greatest
    → state_after (state_by r) (reports_to (state_by r) greatest) ≡ state_by (run_with_report r greatest)
report-goes r None is = refl
report-goes r (Some ack) is =
    let told : report_at (received_after r.receipts) ack ≡ report_by r.receipts =
    ap (λ greatest. report_at (received_after r.receipts) (number_or_0 greatest)) (sym is) in
    ap (λ reports. ecn_state r.sent (ledger_by r.sent) (received_after r.receipts) (greatest_of r.receipts) reports)
    (ap (λ report. map report_by r.heard ++ report ∷ []) told ∙ sym (map_push report_by r.heard r.receipts))

-- one event
pub state-goes : (r : EcnRun) (e : EcnEvent) → state_after (state_by r) (happens_by (state_by r) e) ≡ state_by (run_goes_on r e)
state-goes r (event.Send nonce) = by (nat_le most_sent (length r.sent))
  where
    by : (full : Bool) → state_after (state_by r) (if full then Err fault.Full else Ok (ecn_step (after_send (state_by r) nonce) seen.Sent))
        ≡ state_by (if full then r else ecn_run (r.sent ++ nonce ∷ []) r.receipts r.heard)
    by true = refl
    by false =
        ap (λ l. ecn_state (r.sent ++ nonce ∷ []) l (received_after r.receipts) (greatest_of r.receipts) (map report_by r.heard))
        (sym (ledger-push (ledger 1 []) r.sent nonce))
state-goes r (event.Deliver index) = arrives-goes r (unmarked_at index (slice_get r.sent index))
state-goes r (event.Mark index) = arrives-goes r (marked_at index (slice_get r.sent index))
state-goes r event.Report =
    by (nat_le most_sent (length (map report_by r.heard))) (nat_le most_sent (length r.heard))
    (ap (λ count. nat_le most_sent count) (length-map r.heard report_by))
  where
    by : (full heard : Bool) → full ≡ heard → state_after (state_by r) (if full then Err fault.Full else reports_to (state_by r) (greatest_of r.receipts))
        ≡ state_by (if heard then r else run_with_report r (greatest_of r.receipts))
    by true true e = refl
    by true false e = absurd (both_ways true (e) refl)
    by false true e = absurd (both_ways false refl e)
    by false false e = report-goes r (greatest_of r.receipts) refl
state-goes r (event.Check index) = checked-goes (state_by r) (checks (ledger_by r.sent)) (slice_get (map report_by r.heard) index)
state-goes r (event.Forge index) = checked-goes (state_by r) (checks_forged (ledger_by r.sent)) (slice_get (map report_by r.heard) index)

states-go : (r : EcnRun) (events : List EcnEvent) → after_events (state_by r) events ≡ state_by (run_goes_on_by r events)
states-go r [] = refl
states-go r (e ∷ es) = ap (λ w. after_events w es) (state-goes r e) ∙ states-go (run_goes_on r e) es

pub run-told : (events : List EcnEvent) → after_events ecn_begins events ≡ state_by (run_of_events events)
run-told events = states-go (ecn_run [] [] []) events

-- what came of a list of receipts came as it was sent
abbrev EachHeard : (ℕ → Arrived → Type 0) → List (List Receipt) → Type 0
EachHeard P [] = Unit {0}
EachHeard P (receipts ∷ rest) = EachArrival P receipts × EachHeard P rest

heard-push : (P : ℕ → Arrived → Type 0) (heard : List (List Receipt)) (receipts : List Receipt) → EachArrival P receipts → EachHeard P heard
    → EachHeard P (heard ++ receipts ∷ [])
heard-push P [] receipts each all = (each, tt)
heard-push P (rs ∷ rest) receipts each all = (all.0, heard-push P rest receipts each all.1)

heard-weaker : (P Q : ℕ → Arrived → Type 0) (heard : List (List Receipt)) → ((n : ℕ) (how : Arrived) → P n how → Q n how) → EachHeard P heard
    → EachHeard Q heard
heard-weaker P Q [] h all = tt
heard-weaker P Q (rs ∷ rest) h all = (each_arrival-weaker P Q rs h all.0, heard-weaker P Q rest h all.1)

-- the facts of every run
record AreFacts (r : EcnRun) : Type 0 where
  few : length r.sent ≤ 2 ^ 46
  receipts : EachArrival (IsSent r.sent) r.receipts
  heard : EachHeard (IsSent r.sent) r.heard

-- what was sent stays sent
sent-stays : (sent : List Bool) (more : Bool) (n : ℕ) (how : Arrived) → IsSent sent n how → IsSent (sent ++ more ∷ []) n how
sent-stays sent more n how is nonce same =
    let before = is nonce same in
    let some : 1 ≤ n = before.0 in
    let most : n ≤ length sent = before.1 in
    (some, omega (arith, length-append sent (more ∷ [])), get-front sent (more ∷ []) (n - 1) (omega arith) ∙ before.2)

unmarked-sent : (sent : List Bool) (index : ℕ) (nonce : Bool) → length sent ≤ 2 ^ 46 → slice_get sent index ≡ Some nonce
    → IsSent sent (packet_number index) (came.Nonce nonce)
unmarked-sent sent index nonce few is other same =
    let inside : index < length sent = slice_get_within sent index nonce is in
    let back : packet_number index - 1 ≡ index = omega arith in
    (omega arith, omega arith, ap (λ i. slice_get sent i) back ∙ is ∙ ap (λ (how : Arrived). nonce_told_of (Some how)) same)

marked-sent : (sent : List Bool) (n : ℕ) → IsSent sent n came.Marked
marked-sent sent n nonce same = absurd (none-some nonce (ap (λ (how : Arrived). nonce_told_of (Some how)) same))

-- one more receipt
receipt-facts : (r : EcnRun) (index : ℕ) (how : Arrived) → IsSent r.sent (packet_number index) how → AreFacts r
    → AreFacts (ecn_run r.sent (r.receipts ++ record { number = packet_number index; how = how } ∷ []) r.heard)
receipt-facts r index how is f =
    record {
      few = f.few;
      receipts = each_arrival-push (IsSent r.sent) r.receipts (packet_number index) how (omega arith) is f.receipts;
      heard = f.heard;
    }

facts-go : (r : EcnRun) (e : EcnEvent) → AreFacts r → AreFacts (run_goes_on r e)
facts-go r (event.Send nonce) f = by (nat_le most_sent (length r.sent)) refl
  where
    by : (full : Bool) → nat_le most_sent (length r.sent) ≡ full → AreFacts (if full then r else ecn_run (r.sent ++ nonce ∷ []) r.receipts r.heard)
    by true is = f
    by false is =
        let room : length r.sent < 2 ^ 46 = leb-false (2 ^ 46) (length r.sent) is in
        record {
          few = omega (arith, length-append r.sent (nonce ∷ []));
          receipts = each_arrival-weaker (IsSent r.sent) (IsSent (r.sent ++ nonce ∷ [])) r.receipts (sent-stays r.sent nonce) f.receipts;
          heard = heard-weaker (IsSent r.sent) (IsSent (r.sent ++ nonce ∷ [])) r.heard (sent-stays r.sent nonce) f.heard;
        }
facts-go r (event.Deliver index) f = by (slice_get r.sent index) refl
  where
    by : (nonce : Option Bool) → slice_get r.sent index ≡ nonce → AreFacts (run_with_receipt r (unmarked_at index nonce))
    by None is = f
    by (Some nonce) is = receipt-facts r index (came.Nonce nonce) (unmarked-sent r.sent index nonce f.few is) f
facts-go r (event.Mark index) f = by (slice_get r.sent index)
  where
    by : (nonce : Option Bool) → AreFacts (run_with_receipt r (marked_at index nonce))
    by None = f
    by (Some nonce) = receipt-facts r index came.Marked (marked-sent r.sent (packet_number index)) f
facts-go r event.Report f = by (nat_le most_sent (length r.heard)) (greatest_of r.receipts)
  where
    by : (full : Bool) (greatest : Option ℕ) → AreFacts (if full then r else run_with_report r greatest)
    by true greatest = f
    by false None = f
    by false (Some ack) =
        record { few = f.few; receipts = f.receipts; heard = heard-push (IsSent r.sent) r.heard r.receipts f.receipts f.heard }
facts-go r (event.Check index) f = f
facts-go r (event.Forge index) f = f

facts-all : (r : EcnRun) (events : List EcnEvent) → AreFacts r → AreFacts (run_goes_on_by r events)
facts-all r [] f = f
facts-all r (e ∷ es) f = facts-all (run_goes_on r e) es (facts-go r e f)

-- of every report
heard-honest : (sent : List Bool) (heard : List (List Receipt)) → length sent ≤ 2 ^ 46 → EachHeard (IsSent sent) heard
    → (index : ℕ) (report : EcnReport) → slice_get (map report_by heard) index ≡ Some report
    → (checks (ledger_by sent) report ≡ unless_old sent report Fits) × (checks_forged (ledger_by sent) report ≡ unless_old sent report Unfit)
heard-honest sent [] few all index report is = absurd (none-some report is)
heard-honest sent (receipts ∷ rest) few all zero report is =
    subst (λ (told : EcnReport). (checks (ledger_by sent) told ≡ unless_old sent told Fits)
    × (checks_forged (ledger_by sent) told ≡ unless_old sent told Unfit))
    (same_Some (report_by receipts) report is) (report-honest sent receipts few all.0)
heard-honest sent (receipts ∷ rest) few all (suc index) report is = heard-honest sent rest few all.1 index report is

run-honest : (r : EcnRun) → AreFacts r → AreHonest (state_by r)
run-honest r f = heard-honest r.sent r.heard f.few f.heard

pub events-honest : (events : List EcnEvent) → AreHonest (after_events ecn_begins events)
events-honest events =
    subst AreHonest (sym (run-told events))
    (run-honest (run_of_events events) (facts-all (ecn_run [] [] []) events (record { few = omega arith; receipts = tt; heard = tt })))

pub reached-honest : (w : EcnState) → IsRunOf w → AreHonest w
reached-honest w r = subst AreHonest (sym r.same) (events-honest r.events)

-- no event leads to the start, and one more to what it makes
pub start-reached : (w : EcnState) → w ≡ ecn_begins → IsRunOf w
start-reached w same = record { events = []; same = same }

after-push : (w : EcnState) (events : List EcnEvent) (e : EcnEvent)
    → after_events w (events ++ e ∷ []) ≡ state_after (after_events w events) (happens_by (after_events w events) e)
after-push w [] e = refl
after-push w (x ∷ events) e = after-push (state_after w (happens_by w x)) events e

-- what `step` answers, and the two ends that it leaves
abbrev pub Leaves : EcnState → EcnEvent → EcnState → Result EcnSeen EcnFault → Type 0
Leaves old e new (Ok seen) = happens_by old e ≡ Ok (ecn_step new seen)
Leaves old e new (Err fault) = new ≡ old

pub leaves : (old : EcnState) (e : EcnEvent) (new : EcnState) (result : Result EcnSeen EcnFault)
    → IfOk result (λ seen. happens_by old e ≡ Ok (ecn_step new seen)) → OnErr result (new ≡ old) → Leaves old e new result
leaves old e new (Ok seen) took same = took
leaves old e new (Err fault) took same = same

pub step-reached : (old : EcnState) (e : EcnEvent) (new : EcnState) (result : Result EcnSeen EcnFault) → Leaves old e new result → IsRunOf old → IsRunOf new
step-reached old e new (Err fault) same r = subst IsRunOf (sym same) r
step-reached old e new (Ok seen) took r =
    record {
      events = r.events ++ e ∷ [];
      same =
          sym (ap (state_after old) took)
          ∙ ap (λ (w : EcnState). state_after w (happens_by w e)) r.same
          ∙ sym (after-push ecn_begins r.events e);
    }
