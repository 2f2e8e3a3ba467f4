-- The run by itself: what was sent, what came, and what each report covers, whatever the two ends keep (RFC 4340,
-- section 12.2).
use Rattle.std.specs.Prelude.{◌≡◌, ℕ, ◌+◌, ◌++◌, nat_le, Bool, List, [], ◌∷◌, length, map, slice_get, Option, Some, None, if◌then◌else◌}
use Rattle.std.specs.List.{list_any}
use Rattle.dccp_ecn.specs.declared.ledger.Check.{Check}
use Rattle.dccp_ecn.specs.declared.ledger.Check.TheVariants.{Fits, Unfit, Unknown}
use Rattle.dccp_ecn.specs.declared.event.EcnEvent.{EcnEvent}
use Rattle.dccp_ecn.specs.declared.event.EcnEvent.TheVariants as event
use Rattle.dccp_ecn.specs.Arrivals.{Receipt, Arrivals, none_arrived, taken_in}
use Rattle.dccp_ecn.specs.Ledger.{Ledger, ledger, with_nonce_sent}
use Rattle.dccp_ecn.specs.Nonces.{zeros_in}
use Rattle.dccp_ecn.specs.World.{EcnReport, EcnState, after_events, checks, checks_forged, ecn_begins, ecn_state, greatest_came, marked_at, most_sent, report_at, unmarked_at}

-- the nonces of the packets that were sent, the receipts, and for each report the receipts before it, all in their
-- order
pub record EcnRun : Type 0 where
  pub sent : List Bool
  pub receipts : List Receipt
  pub heard : List (List Receipt)

-- the run of these parts
abbrev pub ecn_run : List Bool → List Receipt → List (List Receipt) → EcnRun
ecn_run sent receipts heard = record { sent = sent; receipts = receipts; heard = heard }

-- what a ledger keeps after packets with these nonces
abbrev pub ledger_from : Ledger → List Bool → Ledger
ledger_from l [] = l
ledger_from l (nonce ∷ nonces) = ledger_from (with_nonce_sent l nonce) nonces

-- what a sender keeps that has sent packets with these nonces, the first with the number 1
abbrev pub ledger_by : List Bool → Ledger
ledger_by sent = ledger_from (ledger 1 []) sent

-- what was received after these receipts
abbrev pub received_from : Arrivals → List Receipt → Arrivals
received_from e [] = e
received_from e (a ∷ rest) = received_from (taken_in e a.number a.how) rest

-- the same of a receiver to which nothing else came
abbrev pub received_after : List Receipt → Arrivals
received_after receipts = received_from (none_arrived 1) receipts

-- the greatest number of receipts, if there are any
abbrev pub greatest_from : Option ℕ → List Receipt → Option ℕ
greatest_from greatest [] = greatest
greatest_from greatest (a ∷ rest) = greatest_from (greatest_came greatest a.number) rest

-- the same, of only these receipts
abbrev pub greatest_of : List Receipt → Option ℕ
greatest_of receipts = greatest_from None receipts

-- the number, or 0 if there is none
abbrev pub number_or_0 : Option ℕ → ℕ
number_or_0 None = 0
number_or_0 (Some n) = n

-- the report of these receipts: their vector at the greatest number, which exists when a report is written
abbrev pub report_by : List Receipt → EcnReport
report_by receipts = report_at (received_after receipts) (number_or_0 (greatest_of receipts))

-- a receipt joins the run, if there is one
abbrev pub run_with_receipt : EcnRun → Option Receipt → EcnRun
run_with_receipt r None = r
run_with_receipt r (Some a) = ecn_run r.sent (r.receipts ++ a ∷ []) r.heard

-- a report joins the run, if there is a number at which it is written: it covers the receipts so far
abbrev pub run_with_report : EcnRun → Option ℕ → EcnRun
run_with_report r None = r
run_with_report r (Some _) = ecn_run r.sent r.receipts (r.heard ++ r.receipts ∷ [])

-- What an event adds to the run; one that does not take place adds nothing.
abbrev pub run_goes_on : EcnRun → EcnEvent → EcnRun
run_goes_on r (event.Send nonce) = if nat_le most_sent (length r.sent) then r else ecn_run (r.sent ++ nonce ∷ []) r.receipts r.heard
run_goes_on r (event.Deliver index) = run_with_receipt r (unmarked_at index (slice_get r.sent index))
run_goes_on r (event.Mark index) = run_with_receipt r (marked_at index (slice_get r.sent index))
run_goes_on r event.Report = if nat_le most_sent (length r.heard) then r else run_with_report r (greatest_of r.receipts)
run_goes_on r (event.Check index) = r
run_goes_on r (event.Forge index) = r

-- what events add to the run, in their order
abbrev pub run_goes_on_by : EcnRun → List EcnEvent → EcnRun
run_goes_on_by r [] = r
run_goes_on_by r (e ∷ es) = run_goes_on_by (run_goes_on r e) es

-- the run of events from nothing on
abbrev pub run_of_events : List EcnEvent → EcnRun
run_of_events events = run_goes_on_by (ecn_run [] [] []) events

-- the two ends after a run
abbrev pub state_by : EcnRun → EcnState
state_by r = ecn_state r.sent (ledger_by r.sent) (received_after r.receipts) (greatest_of r.receipts) (map report_by r.heard)

-- some events lead here from nothing
pub record IsRunOf (w : EcnState) : Type 0 where
  pub events : List EcnEvent
  pub same : w ≡ after_events ecn_begins events

-- a packet is before the last 4,096 that were sent
abbrev pub is_old : List Bool → ℕ → Bool
is_old sent n = nat_le (n + 4096) (length sent)

-- a check is not possible if the report says that such a packet came unmarked
abbrev pub unless_old : List Bool → EcnReport → Check → Check
unless_old sent report check = if list_any (is_old sent) (zeros_in report.ack report.bytes) then Unknown else check

-- Each report fits, and does not with the other nonce, unless it covers packets that are too old (RFC 4340, section
-- 12.2).
abbrev pub AreHonest : EcnState → Type 0
AreHonest w = (index : ℕ) (report : EcnReport) → slice_get w.reports index ≡ Some report
    → (checks w.ledger report ≡ unless_old w.sent report Fits) × (checks_forged w.ledger report ≡ unless_old w.sent report Unfit)
