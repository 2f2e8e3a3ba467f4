-- An ECN-capable sender and an ECN-capable receiver, and what an event does to them (own).
use Rattle.std.specs.Prelude.{ℕ, ◌+◌, ◌^◌, ◌≤◌, ◌==◌, ◌++◌, nat_le, Bool, List, [], ◌∷◌, length, slice_get, Option, Some, None, Result, Ok, Err, if◌then◌else◌}
use Rattle.seq_circle.specs.Circle.{later_of, residue}
use Rattle.run_list.specs.MarkedSet.{answer_to}
use Rattle.dccp_options.specs.Kinds.{ack_vector_0, ack_vector_1}
use Rattle.dccp_ecn.specs.declared.arrived.Arrived.TheVariants as came
use Rattle.dccp_ecn.specs.declared.ledger.Check.{Check}
use Rattle.dccp_ecn.specs.declared.event.EcnEvent.{EcnEvent}
use Rattle.dccp_ecn.specs.declared.event.EcnEvent.TheVariants as event
use Rattle.dccp_ecn.specs.declared.event.EcnSeen.{EcnSeen}
use Rattle.dccp_ecn.specs.declared.event.EcnSeen.TheVariants as seen
use Rattle.dccp_ecn.specs.declared.event.EcnFault.{EcnFault}
use Rattle.dccp_ecn.specs.declared.event.EcnFault.TheVariants as fault
use Rattle.dccp_ecn.specs.Arrivals.{Receipt, Arrivals, arrival_of, none_arrived, taken_in}
use Rattle.dccp_ecn.specs.EcnVector.{ecn_bytes, ecn_kind}
use Rattle.dccp_ecn.specs.Ledger.{Ledger, vector_checked, ledger, with_nonce_sent}

-- a vector that was reported: the number that it acknowledges, its type and its bytes
pub record EcnReport : Type 0 where
  pub ack : ℕ
  pub kind : ℕ
  pub bytes : List ℕ

-- The nonces of all packets that were sent, in their order; what the sender keeps of them; what the receiver keeps of
-- the packets that came; the greatest number that came, if any; and all reports, in their order.
pub record EcnState : Type 0 where
  pub sent : List Bool
  pub ledger : Ledger
  pub received : Arrivals
  pub greatest : Option ℕ
  pub reports : List EcnReport

-- the state of these parts
abbrev pub ecn_state : List Bool → Ledger → Arrivals → Option ℕ → List EcnReport → EcnState
ecn_state sent ledger received greatest reports =
    record { sent = sent; ledger = ledger; received = received; greatest = greatest; reports = reports }

-- nothing was sent yet, and the first packet will have the number 1
abbrev pub ecn_begins : EcnState
ecn_begins = ecn_state [] (ledger 1 []) (none_arrived 1) None []

-- the number of the packet with this index, from 0
abbrev pub packet_number : ℕ → ℕ
packet_number index = residue (1 + index)

-- the arrival of the packet with this index and nonce, unmarked; nothing if no such packet was sent
abbrev pub unmarked_at : ℕ → Option Bool → Option Receipt
unmarked_at index None = None
unmarked_at index (Some nonce) = Some (arrival_of (packet_number index) (came.Nonce nonce))

-- the same of a packet that comes marked
abbrev pub marked_at : ℕ → Option Bool → Option Receipt
marked_at index None = None
marked_at index (Some nonce) = Some (arrival_of (packet_number index) came.Marked)

-- the greatest number that came, with one more
abbrev pub greatest_came : Option ℕ → ℕ → Option ℕ
greatest_came None n = Some n
greatest_came (Some m) n = Some (later_of m n)

-- the vector of what was received, at this acknowledgement
abbrev pub report_at : Arrivals → ℕ → EcnReport
report_at received ack = record { ack = ack; kind = ecn_kind received ack; bytes = ecn_bytes received ack }

-- the type of an Ack Vector with the other ECN Nonce Echo
abbrev pub other_kind : ℕ → ℕ
other_kind kind = if kind == ack_vector_0 then ack_vector_1 else ack_vector_0

-- the sender's verdict on a report
abbrev pub checks : Ledger → EcnReport → Check
checks l report = vector_checked l report.ack report.kind report.bytes

-- the same of the report with the other nonce
abbrev pub checks_forged : Ledger → EcnReport → Check
checks_forged l report = vector_checked l report.ack (other_kind report.kind) report.bytes

-- at most this many packets are sent, and this many reports kept
abbrev pub most_sent : ℕ
most_sent = 2 ^ 46

-- the two ends after an event, and its result
pub record EcnStep : Type 0 where
  pub after : EcnState
  pub seen : EcnSeen

-- the step of these parts
abbrev pub ecn_step : EcnState → EcnSeen → EcnStep
ecn_step after seen = record { after = after; seen = seen }

-- a packet is sent with this nonce
abbrev pub after_send : EcnState → Bool → EcnState
after_send w nonce = ecn_state (w.sent ++ nonce ∷ []) (with_nonce_sent w.ledger nonce) w.received w.greatest w.reports

-- a packet comes
abbrev pub after_receipt : EcnState → Receipt → EcnState
after_receipt w a = ecn_state w.sent w.ledger (taken_in w.received a.number a.how) (greatest_came w.greatest a.number) w.reports

-- a report is kept
abbrev pub keeps_report : EcnState → EcnReport → EcnState
keeps_report w report = ecn_state w.sent w.ledger w.received w.greatest (w.reports ++ report ∷ [])

-- the two ends after a receipt, if the packet was sent
abbrev pub receipt_step : EcnState → Option Receipt → Result EcnStep EcnFault
receipt_step w None = Err fault.NoSuchFrame
receipt_step w (Some a) = Ok (ecn_step (after_receipt w a) (seen.Took (answer_to w.received.set a.number)))

-- the receiver reports what it received, up to the greatest number; before any receipt there is nothing to report
abbrev pub reports_to : EcnState → Option ℕ → Result EcnStep EcnFault
reports_to w None = Ok (ecn_step w (seen.Reported None))
reports_to w (Some ack) = Ok (ecn_step (keeps_report w (report_at w.received ack)) (seen.Reported (Some (length w.reports))))

-- the verdict of a check, if there is such a report
abbrev pub is_checked : EcnState → (EcnReport → Check) → Option EcnReport → Result EcnStep EcnFault
is_checked w check None = Err fault.NoSuchFrame
is_checked w check (Some report) = Ok (ecn_step w (seen.Checked (check report)))

-- The two ends after an event, or why it does not take place (own).
abbrev pub happens_by : EcnState → EcnEvent → Result EcnStep EcnFault
happens_by w (event.Send nonce) = if nat_le most_sent (length w.sent) then Err fault.Full else Ok (ecn_step (after_send w nonce) seen.Sent)
happens_by w (event.Deliver index) = receipt_step w (unmarked_at index (slice_get w.sent index))
happens_by w (event.Mark index) = receipt_step w (marked_at index (slice_get w.sent index))
happens_by w event.Report = if nat_le most_sent (length w.reports) then Err fault.Full else reports_to w w.greatest
happens_by w (event.Check index) = is_checked w (checks w.ledger) (slice_get w.reports index)
happens_by w (event.Forge index) = is_checked w (checks_forged w.ledger) (slice_get w.reports index)

-- an event that does not take place changes nothing
abbrev pub state_after : EcnState → Result EcnStep EcnFault → EcnState
state_after w (Ok step) = step.after
state_after w (Err _) = w

-- after events, in their order
abbrev pub after_events : EcnState → List EcnEvent → EcnState
after_events w [] = w
after_events w (e ∷ es) = after_events (state_after w (happens_by w e)) es

-- an event names a packet that was not sent, or a report that was not kept
abbrev pub LacksIndex : EcnState → EcnEvent → Type 0
LacksIndex w (event.Send nonce) = ⊥
LacksIndex w (event.Deliver index) = length w.sent ≤ index
LacksIndex w (event.Mark index) = length w.sent ≤ index
LacksIndex w event.Report = ⊥
LacksIndex w (event.Check index) = length w.reports ≤ index
LacksIndex w (event.Forge index) = length w.reports ≤ index

-- an event would send a packet, or make a report, too many
abbrev pub HasNoRoom : EcnState → EcnEvent → Type 0
HasNoRoom w (event.Send nonce) = 2 ^ 46 ≤ length w.sent
HasNoRoom w (event.Deliver index) = ⊥
HasNoRoom w (event.Mark index) = ⊥
HasNoRoom w event.Report = 2 ^ 46 ≤ length w.reports
HasNoRoom w (event.Check index) = ⊥
HasNoRoom w (event.Forge index) = ⊥
