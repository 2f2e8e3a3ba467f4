-- Which events do not take place, and why.
use Rattle.std.proofs.Common.{◌≡◌, ℕ, ◌^◌, ◌≤◌, Bool, true, false, List, [], ◌∷◌, zero, suc, length, nat_le, refl, sym, arith, slice_get}
use Rattle.std.specs.Prelude.{Option, Some, None, Ok, Err, ◌↔◌, if◌then◌else◌}
use Rattle.std.proofs.lemmas.Bool.{both_ways, le-leb, leb-true}
use Rattle.std.proofs.lemmas.Option.{none-some, slice_get_within}
use Rattle.dccp_ecn.specs.declared.ledger.Check.{Check}
use Rattle.dccp_ecn.specs.declared.event.EcnEvent.{EcnEvent}
use Rattle.dccp_ecn.specs.declared.event.EcnEvent.TheVariants as event
use Rattle.dccp_ecn.specs.declared.event.EcnSeen.TheVariants as seen
use Rattle.dccp_ecn.specs.declared.event.EcnFault.TheVariants as fault
use Rattle.dccp_ecn.specs.Arrivals.{Receipt}
use Rattle.dccp_ecn.specs.World.{EcnReport, EcnState, HasNoRoom, LacksIndex, receipt_step, checks, checks_forged, ecn_step, happens_by, is_checked, marked_at, most_sent, reports_to, after_send, unmarked_at}

past-none : {X : Type 0} (xs : List X) (index : ℕ) → slice_get xs index ≡ None → length xs ≤ index
past-none [] index e = omega arith
past-none (x ∷ xs) zero e = absurd (none-some x (sym e))
past-none (x ∷ xs) (suc index) e = let rest = past-none xs index e in omega arith

-- what takes place is not refused
taken : {A B : Type 0} (x : A) (y : B) → Ok x ≡ Err y → ⊥
taken x y e = cc e

arrives-there : (w : EcnState) (a : Receipt) → (receipt_step w (Some a) ≡ Err fault.NoSuchFrame) → ⊥
arrives-there w a e = taken _ _ e

-- an arrival takes place where its packet is there, and is never too many
arrives-lacks : (w : EcnState) (index : ℕ) (arriving : Option Bool → Option Receipt) → arriving None ≡ None
    → ((nonce : Bool) → (a : Receipt) × (arriving (Some nonce) ≡ Some a))
    → (receipt_step w (arriving (slice_get w.sent index)) ≡ Err fault.NoSuchFrame) ↔ (length w.sent ≤ index)
arrives-lacks w index arriving none some = by (slice_get w.sent index) refl
  where
    by : (nonce : Option Bool) → slice_get w.sent index ≡ nonce → (receipt_step w (arriving nonce) ≡ Err fault.NoSuchFrame) ↔ (length w.sent ≤ index)
    by None is = (λ _. past-none w.sent index is, λ _. rw none refl)
    by (Some nonce) is = let came = some nonce in let inside = slice_get_within w.sent index nonce is in (
      λ e. absurd (arrives-there w came.0 (rw came.1 at e)),
      λ past. absurd (omega arith),
    )

arrives-room : (w : EcnState) (a : Option Receipt) → (receipt_step w a ≡ Err fault.Full) → ⊥
arrives-room w None e = cc e
arrives-room w (Some a) e = taken _ _ e

checked-lacks : (w : EcnState) (check : EcnReport → Check) (index : ℕ)
    → (is_checked w check (slice_get w.reports index) ≡ Err fault.NoSuchFrame) ↔ (length w.reports ≤ index)
checked-lacks w check index = by (slice_get w.reports index) refl
  where
    by : (report : Option EcnReport) → slice_get w.reports index ≡ report → (is_checked w check report ≡ Err fault.NoSuchFrame) ↔ (length w.reports ≤ index)
    by None is = (λ _. past-none w.reports index is, λ _. refl)
    by (Some report) is = let inside = slice_get_within w.reports index report is in (λ e. absurd (taken _ _ e), λ past. absurd (omega arith))

checked-room : (w : EcnState) (check : EcnReport → Check) (report : Option EcnReport) → (is_checked w check report ≡ Err fault.Full) → ⊥
checked-room w check None e = cc e
checked-room w check (Some report) e = taken _ _ e

reports-there : (w : EcnState) (full : Bool) (greatest : Option ℕ) → ((if full then Err fault.Full else reports_to w greatest) ≡ Err fault.NoSuchFrame) → ⊥
reports-there w true greatest e = cc e
reports-there w false None e = cc e
reports-there w false (Some ack) e = taken _ _ e

reports-room : (w : EcnState) (greatest : Option ℕ) → (reports_to w greatest ≡ Err fault.Full) → ⊥
reports-room w None e = cc e
reports-room w (Some ack) e = taken _ _ e

pub lacks-index : (w : EcnState) (e : EcnEvent) → (happens_by w e ≡ Err fault.NoSuchFrame) ↔ LacksIndex w e
lacks-index w (event.Send nonce) = (by (nat_le most_sent (length w.sent)), λ never. absurd never)
  where
    by : (full : Bool) → ((if full then Err fault.Full else Ok (ecn_step (after_send w nonce) seen.Sent)) ≡ Err fault.NoSuchFrame) → ⊥
    by true e = cc e
    by false e = taken _ _ e
lacks-index w (event.Deliver index) = arrives-lacks w index (unmarked_at index) refl (λ nonce. (_, refl))
lacks-index w (event.Mark index) = arrives-lacks w index (marked_at index) refl (λ nonce. (_, refl))
lacks-index w event.Report = (reports-there w (nat_le most_sent (length w.reports)) w.greatest, λ never. absurd never)
lacks-index w (event.Check index) = checked-lacks w (checks w.ledger) index
lacks-index w (event.Forge index) = checked-lacks w (checks_forged w.ledger) index

pub has-no-room : (w : EcnState) (e : EcnEvent) → (happens_by w e ≡ Err fault.Full) ↔ HasNoRoom w e
has-no-room w (event.Send nonce) = by (nat_le most_sent (length w.sent)) refl
  where
    by : (full : Bool) → nat_le most_sent (length w.sent) ≡ full
        → ((if full then Err fault.Full else Ok (ecn_step (after_send w nonce) seen.Sent)) ≡ Err fault.Full) ↔ (2 ^ 46 ≤ length w.sent)
    by true is = (λ _. leb-true most_sent (length w.sent) is, λ _. refl)
    by false is = (λ e. absurd (taken _ _ e), λ most. absurd (both_ways (nat_le most_sent (length w.sent)) is (le-leb most_sent (length w.sent) most)))
has-no-room w (event.Deliver index) = (arrives-room w (unmarked_at index (slice_get w.sent index)), λ never. absurd never)
has-no-room w (event.Mark index) = (arrives-room w (marked_at index (slice_get w.sent index)), λ never. absurd never)
has-no-room w event.Report = by (nat_le most_sent (length w.reports)) refl
  where
    by : (full : Bool) → nat_le most_sent (length w.reports) ≡ full
        → ((if full then Err fault.Full else reports_to w w.greatest) ≡ Err fault.Full) ↔ (2 ^ 46 ≤ length w.reports)
    by true is = (λ _. leb-true most_sent (length w.reports) is, λ _. refl)
    by false is = (
      λ e. absurd (reports-room w w.greatest e),
      λ most. absurd (both_ways (nat_le most_sent (length w.reports)) is (le-leb most_sent (length w.reports) most)),
    )
has-no-room w (event.Check index) = (checked-room w (checks w.ledger) (slice_get w.reports index), λ never. absurd never)
has-no-room w (event.Forge index) = (checked-room w (checks_forged w.ledger) (slice_get w.reports index), λ never. absurd never)
