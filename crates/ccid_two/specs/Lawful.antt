-- Both kinds keep the flight list's rules and a window, whichever is in force.
use Rattle.std.specs.Prelude.{◌≡◌, ℕ, ◌==◌, ◌≤◌, Bool, true, false, cond, List, [], refl}
use Rattle.std.proofs.Math.Nat.{le-add_right}
use Rattle.congestion_trait.specs.declared.flight.FlightEntry.{FlightEntry}
use Rattle.congestion_trait.specs.Flight.{States, sent, after_report}
use Rattle.congestion_trait.specs.Control.{IsLawful, KeepsWindow}
use Rattle.ccid_two.specs.declared.kinds.ControlKind.{ControlKind}
use Rattle.ccid_two.specs.declared.kinds.ControlKind.TheVariants.{CcidTwo, Fixed}
use Rattle.ccid_two.specs.Window as two
use Rattle.ccid_two.specs.Keeping.{ccid_window_stays}
use Rattle.ccid_two.specs.Kinds.{Both, flight_by, window_by, sent_by, reported_by, timed_out_by, kinds_control}

started_empty : (is_fixed : Bool) (both : Both)
    → let next = cond is_fixed (record both { kind = Fixed; fixed = [] }) (record both { kind = CcidTwo; ccid_two = two.first_state }) in
    flight_by next.kind next ≡ []
started_empty true both = refl
started_empty false both = refl

sending_adds : (kind : ControlKind) (ccid_two : two.State) (fixed : List FlightEntry) (number : ℕ)
    → let both : Both = record { kind = kind; ccid_two = ccid_two; fixed = fixed } in
    flight_by (sent_by kind both number).kind (sent_by kind both number) ≡ sent (flight_by kind both) number
sending_adds CcidTwo ccid_two fixed number = refl
sending_adds Fixed ccid_two fixed number = refl

report_settles : (kind : ControlKind) (ccid_two : two.State) (fixed : List FlightEntry) (states : States) (ratio : ℕ)
    → let both : Both = record { kind = kind; ccid_two = ccid_two; fixed = fixed } in
    flight_by (reported_by kind both states ratio).kind (reported_by kind both states ratio) ≡ after_report states (flight_by kind both)
report_settles CcidTwo ccid_two fixed states ratio = refl
report_settles Fixed ccid_two fixed states ratio = refl

timeout_empties : (kind : ControlKind) (ccid_two : two.State) (fixed : List FlightEntry)
    → let both : Both = record { kind = kind; ccid_two = ccid_two; fixed = fixed } in
    flight_by (timed_out_by kind both).kind (timed_out_by kind both) ≡ []
timeout_empties CcidTwo ccid_two fixed = refl
timeout_empties Fixed ccid_two fixed = refl

started_open : (is_fixed : Bool) (both : Both)
    → let next = cond is_fixed (record both { kind = Fixed; fixed = [] }) (record both { kind = CcidTwo; ccid_two = two.first_state }) in
    1 ≤ window_by next.kind next
started_open true both = le-add_right 1 7
started_open false both = le-add_right 1 3

sending_keeps : (kind : ControlKind) (ccid_two : two.State) (fixed : List FlightEntry) (number : ℕ)
    → let both : Both = record { kind = kind; ccid_two = ccid_two; fixed = fixed } in
    1 ≤ window_by kind both → 1 ≤ window_by (sent_by kind both number).kind (sent_by kind both number)
sending_keeps CcidTwo ccid_two fixed number wide = wide
sending_keeps Fixed ccid_two fixed number wide = wide

report_keeps : (kind : ControlKind) (ccid_two : two.State) (fixed : List FlightEntry) (states : States) (ratio : ℕ)
    → let both : Both = record { kind = kind; ccid_two = ccid_two; fixed = fixed } in
    1 ≤ window_by kind both → 1 ≤ window_by (reported_by kind both states ratio).kind (reported_by kind both states ratio)
report_keeps CcidTwo ccid_two fixed states ratio wide = ccid_window_stays.report_keeps ccid_two states ratio wide
report_keeps Fixed ccid_two fixed states ratio wide = wide

timeout_opens : (kind : ControlKind) (ccid_two : two.State) (fixed : List FlightEntry)
    → let both : Both = record { kind = kind; ccid_two = ccid_two; fixed = fixed } in
    1 ≤ window_by (timed_out_by kind both).kind (timed_out_by kind both)
timeout_opens CcidTwo ccid_two fixed = le-add_right 1 0
timeout_opens Fixed ccid_two fixed = le-add_right 1 7

-- whichever kind is in force, its window never closes
pub kinds_keep_window : KeepsWindow kinds_control
kinds_keep_window = record {
  start_opens = λ both ccid. started_open (ccid == 248) both;
  sending_keeps = λ both number. sending_keeps both.kind both.ccid_two both.fixed number;
  report_keeps = λ both states ratio. report_keeps both.kind both.ccid_two both.fixed states ratio;
  timeout_opens = λ both. timeout_opens both.kind both.ccid_two both.fixed;
}

-- whichever kind is in force, each call changes the flight list as the list's own rules say
pub kinds_lawful : IsLawful kinds_control
kinds_lawful = record {
  start_empties = λ both ccid. started_empty (ccid == 248) both;
  sending_adds = λ both number. sending_adds both.kind both.ccid_two both.fixed number;
  report_settles = λ both states ratio. report_settles both.kind both.ccid_two both.fixed states ratio;
  timeout_empties = λ both. timeout_empties both.kind both.ccid_two both.fixed;
  keeps_window = kinds_keep_window;
}
