-- The rules of the additive window, an example (own).
use Rattle.std.specs.Prelude.{ℕ, ◌+◌, ◌/◌, ◌==◌, ◌≤◌, ◌&&◌, Bool, true, false, cond, nat_lt, max, List, None, if◌then◌else◌}
use Rattle.std.proofs.Math.Nat.{le-add_right, le-max_right, le_trans}
use Rattle.congestion_trait.specs.declared.flight.FlightEntry.{FlightEntry}
use Rattle.congestion_trait.specs.Flight.{States, acked_count, is_congested}
use Rattle.congestion_trait.specs.Control.{KeepsWindow}
use Rattle.congestion_trait.specs.Kind.{KindRules, control_by_rules}

-- A report of any loss or mark halves the window, down to at least one packet; one of something received lets it grow by one packet, up to
-- 1,024.
abbrev pub window_reported : ℕ → List FlightEntry → States → ℕ → ℕ
window_reported window entries states ratio =
    if is_congested states None entries then max (window / 2) 1
    else if nat_lt 0 (acked_count states entries) && nat_lt window 1024 then window + 1
    else window

-- CCID 249: besides the flight list, only the window is kept.
abbrev pub additive : KindRules ℕ
additive = record {
  window = λ window. window;
  is_known = λ ccid. ccid == 249;
  fresh = 1;
  with_sent = λ window _. window;
  with_report = window_reported;
  timed_out = λ _. 1;
}

reported_open : (congested grows : Bool) (window : ℕ) → 1 ≤ window → 1 ≤ cond congested (max (window / 2) 1) (cond grows (window + 1) window)
reported_open true grows window wide = le-max_right (window / 2) 1
reported_open false true window wide = le_trans wide (le-add_right window 1)
reported_open false false window wide = wide

-- a halving leaves at least one packet, and a timeout leaves one
pub additive_window_stays : KeepsWindow (control_by_rules additive)
additive_window_stays = record {
  start_opens = λ _ _. le-add_right 1 0;
  sending_keeps = λ _ _ wide. wide;
  report_keeps = λ state states _ wide.
      reported_open (is_congested states None state.flight) (nat_lt 0 (acked_count states state.flight) && nat_lt state.rest 1024) state.rest wide;
  timeout_opens = λ _. le-add_right 1 0;
}
