-- CCID 2's window is at least one packet, after any call (RFC 4341, section 5).
use Rattle.std.specs.Prelude.{ℕ, ◌+◌, ◌/◌, ◌≤◌, Bool, true, false, cond, nat_lt, nat_le}
use Rattle.std.proofs.Math.Nat.{le-add_right, le-max_left, le-min, le_trans}
use Rattle.congestion_trait.specs.Control.{KeepsWindow}
use Rattle.congestion_trait.specs.Flight.{is_congested, acked_count}
use Rattle.ccid_two.specs.Window.{State, grown_in_slow_start, grown_in_avoidance, adjusted, capped, ccid_control}

-- the cap is more than one
capped-open : (state : State) → 1 ≤ state.window → 1 ≤ (capped state).window
capped-open state wide = le-min (le-add_right 1 1023) wide

avoidance-open : (full : Bool) (state : State) (credit : ℕ) → 1 ≤ state.window
    → 1 ≤ (cond full (record state { window = state.window + 1; credit = 0 }) (record state { credit = credit })).window
avoidance-open true state credit wide = le_trans wide (le-add_right state.window 1)
avoidance-open false state credit wide = wide

grown-open : (slow : Bool) (state : State) (acked ratio : ℕ) → 1 ≤ state.window
    → 1 ≤ (cond slow (grown_in_slow_start state acked ratio) (grown_in_avoidance state acked)).window
grown-open true state acked ratio wide = le_trans wide (le-add_right state.window _)
grown-open false state acked ratio wide = avoidance-open (nat_le state.window (state.credit + acked)) state (state.credit + acked) wide

adjusted-open : (congested : Bool) (state : State) (acked ratio : ℕ) → 1 ≤ state.window → 1 ≤ (adjusted congested acked ratio state).window
adjusted-open true state acked ratio wide = le-max_left 1 (state.window / 2)
adjusted-open false state acked ratio wide = grown-open (nat_lt state.window state.threshold) state acked ratio wide

-- a halving leaves at least one packet, growth removes none, and the cap is more than one
pub ccid_window_stays : KeepsWindow ccid_control
ccid_window_stays = record {
  start_opens = λ _ _. le-add_right 1 3;
  sending_keeps = λ _ _ wide. wide;
  report_keeps = λ state states ratio wide.
      capped-open (adjusted (is_congested states state.mark state.flight) (acked_count states state.flight) ratio state)
      (adjusted-open (is_congested states state.mark state.flight) state (acked_count states state.flight) ratio wide);
  timeout_opens = λ _. le-add_right 1 0;
}
