-- What contracts see of a congestion control: its functions on its state.
--
-- Which CCIDs a kind knows does not depend on its state: a kind cannot forget a CCID.
use Rattle.std.specs.Prelude.{◌≡◌, ℕ, ◌≤◌, Bool, nat_lt, List, []}
use Rattle.congestion_trait.specs.declared.flight.FlightEntry.{FlightEntry}
use Rattle.congestion_trait.specs.Flight.{States, pipe_of, sent, after_report}

-- the flight list and the window that a state shows, the CCIDs that it knows, and what each call makes of a state
pub record Control (S : Type 0) : Type 0 where
  pub flight : S → List FlightEntry
  pub window : S → ℕ
  pub is_known : ℕ → Bool
  pub started : S → ℕ → S
  pub with_sent : S → ℕ → S
  pub with_report : S → States → ℕ → S
  pub timed_out : S → S

-- a further packet may be sent: in flight is below the window
abbrev pub may_send : {S : Type 0} → Control S → S → Bool
may_send control state = nat_lt (pipe_of (control.flight state)) (control.window state)

-- A kind's window never closes: a start and a timeout leave a window of at least one packet, and so does any other call if it was so before (RFC
-- 4341, section 5, of CCID 2; own for every kind).
pub record KeepsWindow {S : Type 0} (control : Control S) : Type 0 where
  pub start_opens : (state : S) (ccid : ℕ) → 1 ≤ control.window (control.started state ccid)
  pub sending_keeps : (state : S) (number : ℕ) → 1 ≤ control.window state → 1 ≤ control.window (control.with_sent state number)
  pub report_keeps : (state : S) (states : States) (ratio : ℕ)
      → 1 ≤ control.window state → 1 ≤ control.window (control.with_report state states ratio)
  pub timeout_opens : (state : S) → 1 ≤ control.window (control.timed_out state)

-- each call changes the flight list as the list's own rules say, whatever else it does, and the window never closes
pub record IsLawful {S : Type 0} (control : Control S) : Type 0 where
  pub start_empties : (state : S) (ccid : ℕ) → control.flight (control.started state ccid) ≡ []
  pub sending_adds : (state : S) (number : ℕ)
      → control.flight (control.with_sent state number) ≡ sent (control.flight state) number
  pub report_settles : (state : S) (states : States) (ratio : ℕ)
      → control.flight (control.with_report state states ratio) ≡ after_report states (control.flight state)
  pub timeout_empties : (state : S) → control.flight (control.timed_out state) ≡ []
  pub keeps_window : KeepsWindow control
