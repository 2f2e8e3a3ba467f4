-- Calls of a congestion control, one after another.
use Rattle.std.specs.Prelude.{ℕ, Bool, false, ◌==◌, List, [], ◌∷◌}
use Rattle.dccp_options.specs.Vectors.{is_received}
use Rattle.congestion_trait.specs.Flight.{States}
use Rattle.congestion_trait.specs.Control.{Control}

-- a call that changes the state
pub data Call : Type 0 where
  Starts : (ccid : ℕ) → Call
  Sends : (number : ℕ) → Call
  Reports : (states : States) → (ratio : ℕ) → Call
  TimesOut : Call

-- the state after a call
abbrev pub after_call : {S : Type 0} → Control S → S → Call → S
after_call control state (Starts ccid) = control.started state ccid
after_call control state (Sends number) = control.with_sent state number
after_call control state (Reports states ratio) = control.with_report state states ratio
after_call control state TimesOut = control.timed_out state

-- the state after calls
abbrev pub run : {S : Type 0} → Control S → S → List Call → S
run control state [] = state
run control state (call ∷ rest) = run control (after_call control state call) rest

-- the call sends this number
abbrev pub call_sends : ℕ → Call → Bool
call_sends number (Starts ccid) = false
call_sends number (Sends next) = number == next
call_sends number (Reports states ratio) = false
call_sends number TimesOut = false

-- the call reports that this number was received, marked or not
abbrev pub tells : ℕ → Call → Bool
tells number (Starts ccid) = false
tells number (Sends next) = false
tells number (Reports states ratio) = is_received (states number)
tells number TimesOut = false
