-- A window that is open stays so, and a timeout leaves room in it.
use Rattle.std.proofs.Common.{◌≡◌, ◌≤◌, List, [], ◌∷◌, IsTrue, ap, arith}
use Rattle.std.proofs.lemmas.Bool.{lt-ltb}
use Rattle.congestion_trait.specs.Control.{Control, IsLawful, KeepsWindow, may_send}
use Rattle.congestion_trait.specs.Calls.{Call, Starts, Sends, Reports, TimesOut, after_call, run}
use Rattle.congestion_trait.specs.Flight.{pipe_of}

module _ {S : Type 0} (control : Control S) (keeps : KeepsWindow control) where
  open_after : (state : S) (call : Call) → 1 ≤ control.window state → 1 ≤ control.window (after_call control state call)
  open_after state (Starts ccid) wide = keeps.start_opens state ccid
  open_after state (Sends number) wide = keeps.sending_keeps state number wide
  open_after state (Reports states ratio) wide = keeps.report_keeps state states ratio wide
  open_after state TimesOut wide = keeps.timeout_opens state

  pub open_run : (state : S) (calls : List Call) → 1 ≤ control.window state → 1 ≤ control.window (run control state calls)
  open_run state [] wide = wide
  open_run state (call ∷ rest) wide = open_run (after_call control state call) rest (open_after state call wide)

-- nothing is in flight, and the window is open
pub sends-after-timeout : {S : Type 0} (control : Control S) → IsLawful control → (state : S) → IsTrue (may_send control (control.timed_out state))
sends-after-timeout control lawful state =
    let none : pipe_of (control.flight (control.timed_out state)) ≡ 0 = ap pipe_of (lawful.timeout_empties state) in
    let room : 1 ≤ control.window (control.timed_out state) = lawful.keeps_window.timeout_opens state in
    lt-ltb (pipe_of (control.flight (control.timed_out state))) (control.window (control.timed_out state)) (omega (arith, none, room))
