-- Stories of an end with its congestion control, call by call, and what each call returns, computed from the definitions. Rows of other files
-- cite them.
use Rattle.std.proofs.Common.{ℕ, ◌==◌, Bool, List, [], ◌∷◌, ◌++◌, Option, Result, codes}
use Rattle.std.specs.List.{list_any}
use Prim.Native.String.{String}
use Rattle.dccp_packets.specs.Outgoing.{bytes_sent}
use Rattle.ccid_two.specs.Kinds.{Both, at_first, kinds_control}
use Rattle.congestion_trait.specs.Control.{may_send}
use Rattle.dccp_states.specs.declared.calls.AbortFault.{AbortFault}
use Rattle.dccp_states.specs.declared.calls.CloseFault.{CloseFault}
use Rattle.dccp_states.specs.declared.calls.OpenFault.{OpenFault}
use Rattle.dccp_states.specs.declared.calls.SendFault.{SendFault}
use Rattle.dccp_states.specs.declared.calls.Timer.{Timer}
use Rattle.dccp_states.specs.declared.outcome.Outcome.{Outcome}
use Rattle.dccp_states.specs.declared.phase.Phase.{Phase}
use Rattle.feature_lists.specs.declared.features.Feature.{Feature}
use Rattle.feature_lists.specs.declared.features.Place.{Place}
use Rattle.feature_lists.specs.declared.wishes.PreferFault.{PreferFault}
use Rattle.feature_machine.specs.Negotiating.{row_at}
use Rattle.feature_machine.specs.declared.row.Row.{Row}
use Rattle.feature_machine.specs.declared.stands.Stand.{Stand}
use Rattle.validity_windows.specs.Windows.{windows}
use Rattle.validity_windows.specs.declared.marks.Marks.{Marks}
use Rattle.validity_windows.specs.declared.marks.Windows.{Windows}
use Rattle.dccp_endpoint.specs.Calling.{aborts, closes, fires, opens, prefers, sends_payload}
use Rattle.dccp_endpoint.specs.Controlled.{End, EndStep, begins, has_in_flight, in_flight_of, reported_of, window_of, with_control}
use Rattle.dccp_endpoint.specs.Early.{sends_early, sends_soon}
use Rattle.dccp_endpoint.specs.End.{floor_of, marked_of}
use Rattle.dccp_endpoint.specs.Receiving.{receives}
use Rattle.dccp_endpoint.specs.Steps.{Step}
use Rattle.dccp_endpoint.specs.declared.config.Config.{Config}
use Rattle.tests_ends.proofs.rows.RowsSeen.{bytes}

-- what is done at an end: a call each, a packet that arrives, and what it shows is looked at
pub data Word : Type 0 where
  Open Close Abort : Word
  Packet Send Early Soon : (digits : String) → Word
  Fire : (timer : Timer) → Word
  Prefer : (feature : Feature) (place : Place) (values : List ℕ) → Word
  AtMarks AtWindows AtFloor AtWindow AtPhase : Word
  AtRow : (feature : Feature) (place : Place) → Word
  IsReported : (number : ℕ) → Word

-- what each of these answers, with the frame that goes out
pub data Told : Type 0 where
  Opens : (answer : Result (Unit {0}) OpenFault) (frame : Option (List ℕ)) → Told
  Closes : (answer : Result (Unit {0}) CloseFault) (frame : Option (List ℕ)) → Told
  Aborts : (answer : Result (Unit {0}) AbortFault) (frame : Option (List ℕ)) → Told
  Hears : (outcome : Outcome) (frame : Option (List ℕ)) → Told
  Sends : (answer : Result (Unit {0}) SendFault) (frame : Option (List ℕ)) → Told
  Fires : (applies : Bool) (frame : Option (List ℕ)) → Told
  Prefers : (answer : Result (Unit {0}) PreferFault) (frame : Option (List ℕ)) → Told
  MarksAre : (gss gsr osr gar : ℕ) → Told
  WindowsAre : (swl swh awl awh : ℕ) → Told
  FloorIs : (floor marked : ℕ) → Told
  WindowIs : (window flying : ℕ) → Told
  PhaseIs : (phase : Phase) → Told
  RowIs : (value : ℕ) (stand : Stand) → Told
  Reports : (reported : Bool) → Told

abbrev bytes_of : String → List ℕ
bytes_of digits = bytes (codes digits)

-- an end with its congestion control, and what it has answered so far
record Story : Type 0 where
  pub end : End Both
  pub said : List Told

abbrev saying : Story → Told → Story
saying s told = record s { said = s.said ++ told ∷ [] }

-- a step of it, with the congestion control after the step
abbrev stepped : {Answer : Type 0} → Story → (Answer → Option (List ℕ) → Told) → EndStep Both Answer → Story
stepped s tells step = saying (record s { end = step.after }) (tells step.answer (bytes_sent step.frame))

abbrev steps : {Answer : Type 0} → Story → (Answer → Option (List ℕ) → Told) → Step Answer → Story
steps s tells step = stepped s tells (with_control kinds_control s.end.congestion step)

abbrev may : Story → Bool
may s = may_send kinds_control s.end.congestion

abbrev marks_of : Marks → Told
marks_of m = MarksAre m.gss m.gsr m.osr m.gar

abbrev windows_of : Windows → Told
windows_of w = WindowsAre w.swl w.swh w.awl w.awh

abbrev row_of : Row → Told
row_of row = RowIs row.value row.stand

abbrev after : Story → Word → Story
after s Open = steps s Opens (opens s.end.state)
after s Close = steps s Closes (closes s.end.state)
after s Abort = steps s Aborts (aborts s.end.state)
after s (Packet digits) = steps s Hears (receives s.end.state (bytes_of digits))
after s (Send digits) = steps s Sends (sends_payload s.end.state (bytes_of digits) (may s))
after s (Early digits) = steps s Sends (sends_early s.end.state (bytes_of digits) (may s))
after s (Soon digits) = steps s Sends (sends_soon s.end.state (bytes_of digits) (may s))
after s (Fire timer) = steps s Fires (fires s.end.state timer (has_in_flight kinds_control s.end.congestion))
after s (Prefer feature place values) = steps s Prefers (prefers s.end.state (feature, place) values)
after s AtMarks = saying s (marks_of s.end.state.marks)
after s AtWindows = saying s (windows_of (windows s.end.state.marks))
after s AtFloor = saying s (FloorIs (floor_of s.end.state) (marked_of s.end.state))
after s AtWindow = saying s (WindowIs (window_of kinds_control s.end.congestion) (in_flight_of kinds_control s.end.congestion))
after s AtPhase = saying s (PhaseIs s.end.state.phase)
after s (AtRow feature place) = saying s (row_of (row_at s.end.state.rows feature place))
after s (IsReported number) = saying s (Reports (list_any (λ other. other == number) (reported_of kinds_control s.end.congestion)))

abbrev told_by : Story → List Word → List Told
told_by s [] = s.said
told_by s (word ∷ rest) = told_by (after s word) rest

-- what an end answers to words
abbrev pub told : End Both → List Word → List Told
told e words = told_by (record { end = e; said = [] }) words

-- a story of a new end of this configuration
abbrev pub story : Config → List Word → List Told
story config words = told (begins kinds_control config at_first) words
