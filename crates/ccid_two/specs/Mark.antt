-- What one recovery mark covers.
use Rattle.std.specs.Prelude.{ℕ, not, List, [], ◌∷◌, Option, Some, IsTrue}
use Rattle.std.specs.List.{list_all}
use Rattle.congestion_trait.specs.declared.flight.FlightEntry.{FlightEntry}
use Rattle.congestion_trait.specs.Flight.{States, is_past}
use Rattle.congestion_trait.specs.Calls.{Call, Starts, Sends, Reports, TimesOut, after_call}
use Rattle.ccid_two.specs.Window.{State, with_report, ccid_control}

-- no entry's number is past the mark
abbrev pub NonePast : Option ℕ → List FlightEntry → Type 0
NonePast mark entries = IsTrue (list_all (λ entry. not (is_past mark entry.number)) entries)

-- each number is sent after those in the list
abbrev pub IsInOrder : State → List Call → Type 0
IsInOrder state [] = Unit {0}
IsInOrder state (Starts ccid ∷ rest) = IsInOrder (after_call ccid_control state (Starts ccid)) rest
IsInOrder state (Sends number ∷ rest) =
    NonePast (Some number) state.flight × IsInOrder (after_call ccid_control state (Sends number)) rest
IsInOrder state (Reports states ratio ∷ rest) = IsInOrder (after_call ccid_control state (Reports states ratio)) rest
IsInOrder state (TimesOut ∷ rest) = IsInOrder (after_call ccid_control state TimesOut) rest

-- the state after reports, each with its Ack Ratio, and nothing sent between them
abbrev pub after_reports : State → List (States × ℕ) → State
after_reports state [] = state
after_reports state (report ∷ rest) = after_reports (with_report state report.0 report.1) rest
