-- Both kinds of congestion control, of which one is in force.
use Rattle.std.specs.Prelude.{ℕ, ◌==◌, ◌||◌, List, [], if◌then◌else◌}
use Rattle.congestion_trait.specs.declared.flight.FlightEntry.{FlightEntry}
use Rattle.congestion_trait.specs.Flight.{States, sent, after_report}
use Rattle.congestion_trait.specs.Control.{Control}
use Rattle.ccid_two.specs.declared.kinds.ControlKind.{ControlKind}
use Rattle.ccid_two.specs.declared.kinds.ControlKind.TheVariants.{CcidTwo, Fixed}
use Rattle.ccid_two.specs.Window as two

-- the kind in force, and the state of each
pub record Both : Type 0 where
  pub kind : ControlKind
  pub ccid_two : two.State
  pub fixed : List FlightEntry

-- the flight list of the kind in force
abbrev pub flight_by : ControlKind → Both → List FlightEntry
flight_by CcidTwo both = both.ccid_two.flight
flight_by Fixed both = both.fixed

-- its window
abbrev pub window_by : ControlKind → Both → ℕ
window_by CcidTwo both = both.ccid_two.window
window_by Fixed both = 8

-- CCID 248 takes the fixed window; the only other that is known is 2
abbrev pub kind_started : Both → ℕ → Both
kind_started both ccid =
    if ccid == 248
    then record both { kind = Fixed; fixed = [] }
    else record both { kind = CcidTwo; ccid_two = two.first_state }

-- a data packet was sent: the kind in force counts it
abbrev pub sent_by : ControlKind → Both → ℕ → Both
sent_by CcidTwo both number = record both { ccid_two = two.with_sent both.ccid_two number }
sent_by Fixed both number = record both { fixed = sent both.fixed number }

-- a report came to the kind in force
abbrev pub reported_by : ControlKind → Both → States → ℕ → Both
reported_by CcidTwo both states ratio = record both { ccid_two = two.with_report both.ccid_two states ratio }
reported_by Fixed both states ratio = record both { fixed = after_report states both.fixed }

-- the timer rto of the kind in force ran out
abbrev pub timed_out_by : ControlKind → Both → Both
timed_out_by CcidTwo both = record both { ccid_two = two.timed_out both.ccid_two }
timed_out_by Fixed both = record both { fixed = [] }

-- the congestion control that both kinds are
abbrev pub kinds_control : Control Both
kinds_control = record {
  flight = λ both. flight_by both.kind both;
  window = λ both. window_by both.kind both;
  is_known = λ ccid. ccid == 2 || ccid == 248;
  started = kind_started;
  with_sent = λ both. sent_by both.kind both;
  with_report = λ both. reported_by both.kind both;
  timed_out = λ both. timed_out_by both.kind both;
}

-- CCID 2 in force, and nothing sent
abbrev pub at_first : Both
at_first = record { kind = CcidTwo; ccid_two = two.first_state; fixed = [] }
