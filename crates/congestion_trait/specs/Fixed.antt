-- The fixed window: nothing but a flight list (own).
use Rattle.std.specs.Prelude.{◌==◌, List, []}
use Rattle.std.proofs.Math.Nat.{le-add_right}
use Rattle.congestion_trait.specs.declared.flight.FlightEntry.{FlightEntry}
use Rattle.congestion_trait.specs.Flight.{sent, after_report}
use Rattle.congestion_trait.specs.Control.{Control, KeepsWindow}

-- CCID 248: always 8 packets
abbrev pub fixed_control : Control (List FlightEntry)
fixed_control = record {
  flight = λ entries. entries;
  window = λ _. 8;
  is_known = λ ccid. ccid == 248;
  started = λ _ _. [];
  with_sent = sent;
  with_report = λ entries states _. after_report states entries;
  timed_out = λ _. [];
}

-- eight are at least one, after any call
pub fixed_window_stays : KeepsWindow fixed_control
fixed_window_stays = record {
  start_opens = λ _ _. le-add_right 1 7;
  sending_keeps = λ _ _ _. le-add_right 1 7;
  report_keeps = λ _ _ _ _. le-add_right 1 7;
  timeout_opens = λ _. le-add_right 1 7;
}
