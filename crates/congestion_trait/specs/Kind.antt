-- A kind of congestion control by its own rules alone: the flight list follows the list's rules (own).
--
-- So a kind cannot break the list's rules, and needs no proof that it keeps them. It needs only a proof that its window never closes.
-- `FixedWindow` and CCID 2 write their functions themselves, since the state of each is one plain list or record.
use Rattle.std.specs.Prelude.{ℕ, Bool, List, [], refl}
use Rattle.congestion_trait.specs.declared.flight.FlightEntry.{FlightEntry}
use Rattle.congestion_trait.specs.Flight.{States, sent, after_report}
use Rattle.congestion_trait.specs.Control.{Control, IsLawful, KeepsWindow}

-- a flight list, and what a kind keeps beside it
pub record KindState (R : Type 0) : Type 0 where
  pub flight : List FlightEntry
  pub rest : R

-- the window that the rest shows, the CCIDs that are known, the rest after a start, and the rest after each other call; after a report it
-- depends on the list before it and on what it says
pub record KindRules (R : Type 0) : Type 0 where
  pub window : R → ℕ
  pub is_known : ℕ → Bool
  pub fresh : R
  pub with_sent : R → ℕ → R
  pub with_report : R → List FlightEntry → States → ℕ → R
  pub timed_out : R → R

-- the congestion control of these rules, with a flight list besides what they keep
abbrev pub control_by_rules : {R : Type 0} → KindRules R → Control (KindState R)
control_by_rules rules = record {
  flight = λ state. state.flight;
  window = λ state. rules.window state.rest;
  is_known = rules.is_known;
  started = λ _ _. record { flight = []; rest = rules.fresh };
  with_sent = λ state number. record { flight = sent state.flight number; rest = rules.with_sent state.rest number };
  with_report = λ state states ratio. record {
    flight = after_report states state.flight;
    rest = rules.with_report state.rest state.flight states ratio;
  };
  timed_out = λ state. record { flight = []; rest = rules.timed_out state.rest };
}

-- whatever the kind's rules, the flight list keeps its own; only that the window never closes depends on the kind's
pub kind_is_lawful : {R : Type 0} (rules : KindRules R) → KeepsWindow (control_by_rules rules) → IsLawful (control_by_rules rules)
kind_is_lawful rules keeps_window = record {
  start_empties = λ _ _. refl;
  sending_adds = λ _ _. refl;
  report_settles = λ _ _ _. refl;
  timeout_empties = λ _. refl;
  keeps_window = keeps_window;
}
