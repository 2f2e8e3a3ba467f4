-- The window of CCID 2 (RFC 4341, section 5; the initial numbers, lower ends, roundings and the cap are own).
use Rattle.std.specs.Prelude.{ℕ, ◌+◌, ◌/◌, ◌%◌, ◌==◌, ◌≤◌, Bool, true, false, nat_lt, nat_le, min, max, List, [], Option, Some, None, if◌then◌else◌}
use Rattle.congestion_trait.specs.declared.flight.FlightEntry.{FlightEntry}
use Rattle.congestion_trait.specs.Flight.{States, sent, after_report, acked_count, is_congested}
use Rattle.congestion_trait.specs.Control.{Control}

-- the flight list, the congestion window and the slow-start threshold in packets, how many acknowledged packets did not
-- yet open the window, the recovery mark, and the number sent last since the start
pub record State : Type 0 where
  pub flight : List FlightEntry
  pub window : ℕ
  pub threshold : ℕ
  pub credit : ℕ
  pub mark : Option ℕ
  pub last : Option ℕ

-- as it starts (own numbers)
abbrev pub first_state : State
first_state = record { flight = []; window = 4; threshold = 1024; credit = 0; mark = None; last = None }

-- a data packet was sent
abbrev pub with_sent : State → ℕ → State
with_sent state number = record state { flight = sent state.flight number; last = Some number }

-- congested: the window is halved, once for all that was sent by now
abbrev pub halved : State → State
halved state =
    let window = max 1 (state.window / 2) in
    record state { window = window; threshold = max 2 window; credit = 0; mark = state.last }

-- slow start: the window grows by half of the packets acknowledged, at most by half of the Ack Ratio, or by one if that is more
abbrev pub grown_in_slow_start : State → ℕ → ℕ → State
grown_in_slow_start state acked ratio =
    let credit = state.credit + acked in
    record state { window = state.window + min (credit / 2) (max 1 (ratio / 2)); credit = credit % 2 }

-- congestion avoidance: a packet more for each whole window acknowledged
abbrev pub grown_in_avoidance : State → ℕ → State
grown_in_avoidance state acked =
    let credit = state.credit + acked in
    if nat_le state.window credit
    then record state { window = state.window + 1; credit = 0 }
    else record state { credit = credit }

-- at most 1,024 packets (own)
abbrev pub capped : State → State
capped state = record state { window = min 1024 state.window }

-- what a report makes of the window, by whether it shows congestion and by how many packets it acknowledges
abbrev pub adjusted : Bool → ℕ → ℕ → State → State
adjusted true acked ratio state = halved state
adjusted false acked ratio state =
    if nat_lt state.window state.threshold then grown_in_slow_start state acked ratio else grown_in_avoidance state acked

-- a report came
abbrev pub with_report : State → States → ℕ → State
with_report state states ratio =
    let congested = is_congested states state.mark state.flight in
    let acked = acked_count states state.flight in
    record (capped (adjusted congested acked ratio state)) { flight = after_report states state.flight }

-- a timeout: back to one packet, and nothing is in flight (RFC 4341, section 5)
abbrev pub timed_out : State → State
timed_out state = record state { flight = []; window = 1; threshold = max 2 (state.window / 2); credit = 0; mark = state.last }

-- the congestion control CCID 2 (RFC 4341)
abbrev pub ccid_control : Control State
ccid_control = record {
  flight = λ state. state.flight;
  window = λ state. state.window;
  is_known = λ ccid. ccid == 2;
  started = λ _ _. first_state;
  with_sent = with_sent;
  with_report = with_report;
  timed_out = timed_out;
}

-- what the window's numbers always keep
pub record IsInRange (window threshold credit : ℕ) : Type 0 where
  pub low : 1 ≤ window
  pub high : window ≤ 1024
  pub threshold_low : 2 ≤ threshold
  pub threshold_high : threshold ≤ 1024
  pub credit_high : credit ≤ 1024
