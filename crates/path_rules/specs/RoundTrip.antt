-- How long a round trip takes, and how long a sender waits for a report (RFC 6298; RFC 4341, section 5).
use Rattle.std.specs.Prelude.{ℕ, ◌+◌, ◌-◌, ◌*◌, ◌/◌, ◌≤◌, max, min, Option, Some, None}
use Rattle.path_rules.specs.declared.round_trip.RoundTrip.{RoundTrip}

-- 64 seconds (RFC 6298, section 2.5: a maximum of 60 seconds or more may be put on RTO)
abbrev pub longest_timeout : ℕ
longest_timeout = 64000

-- a sample of milliseconds in microseconds, at most the longest timeout
abbrev pub cut : ℕ → ℕ
cut sample = min sample longest_timeout * 1000

-- how far two are from each other
abbrev pub apart : ℕ → ℕ → ℕ
apart a b = (a - b) + (b - a)

-- the first sample: SRTT is it, RTTVAR half of it (RFC 6298, section 2.2)
abbrev pub first_round_trip : ℕ → RoundTrip
first_round_trip sample = record { smoothed = sample; variance = sample / 2 }

-- each further sample: RTTVAR takes a quarter of its distance from SRTT, and SRTT an eighth of the sample (section 2.3)
abbrev pub further_round_trip : RoundTrip → ℕ → RoundTrip
further_round_trip old sample =
    record { smoothed = (7 * old.smoothed + sample) / 8; variance = (3 * old.variance + apart old.smoothed sample) / 4 }

-- the round trip after a sample of this many milliseconds
abbrev pub with_sample : Option RoundTrip → ℕ → RoundTrip
with_sample None sample = first_round_trip (cut sample)
with_sample (Some old) sample = further_round_trip old (cut sample)

-- SRTT and four times RTTVAR (section 2.3). The latter counts as at least 250 milliseconds: the 200 for which a peer may hold back an Ack, and
-- 50 (own)
abbrev pub single_timeout : RoundTrip → ℕ
single_timeout path = (path.smoothed + max (4 * path.variance) 250000) / 1000

-- RTO: a second before there is a sample (section 2.1)
abbrev pub timeout : Option RoundTrip → ℕ
timeout None = 1000
timeout (Some path) = min (single_timeout path) longest_timeout

-- A timeout is never below 250 milliseconds nor above 64 seconds, and never shorter than the round trip.
pub record TimeoutsAreBounded : Type 0 where
  pub low : (path : Option RoundTrip) → 250 ≤ timeout path
  pub high : (path : Option RoundTrip) → timeout path ≤ 64000
  pub waits : (path : RoundTrip) → path.smoothed ≤ 63750000 → path.smoothed / 1000 + 250 ≤ timeout (Some path)
