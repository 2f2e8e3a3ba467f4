-- How long the timers of an end wait (RFC 4340, sections 6.6.3, 8.1.1, 8.1.5 and 8.3; own).
use Rattle.std.specs.Prelude.{ℕ, ◌*◌, ◌/◌, max, min, nat_le, Bool, Option, Some, None}
use Rattle.path_rules.specs.RoundTrip.{timeout}
use Rattle.path_rules.specs.declared.round_trip.RoundTrip.{RoundTrip}
use Rattle.path_rules.specs.declared.waits.Wait.{Wait}

-- each wait is twice the one before it, within the first and the longest
abbrev pub wait_after : Wait → ℕ → ℕ
wait_after w wait = max (min wait (w.most / 2) * 2) w.first

-- a second, up to 64 (section 8.1.1)
abbrev pub request_wait : Wait
request_wait = record { first = 1000; most = 64000 }

-- 50 milliseconds, up to 20 seconds (own)
abbrev pub ack_wait : Wait
ack_wait = record { first = 50; most = 20000 }

-- a timeout, up to 64 seconds (own)
abbrev pub negotiate_wait : Option RoundTrip → Wait
negotiate_wait path = record { first = timeout path; most = 64000 }

-- a timeout, up to two seconds, while a probe is out (own)
abbrev pub probing_wait : Option RoundTrip → Wait
probing_wait path = record { first = min (timeout path) 2000; most = 2000 }

-- a timeout, up to 64 seconds (RFC 6298, section 5.5)
abbrev pub rto_wait : Option RoundTrip → Wait
rto_wait path = record { first = timeout path; most = 64000 }

-- two round trips (section 8.3), at least 100 milliseconds, or 400 without a sample (own)
abbrev pub two_round_trips : Option RoundTrip → ℕ
two_round_trips None = 400
two_round_trips (Some path) = max (2 * path.smoothed / 1000) 100

-- these are the first wait for the answer to a Close or CloseReq, and 64 seconds the longest (section 8.3)
abbrev pub close_wait : Option RoundTrip → Wait
close_wait path = record { first = two_round_trips path; most = 64000 }

-- a window of 16 packets or more (own)
abbrev pub probes_first : ℕ → Bool
probes_first window = nat_le 16 window
