-- How far a sender limits itself for the application that reads its data (RFC 4340, sections 11.6 and 11.7; RFC 4341,
-- section 5.2; own).
use Rattle.std.specs.Prelude.{ℕ, ◌+◌, ◌-◌, ◌/◌, ◌≤◌, max, min, nat_lt, nat_le, Bool, not, Option, Some, None, if◌then◌else◌}
use Rattle.path_rules.specs.declared.allowance.Allowance.{Allowance}
use Rattle.path_rules.specs.declared.round_trip.RoundTrip.{RoundTrip}

-- the window of the sender: that of its congestion control, or the allowance if that is less
abbrev pub window_within : Option Allowance → ℕ → ℕ
window_within None window = window
window_within (Some it) window = min it.most window

-- An allowance of this many packets, at least one, of which none was acknowledged yet.
abbrev pub allowance_of : ℕ → Allowance
allowance_of packets = record { most = max 1 packets; acked = 0 }

-- One packet less for each that the receive buffer dropped (RFC 4341, section 5.2). Without a dropped packet it stays at the window, as for a
-- slow receiver (RFC 4340, section 11.6). It ends slow start (RFC 4341, section 5.2).
abbrev pub allowed_after_drops : Option Allowance → ℕ → ℕ → Allowance
allowed_after_drops it window drops = allowance_of (window_within it window - drops)

-- after congestion half of it, as with the window (RFC 4341, section 5)
abbrev pub allowed_after_congestion : Option Allowance → ℕ → Allowance
allowed_after_congestion it window = allowance_of (window_within it window / 2)

-- After a timeout slow start goes up to half of it, as it does up to the threshold, but at least up to two packets (RFC 4341, section 5).
abbrev pub allowed_after_timeout : Allowance → Allowance
allowed_after_timeout it = allowance_of (max 2 (it.most / 2))

-- one packet more for each window that was acknowledged (RFC 4341, section 5: congestion avoidance)
abbrev pub grown : Allowance → ℕ → Allowance
grown it acked = if nat_le it.most acked then allowance_of (it.most + 1) else record it { acked = acked }

-- it grows as long as the window of the congestion control is above it
abbrev pub allowed_after_acks : Allowance → ℕ → ℕ → Allowance
allowed_after_acks it window acked = if nat_lt it.most window then grown it (it.acked + acked) else it

-- Less than a round trip has gone by. A round trip is as long as it was measured, a millisecond at least; without a
-- sample it ends once what was in flight is acknowledged.
abbrev pub is_within_round_trip : Option RoundTrip → ℕ → Bool → Bool
is_within_round_trip None elapsed acked = not acked
is_within_round_trip (Some path) elapsed acked = nat_lt elapsed (max 1 (path.smoothed / 1000))

-- It never closes the window, no report raises it above the window before, and acknowledgements raise it by at most one packet.
pub record AllowancesAreKept : Type 0 where
  pub some : (it : Option Allowance) (window drops : ℕ) → 1 ≤ (allowed_after_drops it window drops).most
  pub falls : (it : Option Allowance) (window drops : ℕ) → 1 ≤ window_within it window → (allowed_after_drops it window drops).most ≤ window_within it window
  pub halves : (it : Option Allowance) (window : ℕ) → 2 ≤ window_within it window → (allowed_after_congestion it window).most + (allowed_after_congestion it window).most ≤ window_within it window
  pub creeps : (it : Allowance) (window acked : ℕ) → 1 ≤ it.most → (allowed_after_acks it window acked).most ≤ it.most + 1
