-- The Ack Ratio: for how many data packets the peer of a sender sends one Ack (RFC 4341, section 6.1.2; own).
use Rattle.std.specs.Prelude.{◌⊎◌, ℕ, ◌+◌, ◌-◌, ◌*◌, ◌/◌, ◌≤◌, max, min, nat_lt, nat_le, Bool, true, ◌&&◌, ◌||◌, Option, Some, None, if◌then◌else◌}
use Rattle.path_rules.specs.declared.ack_ratio.AckRatio.{AckRatio}
use Rattle.path_rules.specs.declared.round_trip.RoundTrip.{RoundTrip}

-- for how long a sender remembers what was in flight: a round trip, at least 200 milliseconds (own)
abbrev pub period : Option RoundTrip → ℕ
period None = 200
period (Some path) = max (path.smoothed / 1000) 200

-- how many parts of this size there are in that many packets, rounded up
abbrev pub shares : ℕ → ℕ → ℕ
shares packets part = (packets + max part 1 - 1) / max part 1

-- half of a window, rounded up: no greater Ack Ratio keeps Acks coming (section 6.1.2)
abbrev pub half : ℕ → ℕ
half window = (window + 1) / 2

-- the ratio gives 32 Acks for what is used of a window (own), but no more Acks than a quarter of the peer's Sequence Window; it is at least 2,
-- with which a connection begins (section 6.1.2)
abbrev pub aim_by_use : ℕ → ℕ → ℕ → ℕ
aim_by_use window used width = max (min (max (shares used 32) (shares (4 * used) width)) (half window)) 2

-- each packet is acknowledged at once if the window is below 4, so that three later ones may show a loss (own)
abbrev pub ack_ratio_aim : ℕ → ℕ → ℕ → ℕ
ack_ratio_aim window used width = if nat_lt window 4 then 1 else aim_by_use window used width

-- it is lowered if it is above half the window, or falls at least by half
abbrev pub lowers_ratio : ℕ → ℕ → ℕ → Bool
lowers_ratio held aim window = nat_lt aim held && (nat_lt (half window) held || nat_le aim (held / 2))

-- it was at least this long ago, or never
abbrev pub has_waited : Option ℕ → ℕ → Bool
has_waited None wait = true
has_waited (Some waited) wait = nat_le wait waited

-- it is raised from 1 after five seconds, and otherwise after a period, at least to twice its value
abbrev pub raises_ratio : ℕ → ℕ → Option ℕ → ℕ → Bool
raises_ratio held aim waited wait =
    if nat_lt held 2 then nat_lt held aim && has_waited waited 5000 else nat_le held (aim / 2) && has_waited waited wait

-- how long ago the ratio was last asked for, if it was
abbrev pub waited_since : Option ℕ → ℕ → Option ℕ
waited_since None now = None
waited_since (Some asked) now = Some (now - asked)

-- whether the sender asks for what it wants
abbrev pub wants_ack_ratio : AckRatio → ℕ → ℕ → ℕ → ℕ → Bool
wants_ack_ratio ratio aim window wait now = lowers_ratio ratio.held aim window || raises_ratio ratio.held aim (waited_since ratio.asked now) wait

-- The wanted ratio is 1 or 2, or at most half the window. Then at most 32 Acks, and at most a quarter of the width, are
-- due for what is used of the window.
pub record AckRatiosFit : Type 0 where
  pub some : (window used width : ℕ) → 1 ≤ ack_ratio_aim window used width
  pub half : (window used width : ℕ) → (ack_ratio_aim window used width ≤ 2) ⊎ (ack_ratio_aim window used width ≤ half window)
