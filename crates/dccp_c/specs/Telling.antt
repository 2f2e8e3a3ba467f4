-- What C is told about a datagram that it hands to an end (own).
use Rattle.std.specs.Prelude.{ℕ, nat_le, Bool, List, length, Option, Some, None, if◌then◌else◌}
use Rattle.dccp_c.specs.Framing.{FrameFields, nothing_handed}
use Rattle.dccp_c.specs.Outcomes.{told_reading}
use Rattle.dccp_c.specs.declared.told.Told.{Told}
use Rattle.dccp_c.specs.Doing.{kept_after, code_after, frame_after}
use Rattle.data_dropped.specs.declared.drops.DropEntry.{DropEntry}
use Rattle.dccp_c.specs.Stepping.{CEnd, c_receives, record_heard}

-- What C is told after a datagram; if there is no end, what C had stays.
abbrev pub told_after : List ℕ → ℕ → Option CEnd → Told → Told
told_after bytes now None old = old
told_after bytes now (Some s) old = told_reading (c_receives bytes now s).answer

-- bytes that a packet of such an end may have: at most 2,044
abbrev pub is_short : List ℕ → Bool
is_short bytes = nat_le (length bytes) 2044

-- A longer datagram is refused with 5 and changes nothing, also not what C was told before.
abbrev pub hears_if_short : List ℕ → ℕ → Option CEnd → Option CEnd
hears_if_short bytes now held = if is_short bytes then kept_after (c_receives bytes now) held else held

-- the frame that answers a datagram
abbrev pub hear_frame : List ℕ → ℕ → Option CEnd → FrameFields
hear_frame bytes now held = if is_short bytes then frame_after (c_receives bytes now) held else nothing_handed

-- the code of handing a datagram in
abbrev pub hear_code : List ℕ → ℕ → Option CEnd → ℕ
hear_code bytes now held = if is_short bytes then code_after (λ _. 0) (c_receives bytes now) held else 5

-- what C is told about it
abbrev pub hear_told : List ℕ → ℕ → Option CEnd → Told → Told
hear_told bytes now held old = if is_short bytes then told_after bytes now held old else old

-- the record of dropped packets then
abbrev pub drops_heard : List ℕ → ℕ → Option CEnd → List DropEntry → List DropEntry
drops_heard bytes now None drops = drops
drops_heard bytes now (Some s) drops = if is_short bytes then record_heard bytes s.timed (c_receives bytes now s).after.timed drops else drops
