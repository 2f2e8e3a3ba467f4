-- The counts that sources and sinks keep (own).
use Rattle.std.specs.Prelude.{◌≡◌, ℕ, ◌+◌, ◌-◌, ◌^◌, ◌<◌, ◌⊎◌, Result, Ok, Err, nat_lt, ◌==◌, ◌&&◌, if◌then◌else◌}

-- A count rose in a call. A count at its end, 2^64 - 1, also counts as risen.
abbrev pub Rose : ℕ → ℕ → Type 0
Rose before after = (before < after) ⊎ (after ≡ 2 ^ 64 - 1)

-- a count with one more, unless it is at its end
abbrev pub one_more : ℕ → ℕ
one_more count = if nat_lt count (2 ^ 64 - 1) then count + 1 else count

-- how often a sink failed, and how often it took nothing of a piece that was not empty
pub record SinkCounts : Type 0 where
  pub faults : ℕ
  pub empty_takes : ℕ

-- the counts after a write of a piece of that many bytes
abbrev pub counted_write : {E : Type 0} → SinkCounts → Result ℕ E → ℕ → SinkCounts
counted_write counts (Err _) size = record counts { faults = one_more counts.faults }
counted_write counts (Ok taken) size =
    if taken == 0 && nat_lt 0 size then record counts { empty_takes = one_more counts.empty_takes } else counts
