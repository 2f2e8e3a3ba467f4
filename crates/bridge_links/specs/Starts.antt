-- Where IP begins.
use Rattle.std.specs.Prelude.{ℕ, ◌+◌, ◌/◌, ◌&&◌, ◌==◌, nat_lt, if◌then◌else◌, List, length, slice_index, Option, Some, None}

-- IP of this version begins at a place: the first four bits there are the version
abbrev pub ip_at : ℕ → ℕ → List ℕ → Option ℕ
ip_at version start bytes = if nat_lt start (length bytes) && slice_index bytes start / 16 == version then Some start else None

-- the first place, or else the second
abbrev pub start_or : Option ℕ → Option ℕ → Option ℕ
start_or (Some start) other = Some start
start_or None other = other

-- IP of either version begins at a place
abbrev pub ip_at_either : ℕ → List ℕ → Option ℕ
ip_at_either start bytes = start_or (ip_at 4 start bytes) (ip_at 6 start bytes)

-- a place that was found in the bytes after this many, counted from the beginning
abbrev pub start_after : ℕ → Option ℕ → Option ℕ
start_after size None = None
start_after size (Some start) = Some (size + start)
