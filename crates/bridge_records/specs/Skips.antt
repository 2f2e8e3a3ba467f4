-- What is skipped of a pcapng file, counted (own).
use Rattle.std.specs.Prelude.{ℕ, ◌==◌, if◌then◌else◌}
use Rattle.dccp_io.specs.Counts.{one_more}
use Rattle.bridge_records.specs.declared.skips.Skips.{Skips}
use Rattle.bridge_records.specs.declared.skips.Tally.{Tally}

-- nothing of a kind is skipped
abbrev pub no_tally : Tally
no_tally = record { count = 0; first = 0 }

-- nothing at all is skipped
abbrev pub no_skips : Skips
no_skips = record { links = no_tally; long = no_tally; blocks = no_tally }

-- one more, about which something is kept if it is the first
abbrev pub tally_with : Tally → ℕ → Tally
tally_with t told = record { count = one_more t.count; first = if t.count == 0 then told else t.first }
