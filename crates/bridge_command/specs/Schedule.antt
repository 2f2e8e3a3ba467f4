-- The schedule of a campaign's seed, as `run` reads it (own).
use Rattle.std.specs.Prelude.{ℕ, ◌++◌, List, flat_map, codes}
use Rattle.fault_campaign.specs.Draws.{after_two, generator, initial_number}
use Rattle.fault_campaign.specs.Seeded.{seeded_events}
use Rattle.schedule_text.specs.Printing.{event_text, line_words}
use Rattle.schedule_text.specs.declared.line.Line.TheVariants as line
use Rattle.tool_text.specs.Words.{joined}
use Rattle.world_events.specs.declared.event.Event.{Event}
use Rattle.world_events.specs.declared.event.Side.{Side}
use Rattle.world_events.specs.declared.event.Side.TheVariants.{Client, Server}

-- the line of a side's initial sequence number
abbrev pub number_line : Side → ℕ → List ℕ
number_line side number = joined (line_words (line.Iss side number)) ++ codes "\n"

-- the line of an event
abbrev pub event_line : Event → List ℕ
event_line event = event_text event ++ codes "\n"

-- the lines of events
abbrev pub event_lines : List Event → List ℕ
event_lines events = flat_map event_line events

-- both initial sequence numbers that a seed draws, the client's first
abbrev pub number_lines : ℕ → List ℕ
number_lines seed = number_line Client (initial_number (generator seed)) ++ number_line Server (initial_number (after_two (generator seed)))

-- The schedule of a seed with this many events. Its ends are the usual ones except for their initial sequence numbers.
unfoldable pub seed_text : ℕ → ℕ → List ℕ
seed_text seed events = number_lines seed ++ event_lines (seeded_events seed events)
