-- The result of an event, as it is printed (own).
use Rattle.std.specs.Prelude.{ℕ, ◌≤◌, ◌++◌, Bool, true, false, List, length, slice_range, flat_map, codes, decimal, Option, Some, None, Ok, Err}
use Rattle.dccp_sum.specs.declared.packet_sum.SumFault.{SumFault}
use Rattle.dccp_sum.specs.declared.packet_sum.SumFault.TheVariants as sum
use Rattle.dccp_states.specs.declared.outcome.Why.{Why}
use Rattle.dccp_states.specs.declared.outcome.Why.TheVariants as why
use Rattle.dccp_states.specs.declared.outcome.Outcome.{Outcome}
use Rattle.dccp_states.specs.declared.outcome.Outcome.TheVariants.{Took, Dropped, Synced, WasReset, SentReset}
use Rattle.world_events.specs.declared.event.Event.{Event}
use Rattle.dccp_states.specs.declared.seen.Refusal.{Refusal}
use Rattle.dccp_states.specs.declared.seen.Refusal.TheVariants as refusal
use Rattle.dccp_states.specs.declared.seen.Seen.{Seen}
use Rattle.dccp_states.specs.declared.seen.Seen.TheVariants.{Called, Fired, Received}
use Rattle.tool_text.specs.Names.{malformed_name}
use Rattle.tool_text.specs.Text.{hex_or_dash}
use Rattle.schedule_text.specs.Printing.{event_text}

-- Names

-- the word for why a call was refused
abbrev pub refusal_name : Refusal → List ℕ
refusal_name refusal.NotFresh = codes "NotFresh"
refusal_name refusal.NotOpen = codes "NotOpen"
refusal_name refusal.TooLong = codes "TooLong"
refusal_name refusal.NotNegotiated = codes "NotNegotiated"
refusal_name refusal.WindowFull = codes "WindowFull"
refusal_name refusal.BadList = codes "BadList"
refusal_name refusal.NotOurs = codes "NotOurs"
refusal_name refusal.NotLive = codes "NotLive"

-- the word for what is wrong with a packet's checksum or its coverage
abbrev pub sum_word : SumFault → List ℕ
sum_word sum.CoverageTooLarge = codes "CoverageTooLarge"
sum_word sum.Wrong = codes "Wrong"

-- the word for why a packet was dropped; if its bytes or its checksum are wrong, the word for their fault
abbrev pub why_name : Why → List ℕ
why_name (why.Malformed fault) = malformed_name fault
why_name (why.Sum fault) = sum_word fault
why_name why.OtherFlow = codes "OtherFlow"
why_name why.StrayReset = codes "StrayReset"
why_name why.ShortOff = codes "ShortOff"
why_name why.BadSync = codes "BadSync"

-- Results

-- whether a timer that ran out had something to do
abbrev pub timer_text : Bool → List ℕ
timer_text true = codes "fired"
timer_text false = codes "idle"

-- a packet that was taken, and the data that it delivered
abbrev pub data_text : List ℕ → List ℕ
data_text bytes = codes "took data " ++ hex_or_dash bytes

-- what was taken, with the data that was delivered from the bytes of its frame
abbrev pub taken_text : List ℕ → Option (ℕ × ℕ) → List ℕ
taken_text bytes None = codes "took"
taken_text bytes (Some place) = data_text (slice_range bytes place.0 place.1)

-- a byte as a decimal number, after a space
abbrev pub decimal_byte : ℕ → List ℕ
decimal_byte byte = codes " " ++ decimal byte

-- a Reset that was sent, with its code and the three bytes of its data
abbrev pub reset_text : ℕ → List ℕ → List ℕ
reset_text code detail = codes "sent reset " ++ decimal code ++ flat_map decimal_byte detail

-- an outcome of a frame with these bytes
abbrev pub outcome_text : List ℕ → Outcome → List ℕ
outcome_text bytes (Took delivered) = taken_text bytes delivered
outcome_text bytes (Dropped why) = codes "dropped " ++ why_name why
outcome_text bytes (Synced number) = codes "synced " ++ decimal number
outcome_text bytes (WasReset code) = codes "was reset " ++ decimal code
outcome_text bytes (SentReset code detail) = reset_text code detail

-- the answer of a call, of a timer, or of an end that received these bytes
abbrev pub seen_text : List ℕ → Seen → List ℕ
seen_text bytes (Called (Ok _)) = codes "ok"
seen_text bytes (Called (Err fault)) = codes "refused " ++ refusal_name fault
seen_text bytes (Fired fired) = timer_text fired
seen_text bytes (Received outcome) = outcome_text bytes outcome

-- an event, under the number of its line in the input
abbrev pub told_text : ℕ → Event → List ℕ
told_text number event = decimal number ++ codes " " ++ event_text event

-- the result, after its event
abbrev pub result_text : List ℕ → Seen → List ℕ
result_text bytes seen = codes ": " ++ seen_text bytes seen ++ codes "\n"

-- the line of an event with its result
abbrev pub seen_line : ℕ → Event → Seen → List ℕ → List ℕ
seen_line number event seen bytes = told_text number event ++ result_text bytes seen

-- the result of a replay's frame, under the number of its line
abbrev pub result_line : ℕ → Seen → List ℕ → List ℕ
result_line number seen bytes = decimal number ++ result_text bytes seen

-- Data that is delivered is in the frame.

-- the first and the past-last index of data are in order and within these bytes
abbrev pub IsPlaceIn : List ℕ → Option (ℕ × ℕ) → Type 0
IsPlaceIn bytes None = Unit {0}
IsPlaceIn bytes (Some place) = (place.0 ≤ place.1) × (place.1 ≤ length bytes)

-- the data that an outcome delivers lie within these bytes; most outcomes deliver none
abbrev pub HasItsData : List ℕ → Outcome → Type 0
HasItsData bytes (Took delivered) = IsPlaceIn bytes delivered
HasItsData bytes (Dropped why) = Unit {0}
HasItsData bytes (Synced number) = Unit {0}
HasItsData bytes (WasReset code) = Unit {0}
HasItsData bytes (SentReset code detail) = Unit {0}

-- the result is possible for a frame with these bytes; calls and timers have no data
abbrev pub IsSeenOf : List ℕ → Seen → Type 0
IsSeenOf bytes (Called result) = Unit {0}
IsSeenOf bytes (Fired fired) = Unit {0}
IsSeenOf bytes (Received outcome) = HasItsData bytes outcome
