-- What `replay` writes for an input if its end has a receive buffer, which an application reads, and may stop reading (own).
use Rattle.std.specs.Prelude.{ℕ, ◌++◌, Bool, ◌||◌, if◌then◌else◌, is_some, List, [], ◌∷◌, codes, decimal, Option, Some, None, Result}
use Rattle.std.specs.Str.{bytes_eq}
use Rattle.ccid_two.specs.Kinds.{Both, at_first, kinds_control}
use Rattle.data_dropped.specs.Buffering.{BufferedState, BufferedCall, BufferedStep, begins_buffered, beside, buffers}
use Rattle.data_dropped.specs.Inbox.{KeptData, stopping, taking}
use Rattle.data_dropped.specs.declared.answers.Arrival.{Arrival}
use Rattle.data_dropped.specs.declared.answers.Arrival.TheVariants.{Kept, Dropped}
use Rattle.dccp_endpoint.specs.Calling.{opens}
use Rattle.dccp_endpoint.specs.Controlled.{with_control}
use Rattle.dccp_states.specs.declared.calls.OpenFault.{OpenFault}
use Rattle.dccp_states.specs.declared.outcome.Outcome.{Outcome}
use Rattle.dccp_states.specs.declared.seen.Seen.TheVariants as seen
use Rattle.world_events.specs.declared.event.Side.{Side}
use Rattle.schedule_text.specs.Results.{result_line}
use Rattle.tool_text.specs.Text.{hex_or_dash}
use Rattle.tool_jobs.specs.Replay.{ReplayStep, Acts, HeedStep, opened_line, replay_config, replay_of_input, text_of_replay}

-- the line of the call `open`, and the end after the call; its inbox is as it was
abbrev pub buffered_opened : BufferedCall Both (Result (Unit {0}) OpenFault) → ReplayStep (BufferedState Both)
buffered_opened step = record { text = opened_line step.answer; after = step.after; frame = step.frame }

-- the line of data that were dropped, by their code
abbrev pub dropped_text : ℕ → ℕ → List ℕ
dropped_text number code = decimal number ++ codes ": took dropped " ++ decimal code ++ codes "\n"

-- The line of what became of a frame: data that were dropped are shown by their code, and all else as for any end.
abbrev pub arrival_line : ℕ → List ℕ → Outcome → Option Arrival → List ℕ
arrival_line number bytes outcome None = result_line number (seen.Received outcome) bytes
arrival_line number bytes outcome (Some Kept) = result_line number (seen.Received outcome) bytes
arrival_line number bytes outcome (Some (Dropped code)) = dropped_text number code

-- that line, and the end and its inbox after the bytes that arrived
abbrev pub buffered_heard : ℕ → List ℕ → BufferedStep Both → ReplayStep (BufferedState Both)
buffered_heard number bytes step = record { text = arrival_line number bytes step.outcome step.arrival; after = step.after; frame = step.frame }

-- the line of data that the application reads
abbrev pub read_item_line : ℕ → List ℕ → List ℕ
read_item_line number payload = decimal number ++ codes ": read " ++ hex_or_dash payload ++ codes "\n"

-- the line of what the application reads: the data of the first item, if one is held
abbrev pub item_line : ℕ → List KeptData → List ℕ
item_line number [] = decimal number ++ codes ": empty\n"
item_line number (item ∷ items) = read_item_line number item.payload

-- the application takes the first item
abbrev pub item_read : BufferedState Both → ℕ → HeedStep (BufferedState Both)
item_read b number = record { text = item_line number b.inbox.items; after = record { end = b.end; inbox = taking b.inbox } }

-- the application stops listening
abbrev pub reading_stopped : BufferedState Both → ℕ → HeedStep (BufferedState Both)
reading_stopped b number = record { text = decimal number ++ codes ": ok\n"; after = record { end = b.end; inbox = stopping b.inbox } }

-- Its own lines are `read` and `stop`, each a line of only that word.
abbrev pub buffered_acts : Acts (BufferedState Both)
buffered_acts = record {
  opening = λ b. buffered_opened (beside b.inbox (with_control kinds_control b.end.congestion (opens b.end.state)));
  hearing = λ b number bytes. buffered_heard number bytes (buffers kinds_control b bytes);
  is_own = λ line. bytes_eq line (codes "read") || bytes_eq line (codes "stop");
  heeding = λ b number line. if bytes_eq line (codes "read") then item_read b number else reading_stopped b number;
  standing = λ b. b.end;
}

-- a new end of a side, with its offers or without, and an empty inbox for this many packets
abbrev pub buffered_end : Side → Bool → ℕ → BufferedState Both
buffered_end side plain capacity = begins_buffered kinds_control (replay_config side plain) at_first capacity

-- What `replay` then writes for an input.
abbrev pub buffered_text : Side → Bool → ℕ → List ℕ → List ℕ
buffered_text side plain capacity input = text_of_replay buffered_acts side (buffered_end side plain capacity) input

-- The input is refused at some line.
abbrev pub buffered_refused : Side → Bool → ℕ → List ℕ → Bool
buffered_refused side plain capacity input = is_some (replay_of_input buffered_acts side (buffered_end side plain capacity) input).refusal

-- How many bytes the accepted lines of an input have: those before the first that is refused.
abbrev pub buffered_accepted : Side → Bool → ℕ → List ℕ → ℕ
buffered_accepted side plain capacity input = (replay_of_input buffered_acts side (buffered_end side plain capacity) input).accepted
