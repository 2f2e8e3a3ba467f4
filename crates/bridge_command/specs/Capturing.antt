-- What `capture` writes of a transcript: a capture with a record for each frame that was sent, or that came by the transcript (own).
use Rattle.std.specs.Prelude.{ℕ, Bool, false, is_some, List, [], ◌++◌, Option, Some, None, Result, Ok, Err}
use Rattle.bridge_records.specs.Writing.{file_header, raw_record}
use Rattle.dccp_listener.specs.declared.peer.Peer.{Peer}
use Rattle.schedule_text.specs.declared.line.FrameLine.{FrameLine}
use Rattle.tool_jobs.specs.Ends.{arriving}
use Rattle.tool_text.specs.Jobs.{Accepted, LinesResult, Job, Refused, LineVerdict, gone_through, refusal_told, text_apart}
use Rattle.tool_text.specs.declared.lines.refusals.LineRefusal.{LineRefusal}
use Rattle.tool_text.specs.declared.words.faults.LineFault.{LineFault}
use Rattle.world_events.specs.Actors.{other}
use Rattle.world_events.specs.declared.event.Side.TheVariants.{Client, Server}
use Rattle.bridge_command.specs.declared.capture.capturing.Clock.{Clock}
use Rattle.bridge_command.specs.declared.capture.lines.TranscriptLine.{TranscriptLine}
use Rattle.bridge_command.specs.declared.capture.lines.TranscriptLine.TheVariants as told
use Rattle.bridge_command.specs.TranscriptLines.{told_of_line}
use Rattle.bridge_command.specs.FrameReading.{travels}
use Rattle.bridge_command.specs.FrameRecords.{TimedFrame, frame_record, travel_from, travel_of}
use Rattle.bridge_command.specs.declared.capture.records.Travel.{Travel}

-- before the first line: a single end is a server unless it opens
abbrev pub first_clock : Clock
first_clock = record { seconds = 0; alone = Server }

-- a frame that goes this way at this time
abbrev pub timed : Clock → Travel → List ℕ → TimedFrame
timed clock travel frame = record { seconds = clock.seconds; travel = travel; frame = frame }

-- the way of a frame that came: from a peer of a listener, or from the other side to a single end
abbrev pub travel_in : Clock → Option Peer → Travel
travel_in clock (Some peer) = travel_from peer
travel_in clock None = travel_of (other clock.alone)

-- a frame that comes this way at this time, whose checksum is set if its line says so
abbrev pub timed_arrival : Clock → Travel → FrameLine → TimedFrame
timed_arrival clock travel frame = timed clock travel (arriving (travels travel) frame)

-- A line with a number sets the time, a line with a frame has a record, and a single end that opens is a client.
abbrev pub by_told : Clock → Result (Option TranscriptLine) LineFault → LineVerdict TimedFrame Clock
by_told clock (Err fault) = Refused fault
by_told clock (Ok None) = Accepted None clock
by_told clock (Ok (Some told.Other)) = Accepted None clock
by_told clock (Ok (Some told.Opened)) = Accepted None (record clock { alone = Client })
by_told clock (Ok (Some (told.Number number))) = Accepted None (record clock { seconds = number })
by_told clock (Ok (Some (told.Sent travel frame))) = Accepted (Some (timed clock travel frame)) clock
by_told clock (Ok (Some (told.Came peer frame))) = Accepted (Some (timed_arrival clock (travel_in clock peer) frame)) clock

-- A line of a transcript, without its newline.
unfoldable pub transcript_judged : Clock → ℕ → List ℕ → LineVerdict TimedFrame Clock
transcript_judged clock number line = by_told clock (told_of_line line)

-- What `capture` makes of the lines: a frame's text is its record, and nothing follows the last.
abbrev pub capture_job : Job TimedFrame Clock
capture_job = record { judged = transcript_judged; told = λ f. raw_record (frame_record f); ending = λ clock. [] }

-- the result of the lines of a transcript
abbrev pub transcript_gone : List ℕ → LinesResult TimedFrame Clock
transcript_gone input = gone_through capture_job first_clock input

-- What `capture` writes for an input: the file header, and the records.
abbrev pub frames_capture : List ℕ → List ℕ
frames_capture input = file_header false ++ text_apart capture_job (transcript_gone input)

-- The line that is refused, if one is.
abbrev pub transcript_refusal : List ℕ → Option LineRefusal
transcript_refusal input = refusal_told (transcript_gone input)

-- The input is refused at some line.
abbrev pub transcript_refused : List ℕ → Bool
transcript_refused input = is_some (transcript_gone input).refusal

-- How many bytes of an input the accepted lines have, which are those before the first refused one.
abbrev pub transcript_accepted : List ℕ → ℕ
transcript_accepted input = (transcript_gone input).accepted
