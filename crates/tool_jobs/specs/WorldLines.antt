-- What `run` writes for an event and for its two ends (own).
use Rattle.std.specs.Prelude.{ℕ, ◌++◌, List, [], slice_get, Option, Some, None}
use Rattle.ccid_two.specs.Kinds.{Both}
use Rattle.tool_jobs.specs.EndLines.{bytes_line, end_line}
use Rattle.two_ends.specs.Controlled.{ControlledWorld, end_of_side}
use Rattle.two_ends.specs.World.{WorldState, half_of}
use Rattle.two_ends.specs.declared.frames.SentFrame.{SentFrame}
use Rattle.world_events.specs.declared.event.Side.{Side}
use Rattle.world_events.specs.declared.event.Side.TheVariants.{Client, Server}
use Rattle.world_events.specs.declared.event.Event.{Event}
use Rattle.world_events.specs.declared.event.Event.TheVariants as event

-- the bytes of a frame that a side sent; none if there is no such frame
abbrev pub sent_bytes : Option SentFrame → List ℕ
sent_bytes None = []
sent_bytes (Some frame) = frame.bytes

-- The bytes that an event brought to an end, in a world that has the frame; none for a call.
abbrev pub arrived : WorldState → Event → List ℕ
arrived w (event.Deliver from index) = sent_bytes (slice_get (half_of w from).frames index)
arrived w event.Open = []
arrived w (event.Send side payload) = []
arrived w (event.SendEarly side payload) = []
arrived w (event.Prefer side feature located values) = []
arrived w (event.Timer side timer) = []
arrived w (event.Close side) = []
arrived w (event.Abort side) = []

-- the line of a frame that a side sent, with the frame's name; nothing if there is no such frame
abbrev pub sent_frame_line : Side → ℕ → Option SentFrame → List ℕ
sent_frame_line side index None = []
sent_frame_line side index (Some frame) = bytes_line side index frame.bytes

-- The line of the frame that a side sent in a step before which it had sent this many; nothing if it sent none.
abbrev pub sent_line : WorldState → Side → ℕ → List ℕ
sent_line w side before = sent_frame_line side before (slice_get (half_of w side).frames before)

-- the last lines of a schedule that was not refused, the line of the client first
abbrev pub end_lines : ControlledWorld Both → List ℕ
end_lines w = end_line Client (end_of_side w Client) ++ end_line Server (end_of_side w Server)
