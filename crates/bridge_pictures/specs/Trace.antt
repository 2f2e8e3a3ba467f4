-- What is kept of an end of a schedule while its windows are drawn (own).
use Rattle.std.specs.Prelude.{ℕ, ◌==◌, if◌then◌else◌, List, [], ◌∷◌, ◌++◌, length, flat_map, slice_get, codes, decimal, Option, Some, None}
use Rattle.std.specs.List.{concat, list_any}
use Rattle.std.specs.Str.{bytes_eq}
use Rattle.ccid_two.specs.Kinds.{Both, kinds_control}
use Rattle.dccp_endpoint.specs.Controlled.{End, window_of, in_flight_of}
use Rattle.schedule_text.specs.Names.{side_name}
use Rattle.tool_jobs.specs.EndLines.{end_rows}
use Rattle.two_ends.specs.Controlled.{ControlledWorld, end_of_side}
use Rattle.two_ends.specs.World.{half_of}
use Rattle.two_ends.specs.declared.frames.SentFrame.{SentFrame}
use Rattle.world_events.specs.declared.event.Side.{Side}
use Rattle.bridge_pictures.specs.Bars.{bar}
use Rattle.bridge_pictures.specs.Graph.{GraphParts, noted_below}
use Rattle.bridge_pictures.specs.declared.windows.chart.Counts.{Counts}
use Rattle.bridge_pictures.specs.declared.windows.trace.Departure.{Departure}

-- What is kept of an end: the values of its features that were written last, and the frames that it sent.
pub record TraceParts : Type 0 where
  pub rows : List ℕ
  pub sent : List Departure

-- before the first event
abbrev pub first_trace : TraceParts
first_trace = record { rows = []; sent = [] }

-- what an end's congestion control counts
abbrev pub counts_of : End Both → Counts
counts_of end =
    record { window = window_of kinds_control end.congestion; flight = in_flight_of kinds_control end.congestion }

-- the values of an end's features, under the number of a column
unfoldable pub rows_note : ℕ → Side → List ℕ → List ℕ
rows_note column side rows = concat (decimal column ∷ codes " " ∷ side_name side ∷ rows ∷ [])

-- one more frame was sent, if there is one
abbrev pub frame_noted_if : TraceParts → ℕ → Option SentFrame → TraceParts
frame_noted_if w column None = w
frame_noted_if w column (Some frame) = record w { sent = w.sent ++ record { column = column; number = frame.number } ∷ [] }

-- the frame that the end sent last, if it is a further one
abbrev pub frame_noted : TraceParts → ℕ → List SentFrame → TraceParts
frame_noted w column frames = frame_noted_if w column (slice_get frames (length w.sent))

-- the values of an end's features are written if they changed
unfoldable pub rows_told : GraphParts → TraceParts → Side → List ℕ → GraphParts
rows_told g w side rows = if bytes_eq rows w.rows then g else noted_below g (rows_note g.columns side rows)

-- the values that were written last
unfoldable pub rows_kept : TraceParts → List ℕ → TraceParts
rows_kept w rows = if bytes_eq rows w.rows then w else record w { rows = rows }

-- an end with the frame that it sent last
abbrev pub end_noted : TraceParts → ℕ → Side → ControlledWorld Both → TraceParts
end_noted w column side world = frame_noted w column (half_of world.world side).frames

-- the values of an end's features in a world
abbrev pub rows_in : ControlledWorld Both → Side → List ℕ
rows_in world side = end_rows (end_of_side world side).state

-- What is written about an end below the charts.
unfoldable pub end_told : GraphParts → TraceParts → Side → ControlledWorld Both → GraphParts
end_told g w side world = rows_told g (end_noted w g.columns side world) side (rows_in world side)

-- What is kept of an end after a column.
unfoldable pub end_watched : TraceParts → ℕ → Side → ControlledWorld Both → TraceParts
end_watched w column side world = rows_kept (end_noted w column side world) (rows_in world side)

-- the mark of a frame that is not among the numbers which the other end processed
abbrev pub loss_mark : List ℕ → Departure → List ℕ
loss_mark processed sent =
    if list_any (λ number. number == sent.number) processed then [] else bar (codes "lost") sent.column 3 6 (codes "never processed")

-- the marks of those of an end's frames
unfoldable pub loss_marks : TraceParts → List ℕ → List ℕ
loss_marks w processed = flat_map (loss_mark processed) w.sent
