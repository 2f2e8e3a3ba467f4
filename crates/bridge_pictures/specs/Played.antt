-- What `windows` draws of a schedule, which is played as `run` plays it (own).
use Rattle.std.specs.Prelude.{ℕ, nat_lt, Bool, is_some, if◌then◌else◌, List, [], length, codes, Option, Some, None}
use Rattle.ccid_two.specs.Kinds.{Both}
use Rattle.tool_jobs.specs.Scenes.{Scene}
use Rattle.tool_jobs.specs.Transcript.{first_play, run_job}
use Rattle.tool_jobs.specs.declared.run.play.Play.{Play}
use Rattle.tool_text.specs.Jobs.{Accepted, LinesResult, Job, Refused, LineVerdict, gone_through, line_text, refusal_told, text_apart}
use Rattle.tool_text.specs.declared.lines.refusals.LineRefusal.{LineRefusal}
use Rattle.two_ends.specs.Controlled.{ControlledWorld, end_of_side}
use Rattle.two_ends.specs.World.{half_of}
use Rattle.world_events.specs.declared.event.Side.TheVariants.{Client, Server}
use Rattle.bridge_pictures.specs.Graph.{GraphParts, counts_drawn, first_graph, graph_picture}
use Rattle.bridge_pictures.specs.Trace.{TraceParts, counts_of, end_told, end_watched, first_trace, loss_marks}

-- The windows of a world while they are drawn: the graph, and what is kept of both ends.
pub record WorldDrawing : Type 0 where
  pub graph : GraphParts
  pub client : TraceParts
  pub server : TraceParts

-- A schedule while its windows are drawn: how far it was played, and what was drawn.
pub record PlayState : Type 0 where
  pub play : Play
  pub drawn : WorldDrawing

-- before the first event
abbrev pub first_world_drawing : WorldDrawing
first_world_drawing = record { graph = first_graph; client = first_trace; server = first_trace }

-- before the first line
abbrev pub first_played : PlayState
first_played = record { play = first_play; drawn = first_world_drawing }

-- the column of an event that left this world
abbrev pub column_in_world : WorldDrawing → ControlledWorld Both → List ℕ → GraphParts
column_in_world d world said = counts_drawn d.graph (counts_of (end_of_side world Client)) (counts_of (end_of_side world Server)) said

-- the server after a column: what is written and kept of it
abbrev pub server_watched : WorldDrawing → ControlledWorld Both → WorldDrawing
server_watched d world =
    record d { graph = end_told d.graph d.server Server world; server = end_watched d.server d.graph.columns Server world }

-- what is written and kept after a column of the client, and then of the server
abbrev pub both_watched : WorldDrawing → ControlledWorld Both → WorldDrawing
both_watched d world =
    server_watched (record d { graph = end_told d.graph d.client Client world; client = end_watched d.client d.graph.columns Client world }) world

-- Draws the column of an event that left this world, with what is written about both ends.
unfoldable pub world_drawn : WorldDrawing → ControlledWorld Both → List ℕ → WorldDrawing
world_drawn d world said = both_watched (record d { graph = column_in_world d world said }) world

-- an event is drawn by the world that it left
abbrev pub drawn_in : PlayState → Option (ControlledWorld Both) → List ℕ → PlayState
drawn_in p None said = p
drawn_in p (Some world) said = record p { drawn = world_drawn p.drawn world said }

-- If a line said something, what `run` writes of it is drawn.
unfoldable pub event_drawn : PlayState → List ℕ → PlayState
event_drawn p said = if nat_lt 0 (length said) then drawn_in p p.play.world said else p

-- the same, and the schedule goes on from there
abbrev pub after_line : PlayState → Play → List ℕ → PlayState
after_line p next said = event_drawn (record p { play = next }) said

-- the result of a line, from its result in `run`
abbrev pub played_by : PlayState → LineVerdict Scene Play → LineVerdict (Unit {0}) PlayState
played_by p (Refused fault) = Refused fault
played_by p (Accepted deed next) = Accepted None (after_line p next (line_text run_job deed))

-- what is noted below the charts
abbrev pub notes_heading : List ℕ
notes_heading = codes "event, end, and its features as number=Here/There, * in CHANGING, ! in UNSTABLE"

-- The picture after the last event, which left this world. A frame is marked as lost if the other end never processed it.
unfoldable pub world_picture : WorldDrawing → ControlledWorld Both → List ℕ
world_picture d world =
    graph_picture d.graph notes_heading (loss_marks d.client (half_of world.world Server).processed) (loss_marks d.server (half_of world.world Client).processed)

-- the picture, from the world that the events left, if there were any
abbrev pub picture_in : WorldDrawing → Option (ControlledWorld Both) → List ℕ
picture_in d None = graph_picture d.graph notes_heading [] []
picture_in d (Some world) = world_picture d world

-- the whole picture
unfoldable pub played_picture : PlayState → List ℕ
played_picture p = picture_in p.drawn p.play.world

-- What `windows` makes of the lines: each is played, and the picture comes at the end.
abbrev pub windows_job : Job (Unit {0}) PlayState
windows_job = record { judged = λ p number line. played_by p (run_job.judged p.play number line); told = λ _. []; ending = played_picture }

-- the result of the lines of a schedule
abbrev pub windows_gone : List ℕ → LinesResult (Unit {0}) PlayState
windows_gone input = gone_through windows_job first_played input

-- What `windows` writes of a schedule: the picture, or nothing if a line is refused.
abbrev pub windows_text : List ℕ → List ℕ
windows_text input = text_apart windows_job (windows_gone input)

-- The line that is refused, if one is.
abbrev pub windows_refusal : List ℕ → Option LineRefusal
windows_refusal input = refusal_told (windows_gone input)

-- The schedule is refused at some line.
abbrev pub windows_refused : List ℕ → Bool
windows_refused input = is_some (windows_gone input).refusal

-- How many bytes of a schedule its accepted lines have.
abbrev pub windows_accepted : List ℕ → ℕ
windows_accepted input = (windows_gone input).accepted
