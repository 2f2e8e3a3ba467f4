-- Where the parts of a ladder are, and what they look like (own).
use Rattle.std.specs.Prelude.{ℕ, ◌+◌, ◌*◌, Bool, if◌then◌else◌, List, codes}
use Rattle.dccp_states.specs.declared.phase.Phase.{Phase}
use Rattle.world_events.specs.Actors.{other}
use Rattle.world_events.specs.declared.event.Side.{Side}
use Rattle.world_events.specs.declared.event.Side.TheVariants.{Client, Server}
use Rattle.bridge_pictures.specs.Phases.{phase_class}
use Rattle.bridge_pictures.specs.Svg.{label, line}
use Rattle.bridge_pictures.specs.declared.ladder.phases.Fate.{Fate}
use Rattle.bridge_pictures.specs.declared.ladder.phases.Fate.TheVariants as comes
use Rattle.bridge_pictures.specs.declared.svg.Point.{Point}

-- a place this far from the left edge and from the top
abbrev pub point : ℕ → ℕ → Point
point x y = record { x = x; y = y }

-- the height of a row
abbrev pub height_of : ℕ → ℕ
height_of row = 60 + 18 * row

-- how far a side's line lies from the left edge
abbrev pub line_of : Side → ℕ
line_of Client = 460
line_of Server = 860

-- the place of a side's line in a row
abbrev pub line_place : Side → ℕ → Point
line_place side row = point (line_of side) (height_of row)

-- the place of a text beside a side's line: the client's to the left, the server's to the right
abbrev pub label_at : Side → ℕ → Point
label_at Client row = point 450 (height_of row + 4)
label_at Server row = point 870 (height_of row + 4)

-- which end of a text is at its place beside a side's line
abbrev pub side_class : Side → List ℕ
side_class Client = codes "left"
side_class Server = codes "right"

-- how the arrow of a frame looks, from what became of it
abbrev pub came_class : Fate → List ℕ
came_class comes.Took = codes "took"
came_class comes.Dropped = codes "dropped"
came_class comes.Synced = codes "synced"
came_class comes.WasReset = codes "was-reset"
came_class comes.SentReset = codes "sent-reset"

-- how the arrow of a frame looks, or that of a repeat
abbrev pub arrow_class : Fate → Bool → List ℕ
arrow_class came again = if again then codes "again" else came_class came

-- A text beside a side's line.
unfoldable pub text_beside : Side → ℕ → List ℕ → List ℕ
text_beside side row words = label (side_class side) (label_at side row) words

-- The arrow of a frame that this side sent in one row, and that came in another.
unfoldable pub arrow : List ℕ → Side → ℕ → ℕ → List ℕ → List ℕ
arrow class from sent came words = line class (line_place from sent) (line_place (other from) came) words

-- A piece of a side's line, in the colour of its phase.
unfoldable pub segment : Side → Phase → ℕ → ℕ → List ℕ
segment side phase since row = line (phase_class phase) (line_place side since) (line_place side row) (phase_class phase)

-- A side's line down to this row, if no phase is known.
unfoldable pub plain : Side → ℕ → List ℕ
plain side row = line (codes "plain") (line_place side 0) (line_place side row) (codes "its phases are not told")

-- The arrow of a frame that never came, which ends half way.
unfoldable pub lost : Side → ℕ → List ℕ
lost side row = line (codes "lost") (line_place side row) (point 660 (height_of row + 18)) (codes "never came")

-- the place of what a side's line is called
abbrev pub above : Side → Point
above side = point (line_of side) 48

-- the size of a ladder with this many rows
abbrev pub ladder_size : ℕ → Point
ladder_size rows = point 1320 (height_of rows + 40)

-- What a side's line is called, above it.
unfoldable pub name : Side → List ℕ → List ℕ
name side words = label (codes "name") (above side) words
