-- The graph: a chart for each end over the same columns, and below them the values of features (own).
use Rattle.std.specs.Prelude.{ℕ, ◌+◌, ◌*◌, ◌%◌, ◌==◌, nat_lt, max, if◌then◌else◌, List, [], ◌++◌, codes, decimal}
use Rattle.bridge_pictures.specs.Bars.{column_at, downward}
use Rattle.bridge_pictures.specs.Chart.{ChartParts, chart, chart_high, column_drawn, first_chart}
use Rattle.bridge_pictures.specs.Look.{look}
use Rattle.bridge_pictures.specs.Places.{point}
use Rattle.bridge_pictures.specs.Svg.{front, words}
use Rattle.bridge_pictures.specs.declared.svg.Point.{Point}
use Rattle.bridge_pictures.specs.declared.windows.chart.Counts.{Counts}
use Rattle.bridge_pictures.specs.declared.windows.chart.Span.{Span}

-- A graph while it is drawn: how many columns it has, both charts, the numbers of columns, how many notes it has, and
-- their lines.
pub record GraphParts : Type 0 where
  pub columns : ℕ
  pub client : ChartParts
  pub server : ChartParts
  pub axis : List ℕ
  pub notes : ℕ
  pub told : List ℕ

-- before the first column
abbrev pub first_graph : GraphParts
first_graph = record { columns = 0; client = first_chart; server = first_chart; axis = []; notes = 0; told = [] }

-- one more of these
abbrev pub one_further : ℕ → ℕ
one_further count = if nat_lt count 4294967295 then count + 1 else count

-- how far a note lies below the first
abbrev pub note_at : ℕ → ℕ
note_at notes = 18 * notes

-- the number of a column, below it
unfoldable pub column_number : ℕ → List ℕ
column_number column = words (codes "at") (point (column_at column) 0) (decimal column)

-- the number of every twentieth column, below it
abbrev pub axis_mark : ℕ → List ℕ
axis_mark column = if column % 20 == 0 then column_number column else []

-- a column of this number was drawn
abbrev pub column_of : GraphParts → ℕ → Counts → Counts → List ℕ → GraphParts
column_of g column client server happened =
    record g {
      columns = column;
      client = column_drawn g.client column client happened;
      server = column_drawn g.server column server happened;
      axis = g.axis ++ axis_mark column;
    }

-- Draws a column: what both ends count after this happened.
unfoldable pub counts_drawn : GraphParts → Counts → Counts → List ℕ → GraphParts
counts_drawn g client server happened = column_of g (one_further g.columns) client server happened

-- Notes a line below the charts.
unfoldable pub noted_below : GraphParts → List ℕ → GraphParts
noted_below g note = record g { notes = one_further g.notes; told = g.told ++ words (codes "note") (point 40 (note_at g.notes)) note }

-- where the line of the client's chart is
abbrev pub client_bottom : GraphParts → ℕ
client_bottom g = 60 + chart_high g.client

-- where the line of the server's chart is
abbrev pub server_bottom : GraphParts → ℕ
server_bottom g = client_bottom g + 60 + chart_high g.server

-- how far the columns go to the right
abbrev pub right_of : GraphParts → ℕ
right_of g = column_at (one_further g.columns)

-- the size of the picture
abbrev pub graph_size : GraphParts → Point
graph_size g = point (max 900 (right_of g + 60)) (server_bottom g + 82 + note_at g.notes + 20)

-- where the client's chart is
abbrev pub client_span : GraphParts → Span
client_span g = record { top = 60; bottom = client_bottom g; right = right_of g }

-- where the server's chart is
abbrev pub server_span : GraphParts → Span
server_span g = record { top = client_bottom g + 60; bottom = server_bottom g; right = right_of g }

-- the client's chart
unfoldable pub client_chart : GraphParts → List ℕ → List ℕ
client_chart g marks = chart g.client (codes "client") (client_span g) marks

-- the server's chart
unfoldable pub server_chart : GraphParts → List ℕ → List ℕ
server_chart g marks = chart g.server (codes "server") (server_span g) marks

-- what is below both charts: the numbers of columns
unfoldable pub columns_numbered : GraphParts → List ℕ
columns_numbered g = downward (server_bottom g + 26) g.axis

-- and below these the notes, under their heading
unfoldable pub notes_told : GraphParts → List ℕ → List ℕ
notes_told g heading =
    words (codes "panel") (point 40 (server_bottom g + 60)) heading ++ downward (server_bottom g + 82) g.told

-- The picture: both charts with these marks below their lines, and below them notes under this heading.
unfoldable pub graph_picture : GraphParts → List ℕ → List ℕ → List ℕ → List ℕ
graph_picture g heading client server =
    front (graph_size g) ++ look ++ client_chart g client ++ server_chart g server ++ columns_numbered g ++ notes_told g heading ++ codes "</svg>\n"
