-- The chart of one end: a column for each event, with the window and what is in flight (own).
use Rattle.std.specs.Prelude.{ℕ, ◌+◌, nat_lt, max, if◌then◌else◌, List, [], ◌∷◌, ◌++◌, codes, decimal}
use Rattle.std.specs.List.{concat}
use Rattle.bridge_pictures.specs.Bars.{bar, downward, packets_high, upward}
use Rattle.bridge_pictures.specs.Places.{point}
use Rattle.bridge_pictures.specs.Svg.{cut_mark, label_front, line, words}
use Rattle.bridge_pictures.specs.declared.windows.chart.Counts.{Counts}
use Rattle.bridge_pictures.specs.declared.windows.chart.Span.{Span}

-- The chart of one end: the window that was drawn last, the most packets that were drawn, and the bars.
pub record ChartParts : Type 0 where
  pub shown : ℕ
  pub tallest : ℕ
  pub body : List ℕ

-- before the first column
abbrev pub first_chart : ChartParts
first_chart = record { shown = 0; tallest = 0; body = [] }

-- what a column shows: what happened, the window, and what is in flight
unfoldable pub column_words : List ℕ → Counts → List ℕ
column_words happened counts =
    concat (label_front happened ∷ cut_mark happened ∷ codes "\nwindow " ∷ decimal counts.window ∷ codes " flight " ∷ decimal counts.flight ∷ [])

-- a column's mark if the window is smaller than the one that was drawn last
abbrev pub fall : ChartParts → ℕ → Counts → List ℕ → List ℕ
fall c column counts title = if nat_lt counts.window c.shown then bar (codes "fell") column 0 (packets_high c.shown) title else []

-- the bars of a column
unfoldable pub bars : ChartParts → ℕ → Counts → List ℕ → List ℕ
bars c column counts title =
    fall c column counts title ++ bar (codes "flight") column 0 (packets_high counts.flight) title
    ++ bar (codes "window") column (packets_high counts.window) 2 title

-- the same chart with the bars of a column
abbrev pub with_bars : ChartParts → ℕ → Counts → List ℕ → ChartParts
with_bars c column counts title = record c { body = c.body ++ bars c column counts title }

-- Draws a column: the window, what is in flight, and whether the window fell.
unfoldable pub column_drawn : ChartParts → ℕ → Counts → List ℕ → ChartParts
column_drawn c column counts happened =
    record (with_bars c column counts (column_words happened counts)) {
      shown = counts.window;
      tallest = max (max c.tallest counts.window) counts.flight;
    }

-- how high the chart is
abbrev pub chart_high : ChartParts → ℕ
chart_high c = packets_high c.tallest + 14

-- what the chart is called, and how many packets its tallest bar has
unfoldable pub panel_words : List ℕ → ℕ → List ℕ
panel_words title tallest = concat (title ∷ codes ": packets of data, up to " ∷ decimal tallest ∷ [])

-- these words, above the chart
unfoldable pub panel : ChartParts → List ℕ → ℕ → List ℕ
panel c title top = words (codes "panel") (point 40 top) (panel_words title c.tallest)

-- the line below the bars
unfoldable pub base : ℕ → ℕ → List ℕ
base bottom right = line (codes "base") (point 40 bottom) (point right bottom) (codes "no packets")

-- the bars, and below their line these marks
unfoldable pub chart_body : ChartParts → ℕ → List ℕ → List ℕ
chart_body c bottom marks = upward bottom c.body ++ downward bottom marks

-- The chart with its name and its marks.
unfoldable pub chart : ChartParts → List ℕ → Span → List ℕ → List ℕ
chart c title span marks = panel c title span.top ++ chart_body c span.bottom marks ++ base span.bottom span.right
