-- What the bars of a chart look like (own; SVG 1.1, and CSS for the colours).
use Rattle.std.specs.Prelude.{ℕ, List, codes}

-- The style of the windows: its colours, on light and on dark, its sheet, and what the bars mean, at the top.
unfoldable pub look : List ℕ
look = codes "<style>.sheet{fill:#fff}text{font:12px monospace;fill:#222}.panel{font-weight:bold}.at{fill:#777;text-anchor:middle}line{stroke:#999;stroke-width:1}.flight{fill:#6fa8dc}.window{fill:#1f7a3a}.fell{fill:#d23c3c;fill-opacity:.45}.lost{fill:#d23c3c}@media (prefers-color-scheme:dark){.sheet{fill:#16181c}text{fill:#ddd}.at{fill:#999}line{stroke:#777}.flight{fill:#3d78b4}.window{fill:#5fd07f}}</style><rect class='sheet' width='100%' height='100%'/>\n<rect class='window' x='40' y='17' width='24' height='3'/><text x='70' y='24'>window</text><rect class='flight' x='150' y='12' width='24' height='12'/><text x='180' y='24'>in flight</text><rect class='fell' x='280' y='12' width='24' height='12'/><text x='310' y='24'>the window fell</text><rect class='lost' x='450' y='15' width='5' height='6'/><text x='462' y='24'>sent here, never processed</text>\n"
