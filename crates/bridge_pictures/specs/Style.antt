-- What a picture looks like (own; SVG 1.1, and CSS for the colours).
use Rattle.std.specs.Prelude.{ℕ, List, codes}

-- What the colours of lines mean, at the top.
unfoldable pub key : List ℕ
key = codes "<line class='CLOSED' x1='20' y1='20' x2='44' y2='20'/><text x='50' y='24'>CLOSED</text><line class='LISTEN' x1='130' y1='20' x2='154' y2='20'/><text x='160' y='24'>LISTEN</text><line class='REQUEST' x1='240' y1='20' x2='264' y2='20'/><text x='270' y='24'>REQUEST</text><line class='RESPOND' x1='350' y1='20' x2='374' y2='20'/><text x='380' y='24'>RESPOND</text><line class='PARTOPEN' x1='460' y1='20' x2='484' y2='20'/><text x='490' y='24'>PARTOPEN</text><line class='OPEN' x1='570' y1='20' x2='594' y2='20'/><text x='600' y='24'>OPEN</text><line class='CLOSEREQ' x1='680' y1='20' x2='704' y2='20'/><text x='710' y='24'>CLOSEREQ</text><line class='CLOSING' x1='790' y1='20' x2='814' y2='20'/><text x='820' y='24'>CLOSING</text><line class='TIMEWAIT' x1='900' y1='20' x2='924' y2='20'/><text x='930' y='24'>TIMEWAIT</text>\n"

-- The style of a picture: its arrow heads, one that came and one that never did; its colours, on light and on dark; and its sheet.
unfoldable pub style : List ℕ
style = codes "<defs><marker id='head' viewBox='0 0 8 8' refX='8' refY='4' markerWidth='7' markerHeight='7' orient='auto'><path d='M0 0L8 4L0 8z' class='tip'/></marker><marker id='cross' viewBox='0 0 8 8' refX='4' refY='4' markerWidth='8' markerHeight='8' orient='auto'><path d='M1 1L7 7M7 1L1 7' class='x'/></marker></defs>\n<style>.sheet{fill:#fff}text{font:12px monospace;fill:#222}.left{text-anchor:end}.name{text-anchor:middle;font-weight:bold}.peer{text-anchor:end;font-weight:bold}line{stroke:#555;stroke-width:1.4}.took,.dropped,.synced,.was-reset,.sent-reset,.again,.sent,.late{marker-end:url(#head)}.tip{fill:#555}.dropped{stroke:#999;stroke-dasharray:6 4}.synced{stroke:#c60}.was-reset,.sent-reset{stroke:#c22}.again,.late{stroke:#06c;stroke-dasharray:2 3}.lost{stroke:#c22;stroke-dasharray:6 4;marker-end:url(#cross)}.x{stroke:#c22;stroke-width:1.4;fill:none}.CLOSED,.LISTEN,.REQUEST,.RESPOND,.PARTOPEN,.OPEN,.CLOSEREQ,.CLOSING,.TIMEWAIT{stroke-width:5}.CLOSED{stroke:#bbb}.LISTEN{stroke:#777}.REQUEST{stroke:#e8a000}.RESPOND{stroke:#b060d0}.PARTOPEN{stroke:#70b8e8}.OPEN{stroke:#2a9d4a}.CLOSEREQ{stroke:#d08060}.CLOSING{stroke:#c8503c}.TIMEWAIT{stroke:#8a6040}@media (prefers-color-scheme:dark){.sheet{fill:#16181c}text{fill:#ddd}line{stroke:#aaa}.tip{fill:#aaa}.synced{stroke:#f90}.was-reset,.sent-reset,.lost,.x{stroke:#f66}.again,.late{stroke:#6af}.CLOSED{stroke:#666}.LISTEN{stroke:#999}}</style><rect class='sheet' width='100%' height='100%'/>\n"
