-- A line that was read is not too long.
use Rattle.std.proofs.Common.{◌≡◌, sym, ℕ, ◌≤◌, List, length}
use Rattle.std.specs.Prelude.{IfOk, Option, Result, Ok, Err}
use Rattle.dccp_ecn.specs.declared.event.EcnEvent.{EcnEvent}
use Rattle.tool_text.specs.declared.words.faults.LineFault.{LineFault}
use Rattle.tool_text.specs.Lines.{clean, text_read}
use Rattle.tool_text.proofs.LineLaws.{clean-ok}
use Rattle.tool_text.proofs.RowLaws.{then-ok}
use Rattle.tool_jobs.specs.Forms.{ecn_row, read_ecn_line}

pub read-short : (line : List ℕ) (result : Result (Option EcnEvent) LineFault) → result ≡ read_ecn_line line → IfOk result (λ said. length line ≤ 4096)
read-short line (Ok said) is =
    let found = then-ok (clean line) (text_read ecn_row.said line) said (sym is) in
    (clean-ok line tt found.0).short
read-short line (Err fault) is = tt
