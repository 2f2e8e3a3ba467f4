-- Nothing is pending, or a line.
use Rattle.std.proofs.Common.{rules, ◌≤◌, ◌<◌, ◌+◌, min, sym}
use Rattle.dccp_io.proofs.NextLine.{next-line}
use Rattle.dccp_io.proofs.lines.first_in.Goals as goal

pub returns-clause-value : goal.returns-clause-value
returns-clause-value c =
    let some : 0 < c.line_length-line.result = search rules in
    let inside : c.args.given + min c.line_length-line.result 4097 ≤ 16777216 = search rules in
    let short : c.args.seen < 4097 = search rules in
    next-line c.args.given c.line_length-line.result c.args.pending.now c.line_length-line.ensures.value some inside (rw (sym c.requires.seen) short)
