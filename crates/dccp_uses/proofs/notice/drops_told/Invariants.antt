use Rattle.std.proofs.Common.{◌≡◌, ◌<◌}
use Rattle.data_dropped.specs.Drops.{code_at}
use Rattle.dccp_uses.specs.Notice.{drops_told}
use Rattle.dccp_uses.proofs.Numbering.{IsCounted}
use Rattle.dccp_uses.proofs.notice.drops_told.Given as goal

-- what is counted already, and what is still to be counted, add up to what is said
abbrev pub invariant-loop-left : goal.invariant-loop-left
invariant-loop-left l = IsCounted (drops_told l.reader l.report) l.reader.mark (code_at l.report.ack l.report.bytes) l.drops l.left l.number

abbrev pub decreases-loop-left : goal.decreases-loop-left
decreases-loop-left l = l.left
