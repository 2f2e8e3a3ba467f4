use Rattle.std.proofs.Common.{◌≡◌, Some}
use Rattle.data_dropped.specs.Drops.{code_at}
use Rattle.dccp_uses.specs.DropRecord.{all_recorded, report_recorded}
use Rattle.dccp_uses.proofs.Numbering.{numbers_down}
use Rattle.dccp_uses.proofs.drop_record.record_report.Given as goal

-- what is recorded already, with what is still to be recorded
abbrev pub invariant-loop-left : goal.invariant-loop-left
invariant-loop-left g l =
    all_recorded (g.L.DropLog.recorded l.key) (code_at l.report.ack l.report.bytes) (numbers_down l.left l.number) l.log
    ≡ report_recorded (g.L.DropLog.recorded l.fn.key) l.fn.counted (Some l.fn.report) l.fn.log

abbrev pub decreases-loop-left : goal.decreases-loop-left
decreases-loop-left g l = l.left
