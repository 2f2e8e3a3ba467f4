-- The job goes over the records from where reading begins.
use Rattle.bridge_records.proofs.Passing.{goes-alike, goes-over}
use Rattle.bridge_records.proofs.recording.run_records.Goals as goal

pub returns-clause-through : goal.returns-clause-through
returns-clause-through g c = λ bytes told.
    goes-over g.J.RecordJob.work c.args.job bytes c.run_pieces-ended.result.end c.run_pieces-ended.result.fault c.run_pieces-ended.new.job
    c.refusal.result c.skips.result _ _ _
    (goes-alike _ _ _ bytes _ _ _ _ _ c.new-recording.ensures (c.run_pieces-ended.ensures.through bytes told)) c.refusal.ensures c.skips.ensures
