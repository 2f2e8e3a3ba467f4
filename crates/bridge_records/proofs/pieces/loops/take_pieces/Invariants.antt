use Rattle.std.proofs.Common.{◌+◌, ◌-◌, ◌*◌, ◌^◌, length}
use Rattle.bridge_records.proofs.Looping.{InPieces}
use Rattle.bridge_records.proofs.pieces.loops.take_pieces.Given as goal

abbrev pub invariant-loop-given : goal.invariant-loop-given
invariant-loop-given g l =
    InPieces g.S.Source.left g.S.Source.faults g.K.Sink.taken g.K.Sink.faults g.K.Sink.empty_takes g.J.PieceJob.job
    l.fn.job l.fn.source l.fn.output l.job l.source l.ahead l.output l.text.items l.given

abbrev pub decreases-loop-given : goal.decreases-loop-given
decreases-loop-given g l = 2 * (2 ^ 32 - l.given) + (524288 - length l.ahead.pending)
