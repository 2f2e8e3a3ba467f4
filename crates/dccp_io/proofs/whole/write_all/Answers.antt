-- What the sink took in this turn follows what it took before.
use Rattle.std.proofs.Common.{arith}
use Rattle.std.proofs.lemmas.List.{take_rest, length-drop}
use Rattle.dccp_io.proofs.Known.{append_known-more}
use Rattle.dccp_io.proofs.whole.write_all.Goals as goal

pub loop-done-preserved : goal.loop-done-preserved
loop-done-preserved g c = record {
  inside = let fits = rw (take_rest c.args.piece.now c.loop-done.done, length-drop c.loop-done.done c.args.piece.now) at c.in-Ok.ensures.fits in
      omega (arith, fits);
  taken = append_known-more (g.K.Sink.taken c.args.sink.now) (g.K.Sink.taken c.loop-done.sink)
      (g.K.Sink.taken c.write.new.self) c.args.piece.now c.loop-done.done c.in-Ok.count c.loop-done.invariant.taken c.in-Ok.ensures.first;
  faults = omega (arith, c.loop-done.invariant.faults, c.write.ensures.never_falls);
  empty_takes = omega (arith, c.loop-done.invariant.empty_takes, c.write.ensures.takes_never_fall);
}
