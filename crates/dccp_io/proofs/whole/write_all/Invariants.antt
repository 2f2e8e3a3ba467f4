use Rattle.std.proofs.Common.{◌≡◌, ◌-◌, ◌≤◌, length, take}
use Rattle.std.specs.Io.KnownBytes.{append_known}
use Rattle.dccp_io.proofs.whole.write_all.Given as goal

abbrev pub invariant-loop-done : goal.invariant-loop-done
invariant-loop-done g l = record {
  inside : l.done ≤ length l.piece;
  taken : g.K.Sink.taken l.sink ≡ append_known (g.K.Sink.taken l.initial.sink) (take l.done l.piece);
  faults : g.K.Sink.faults l.initial.sink ≤ g.K.Sink.faults l.sink;
  empty_takes : g.K.Sink.empty_takes l.initial.sink ≤ g.K.Sink.empty_takes l.sink;
}

abbrev pub decreases-loop-done : goal.decreases-loop-done
decreases-loop-done g l = length l.piece - l.done
