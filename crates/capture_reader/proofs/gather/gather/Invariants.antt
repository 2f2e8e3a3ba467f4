use Rattle.std.proofs.Common.{◌≡◌, ◌-◌, ◌≤◌, length}
use Rattle.dccp_io.specs.Ahead.{ahead_of}
use Rattle.capture_reader.proofs.gather.gather.Given as goal

abbrev pub invariant-loop-held : goal.invariant-loop-held
invariant-loop-held g l = record {
  held_is : l.held ≡ length l.ahead.pending;
  same_ahead : ahead_of l.ahead (g.S.Source.left l.source) ≡ ahead_of l.initial.ahead (g.S.Source.left l.initial.source);
  same_size : l.ahead.size ≡ l.initial.ahead.size;
  fits : length l.ahead.pending ≤ l.ahead.size;
  never_falls : g.S.Source.faults l.initial.source ≤ g.S.Source.faults l.source;
  same_lender : g.S.Source.lender l.source ≡ g.S.Source.lender l.initial.source;
  still : l.asked ≤ length l.initial.ahead.pending → (l.source ≡ l.initial.source) × (l.ahead ≡ l.initial.ahead);
}

abbrev pub decreases-loop-held : goal.decreases-loop-held
decreases-loop-held g l = l.ahead.size - length l.ahead.pending
