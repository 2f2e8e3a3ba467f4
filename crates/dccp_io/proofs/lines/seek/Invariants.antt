use Rattle.std.proofs.Common.{◌≡◌, ◌-◌, ◌≤◌, true, length}
use Rattle.dccp_io.specs.Ahead.{ahead_of}
use Rattle.dccp_io.specs.Lines.{is_line_settled, text_length}
use Rattle.dccp_io.proofs.lines.seek.Given as goal

abbrev pub invariant-loop-seen : goal.invariant-loop-seen
invariant-loop-seen g l = record {
  seen_is : l.seen ≡ text_length l.ahead.pending;
  same_ahead : ahead_of l.ahead (g.S.Source.left l.source) ≡ ahead_of l.initial.ahead (g.S.Source.left l.initial.source);
  same_size : l.ahead.size ≡ l.initial.ahead.size;
  fits : length l.ahead.pending ≤ l.ahead.size;
  never_falls : g.S.Source.faults l.initial.source ≤ g.S.Source.faults l.source;
  same_lender : g.S.Source.lender l.source ≡ g.S.Source.lender l.initial.source;
  still : is_line_settled l.asked l.initial.ahead.pending ≡ true → (l.source ≡ l.initial.source) × (l.ahead ≡ l.initial.ahead);
}

abbrev pub decreases-loop-seen : goal.decreases-loop-seen
decreases-loop-seen g l = l.ahead.size - length l.ahead.pending
