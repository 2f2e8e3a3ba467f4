use Rattle.std.proofs.Common.{◌≡◌, ◌-◌, ◌≤◌, vec_len}
use Rattle.std.specs.Io.KnownBytes.{prepend_known}
use Rattle.dccp_io.proofs.whole.read_all.Given as goal

abbrev pub invariant-loop-block : goal.invariant-loop-block
invariant-loop-block g l = record {
  fits : vec_len l.text ≤ l.most;
  next : g.S.Source.left l.initial.source ≡ prepend_known l.text.items (g.S.Source.left l.source);
  faults : g.S.Source.faults l.initial.source ≤ g.S.Source.faults l.source;
  lender : g.S.Source.lender l.source ≡ g.S.Source.lender l.initial.source;
}

abbrev pub decreases-loop-block : goal.decreases-loop-block
decreases-loop-block g l = l.most - vec_len l.text
