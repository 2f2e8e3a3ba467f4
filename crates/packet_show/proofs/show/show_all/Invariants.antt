-- The counters fit what the reader gave, the counts of faults never fall, and the text is along that of the whole capture.
use Rattle.std.proofs.Common.{◌≡◌, ◌+◌, ◌-◌, ◌*◌, ◌≤◌, ◌^◌, None, IfSome}
use Rattle.capture_reader.specs.Records.{records_from}
use Rattle.capture_reader.specs.State.{rest}
use Rattle.packet_show.proofs.Showing.{Along}
use Rattle.packet_show.proofs.show.show_all.Given as goal

abbrev pub invariant-loop-captures : goal.invariant-loop-captures
invariant-loop-captures g l = record {
  unended : l.captures.fault ≡ None;
  within : l.captures.given ≤ 2 ^ 32;
  counted : 16 * l.captures.number ≤ l.captures.given;
  tallied : l.tally.shown + l.tally.skipped ≡ l.captures.number;
  same_lender : g.S.Source.lender l.captures.source ≡ g.S.Source.lender l.fn.captures.source;
  faults : g.S.Source.faults l.fn.captures.source ≤ g.S.Source.faults l.captures.source;
  sink_faults : g.K.Sink.faults l.fn.output ≤ g.K.Sink.faults l.output;
  empty_takes : g.K.Sink.empty_takes l.fn.output ≤ g.K.Sink.empty_takes l.output;
  along : IfSome (rest g.S.Source.left l.fn.captures) (λ bytes. Along l.captures.format l.captures.number l.captures.given (rest g.S.Source.left l.captures)
      l.tally l.text.items (g.K.Sink.taken l.fn.output) (g.K.Sink.taken l.output) (records_from l.fn.captures.format 0 0 24 bytes) bytes);
}

abbrev pub decreases-loop-captures : goal.decreases-loop-captures
decreases-loop-captures g l = 2 ^ 32 - l.captures.given
