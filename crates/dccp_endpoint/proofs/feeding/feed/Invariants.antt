use Rattle.std.proofs.Common.{◌≡◌, ◌+◌, ◌≤◌, drop}
use Rattle.dccp_endpoint.specs.Feeding.{count_of_taken, fed}
use Rattle.dccp_endpoint.proofs.feeding.feed.Given as goal

abbrev pub invariant-loop-frame : goal.invariant-loop-frame
invariant-loop-frame g l =
    let control = g.C.Congestion.control in
    record {
      few : l.taken ≤ l.frame-index;
      told : l.taken + count_of_taken control l.end (drop l.frame-index l.frames) ≡ count_of_taken control l.initial.end l.frames;
      rest : fed control l.end (drop l.frame-index l.frames) ≡ fed control l.initial.end l.frames;
    }
