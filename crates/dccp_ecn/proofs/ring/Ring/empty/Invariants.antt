use Rattle.std.proofs.Common.{◌≡◌, length}
use Rattle.dccp_ecn.specs.Ring.{IsEmptied}
use Rattle.dccp_ecn.proofs.ring.Ring.empty.Given as goal

abbrev pub invariant-loop-step : goal.invariant-loop-step
invariant-loop-step l = record {
  size : length l.self-inside.places.items ≡ 2048;
  emptied : IsEmptied l.floor l.step l.fn.self l.self-inside.places.items;
}
