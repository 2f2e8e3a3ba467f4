use Rattle.std.proofs.Common.{◌≡◌, drop, length}
use Rattle.feature_machine.specs.Turns.{turned}
use Rattle.dccp_endpoint.specs.Speaking.{AreDue}
use Rattle.dccp_endpoint.specs.Turns.{sendings}
use Rattle.dccp_endpoint.proofs.speaking.send_all.Given as goal

abbrev pub invariant-loop-feature : goal.invariant-loop-feature
invariant-loop-feature l = record {
  size : length l.rows ≡ 18;
  due : AreDue l.rows (drop l.feature-index l.keys);
  joins : turned l.rows (sendings l.number (drop l.feature-index l.keys)) ≡ turned l.initial.rows (sendings l.number l.keys);
}
