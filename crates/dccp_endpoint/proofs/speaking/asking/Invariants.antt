use Rattle.std.proofs.Common.{◌≡◌, ◌≤◌, ◌+◌, ◌++◌, length}
use Rattle.dccp_endpoint.specs.Speaking.{asking, unconfirmed}
use Rattle.dccp_endpoint.proofs.speaking.asking.Given as goal

abbrev pub invariant-loop-feature : goal.invariant-loop-feature
invariant-loop-feature l = record {
  few : length l.keys + length l.feature-iterator ≤ 18;
  joins : l.keys ++ unconfirmed l.confirms l.feature-iterator ≡ asking l.rows l.confirms;
}
