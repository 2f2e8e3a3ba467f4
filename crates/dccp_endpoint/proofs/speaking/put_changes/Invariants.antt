use Rattle.std.proofs.Common.{◌≡◌, ◌≤◌, ◌+◌, ◌*◌, ◌++◌, drop, length}
use Rattle.dccp_options.specs.Written.{written}
use Rattle.dccp_endpoint.specs.Speaking.{AreChanging, change_items}
use Rattle.dccp_endpoint.proofs.speaking.put_changes.Given as goal

abbrev pub invariant-loop-feature : goal.invariant-loop-feature
invariant-loop-feature l = record {
  short : length l.frame ≤ length l.initial.frame + 12 * l.feature-index;
  changing : AreChanging l.rows (drop l.feature-index l.keys);
  joins : l.frame ++ written (change_items l.rows (drop l.feature-index l.keys)) ≡ l.initial.frame ++ written (change_items l.rows l.keys);
}
