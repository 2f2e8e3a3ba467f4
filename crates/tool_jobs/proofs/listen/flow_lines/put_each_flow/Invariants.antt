use Rattle.std.proofs.Common.{◌≡◌, ◌++◌, ◌-◌, ◌≤◌, drop}
use Rattle.std.specs.Prelude.{flat_map}
use Rattle.tool_jobs.specs.Telling.{flow_line}
use Rattle.tool_jobs.proofs.listen.flow_lines.put_each_flow.Given as goal

abbrev pub invariant-loop-place : goal.invariant-loop-place
invariant-loop-place l = record {
  few : l.place ≤ l.count;
  same : l.text.items ++ flat_map flow_line (drop l.place l.listener.flows) ≡ l.initial.text.items ++ flat_map flow_line l.listener.flows;
}

abbrev pub decreases-loop-place : goal.decreases-loop-place
decreases-loop-place l = l.count - l.place
