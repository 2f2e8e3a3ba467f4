use Rattle.std.proofs.Common.{◌≡◌, ◌++◌, drop}
use Rattle.std.specs.Prelude.{flat_map}
use Rattle.tool_jobs.specs.EndLines.{row_text, all_features}
use Rattle.tool_jobs.proofs.ends.lines.put_end_rows.Given as goal

abbrev pub invariant-loop-feature : goal.invariant-loop-feature
invariant-loop-feature l =
    l.text.items ++ flat_map (row_text l.end.state) (drop l.feature-index all_features) ≡ l.initial.text.items ++ flat_map (row_text l.end.state) all_features
