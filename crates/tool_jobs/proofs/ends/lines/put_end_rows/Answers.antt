use Rattle.tool_jobs.specs.EndLines.{row_text, all_features}
use Rattle.tool_jobs.proofs.RowTexts.{item_put}
use Rattle.tool_jobs.proofs.ends.lines.put_end_rows.Goals as goal

pub loop-feature-preserved : goal.loop-feature-preserved
loop-feature-preserved c =
    item_put (row_text c.args.end.now.state) all_features c.loop-feature.feature-index _ c.loop-feature.text.items _ _ c.loop-feature-test.true
    c.in_ok-put_row.ensures c.loop-feature.invariant
