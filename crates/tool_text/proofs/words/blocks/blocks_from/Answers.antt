use Rattle.std.proofs.Common.{sym, ◌∙◌, ◌-◌, ◌≤◌, length, arith}
use Rattle.tool_text.proofs.BlockLaws.{block_further}
use Rattle.tool_text.proofs.words.blocks.blocks_from.Goals as goal

pub loop-done-preserved : goal.loop-done-preserved
loop-done-preserved g c =
    let text = c.args.text.now in
    let done = c.loop-done.done in
    let room : g.row.BLOCK ≤ length text - done = c.loop-done-test.true in
    let some = c.requires.some in
    let inside = c.loop-done.invariant.within in
    record {
      within = omega arith;
      without = block_further (g.S.ByteSearch.sought c.args.what.now) done g.row.BLOCK text c.loop-done.invariant.without (sym c.lacks.ensures ∙ c.if-lacks.true);
    }
