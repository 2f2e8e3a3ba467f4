use Rattle.std.proofs.Common.{sym, ◌∙◌, ◌-◌, ◌≤◌, length, arith}
use Rattle.dccp_io.proofs.NextLine.{block_seen}
use Rattle.dccp_io.proofs.lines.blocks_seen.Goals as goal

pub loop-done-preserved : goal.loop-done-preserved
loop-done-preserved g c =
    let bytes = c.args.bytes.now in
    let done = c.loop-done.done in
    let room : g.row.BLOCK ≤ length bytes - done = c.loop-done-test.true in
    let some = c.requires.some in
    let inside = c.loop-done.invariant.within in
    record {
      within = omega arith;
      before = block_seen bytes done g.row.BLOCK (omega arith) c.loop-done.invariant.before (sym c.lacks_newline.ensures ∙ c.if-lacks_newline.true);
    }
