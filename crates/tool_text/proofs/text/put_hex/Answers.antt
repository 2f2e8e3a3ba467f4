use Rattle.std.proofs.Common.{◌∙◌, ◌++◌, rules}
use Rattle.std.specs.Slice.Iter.{chunks_rest}
use Rattle.hex.specs.Hex.{encode_lower}
use Rattle.tool_text.proofs.HexText.{block-put, all-put}
use Rattle.tool_text.proofs.Keeping.{keeps_more, keeps_through}
use Rattle.tool_text.proofs.text.put_hex.Goals as goal

pub loop-block-preserved : goal.loop-block-preserved
loop-block-preserved c =
    let steps = c.in-Some.ensures.steps in (
      search rules,
      tt,
      steps.0 ∙ c.loop-block.invariant.2,
      keeps_through c.args.text.now.items c.loop-block.text.items c.put.new.text.items c.loop-block.invariant.3
          (keeps_more c.loop-block.text.items c.encode.new.room c.put.new.text.items c.in_ok-put.ensures.ok),
      block-put c.loop-block.text.items c.put.new.text.items (chunks_rest c.loop-block.block-iterator) c.in-Some.block.now (chunks_rest c.next.new.self)
          c.encode.new.room (c.args.text.now.items ++ encode_lower c.args.bytes.now) steps.1.0 c.in_ok-put.ensures.ok c.encode.ensures
          c.loop-block.invariant.4,
    )

pub returns-clause-ok : goal.returns-clause-ok
returns-clause-ok c = all-put c.loop-block.text.items (chunks_rest c.loop-block.block-iterator) _ c.in-None.ensures.steps.1.0 c.loop-block.invariant.4
