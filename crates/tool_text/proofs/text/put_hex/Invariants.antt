use Rattle.std.proofs.Common.{◌≡◌, ◌++◌}
use Rattle.std.specs.Slice.Iter.{chunks_rest, chunks_size}
use Rattle.hex.specs.Hex.{encode_lower}
use Rattle.tool_text.specs.Text.{Keeps}
use Rattle.tool_text.proofs.text.put_hex.Given as goal

abbrev pub invariant-loop-block : goal.invariant-loop-block
invariant-loop-block l =
    (goal.iterator-loop-block).can_next l.block-iterator
    × (goal.iterator-loop-block).is_finite l.block-iterator
    × (chunks_size l.block-iterator ≡ 128)
    × Keeps l.initial.text.items l.text.items
    × (l.text.items ++ encode_lower (chunks_rest l.block-iterator) ≡ l.initial.text.items ++ encode_lower l.bytes)
