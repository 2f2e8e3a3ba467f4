use Rattle.std.proofs.Common.{◌≡◌, ◌-◌, ◌≤◌, length, take, true, not}
use Rattle.std.specs.List.{list_all}
use Rattle.tool_text.proofs.words.blocks.blocks_from.Given as goal

abbrev pub invariant-loop-done : goal.invariant-loop-done
invariant-loop-done g l = record {
  within : l.done ≤ length l.text;
  without : list_all (λ byte. not (g.S.ByteSearch.sought l.what byte)) (take l.done l.text) ≡ true;
}

abbrev pub decreases-loop-done : goal.decreases-loop-done
decreases-loop-done g l = length l.text - l.done
