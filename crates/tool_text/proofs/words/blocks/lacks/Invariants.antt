use Rattle.std.proofs.Common.{◌≡◌, ◌&&◌, drop, not}
use Rattle.std.specs.List.{list_all}
use Rattle.tool_text.proofs.words.blocks.lacks.Given as goal

abbrev pub invariant-loop-byte : goal.invariant-loop-byte
invariant-loop-byte g l = record {
  same : (l.lacks && list_all (λ byte. not (g.S.ByteSearch.sought l.what byte)) (drop l.byte-index l.block)) ≡ list_all
      (λ byte. not (g.S.ByteSearch.sought l.what byte)) l.block;
}
