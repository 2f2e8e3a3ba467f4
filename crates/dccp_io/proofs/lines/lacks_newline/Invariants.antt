use Rattle.std.proofs.Common.{◌≡◌, ◌==◌, ◌&&◌, drop, not}
use Rattle.std.specs.List.{list_all}
use Rattle.dccp_io.specs.Lines.{newline}
use Rattle.dccp_io.proofs.lines.lacks_newline.Given as goal

abbrev pub invariant-loop-byte : goal.invariant-loop-byte
invariant-loop-byte l = record {
  same : (l.lacks && list_all (λ byte. not (byte == newline)) (drop l.byte-index l.block)) ≡ list_all (λ byte. not (byte == newline)) l.block;
}
