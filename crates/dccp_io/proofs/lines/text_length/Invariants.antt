use Rattle.std.proofs.Common.{◌≡◌, ◌+◌, drop}
use Rattle.dccp_io.specs.Lines.{text_length}
use Rattle.dccp_io.proofs.lines.text_length.Given as goal

abbrev pub invariant-loop-index : goal.invariant-loop-index
invariant-loop-index l = text_length l.bytes ≡ l.index + text_length (drop l.index l.bytes)
