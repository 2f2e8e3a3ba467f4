use Rattle.std.proofs.Common.{◌≡◌, ◌++◌, drop}
use Rattle.std.specs.Prelude.{flat_map}
use Rattle.tool_text.specs.Text.{Keeps}
use Rattle.schedule_text.specs.Results.{decimal_byte}
use Rattle.schedule_text.proofs.printing.put_detail.Given as goal

abbrev pub invariant-loop-byte : goal.invariant-loop-byte
invariant-loop-byte l = record {
  keeps : Keeps l.initial.text.items l.text.items;
  same : l.text.items ++ flat_map decimal_byte (drop l.byte-index l.detail) ≡ l.initial.text.items ++ flat_map decimal_byte l.detail;
}
