use Rattle.std.proofs.Common.{◌≡◌, ◌+◌, ◌≤◌, drop}
use Rattle.tool_text.specs.Numbers.{digits_after}
use Rattle.tool_text.proofs.numbers.digits_up_to.Given as goal

abbrev pub invariant-loop-byte : goal.invariant-loop-byte
invariant-loop-byte l = record {
  small : l.number ≤ l.most;
  same : digits_after (l.most + 1) l.number (drop l.byte-index l.text) ≡ digits_after (l.most + 1) 0 l.text;
}
