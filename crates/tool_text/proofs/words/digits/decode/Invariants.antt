use Rattle.std.proofs.Common.{◌≡◌, ◌-◌, ◌≤◌, length, take}
use Rattle.tool_text.specs.Digits.{bytes_of_digits}
use Rattle.tool_text.proofs.words.digits.decode.Given as goal

abbrev pub invariant-loop-place : goal.invariant-loop-place
invariant-loop-place l = record {
  within : l.place ≤ length l.room;
  sized : length l.room ≡ length l.initial.room;
  done : take l.place l.room ≡ take l.place (bytes_of_digits l.text);
}

abbrev pub decreases-loop-place : goal.decreases-loop-place
decreases-loop-place l = length l.initial.room - l.place
