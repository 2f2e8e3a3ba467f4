use Rattle.std.proofs.Common.{◌≡◌, drop}
use Rattle.bridge_command.specs.OptionObjects.{number_after}
use Rattle.bridge_command.proofs.json.options.number_of.Given as goal

abbrev pub invariant-loop-byte : goal.invariant-loop-byte
invariant-loop-byte l = number_after l.number (drop l.byte-index l.bytes) ≡ number_after 0 l.bytes
