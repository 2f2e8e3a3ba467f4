use Rattle.std.proofs.Common.{◌≡◌, ◌++◌, drop}
use Rattle.bridge_command.specs.Members.{listed}
use Rattle.bridge_command.specs.OptionObjects.{byte_values}
use Rattle.bridge_command.proofs.json.options.push_numbers.Given as goal

abbrev pub invariant-loop-byte : goal.invariant-loop-byte
invariant-loop-byte l = listed l.items ++ byte_values (drop l.byte-index l.bytes) ≡ listed l.initial.items ++ byte_values l.bytes
