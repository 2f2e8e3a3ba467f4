use Rattle.std.proofs.Common.{◌≡◌, ◌++◌, drop}
use Rattle.bridge_command.specs.Members.{listed}
use Rattle.bridge_command.specs.OptionObjects.{drop_blocks}
use Rattle.bridge_command.proofs.json.options.push_blocks.Given as goal

abbrev pub invariant-loop-byte : goal.invariant-loop-byte
invariant-loop-byte l = listed l.items ++ drop_blocks (drop l.byte-index l.body) ≡ listed l.initial.items ++ drop_blocks l.body
