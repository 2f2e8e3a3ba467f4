use Rattle.std.proofs.Common.{◌≡◌, ◌++◌, drop}
use Rattle.bridge_command.specs.Members.{listed}
use Rattle.bridge_command.specs.OptionObjects.{vector_runs}
use Rattle.bridge_command.proofs.json.options.push_runs.Given as goal

abbrev pub invariant-loop-byte : goal.invariant-loop-byte
invariant-loop-byte l = listed l.items ++ vector_runs (drop l.byte-index l.body) ≡ listed l.initial.items ++ vector_runs l.body
