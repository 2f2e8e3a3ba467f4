use Rattle.std.proofs.Common.{◌≡◌, ◌++◌}
use Rattle.dccp_options.specs.Grammar.{options_of}
use Rattle.bridge_command.specs.Members.{listed}
use Rattle.bridge_command.specs.OptionObjects.{option_values}
use Rattle.bridge_command.proofs.json.options.push_options.Given as goal

abbrev pub invariant-loop-item : goal.invariant-loop-item
invariant-loop-item l = listed l.items ++ option_values l.item-iterator ≡ listed l.initial.items ++ option_values (options_of l.area l.on_data)
