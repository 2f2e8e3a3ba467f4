use Rattle.std.proofs.Common.{◌≡◌, ◌++◌}
use Rattle.dccp_options.specs.Grammar.{options_of}
use Rattle.bridge_pictures.specs.FlowWindows.{all_confirms}
use Rattle.bridge_pictures.proofs.windows.flow.put_confirms.Given as goal

abbrev pub invariant-loop-item : goal.invariant-loop-item
invariant-loop-item l =
    l.text.items ++ all_confirms l.item-iterator ≡ l.initial.text.items ++ all_confirms (options_of l.area l.on_data)
