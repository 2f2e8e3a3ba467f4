use Rattle.std.proofs.Common.{◌≡◌, ◌++◌}
use Rattle.dccp_options.specs.Grammar.{options_of}
use Rattle.tool_text.specs.Text.{Keeps}
use Rattle.packet_show.specs.Text.{options_text}
use Rattle.packet_show.proofs.options.put_options.Given as goal

abbrev pub invariant-loop-item : goal.invariant-loop-item
invariant-loop-item l = record {
  keeps : Keeps l.initial.text.items l.text.items;
  joins : l.text.items ++ options_text l.item-iterator ≡ l.initial.text.items ++ options_text (options_of l.area l.on_data);
}
