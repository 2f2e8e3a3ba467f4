use Rattle.std.proofs.Common.{ap, ◌∙◌}
use Rattle.serde_json.specs.Written.{members_have_float}
use Rattle.bridge_command.proofs.WholeNumbers.{plain_fault}
use Rattle.bridge_command.proofs.json.telling.put_fault.Goals as goal

pub put_line-requires : goal.put_line-requires
put_line-requires c = ap members_have_float c.in_ok-fault_object.ensures ∙ plain_fault c.args.records c.args.fault
