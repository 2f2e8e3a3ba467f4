use Rattle.bridge_command.proofs.JsonAndUnwrap.{told-and-unwrapped}
use Rattle.bridge_command.proofs.json.laws.each_record_told_is_unwrapped.Goals as goal

pub returns : goal.returns
returns c = told-and-unwrapped
