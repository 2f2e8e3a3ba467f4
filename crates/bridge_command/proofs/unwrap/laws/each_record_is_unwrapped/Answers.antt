use Rattle.bridge_command.proofs.Records.{records-unwrapped}
use Rattle.bridge_command.proofs.unwrap.laws.each_record_is_unwrapped.Goals as goal

pub returns : goal.returns
returns c = records-unwrapped
