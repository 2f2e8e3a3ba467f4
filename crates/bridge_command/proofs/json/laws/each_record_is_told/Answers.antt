use Rattle.bridge_command.proofs.Records.{records-told}
use Rattle.bridge_command.proofs.json.laws.each_record_is_told.Goals as goal

pub returns : goal.returns
returns c = records-told
