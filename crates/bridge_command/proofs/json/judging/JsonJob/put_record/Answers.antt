use Rattle.std.proofs.Common.{ap, ◌∙◌}
use Rattle.serde_json.specs.Written.{members_have_float}
use Rattle.capture_reader.specs.Records.{entry_of}
use Rattle.bridge_command.specs.Telling.{record_told}
use Rattle.bridge_command.proofs.WholeNumbers.{plain_record}
use Rattle.bridge_command.proofs.json.judging.JsonJob.put_record.Goals as goal

pub put_line-requires : goal.put_line-requires
put_line-requires c =
    ap members_have_float c.in_ok-object.ensures.told
    ∙ plain_record (record_told c.args.self.now (entry_of c.args.item.now)).payload (record_told c.args.self.now (entry_of c.args.item.now)).flow
    (record_told c.args.self.now (entry_of c.args.item.now)).entry
