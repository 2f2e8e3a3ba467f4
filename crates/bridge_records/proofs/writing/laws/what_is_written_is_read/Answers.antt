use Rattle.bridge_records.proofs.ReadingBack.{records-read}
use Rattle.bridge_records.proofs.writing.laws.what_is_written_is_read.Goals as goal

pub returns : goal.returns
returns c = records-read
