-- Both directions.
use Rattle.capture_reader.proofs.Capture.{capture-read, read-capture}
use Rattle.capture_reader.proofs.laws.a_capture_has_one_list_of_records.Goals as goal

pub returns : goal.returns
returns c = λ bytes records end. (capture-read bytes records end, read-capture bytes records end)
