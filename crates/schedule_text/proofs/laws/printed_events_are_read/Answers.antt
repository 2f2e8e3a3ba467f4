use Rattle.schedule_text.proofs.LineForms.{event-read}
use Rattle.schedule_text.proofs.laws.printed_events_are_read.Goals as goal

pub returns : goal.returns
returns c = event-read
