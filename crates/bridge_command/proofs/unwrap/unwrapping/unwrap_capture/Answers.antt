-- How far the input was read, and why it was refused.
use Rattle.bridge_command.proofs.unwrap.unwrapping.unwrap_capture.Goals as goal

pub returns-clause-past : goal.returns-clause-past
returns-clause-past g c = λ bytes told. (c.run_records.ensures.through bytes told).past

pub returns-clause-refused : goal.returns-clause-refused
returns-clause-refused g c = λ bytes told. (c.run_records.ensures.through bytes told).refused

pub returns-clause-skipped : goal.returns-clause-skipped
returns-clause-skipped g c = λ bytes told. (c.run_records.ensures.through bytes told).skipped
