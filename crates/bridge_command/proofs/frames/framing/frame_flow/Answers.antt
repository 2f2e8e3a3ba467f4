-- How far the input was read, and why it was refused, from where reading begins.
use Rattle.bridge_records.proofs.Passing.{goes-over-alike}
use Rattle.bridge_command.proofs.frames.framing.frame_flow.Goals as goal

pub returns-clause-past : goal.returns-clause-past
returns-clause-past g c = λ bytes told. (goes-over-alike _ _ _ bytes _ _ _ _ c.new-search.ensures (c.run_records.ensures.through bytes told)).past

pub returns-clause-refused : goal.returns-clause-refused
returns-clause-refused g c = λ bytes told. (goes-over-alike _ _ _ bytes _ _ _ _ c.new-search.ensures (c.run_records.ensures.through bytes told)).refused

pub returns-clause-skipped : goal.returns-clause-skipped
returns-clause-skipped g c = λ bytes told. (goes-over-alike _ _ _ bytes _ _ _ _ c.new-search.ensures (c.run_records.ensures.through bytes told)).skipped
