-- How far the input was read, and why it was refused, from where reading begins.
use Rattle.std.proofs.Common.{◌∙◌, ap}
use Rattle.bridge_pictures.specs.FlowPictures.{drawing_of}
use Rattle.bridge_records.proofs.Passing.{goes-over-alike}
use Rattle.bridge_pictures.proofs.windows.flow.windows_of_flow.Goals as goal

pub returns-clause-past : goal.returns-clause-past
returns-clause-past g c = λ bytes told. (goes-over-alike _ _ _ bytes _ _ _ _ (c.new-job.ensures ∙ ap (drawing_of c.args.flow) c.in-Ok.ensures) (c.run_records.ensures.through bytes told)).past

pub returns-clause-skipped : goal.returns-clause-skipped
returns-clause-skipped g c = λ bytes told. (goes-over-alike _ _ _ bytes _ _ _ _ (c.new-job.ensures ∙ ap (drawing_of c.args.flow) c.in-Ok.ensures) (c.run_records.ensures.through bytes told)).skipped
