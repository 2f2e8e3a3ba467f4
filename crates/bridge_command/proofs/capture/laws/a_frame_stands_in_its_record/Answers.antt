use Rattle.bridge_command.proofs.FrameCarrying.{frame-carried}
use Rattle.bridge_command.proofs.capture.laws.a_frame_stands_in_its_record.Goals as goal

pub returns : goal.returns
returns c = frame-carried
