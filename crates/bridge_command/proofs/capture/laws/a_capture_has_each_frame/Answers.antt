-- The frames of a transcript, and their records read again.
use Rattle.bridge_command.proofs.FrameFitting.{deeds-fit, frames-read, made-of}
use Rattle.bridge_command.proofs.capture.laws.a_capture_has_each_frame.Goals as goal

pub returns : goal.returns
returns c = record { made = made-of; fits = deeds-fit; read = frames-read }
