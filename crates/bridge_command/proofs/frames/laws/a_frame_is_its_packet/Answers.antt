use Rattle.bridge_command.proofs.FrameReadingBack.{frame-decoded, frame-sized}
use Rattle.bridge_command.proofs.frames.laws.a_frame_is_its_packet.Goals as goal

pub returns-clause-packet : goal.returns-clause-packet
returns-clause-packet c = frame-decoded

pub returns-clause-size : goal.returns-clause-size
returns-clause-size c = frame-sized
