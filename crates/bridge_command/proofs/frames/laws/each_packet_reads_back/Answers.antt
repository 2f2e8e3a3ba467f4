use Rattle.bridge_command.proofs.FramePackets.{packets-read}
use Rattle.bridge_command.proofs.frames.laws.each_packet_reads_back.Goals as goal

pub returns : goal.returns
returns c = packets-read
