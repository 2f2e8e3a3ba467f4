use Rattle.dccp_packets.proofs.ReadBack.{reads_back}
use Rattle.dccp_packets.proofs.laws.what_is_spelled_is_read.Goals as goal

pub returns : goal.returns
returns c = reads_back
