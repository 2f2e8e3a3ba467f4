use Rattle.dccp_endpoint.proofs.OwnPackets.{own_packets_speak}
use Rattle.dccp_endpoint.proofs.laws.own_packets_speak_once.Goals as goal

pub returns : goal.returns
returns c = own_packets_speak
