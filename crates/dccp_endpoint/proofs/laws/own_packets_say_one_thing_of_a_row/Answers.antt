use Rattle.dccp_endpoint.proofs.OwnPackets.{own_packets_say}
use Rattle.dccp_endpoint.proofs.laws.own_packets_say_one_thing_of_a_row.Goals as goal

pub returns : goal.returns
returns c = own_packets_say
