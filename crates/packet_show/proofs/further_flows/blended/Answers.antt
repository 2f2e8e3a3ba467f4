use Rattle.packet_show.proofs.further_flows.blended.Goals as goal

pub returns : goal.returns
returns c = cc
