-- What a flow without an inbox has to say.
use Rattle.std.proofs.Common.{◌≡◌, refl, Option, Some, None}
use Rattle.dccp_packets.specs.Outgoing.{Outgoing}
use Rattle.dccp_listener.specs.Peers.{FlowEnd}
use Rattle.dccp_server.specs.FlowInboxes.{flow_speaks_by}

pub nothing_said : (end : Option FlowEnd) (frame : Option Outgoing) → frame ≡ flow_speaks_by None end frame
nothing_said None frame = refl
nothing_said (Some e) frame = refl
