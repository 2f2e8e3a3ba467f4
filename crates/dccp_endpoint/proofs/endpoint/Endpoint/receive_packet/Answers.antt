use Rattle.dccp_endpoint.proofs.Dropped.{received}
use Rattle.dccp_endpoint.proofs.endpoint.Endpoint.receive_packet.Goals as goal

pub returns : goal.returns
returns g c =
    let told = received g.C.Congestion.control c.args.bytes.now _ _ c.self.view_is c.shows_proper.ensures _ c.take_packet.ensures in
    record { step = told.step; cause = told.cause; no_other_cause = told.no_other_cause; dropped = told.dropped; effect = told.effect }
