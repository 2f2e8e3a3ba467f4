-- What step 1 lets pass is taken as the definition says.
use Rattle.std.proofs.Common.{◌∙◌, ap, sym, ℕ, Bool, Option, length}
use Rattle.dccp_endpoint.specs.Controlled.{with_control}
use Rattle.dccp_endpoint.specs.End.{EndState}
use Rattle.dccp_endpoint.specs.Incoming.{incoming_of, is_newest, parts_of_packet}
use Rattle.dccp_packets.specs.Forms.{ack_near}
use Rattle.dccp_endpoint.specs.Receiving.{takes}
use Rattle.dccp_endpoint.proofs.Arriving.{arrived_step}
use Rattle.dccp_endpoint.proofs.connection.Connection.take_packet.Goals as goal

pub returns-in-Ok : goal.returns-in-Ok
returns-in-Ok g c =
    c.take.ensures
    ∙ ap (with_control g.C.Congestion.control c.args.congestion.now)
    (ap (takes c.args.self.now) c.of-packet.ensures
    ∙ ap (λ (newest : Bool). takes c.args.self.now
    (incoming_of (parts_of_packet c.args.packet.now) c.in-Ok.number c.ack_near-ack.result (length c.args.bytes.now) newest))
    c.is_newest-newest.ensures
    ∙ ap (λ (ack : Option ℕ). takes c.args.self.now
    (incoming_of (parts_of_packet c.args.packet.now) c.in-Ok.number ack (length c.args.bytes.now)
    (is_newest c.args.self.now c.in-Ok.number)))
    (c.ack_near-ack.ensures.value ∙ ap (λ (x : EndState). ack_near x.marks.gss c.args.packet.now.header.kind) c.self.view_is)
    ∙ arrived_step c.args.self.now c.args.bytes.now (parts_of_packet c.args.packet.now) c.in-Ok.number c.requires.read
    (sym c.check_header.ensures ∙ c.in-Ok.is))
