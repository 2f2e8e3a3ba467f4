use Rattle.std.proofs.Common.{rules}
use Rattle.dccp_c.specs.Framing.{handed_in}
use Rattle.dccp_c.specs.Listening.{datagram_refusal, evicted_in, holding_in, holding_of, peer_named, way_in}
use Rattle.dccp_c.proofs.Hearing.{hears_so}
use Rattle.dccp_c.proofs.listener_calls.dccp_listener_arrive.Goals as goal

pub returns : goal.returns
returns c =
    hears_so c.args.now (holding_in c.args.listener.now.kept.value) (holding_in c.put.new.self.kept.value) (holding_of c.deref_mut.result.now)
    (holding_of c.serve-code.new.serving) (peer_named c.args.peer.now) c.peer_named.result c.args.first_number c.in-Some.iss c.args.datagram.now
    (datagram_refusal c.args.first_number c.args.datagram.now) (handed_in c.serve-code.new.frame) (evicted_in c.put.new.self.kept.value)
    c.serve-code.new.serving.evicted (way_in c.put.new.self.kept.value) c.serve-code.new.serving.way c.serve-code.result c.args.told.now c.serve-code.new.told
    (search rules) (search rules) c.peer_named.ensures (search rules) (search rules) (search rules) (search rules) c.serve-code.ensures
