use Rattle.std.proofs.Common.{ap, ◌∙◌, is_some}
use Rattle.dccp_listener.specs.Peers.{end_of_peer}
use Rattle.dccp_server.specs.Rooms.{RuledRoom}
use Rattle.server_peers.proofs.Among.{found_alike}
use Rattle.dccp_server.proofs.server.Server.has_flow.Goals as goal

-- who has a life has a flow
pub returns : goal.returns
returns c =
    c.has.ensures ∙ found_alike c.args.peer c.self.inside.lives c.self.inside.timed.listening.flows c.self.invariant.same_peers
    ∙ ap (λ (s : RuledRoom). is_some (end_of_peer s.room.served.listening.flows c.args.peer)) c.self.view_is
