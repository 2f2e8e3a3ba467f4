use Rattle.std.proofs.Common.{ap, rules, ◌∙◌, None, Some}
use Rattle.dccp_listener.specs.declared.peer.Peer.{Peer}
use Rattle.dccp_server.specs.Events.{called_on, flow_state}
use Rattle.server_peers.specs.Events.{aborted_end, events_between}
use Rattle.dccp_server.specs.Rooms.{RuledRoom, duty_done}
use Rattle.server_peers.specs.declared.flow_event.EndCause.TheVariants as causes
use Rattle.dccp_server.proofs.Telling.{called_as, is_rejoined}
use Rattle.dccp_server.proofs.event_server.EventServer.tick.Goals as goal

pub returns-clause-after : goal.returns-clause-after
returns-clause-after c =
    let after : RuledRoom = record c.args.self.now.server { room = duty_done c.args.now c.args.self.now.server.room (Some c.in-Some.duty) } in
    called_as c.args.self.now c.tell.new.self c.perform.new.self after c.peer-peer.result c.flow_state-was.result c.aborted_end.result (aborted_end causes.Silent)
    (is_rejoined c.args.self.now c.tell.new.self c.perform.new.self
    (events_between c.peer-peer.result c.flow_state-was.result (flow_state c.perform.new.self.room c.peer-peer.result) None c.aborted_end.result None) c.self.inside.is_shut
    c.tell.ensures (search rules))
    (search rules) c.aborted_end.ensures (search rules)
    ∙ ap (λ (p : Peer). called_on c.args.self.now after p (aborted_end causes.Silent)) c.peer-peer.ensures
