use Rattle.std.proofs.Common.{rules, None}
use Rattle.dccp_server.specs.Events.{flow_state}
use Rattle.server_peers.specs.Events.{events_between, silent_end}
use Rattle.dccp_server.specs.Rooms.{forgets}
use Rattle.server_peers.specs.declared.flow_event.EndCause.TheVariants as causes
use Rattle.dccp_server.proofs.Telling.{called_as, is_rejoined}
use Rattle.dccp_server.proofs.event_server.EventServer.forget.Goals as goal

pub returns-clause-after : goal.returns-clause-after
returns-clause-after c =
    called_as c.args.self.now c.tell.new.self c.forget.new.self (record c.args.self.now.server { room = forgets c.args.now c.args.self.now.server.room c.args.peer })
    c.args.peer c.flow_state-was.result c.silent_end.result (silent_end causes.Own)
    (is_rejoined c.args.self.now c.tell.new.self c.forget.new.self
    (events_between c.args.peer c.flow_state-was.result (flow_state c.forget.new.self.room c.args.peer) None c.silent_end.result None) c.self.inside.is_shut
    c.tell.ensures (search rules))
    (search rules) c.silent_end.ensures (search rules)
