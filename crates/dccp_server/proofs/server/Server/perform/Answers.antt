use Rattle.dccp_server.proofs.Judging.{duty_as}
use Rattle.dccp_server.proofs.server.Server.perform.Goals as goal

pub returns-in-Follow-clause-after : goal.returns-in-Follow-clause-after
returns-in-Follow-clause-after c =
    duty_as c.args.now c.args.self.now _ c.args.duty c.in-Follow.peer c.in-Follow.field-1 c.in-Follow.is c.follow.ensures.after
