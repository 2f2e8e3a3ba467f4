use Rattle.dccp_server.proofs.Living.{living_begins}
use Rattle.dccp_server.proofs.server.Server.new.Goals as goal

pub invariant_of-result : goal.invariant_of-result
invariant_of-result c = living_begins c.args.config c.args.pace _ _ c.new.ensures c.new-2.ensures
