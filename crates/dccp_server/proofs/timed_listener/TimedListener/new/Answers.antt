use Rattle.dccp_server.proofs.Tying.{tied_begins}
use Rattle.dccp_server.proofs.timed_listener.TimedListener.new.Goals as goal

pub invariant_of-result : goal.invariant_of-result
invariant_of-result c = tied_begins c.args.config c.args.pace _ _ c.offering.ensures c.new.ensures
