use Rattle.dccp_server.proofs.server.Server.ask.Goals as goal

pub invariant_of-self : goal.invariant_of-self
invariant_of-self c = c.ask.ensures.living
