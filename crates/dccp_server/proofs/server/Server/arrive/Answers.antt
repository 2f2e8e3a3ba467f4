use Rattle.dccp_server.proofs.server.Server.arrive.Goals as goal

pub invariant_of-self : goal.invariant_of-self
invariant_of-self c = c.arrive-arrival.ensures.living
