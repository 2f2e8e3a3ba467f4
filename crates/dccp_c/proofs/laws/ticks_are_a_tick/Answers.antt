use Rattle.dccp_c.proofs.Ticking.{told_one_by_one}
use Rattle.dccp_c.proofs.laws.ticks_are_a_tick.Goals as goal

pub returns : goal.returns
returns c = told_one_by_one
