use Rattle.data_dropped.proofs.EndHistory.{receives-held, receives-tell, every-past, every-past-codes}
use Rattle.data_dropped.proofs.laws.what_an_end_keeps_is_taken.Goals as goal

pub returns-clause-received : goal.returns-clause-received
returns-clause-received g c = receives-held g.C.Congestion.control

pub returns-clause-told : goal.returns-clause-told
returns-clause-told g c = receives-tell g.C.Congestion.control

pub returns-clause-accounted : goal.returns-clause-accounted
returns-clause-accounted g c = every-past g.C.Congestion.control

pub returns-clause-codes : goal.returns-clause-codes
returns-clause-codes g c = every-past-codes g.C.Congestion.control
