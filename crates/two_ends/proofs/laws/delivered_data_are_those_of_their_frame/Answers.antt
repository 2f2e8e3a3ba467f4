use Rattle.std.proofs.Common.{refl, arith}
use Rattle.two_ends.proofs.OfWorlds.Delivering.{data-of}
use Rattle.two_ends.proofs.laws.delivered_data_are_those_of_their_frame.Goals as goal

pub returns-clause-frame : goal.returns-clause-frame
returns-clause-frame g c = λ old new event begins ends delivers. data-of old new event (begins, ends) (delivers (begins, ends) refl)

pub returns-clause-once : goal.returns-clause-once
returns-clause-once g c = λ w events once early late named before first second. omega (arith, once early late named first second, before)
