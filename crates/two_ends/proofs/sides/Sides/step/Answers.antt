-- What the code returns of a delivery that is refused.
use Rattle.two_ends.proofs.OfWorlds.Refusing.{told-far, told-full, told-none}
use Rattle.two_ends.proofs.sides.Sides.step.Goals as goal

pub returns-in-Deliver-clause-no_such_frame : goal.returns-in-Deliver-clause-no_such_frame
returns-in-Deliver-clause-no_such_frame g c =
    rw c.in-Deliver.is
    (told-none g.C.Congestion.control c.args.self.now c.in-Deliver.from c.in-Deliver.index c.deliver.result c.deliver.ensures.no_such_frame)

pub returns-in-Deliver-clause-full : goal.returns-in-Deliver-clause-full
returns-in-Deliver-clause-full g c =
    rw c.in-Deliver.is
    (told-full g.C.Congestion.control c.args.self.now c.in-Deliver.from c.in-Deliver.index c.deliver.result c.deliver.ensures.full)

pub returns-in-Deliver-clause-far_short : goal.returns-in-Deliver-clause-far_short
returns-in-Deliver-clause-far_short g c =
    rw c.in-Deliver.is
    (told-far g.C.Congestion.control c.args.self.now c.in-Deliver.from c.in-Deliver.index c.deliver.result c.deliver.ensures.far_short)
