-- What holds of two ends after every schedule.
use Rattle.congestion_trait.specs.Control.{Control}
use Rattle.two_ends.specs.Controlled.{ControlledWorld}
use Rattle.two_ends.specs.Negotiated.{Agree, Given}
use Rattle.two_ends.specs.Reported.{Truthful, Told, Once, Heard}

-- If both ends call a feature settled, they hold the same value; every value was given to them; every Ack Vector reports just what its sender
-- had processed; what no vector reports any more was reported, or is far back; every number is processed once; and what an end believes received
-- was processed.
pub record Safe {C : Type 0} (control : Control C) (w : ControlledWorld C) : Type 0 where
  pub agree : Agree w.world
  pub given : Given w.world
  pub truthful : Truthful w.world
  pub told : Told w.world
  pub once : Once w.world
  pub heard : Heard control w
