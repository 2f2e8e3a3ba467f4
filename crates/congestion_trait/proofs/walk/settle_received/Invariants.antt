use Rattle.std.proofs.Common.{◌≡◌, ◌≤◌, ◌-◌, Option, ℕ, length, drop}
use Rattle.congestion_trait.specs.Flight.{States}
use Rattle.congestion_trait.specs.Walk.{AllUnheard, AreReceived, IsAlong, received_walk}
use Rattle.congestion_trait.proofs.walk.settle_received.Given as goal

abbrev pub invariant-loop-index : goal.invariant-loop-index
invariant-loop-index l =
    let old = l.fn.entries.items in (
    (l.from ≤ l.index) × (l.index ≤ l.to)
    × (length l.entries.items ≡ length old)
    × (l.entries.capacity ≡ l.fn.entries.capacity)
    × ((told : States) (mark : Option ℕ) → AllUnheard told (drop l.to old) → AreReceived told l.from l.to old
    → IsAlong told mark old l.index l.entries.items (received_walk (length old - l.to) (l.to - l.index) l.to))
    )

abbrev pub decreases-loop-index : goal.decreases-loop-index
decreases-loop-index l = l.index
