-- How short ways are put together.
use Rattle.std.proofs.Common.{◌≡◌, ◌⊎◌, inl, inr, refl, subst, ℕ, zero, suc, ◌+◌, ◌≤◌, List, [], ◌∷◌, Some, slice_get, arith}
use Rattle.std.proofs.lemmas.Option.{same_Some}
use Rattle.dccp_states.specs.declared.calls.Timer.{Timer}
use Rattle.congestion_trait.specs.Control.{Control}
use Rattle.two_ends.specs.Controlled.{ControlledWorld, controlled_after, happens_to}
use Rattle.world_events.specs.declared.event.Event.{Event}
use Rattle.world_events.specs.declared.event.Event.TheVariants as event
use Rattle.world_events.specs.declared.event.Side.{Side}
use Rattle.two_ends_progress.specs.Leading.{ArePassive, IsPassive, HasWay}

module _ {C : Type 0} (control : Control C) where
  -- the world after an event
  abbrev pub next : ControlledWorld C → Event → ControlledWorld C
  next w event = controlled_after w (happens_to control w event)

  pub leads-here : (w : ControlledWorld C) (goal : ControlledWorld C → Type 0) → goal w → HasWay control 0 w goal
  leads-here w goal is = record { events = []; are_passive = tt; few = omega arith; leads = is }

  pub leads-by : (most : ℕ) (w : ControlledWorld C) (goal : ControlledWorld C → Type 0) (event : Event) → IsPassive event → HasWay control most (next w event) goal
      → HasWay control (most + 1) w goal
  leads-by most w goal event passive rest =
      record { events = event ∷ rest.events; are_passive = (passive, rest.are_passive); few = omega (arith, rest.few); leads = rest.leads }

  pub leads-within : (fewer most : ℕ) (w : ControlledWorld C) (goal : ControlledWorld C → Type 0) → fewer ≤ most → HasWay control fewer w goal
      → HasWay control most w goal
  leads-within fewer most w goal under way =
      record { events = way.events; are_passive = way.are_passive; few = omega (arith, way.few, under); leads = way.leads }

-- Each event of a passive list is a timer or a delivery.
passive-one : (e : Event) → IsPassive e
    → ((side : Side) × ((timer : Timer) × (e ≡ event.Timer side timer))) ⊎ ((from : Side) × ((index : ℕ) × (e ≡ event.Deliver from index)))
passive-one (event.Timer side timer) is = inl (side, (timer, refl))
passive-one (event.Deliver from index) is = inr (from, (index, refl))
passive-one _ is = absurd is

pub passive-at : (events : List Event) (place : ℕ) (e : Event) → ArePassive events → slice_get events place ≡ Some e
    → ((side : Side) × ((timer : Timer) × (e ≡ event.Timer side timer))) ⊎ ((from : Side) × ((index : ℕ) × (e ≡ event.Deliver from index)))
passive-at [] place e are there = cc there
passive-at (now ∷ later) zero e are there = passive-one e (subst IsPassive (same_Some now e there) are.0)
passive-at (now ∷ later) (suc place) e are there = passive-at later place e are.1 there
