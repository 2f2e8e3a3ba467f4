-- The rules do to an end only what a schedule of the world may do to it (own).
use Rattle.std.specs.Prelude.{◌≡◌, ℕ, List, Option, Some, None}
use Rattle.congestion_trait.specs.Control.{Control, may_send}
use Rattle.dccp_packets.specs.Outgoing.{Outgoing}
use Rattle.dccp_endpoint.specs.Controlled.{End, has_in_flight, with_control}
use Rattle.dccp_endpoint.specs.Inputs.{Input, end_stepped}
use Rattle.dccp_endpoint.specs.Inputs as input
use Rattle.feature_lists.specs.declared.features.Feature.{Feature}
use Rattle.feature_lists.specs.declared.features.Place.{Place}
use Rattle.dccp_uses.specs.Timed.{TimedState, TimedStep, due_told, timed_aborts, timed_closes, timed_opens, timed_prefers, timed_sends, timed_takes}
use Rattle.dccp_uses.specs.declared.timed_end.Due.{Due}

-- an end after an input, or left alone
abbrev pub end_after_input : {C : Type 0} → Control C → End C → Option Input → End C
end_after_input control e None = e
end_after_input control e (Some given) = (with_control control e.congestion (end_stepped e.state given)).after

-- the frame that goes out
abbrev pub frame_after_input : {C : Type 0} → Control C → End C → Option Input → Option Outgoing
frame_after_input control e None = None
frame_after_input control e (Some given) = (with_control control e.congestion (end_stepped e.state given)).frame

-- an input's answers of the congestion control are those of the end's own
abbrev pub IsItsOwn : {C : Type 0} → Control C → End C → Option Input → Type 0
IsItsOwn control e None = Unit {0}
IsItsOwn control e (Some (input.Arrives bytes)) = Unit {0}
IsItsOwn control e (Some input.Opens) = Unit {0}
IsItsOwn control e (Some input.Closes) = Unit {0}
IsItsOwn control e (Some input.Aborts) = Unit {0}
IsItsOwn control e (Some (input.Prefers key values)) = Unit {0}
IsItsOwn control e (Some (input.Sends payload may)) = may ≡ may_send control e.congestion
IsItsOwn control e (Some (input.SendsEarly payload may)) = may ≡ may_send control e.congestion
IsItsOwn control e (Some (input.Fires timer in_flight)) = in_flight ≡ has_in_flight control e.congestion

-- The end took one input, or none, and nothing else was done to it or sent for it.
pub record TookOneInput {C : Type 0} (control : Control C) (before after : End C) (frame : Option Outgoing) : Type 0 where
  pub given : Option Input
  pub own : IsItsOwn control before given
  pub end_is : after ≡ end_after_input control before given
  pub frame_is : frame ≡ frame_after_input control before given

-- the same for a step of an end with its timers
abbrev pub TookOne : {C Answer : Type 0} → Control C → TimedState C → TimedStep C Answer → Type 0
TookOne control s step = TookOneInput control s.end step.timed.end step.frame

-- Each step is such an input, with any rules, alarms, path and time.
pub record StepsAreInputs {C : Type 0} (control : Control C) : Type 0 where
  pub opens : (now : ℕ) (s : TimedState C) → TookOne control s (timed_opens control now s)
  pub sends : (now : ℕ) (s : TimedState C) (payload : List ℕ) → TookOne control s (timed_sends control now s payload)
  pub prefers : (now : ℕ) (s : TimedState C) (feature : Feature) (place : Place) (values : List ℕ)
      → TookOne control s (timed_prefers control now s feature place values)
  pub closes : (now : ℕ) (s : TimedState C) → TookOne control s (timed_closes control now s)
  pub aborts : (now : ℕ) (s : TimedState C) → TookOne control s (timed_aborts control now s)
  pub takes : (now : ℕ) (s : TimedState C) (bytes : List ℕ) → TookOne control s (timed_takes control now s bytes)
  pub told : (now : ℕ) (s : TimedState C) (it : Due) → TookOne control s (due_told control now s it)
