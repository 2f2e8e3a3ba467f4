-- What a call has the end do is what the definitions say, where each part of it is told by itself.
use Rattle.std.proofs.Common.{◌≡◌, sym, ap, ◌∙◌, ℕ, Bool, true, List, Option, Some, Result, Ok}
use Rattle.congestion_trait.specs.Control.{Control}
use Rattle.dccp_packets.specs.Outgoing.{Outgoing}
use Rattle.dccp_endpoint.specs.Controlled.{End, EndStep}
use Rattle.dccp_states.specs.declared.outcome.Outcome.{Outcome}
use Rattle.dccp_uses.specs.Syncs.{admitted}
use Rattle.dccp_uses.specs.Timed.{TimedState, TimedStep, heard_if, heard_out, timed_calls, timed_hears, timed_step, timed_takes, with_path}
use Rattle.dccp_uses.specs.declared.path.Path.{Path}
use Rattle.dccp_uses.specs.declared.upkeep.Upkeep.{Upkeep}

-- a step of the end, and what is kept of it by that step
pub stepped_as : {C Answer : Type 0} (s old : TimedState C) → s ≡ old → (step : TimedState C → EndStep C Answer)
    (kept : TimedState C → EndStep C Answer → Upkeep) (end : End C) (frame : Option Outgoing) (answer : Answer) (upkeep : Upkeep)
    → record { after = end; frame = frame; answer = answer } ≡ step s
    → upkeep ≡ kept s (record { after = end; frame = frame; answer = answer })
    → record { timed = record { end = end; upkeep = upkeep }; frame = frame; answer = answer } ≡ timed_step (kept old (step old)) (step old)
stepped_as {C} {Answer} s old same step kept end frame answer upkeep step_is kept_is =
    ap (λ (u : Upkeep). timed_step u (record { after = end; frame = frame; answer = answer })) kept_is
    ∙ ap (λ (x : EndStep C Answer). timed_step (kept s x) x) step_is ∙ ap (λ (t : TimedState C). timed_step (kept t (step t)) (step t)) same

-- a call that the end took, where this was its state
pub called_as : {C Fault : Type 0} (s x : TimedState C) → s ≡ x → (calls : TimedState C → EndStep C (Result (Unit {0}) Fault))
    (kept : Upkeep → End C → Upkeep) (end : End C) (frame : Option Outgoing) (done : Unit {0}) (upkeep : Upkeep)
    → record { after = end; frame = frame; answer = Ok done } ≡ calls s
    → upkeep ≡ kept s.upkeep end
    → record { timed = record { end = end; upkeep = upkeep }; frame = frame; answer = Ok done } ≡ timed_calls x kept (calls x)
called_as {C} {Fault} s x is calls kept end frame done upkeep step_is kept_is =
    ap (λ (u : Upkeep). timed_step u (record { after = end; frame = frame; answer = Ok done })) kept_is
    ∙ ap (λ (step : EndStep C (Result (Unit {0}) Fault)). timed_calls s kept step) step_is
    ∙ ap (λ (t : TimedState C). timed_calls t kept (calls t)) is

-- a datagram that was admitted is heard with the limits that are left
pub taken_as : {C : Type 0} (control : Control C) (now : ℕ) (s next : TimedState C) (bytes : List ℕ) (frame : Option Outgoing) (outcome : Outcome)
    (heard : Bool) (path : Path)
    → heard ≡ (admitted s.end.state s.upkeep.path bytes now).heard
    → path ≡ (admitted s.end.state s.upkeep.path bytes now).path
    → heard ≡ true
    → record { timed = next; frame = frame; answer = outcome } ≡ timed_hears control now (with_path s path) bytes
    → record { timed = next; frame = frame; answer = Some outcome } ≡ timed_takes control now s bytes
taken_as {C} control now s next bytes frame outcome heard path heard_is path_is is step_is =
    ap (λ (x : TimedStep C Outcome). heard_out x) step_is
    ∙ ap (λ (x : Bool). heard_if control now (with_path s path) bytes x) (sym is ∙ heard_is)
    ∙ ap (λ (x : Path). heard_if control now (with_path s x) bytes (admitted s.end.state s.upkeep.path bytes now).heard) path_is
