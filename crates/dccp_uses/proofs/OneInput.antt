-- Each step of an end with its timers is one input of the end, or none.
use Rattle.std.proofs.Common.{◌≡◌, refl, ℕ, List, [], ◌∷◌, Bool, true, false, Option, Some, None, Result, Ok, Err}
use Rattle.congestion_trait.specs.Control.{Control, may_send}
use Rattle.dccp_endpoint.specs.Controlled.{End, EndStep, has_in_flight, in_flight_of, with_control}
use Rattle.dccp_endpoint.specs.End.{held_of}
use Rattle.dccp_endpoint.specs.Calling.{aborts, closes, opens, prefers, sends_payload}
use Rattle.dccp_endpoint.specs.Early.{is_part_open, sends_by, sends_early}
use Rattle.dccp_endpoint.specs.Inputs.{Input}
use Rattle.dccp_endpoint.specs.Inputs as input
use Rattle.dccp_states.specs.declared.calls.Timer.TheVariants as timers
use Rattle.feature_lists.specs.declared.features.Feature.{Feature}
use Rattle.feature_lists.specs.declared.features.Feature.TheVariants.{AckRatio}
use Rattle.feature_lists.specs.declared.features.Place.{Place}
use Rattle.feature_lists.specs.declared.features.Place.TheVariants.{Here}
use Rattle.dccp_uses.specs.Inputs.{IsItsOwn, StepsAreInputs, TookOne, TookOneInput, end_after_input, frame_after_input}
use Rattle.dccp_uses.specs.Reader.{restraint_of}
use Rattle.dccp_uses.specs.Rules.{due_rule, rule_does}
use Rattle.dccp_uses.specs.Syncs.{admitted}
use Rattle.dccp_uses.specs.Timed.{TimedState, due_told, heard_if, timed_aborts, timed_called, timed_calls, timed_closes, timed_opens, timed_prefers, timed_sends_by, with_path}
use Rattle.dccp_uses.specs.Upkeeps.{kept_called, kept_closed, kept_opened, kept_preferred, kept_sent}
use Rattle.dccp_uses.specs.declared.path.Path.{Path}
use Rattle.dccp_uses.specs.declared.reader.Restraint.{Restraint}
use Rattle.dccp_uses.specs.declared.rule.Rule.{Rule}
use Rattle.dccp_uses.specs.declared.rule.Rule.TheVariants as rule
use Rattle.dccp_uses.specs.declared.timed_end.Due.{Due}
use Rattle.dccp_uses.specs.declared.timed_end.Due.TheVariants as due
use Rattle.dccp_uses.specs.declared.upkeep.Upkeep.{Upkeep}

module _ {C : Type 0} (control : Control C) where
  none-taken : (e : End C) → TookOneInput control e e None
  none-taken e = record { given = None; own = tt; end_is = refl; frame_is = refl }

  -- a call that was taken is its input, and one that was refused is none
  called-by : {Fault : Type 0} (s : TimedState C) (upkeep : Upkeep) (step : EndStep C (Result (Unit {0}) Fault)) (given : Input)
      → IsItsOwn control s.end (Some given) → step.after ≡ end_after_input control s.end (Some given)
      → step.frame ≡ frame_after_input control s.end (Some given) → (answer : Result (Unit {0}) Fault)
      → TookOne control s (timed_called s upkeep step answer)
  called-by s upkeep step given own after frame (Ok done) = record { given = Some given; own = own; end_is = after; frame_is = frame }
  called-by s upkeep step given own after frame (Err fault) = none-taken s.end

  called-one : {Fault : Type 0} (s : TimedState C) (kept : Upkeep → End C → Upkeep) (step : EndStep C (Result (Unit {0}) Fault)) (given : Input)
      → IsItsOwn control s.end (Some given) → step.after ≡ end_after_input control s.end (Some given)
      → step.frame ≡ frame_after_input control s.end (Some given) → TookOne control s (timed_calls s kept step)
  called-one s kept step given own after frame = called-by s (kept s.upkeep step.after) step given own after frame step.answer

  sent-one : (now : ℕ) (s : TimedState C) (payload : List ℕ) (early : Bool)
      → TookOne control s
      (timed_calls s (kept_sent control now)
      (with_control control s.end.congestion (sends_by early s.end.state payload (may_send control s.end.congestion))))
  sent-one now s payload true =
      let step = with_control control s.end.congestion (sends_early s.end.state payload (may_send control s.end.congestion)) in
      called-one s (kept_sent control now) step (input.SendsEarly payload (may_send control s.end.congestion)) refl refl refl
  sent-one now s payload false =
      let step = with_control control s.end.congestion (sends_payload s.end.state payload (may_send control s.end.congestion)) in
      called-one s (kept_sent control now) step (input.Sends payload (may_send control s.end.congestion)) refl refl refl

  sent-by : (now : ℕ) (s : TimedState C) (payload : List ℕ) (why : Option Restraint) → TookOne control s (timed_sends_by control now s payload why)
  sent-by now s payload None =
      let one = sent-one now s payload (is_part_open s.end.state.phase) in
      record { given = one.given; own = one.own; end_is = one.end_is; frame_is = one.frame_is }
  sent-by now s payload (Some why) = none-taken s.end

  heard-one : (now : ℕ) (s : TimedState C) (path : Path) (bytes : List ℕ) (heard : Bool)
      → TookOne control s (heard_if control now (with_path s path) bytes heard)
  heard-one now s path bytes true = record { given = Some (input.Arrives bytes); own = tt; end_is = refl; frame_is = refl }
  heard-one now s path bytes false = none-taken s.end

  ruled-one : (e : End C) (it : Rule) (aim : ℕ) → TookOneInput control e (rule_does control e it aim).after (rule_does control e it aim).frame
  ruled-one e rule.Nothing aim = none-taken e
  ruled-one e rule.GiveUp aim = record { given = Some input.Aborts; own = tt; end_is = refl; frame_is = refl }
  ruled-one e rule.TimeOut aim =
      record { given = Some (input.Fires timers.Rto (has_in_flight control e.congestion)); own = refl; end_is = refl; frame_is = refl }
  ruled-one e rule.Probe aim =
      record { given = Some (input.Prefers (AckRatio, Here) ((held_of e.state AckRatio Here).value ∷ [])); own = tt; end_is = refl; frame_is = refl }
  ruled-one e rule.Ask aim =
      record { given = Some (input.Prefers (AckRatio, Here) ((held_of e.state AckRatio Here).value ∷ [])); own = tt; end_is = refl; frame_is = refl }
  ruled-one e rule.Ratio aim = record { given = Some (input.Prefers (AckRatio, Here) (aim ∷ [])); own = tt; end_is = refl; frame_is = refl }

  told-one : (now : ℕ) (s : TimedState C) (it : Due) → TookOne control s (due_told control now s it)
  told-one now s (due.Timer timer) =
      record { given = Some (input.Fires timer (has_in_flight control s.end.congestion)); own = refl; end_is = refl; frame_is = refl }
  told-one now s due.Rules =
      let one = ruled-one s.end (due_rule s.upkeep.path now) s.upkeep.path.aim in
      record { given = one.given; own = one.own; end_is = one.end_is; frame_is = one.frame_is }

  opened-one : (now : ℕ) (s : TimedState C) → TookOne control s (timed_opens control now s)
  opened-one now s = called-one s (kept_opened control now) (with_control control s.end.congestion (opens s.end.state)) input.Opens tt refl refl

  wished-one : (now : ℕ) (s : TimedState C) (feature : Feature) (place : Place) (values : List ℕ)
      → TookOne control s (timed_prefers control now s feature place values)
  wished-one now s feature place values =
      let step = with_control control s.end.congestion (prefers s.end.state (feature, place) values) in
      called-one s (kept_preferred control now) step (input.Prefers (feature, place) values) tt refl refl

  closed-one : (now : ℕ) (s : TimedState C) → TookOne control s (timed_closes control now s)
  closed-one now s = called-one s (kept_closed control now) (with_control control s.end.congestion (closes s.end.state)) input.Closes tt refl refl

  aborted-one : (now : ℕ) (s : TimedState C) → TookOne control s (timed_aborts control now s)
  aborted-one now s = called-one s (kept_called control now) (with_control control s.end.congestion (aborts s.end.state)) input.Aborts tt refl refl

  pub steps_are_inputs : StepsAreInputs control
  steps_are_inputs = record {
    opens = opened-one;
    sends = λ now s payload. sent-by now s payload (restraint_of s.upkeep.path.reader (in_flight_of control s.end.congestion));
    prefers = wished-one;
    closes = closed-one;
    aborts = aborted-one;
    takes = λ now s bytes. heard-one now s (admitted s.end.state s.upkeep.path bytes now).path bytes (admitted s.end.state s.upkeep.path bytes now).heard;
    told = told-one;
  }
