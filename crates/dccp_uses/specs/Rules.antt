-- What a rule of a path makes its end do (own).
use Rattle.std.specs.Prelude.{ℕ, Bool, false, [], ◌∷◌, Option, Some, None, Result, is_ok, if◌then◌else◌}
use Rattle.congestion_trait.specs.Control.{Control}
use Rattle.dccp_endpoint.specs.Calling.{aborts, fires, prefers}
use Rattle.dccp_endpoint.specs.Controlled.{End, EndStep, has_in_flight, with_control}
use Rattle.dccp_endpoint.specs.End.{held_of}
use Rattle.dccp_states.specs.declared.calls.Timer.TheVariants as timers
use Rattle.feature_lists.specs.declared.features.Feature.TheVariants.{AckRatio}
use Rattle.feature_lists.specs.declared.features.Place.TheVariants.{Here}
use Rattle.dccp_uses.specs.Alarms.{has_run_out, rung_by}
use Rattle.dccp_uses.specs.Path.{aimed, timed_out_path}
use Rattle.dccp_uses.specs.declared.alarms.Alarms.{Alarms}
use Rattle.dccp_uses.specs.declared.path.Path.{Path}
use Rattle.dccp_uses.specs.declared.rule.Rule.{Rule}
use Rattle.dccp_uses.specs.declared.rule.Rule.TheVariants as rule
use Rattle.dccp_uses.specs.declared.sight.Sight.{Sight}
use Rattle.dccp_uses.specs.declared.waits.Waits.{Waits}

-- the question goes out; if it is out already, its answer or a minute without one leads to a timeout
abbrev pub probe_rule : Option ℕ → Rule
probe_rule None = rule.Probe
probe_rule (Some probe) = rule.TimeOut

-- the first rule that is due
abbrev pub due_rule : Path → ℕ → Rule
due_rule path now =
    if has_run_out path.give_up now then rule.GiveUp
    else if has_run_out path.probing now then probe_rule path.probe
    else if has_run_out path.silence now then rule.Ask
    else if has_run_out path.ratio now then rule.Ratio
    else rule.Nothing

-- a step of the end, with the answer whether it was accepted
abbrev pub unless_denied : {C Fault : Type 0} → EndStep C (Result (Unit {0}) Fault) → EndStep C Bool
unless_denied step = record { after = step.after; frame = step.frame; answer = is_ok step.answer }

-- a wish for this Ack Ratio (RFC 4340, section 6.6.1); even one for the present value makes the peer answer
abbrev pub asks_ratio : {C : Type 0} → Control C → End C → ℕ → EndStep C Bool
asks_ratio control end ratio = unless_denied (with_control control end.congestion (prefers end.state (AckRatio, Here) (ratio ∷ [])))

-- Each rule makes the end do what a user or a timer may.
abbrev pub rule_does : {C : Type 0} → Control C → End C → Rule → ℕ → EndStep C Bool
rule_does control end rule.Nothing aim = record { after = end; frame = None; answer = false }
rule_does control end rule.GiveUp aim = unless_denied (with_control control end.congestion (aborts end.state))
rule_does control end rule.TimeOut aim = with_control control end.congestion (fires end.state timers.Rto (has_in_flight control end.congestion))
rule_does control end rule.Probe aim = asks_ratio control end (held_of end.state AckRatio Here).value
rule_does control end rule.Ask aim = asks_ratio control end (held_of end.state AckRatio Here).value
rule_does control end rule.Ratio aim = asks_ratio control end aim

-- the timers after that: with a wish negotiate starts again, and a timeout counts as one of rto
abbrev pub alarms_by_rule : Waits → Alarms → Rule → ℕ → Alarms
alarms_by_rule waits alarms rule.Nothing now = alarms
alarms_by_rule waits alarms rule.GiveUp now = alarms
alarms_by_rule waits alarms rule.TimeOut now = rung_by waits alarms timers.Rto now
alarms_by_rule waits alarms rule.Probe now = record alarms { negotiate = None }
alarms_by_rule waits alarms rule.Ask now = record alarms { negotiate = None }
alarms_by_rule waits alarms rule.Ratio now = record alarms { negotiate = None }

-- What is kept after that: a question waits a minute for its answer, a silent peer is asked again after ten seconds, and the time of a wish for
-- the Ack Ratio is kept.
abbrev pub path_by_rule : Path → Rule → Sight → ℕ → Path
path_by_rule path rule.Nothing sight now = path
path_by_rule path rule.GiveUp sight now = record path { give_up = None }
path_by_rule path rule.TimeOut sight now = aimed (timed_out_path (record path { probe = None; probing = None }) sight.gss) sight now
path_by_rule path rule.Probe sight now = record path { probe = Some sight.gss; probing = Some (record { since = now; wait = 60000 }) }
path_by_rule path rule.Ask sight now = record path { silence = Some (record { since = now; wait = 10000 }) }
path_by_rule path rule.Ratio sight now = record path { ratio = None; asked = Some now }
