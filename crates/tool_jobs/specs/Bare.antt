-- What `replay` writes for an input if its end has no receive buffer (own).
use Rattle.std.specs.Prelude.{ℕ, Bool, false, is_some, List, [], Result}
use Rattle.ccid_two.specs.Kinds.{Both, at_first, kinds_control}
use Rattle.dccp_endpoint.specs.Calling.{opens}
use Rattle.dccp_endpoint.specs.Controlled.{End, EndStep, begins, with_control}
use Rattle.dccp_endpoint.specs.Receiving.{receives}
use Rattle.dccp_states.specs.declared.calls.OpenFault.{OpenFault}
use Rattle.dccp_states.specs.declared.outcome.Outcome.{Outcome}
use Rattle.dccp_states.specs.declared.seen.Seen.TheVariants as seen
use Rattle.world_events.specs.declared.event.Side.{Side}
use Rattle.schedule_text.specs.Results.{result_line}
use Rattle.tool_jobs.specs.Replay.{ReplayStep, Acts, opened_line, replay_config, replay_of_input, text_of_replay}

-- the line of the call `open`, and the end after the call
abbrev pub bare_opened : EndStep Both (Result (Unit {0}) OpenFault) → ReplayStep (End Both)
bare_opened step = record { text = opened_line step.answer; after = step.after; frame = step.frame }

-- the line of what the end did with bytes that arrived, and the end after that
abbrev pub bare_heard : ℕ → List ℕ → EndStep Both Outcome → ReplayStep (End Both)
bare_heard number bytes step = record { text = result_line number (seen.Received step.answer) bytes; after = step.after; frame = step.frame }

-- Such an end has no lines besides frames.
abbrev pub bare_acts : Acts (End Both)
bare_acts = record {
  opening = λ e. bare_opened (with_control kinds_control e.congestion (opens e.state));
  hearing = λ e number bytes. bare_heard number bytes (with_control kinds_control e.congestion (receives e.state bytes));
  is_own = λ line. false;
  heeding = λ e number line. record { text = []; after = e };
  standing = λ e. e;
}

-- a new end of a side, with its offers or without
abbrev pub bare_end : Side → Bool → End Both
bare_end side plain = begins kinds_control (replay_config side plain) at_first

-- What `replay` writes for an input.
abbrev pub replay_text : Side → Bool → List ℕ → List ℕ
replay_text side plain input = text_of_replay bare_acts side (bare_end side plain) input

-- The input is refused at some line.
abbrev pub replay_refused : Side → Bool → List ℕ → Bool
replay_refused side plain input = is_some (replay_of_input bare_acts side (bare_end side plain) input).refusal

-- How many bytes the accepted lines of an input have: those before the first that is refused.
abbrev pub replay_accepted : Side → Bool → List ℕ → ℕ
replay_accepted side plain input = (replay_of_input bare_acts side (bare_end side plain) input).accepted
