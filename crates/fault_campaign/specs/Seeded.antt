-- The run of a seed (own): two usual ends, initial numbers and events drawn from the seed, and what is counted of it. A draw depends on how many
-- frames there are, so the events are defined together with their run. An event that cannot happen is passed over, and none is drawn
-- (`drawn_events_happen`): an index is below the number of frames, and 4,096 events send so few frames that no side is full and no frame is far.
use Rattle.std.specs.Prelude.{ℕ, zero, suc, ◌-◌, List, [], ◌∷◌, length, Result, Ok, Err}
use Rattle.rand_pcg.specs.Lcg.{Lcg}
use Rattle.ccid_two.specs.Kinds.{Both, at_first, kinds_control}
use Rattle.dccp_endpoint.specs.Usual.{usual}
use Rattle.dccp_endpoint.specs.declared.config.Config.{Config}
use Rattle.dccp_states.specs.declared.phase.Role.{Role}
use Rattle.dccp_states.specs.declared.phase.Role.TheVariants as role
use Rattle.two_ends.specs.Controlled.{ControlledWorld, ControlledStep, begins_with, happens_to}
use Rattle.two_ends.specs.World.{half_of}
use Rattle.world_events.specs.declared.event.Event.{Event}
use Rattle.world_events.specs.declared.event.Event.TheVariants.{Open}
use Rattle.world_events.specs.declared.event.Side.{Side}
use Rattle.world_events.specs.declared.event.Side.TheVariants.{Client, Server}
use Rattle.world_events.specs.declared.event.WorldFault.{WorldFault}
use Rattle.fault_campaign.specs.Draws.{generator, word, after_one, after_two, initial_number, drawn}
use Rattle.fault_campaign.specs.Reports.{nothing, with_seen, settled_of}
use Rattle.fault_campaign.specs.declared.report.Report.{Report}

-- a run on its way: the generator, the two ends, and what was counted
pub record RunState : Type 0 where
  pub words : Lcg
  pub world : ControlledWorld Both
  pub report : Report

-- the usual end with another initial number
abbrev pub usual_from : Role → ℕ → Config
usual_from role number = record (usual role) { iss = number }

-- the client's number is drawn first
unfoldable pub begun_run : Lcg → RunState
begun_run g =
    record {
      words = after_two (after_two g);
      world = begins_with kinds_control (usual_from role.Client (initial_number g)) (usual_from role.Server (initial_number (after_two g))) at_first at_first;
      report = nothing;
    }

-- how many frames this side has sent in the run
abbrev pub frames_of : RunState → Side → ℕ
frames_of run side = length (half_of run.world.world side).frames

-- a run after an event and its result; one that cannot happen changes nothing
abbrev pub after_event : RunState → Result (ControlledStep Both) WorldFault → RunState
after_event run (Ok step) = record run { world = step.after; report = with_seen run.report step.seen }
after_event run (Err fault) = run

-- a run after this event, with what was counted of it
unfoldable pub played : RunState → Event → RunState
played run event = after_event run (happens_to kinds_control run.world event)

-- one event more, drawn from two words
abbrev pub next_event : RunState → Event
next_event run = drawn (word run.words) (word (after_one run.words)) (frames_of run Client) (frames_of run Server)

-- a run after its next event, for which two words were drawn
abbrev pub goes_on : RunState → RunState
goes_on run = played (record run { words = after_two run.words }) (next_event run)

-- a run after this many further events
abbrev pub goes_on_for : ℕ → RunState → RunState
goes_on_for zero run = run
goes_on_for (suc n) run = goes_on_for n (goes_on run)

-- the first event opens the connection
abbrev pub opened_run : ℕ → RunState
opened_run seed = played (begun_run (generator seed)) Open

-- The run of a seed with this many events.
abbrev pub seeded : ℕ → ℕ → RunState
seeded seed events = goes_on_for (events - 1) (opened_run seed)

-- this many further events of a run, as a schedule
abbrev pub next_events : ℕ → RunState → List Event
next_events zero run = []
next_events (suc n) run = next_event run ∷ next_events n (goes_on run)

-- the events of the run of a seed, of which the first opens the connection
abbrev pub seeded_events : ℕ → ℕ → List Event
seeded_events seed events = Open ∷ next_events (events - 1) (opened_run seed)

-- what is reported of a run
abbrev pub run_report : RunState → ℕ → Report
run_report run events =
    record run.report {
      seeds = 1;
      events = events;
      client_frames = frames_of run Client;
      server_frames = frames_of run Server;
      settled = settled_of run.world.world;
    }

-- the report of a single seed, whose run has this many events
unfoldable pub seeded_report : ℕ → ℕ → Report
seeded_report seed events = run_report (seeded seed events) events
