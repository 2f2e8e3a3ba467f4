-- What `run` writes for an input: the lines of each event that takes place, then the two end lines or the line of the first refusal (own).
use Rattle.std.specs.Prelude.{◌≡◌, ℕ, ◌+◌, ◌≤◌, ◌++◌, Bool, true, false, ◌&&◌, ◌==◌, nat_lt, if◌then◌else◌, List, length, All, Option, Some, None, is_some, IfSome, Result, Ok, Err}
use Rattle.ack_vectors.specs.declared.room.Vectors.{Vectors}
use Rattle.ack_vectors.specs.declared.room.Vectors.TheVariants.{One, Two}
use Rattle.dccp_endpoint.specs.Usual.{usual}
use Rattle.dccp_endpoint.specs.declared.config.Config.{Config}
use Rattle.dccp_states.specs.declared.phase.Role.TheVariants as role
use Rattle.feature_lists.specs.Wishes.{is_ours, wish_of}
use Rattle.feature_lists.specs.declared.features.Feature.{Feature}
use Rattle.feature_lists.specs.declared.features.Place.{Place}
use Rattle.feature_lists.specs.declared.wishes.PreferFault.{PreferFault}
use Rattle.feature_lists.specs.declared.wishes.Wanted.{Wanted}
use Rattle.feature_machine.specs.Lists.{with_wish, with_offer}
use Rattle.ccid_two.specs.Kinds.{Both, at_first, kinds_control}
use Rattle.two_ends.specs.Controlled.{ControlledWorld, ControlledStep, begins_with, happens_to}
use Rattle.two_ends.specs.World.{half_of}
use Rattle.dccp_endpoint.specs.Drafts.{Fits}
use Rattle.two_ends.specs.Safe.{Safe}
use Rattle.world_events.specs.declared.event.Event.{Event}
use Rattle.world_events.specs.declared.event.Side.{Side}
use Rattle.world_events.specs.declared.event.Side.TheVariants.{Client, Server}
use Rattle.world_events.specs.declared.event.WorldFault.{WorldFault}
use Rattle.world_events.specs.declared.event.WorldFault.TheVariants as fault
use Rattle.schedule_text.specs.Reading.{read_line}
use Rattle.schedule_text.specs.declared.line.Line.{Line}
use Rattle.schedule_text.specs.declared.line.Line.TheVariants as line
use Rattle.tool_text.specs.Refusals.{whole_line}
use Rattle.tool_text.specs.declared.lines.error.LineError.{LineError}
use Rattle.tool_text.specs.declared.lines.error.LineError.TheVariants as line_error
use Rattle.tool_text.specs.declared.words.faults.LineFault.{LineFault}
use Rattle.tool_text.specs.declared.words.faults.LineWhy.{LineWhy}
use Rattle.tool_text.specs.declared.words.faults.LineWhy.TheVariants as why
use Rattle.tool_jobs.specs.declared.run.play.Play.{Play}
use Rattle.tool_jobs.specs.Ends.{config_without_offers}
use Rattle.tool_text.specs.Jobs.{LinesResult, Job, LineVerdict, Accepted, Refused, gone_through, text_of_job, most_events}
use Rattle.tool_jobs.specs.Scenes.{Scene, scene_text}
use Rattle.tool_jobs.specs.WorldLines.{end_lines}

-- The state of a schedule before its first line: the two usual ends are configured.
abbrev pub first_play : Play
first_play = record { events = 0; is_configured = false; client = usual role.Client; server = usual role.Server; world = None }

-- two ends of these configurations that have sent and received nothing, each with its own congestion control
abbrev pub starts : Config → Config → ControlledWorld Both
starts client server = begins_with kinds_control client server at_first at_first

-- the world that events have led to, or that of two ends to which nothing has happened
abbrev pub world_or_start : Config → Config → Option (ControlledWorld Both) → ControlledWorld Both
world_or_start client server None = starts client server
world_or_start client server (Some w) = w

-- The world of a schedule: until its first event, that of the two configurations.
abbrev pub world_of : Play → ControlledWorld Both
world_of play = world_or_start play.client play.server play.world

-- A delivery names no frame; its name follows `deliver `.
abbrev pub no_such_frame : LineFault
no_such_frame = record { column = 9; why = why.NoSuchFrame }

-- a schedule with a line that has to come before all events
abbrev pub with_header : Play → Play
with_header play = record play { is_configured = true }

-- A line that has to come before all events changes the configurations.
abbrev pub configures : Play → (Play → Play) → LineVerdict Scene Play
configures play change = if is_some play.world then Refused (whole_line why.HeaderLate) else Accepted None (change (with_header play))

-- the configuration of a side, as the lines so far have it
abbrev pub config_of : Play → Side → Config
config_of play Client = play.client
config_of play Server = play.server

-- the same schedule with another configuration of this side
abbrev pub with_config : Side → Config → Play → Play
with_config Client config play = record play { client = config }
with_config Server config play = record play { server = config }

-- how many options the Ack Vectors of a version's packets have at most
abbrev pub vectors_of : ℕ → Vectors
vectors_of version = if version == 2 then Two else One

-- the same schedule, with such Ack Vectors of both ends
abbrev pub with_vectors : Vectors → Play → Play
with_vectors vectors play =
    record play { client = record play.client { vectors = vectors }; server = record play.server { vectors = vectors } }

-- The version has to come before every other line that says something, and so comes only once.
abbrev pub says_version : Play → ℕ → LineVerdict Scene Play
says_version play version =
    if play.is_configured then Refused (whole_line why.HeaderLate) else configures play (with_vectors (vectors_of version))

-- a side whose initial sequence number is this one
abbrev pub with_iss : Side → ℕ → Play → Play
with_iss side number play = with_config side (record (config_of play side) { iss = number }) play

-- neither of the two ends offers a feature
abbrev pub says_plain : Play → Play
says_plain play = record play { client = config_without_offers play.client; server = config_without_offers play.server }

-- A wish or an offer that an end may not have changes nothing, since its line was refused before. So the transcript needs no premise for it.
abbrev pub wishing : Config → Feature → Place → Result Wanted PreferFault → Config
wishing config feature place (Ok wish) = record config { lists = with_wish config.lists feature place wish }
wishing config feature place (Err fault) = config

-- a configuration with one more offer, if an end may make it
abbrev pub offering : Config → Feature → Place → Bool → Config
offering config feature place mandatory =
    if is_ours feature place then record config { lists = with_offer config.lists feature place mandatory } else config

-- a side that is configured with these values of a feature, if an end may have them
unfoldable pub with_set : Side → Feature → Place → List ℕ → Play → Play
with_set side feature place values play =
    with_config side (wishing (config_of play side) feature place (wish_of feature place values)) play

-- a side that is configured to offer a feature, if an end may do so
abbrev pub with_offered : Side → Feature → Place → Bool → Play → Play
with_offered side feature place mandatory play = with_config side (offering (config_of play side) feature place mandatory) play

-- An event that takes place, or the fault of its line: it names no frame. (No schedule leads to a world without room
-- for the event, or to a frame that is far. Some fault has to be named for these cases, which the code does not have.)
abbrev pub by_step : ℕ → ControlledWorld Both → Event → Result (ControlledStep Both) WorldFault → Result Scene LineFault
by_step number before event (Ok step) = Ok (record { number = number; before = before; event = event; step = step })
by_step number before event (Err fault.NoSuchFrame) = Err no_such_frame
by_step number before event (Err _) = Err (whole_line why.TooManyEvents)

-- An event of a world, under the number of its line.
abbrev pub event_shown : ℕ → ControlledWorld Both → Event → Result Scene LineFault
event_shown number before event = by_step number before event (happens_to kinds_control before event)

-- an event that took place is counted, and the schedule goes on from the world that it left
abbrev pub by_scene : Play → Result Scene LineFault → LineVerdict Scene Play
by_scene play (Ok scene) = Accepted (Some scene) (record play { events = play.events + 1; world = Some scene.step.after })
by_scene play (Err fault) = Refused fault

-- the line of an event, which is refused once a schedule has the most events that it may have
abbrev pub says_event : Play → ℕ → Event → LineVerdict Scene Play
says_event play number event =
    if nat_lt play.events most_events then by_scene play (event_shown number (world_of play) event) else Refused (whole_line why.TooManyEvents)

-- a wish or an offer that an end may not have
abbrev pub is_of_wish : LineWhy → Bool
is_of_wish why.BadList = true
is_of_wish why.NotOurs = true
is_of_wish _ = false

-- It is judged once its line is known to come before all events.
abbrev pub in_place : Play → LineFault → LineFault
in_place play fault = if is_some play.world && is_of_wish fault.why then whole_line why.HeaderLate else fault

-- what a line says changes a configuration, makes an event happen, or does nothing
abbrev pub by_line : Play → ℕ → Result Line LineFault → LineVerdict Scene Play
by_line play number (Err fault) = Refused (in_place play fault)
by_line play number (Ok line.Nothing) = Accepted None play
by_line play number (Ok (line.Version version)) = says_version play version
by_line play number (Ok line.Plain) = configures play says_plain
by_line play number (Ok (line.Iss side iss)) = configures play (with_iss side iss)
by_line play number (Ok (line.Set side place feature values)) = configures play (with_set side feature place values)
by_line play number (Ok (line.Offer side place feature mandatory)) = configures play (with_offered side feature place mandatory)
by_line play number (Ok (line.Event event)) = says_event play number event

-- A line of this number, without its newline. Its faults are judged in this order: the line by itself up to its words,
-- that it comes before all events, what an end may wish, the count of events, the frame that it names.
unfoldable pub judged_line : Play → ℕ → List ℕ → LineVerdict Scene Play
judged_line play number line = by_line play number (read_line line)

-- What `run` does with the lines of an input: the events that take place, and at its end the two end lines.
abbrev pub run_job : Job Scene Play
run_job = record { judged = judged_line; told = scene_text; ending = λ play. end_lines (world_of play) }

-- An event was shown in this way, unless there was no memory.
abbrev pub ShowsEvent : Result Scene LineFault → List ℕ → List ℕ → ControlledWorld Both → Result (Unit {0}) LineError → Type 0
ShowsEvent shown old new after (Err line_error.NoMemory) = Unit {0}
ShowsEvent (Ok scene) old new after answer = (new ≡ old ++ scene_text scene) × (after ≡ scene.step.after) × (answer ≡ Ok tt)
ShowsEvent (Err fault) old new after answer = (new ≡ old) × (answer ≡ Err (line_error.Refused fault))

-- Neither side has sent more frames than this.
abbrev pub SentFew : ControlledWorld Both → ℕ → Type 0
SentFew w most = (side : Side) → length (half_of w.world side).frames ≤ most

-- A client and a server, whose fields fit their widths.
pub record ArePeers (client server : Config) : Type 0 where
  pub is_client : client.role ≡ role.Client
  pub is_server : server.role ≡ role.Server
  pub client_fits : Fits client
  pub server_fits : Fits server

-- Before each line the configurations are those of a client and a server, and no side has sent more frames than there
-- were events.
pub record IsPlayable (play : Play) : Type 0 where
  pub peers : ArePeers play.client play.server
  pub few : IfSome play.world (λ w. SentFew w play.events)

-- The result of an input, played from the two usual ends.
abbrev pub performed : List ℕ → LinesResult Scene Play
performed input = gone_through run_job first_play input

-- What `run` writes for an input.
abbrev pub transcript : List ℕ → List ℕ
transcript input = text_of_job run_job (performed input)

-- The input is refused at some line.
abbrev pub is_refused : List ℕ → Bool
is_refused input = is_some (performed input).refusal

-- How many bytes the accepted lines of an input have: those before the first that is refused.
abbrev pub accepted_bytes : List ℕ → ℕ
accepted_bytes input = (performed input).accepted

-- Each event took place in a safe world and left a safe one, and the schedule ends in a safe one: the worlds of which
-- the lines are made.
abbrev pub IsSafeThroughout : LinesResult Scene Play → Type 0
IsSafeThroughout whole =
    All (λ scene. Safe kinds_control scene.before × Safe kinds_control scene.step.after) whole.deeds × Safe kinds_control (world_of whole.last)

-- the same for the result of this input
abbrev pub SafeThroughout : List ℕ → Type 0
SafeThroughout input = IsSafeThroughout (performed input)

-- The two ends as the last lines configured them, to which nothing has happened.
abbrev pub world_at_first : LinesResult Scene Play → ControlledWorld Both
world_at_first whole = starts whole.last.client whole.last.server
