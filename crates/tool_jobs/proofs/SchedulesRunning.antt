-- What a schedule's lines make happen is a run of two ends from their configurations.
use Rattle.std.proofs.Common.{◌≡◌, refl, sym, ap, ◌∙◌, subst, lit<, ℕ, zero, suc, ◌+◌, ◌<◌, Bool, true, false, if◌then◌else◌, List, [], ◌∷◌, ◌++◌, length, take, Option, Some, None, Result, Ok, Err}
use Rattle.std.proofs.lemmas.Bool.{ltb-true}
use Rattle.std.proofs.lemmas.List.Elements.{All-cons, All-head, All-nil, All-tail}
use Rattle.std.specs.Prelude.{⊤, All, flat_map, is_some, nat_lt, slice_get}
use Rattle.ccid_two.specs.Kinds.{Both, at_first, kinds_control}
use Rattle.dccp_endpoint.specs.Drafts.{Fits}
use Rattle.dccp_endpoint.specs.declared.config.Config.{Config}
use Rattle.dccp_io.specs.Lines.{Next, End, Line, Long, Much, lines_of, next_in_lines, text_of}
use Rattle.feature_machine.proofs.Listing.{usual_are_lists}
use Rattle.dccp_states.specs.declared.phase.Role.TheVariants as role
use Rattle.schedule_text.specs.Reading.{read_line}
use Rattle.schedule_text.specs.declared.line.Line as words
use Rattle.schedule_text.specs.declared.line.Line.TheVariants as line
use Rattle.tool_text.specs.Jobs.{LinesResult, LineVerdict, Accepted, Refused, by_next, gone_by, gone_from, gone_through, last_lines, most_events}
use Rattle.tool_text.specs.Refusals.{whole_line}
use Rattle.tool_text.specs.declared.words.faults.LineFault.{LineFault}
use Rattle.tool_text.specs.declared.words.faults.LineWhy.TheVariants as why
use Rattle.tool_jobs.specs.Scenes.{Scene, scene_events, scene_text, IsRun}
use Rattle.tool_jobs.specs.Transcript.{IsPlayable, SafeThroughout, with_header, by_line, by_scene, by_step, configures, event_shown, first_play, is_refused, judged_line, performed, run_job, says_event, says_plain, says_version, transcript, vectors_of, with_config, with_iss, with_offered, with_set, with_vectors, world_at_first, world_of, world_or_start}
use Rattle.tool_jobs.specs.WorldLines.{end_lines}
use Rattle.tool_jobs.specs.declared.run.play.Play.{Play}
use Rattle.two_ends.specs.Controlled.{ControlledWorld, ControlledStep, begins_with, controlled_after, happens_to, plays}
use Rattle.two_ends.specs.Safe.{Safe}
use Rattle.world_events.specs.declared.event.Event.{Event}
use Rattle.world_events.specs.declared.event.Side.{Side}
use Rattle.world_events.specs.declared.event.Side.TheVariants.{Client, Server}
use Rattle.world_events.specs.declared.event.WorldFault.{WorldFault}
use Rattle.world_events.specs.declared.event.WorldFault.TheVariants as fault

-- once there is a world, the configurations stay
abbrev Configured : Play → Play → Type 0
Configured play next = (next.client ≡ play.client) × (next.server ≡ play.server)

-- A line without an event keeps the world and the count, and one with an event leads on from the world in which it took place.
pub record Keeps (play next : Play) : Type 0 where
  pub world : next.world ≡ play.world
  pub events : next.events ≡ play.events
  pub configured : is_some play.world ≡ true → Configured play next

pub record LeadsOn (play : Play) (scene : Scene) (next : Play) : Type 0 where
  pub before : scene.before ≡ world_of play
  pub takes_place : happens_to kinds_control (world_of play) scene.event ≡ Ok scene.step
  pub world : next.world ≡ Some scene.step.after
  pub few : play.events < most_events
  pub events : next.events ≡ play.events + 1
  pub configured : Configured play next

abbrev pub Turns : Play → LineVerdict Scene Play → Type 0
Turns play (Accepted None next) = Keeps play next
Turns play (Accepted (Some scene) next) = LeadsOn play scene next
Turns play (Refused fault) = ⊤

configures-turns : (play : Play) (change : Play → Play) → (change (with_header play)).world ≡ play.world → (change (with_header play)).events ≡ play.events
    → Turns play (configures play change)
configures-turns play change world events = by (is_some play.world) refl where
  by : (late : Bool) → is_some play.world ≡ late → Turns play (if late then Refused (whole_line why.HeaderLate) else Accepted None (change (with_header play)))
  by true is = tt
  by false is = record { world = world; events = events; configured = λ some. cc (sym some ∙ is) }

config-world : (side : Side) (config : Config) (play : Play) → (with_config side config play).world ≡ play.world
config-world Client config play = refl
config-world Server config play = refl

config-events : (side : Side) (config : Config) (play : Play) → (with_config side config play).events ≡ play.events
config-events Client config play = refl
config-events Server config play = refl

version-turns : (play : Play) (version : ℕ) → Turns play (says_version play version)
version-turns play version = by play.is_configured where
  by : (late : Bool) → Turns play (if late then Refused (whole_line why.HeaderLate) else configures play (with_vectors (vectors_of version)))
  by true = tt
  by false = configures-turns play (with_vectors (vectors_of version)) refl refl

scene-turns : (play : Play) (number : ℕ) (event : Event) (result : Result (ControlledStep Both) WorldFault) → play.events < most_events
    → happens_to kinds_control (world_of play) event ≡ result → Turns play (by_scene play (by_step number (world_of play) event result))
scene-turns play number event (Ok step) few is =
    record { before = refl; takes_place = is; world = refl; few = few; events = refl; configured = (refl, refl) }
scene-turns play number event (Err fault.NoSuchFrame) few is = tt
scene-turns play number event _ few is = tt

event-turns : (play : Play) (number : ℕ) (event : Event) → Turns play (says_event play number event)
event-turns play number event = by (nat_lt play.events most_events) refl where
  by : (few : Bool) → nat_lt play.events most_events ≡ few
      → Turns play (if few then by_scene play (event_shown number (world_of play) event) else Refused (whole_line why.TooManyEvents))
  by true is = scene-turns play number event (happens_to kinds_control (world_of play) event) (ltb-true play.events most_events is) refl
  by false is = tt

said-turns : (play : Play) (number : ℕ) (said : Result words.Line LineFault) → Turns play (by_line play number said)
unfolding with_set
said-turns play number (Err fault) = tt
said-turns play number (Ok line.Nothing) = record { world = refl; events = refl; configured = λ _. (refl, refl) }
said-turns play number (Ok (line.Version version)) = version-turns play version
said-turns play number (Ok line.Plain) = configures-turns play says_plain refl refl
said-turns play number (Ok (line.Iss side iss)) =
    configures-turns play (with_iss side iss) (config-world side _ (with_header play)) (config-events side _ (with_header play))
said-turns play number (Ok (line.Set side place feature values)) =
    configures-turns play (with_set side feature place values) (config-world side _ (with_header play)) (config-events side _ (with_header play))
said-turns play number (Ok (line.Offer side place feature mandatory)) =
    configures-turns play (with_offered side feature place mandatory) (config-world side _ (with_header play)) (config-events side _ (with_header play))
said-turns play number (Ok (line.Event event)) = event-turns play number event

line-turns : (play : Play) (number : ℕ) (text : List ℕ) → Turns play (judged_line play number text)
unfolding judged_line
line-turns play number text = said-turns play number (read_line text)

pub next-turns : (play : Play) (number : ℕ) (next : Next) → Turns play (by_next run_job play number next)
next-turns play number (Line line) = line-turns play number (text_of line)
next-turns play number End = record { world = refl; events = refl; configured = λ _. (refl, refl) }
next-turns play number _ = tt

-- once there is a world
abbrev RunsOn : ControlledWorld Both → Play → LinesResult Scene Play → Type 0
RunsOn w play whole = IsRun w whole.deeds (world_of whole.last) × Configured play whole.last

runs-by : (rest : Play → LinesResult Scene Play) (number given : ℕ) → ((next : Play) (w : ControlledWorld Both) → next.world ≡ Some w → RunsOn w next (rest next))
    → (play : Play) (w : ControlledWorld Both) → play.world ≡ Some w → (verdict : LineVerdict Scene Play) → Turns play verdict
    → RunsOn w play (gone_by play number given verdict rest)
runs-by rest number given on play w is (Accepted None next) turns =
    let same = turns.configured (ap is_some is) in
    let more = on next w (turns.world ∙ is) in
    (more.0, (more.1.0 ∙ same.0, more.1.1 ∙ same.1))
runs-by rest number given on play w is (Accepted (Some scene) next) turns =
    let here : world_of play ≡ w = ap (world_or_start play.client play.server) is in
    let more = on next scene.step.after turns.world in (
      (turns.before ∙ here, ap (λ (v : ControlledWorld Both). happens_to kinds_control v scene.event) (sym here) ∙ turns.takes_place, more.0),
      (more.1.0 ∙ turns.configured.0, more.1.1 ∙ turns.configured.1),
    )
runs-by rest number given on play w is (Refused fault) turns = (ap (world_or_start play.client play.server) is, (refl, refl))

runs-on : (lines : List (List ℕ)) (number given : ℕ) (play : Play) (w : ControlledWorld Both) → play.world ≡ Some w
    → RunsOn w play (gone_from run_job play number given lines)
runs-on [] number given play w is = (ap (world_or_start play.client play.server) is, (refl, refl))
runs-on (line ∷ lines) number given play w is =
    runs-by (λ next. gone_from run_job next (number + 1) (given + length line) lines) number given (runs-on lines (number + 1) (given + length line)) play w is
    (by_next run_job play number (next_in_lines given (line ∷ lines))) (next-turns play number (next_in_lines given (line ∷ lines)))

-- until there is one
abbrev RunsFirst : LinesResult Scene Play → Type 0
RunsFirst whole = IsRun (world_at_first whole) whole.deeds (world_of whole.last)

first-by : (rest : Play → LinesResult Scene Play) (number given : ℕ) → ((next : Play) (w : ControlledWorld Both) → next.world ≡ Some w → RunsOn w next (rest next))
    → ((next : Play) → next.world ≡ None → RunsFirst (rest next)) → (play : Play) → play.world ≡ None → (verdict : LineVerdict Scene Play) → Turns play verdict
    → RunsFirst (gone_by play number given verdict rest)
first-by rest number given on first play is (Accepted None next) turns = first next (turns.world ∙ is)
first-by rest number given on first play is (Accepted (Some scene) next) turns =
    let more = on next scene.step.after turns.world in
    let last = (rest next).last in
    let client : last.client ≡ play.client = more.1.0 ∙ turns.configured.0 in
    let server : last.server ≡ play.server = more.1.1 ∙ turns.configured.1 in
    let here : world_of play ≡ world_at_first (rest next) =
    ap (world_or_start play.client play.server) is
    ∙ ap (λ (c : Config). world_or_start c play.server None) (sym client) ∙ ap (λ (s : Config). world_or_start last.client s None) (sym server) in
    (turns.before ∙ here, ap (λ (v : ControlledWorld Both). happens_to kinds_control v scene.event) (sym here) ∙ turns.takes_place, more.0)
first-by rest number given on first play is (Refused fault) turns = ap (world_or_start play.client play.server) is

runs-first : (lines : List (List ℕ)) (number given : ℕ) (play : Play) → play.world ≡ None → RunsFirst (gone_from run_job play number given lines)
runs-first [] number given play is = ap (world_or_start play.client play.server) is
runs-first (line ∷ lines) number given play is =
    first-by (λ next. gone_from run_job next (number + 1) (given + length line) lines) number given (runs-on lines (number + 1) (given + length line))
    (runs-first lines (number + 1) (given + length line)) play is
    (by_next run_job play number (next_in_lines given (line ∷ lines))) (next-turns play number (next_in_lines given (line ∷ lines)))

pub every-run : (input : List ℕ) → IsRun (world_at_first (performed input)) (performed input).deeds (world_of (performed input).last)
every-run input = runs-first (lines_of input) 1 0 first_play refl

-- what a run plays

one-more : (w : ControlledWorld Both) (scene : Scene) (events : List Event) → happens_to kinds_control w scene.event ≡ Ok scene.step
    → plays kinds_control scene.step.after events ≡ plays kinds_control w (scene.event ∷ events)
one-more w scene events is = ap (λ (r : Result (ControlledStep Both) WorldFault). plays kinds_control (controlled_after w r) events) (sym is)

pub run-last : (first : ControlledWorld Both) (scenes : List Scene) (last : ControlledWorld Both) → IsRun first scenes last
    → last ≡ plays kinds_control first (scene_events scenes)
run-last first [] last run = run
run-last first (scene ∷ scenes) last (before, is, rest) = run-last scene.step.after scenes last rest ∙ one-more first scene (scene_events scenes) is

pub run-nth : (first : ControlledWorld Both) (scenes : List Scene) (last : ControlledWorld Both) → IsRun first scenes last → (n : ℕ) (scene : Scene)
    → slice_get scenes n ≡ Some scene
    → scene.before ≡ plays kinds_control first (take n (scene_events scenes))
run-nth first [] last run n scene is = cc is
run-nth first (here ∷ scenes) last (before, is, rest) zero scene found =
    let same : here ≡ scene = cc found in
    ap (λ (s : Scene). s.before) (sym same) ∙ before
run-nth first (here ∷ scenes) last (before, is, rest) (suc n) scene found =
    run-nth here.step.after scenes last rest n scene found ∙ one-more first here (take n (scene_events scenes)) is

-- the text of a schedule that is not refused
refused-none : (refusal : Option LineFault) → is_some refusal ≡ false → refusal ≡ None
refused-none None is = refl
refused-none (Some why) is = cc is

pub run-text : (input : List ℕ) → is_refused input ≡ false
    → transcript input
    ≡ flat_map scene_text (performed input).deeds ++ end_lines (plays kinds_control (world_at_first (performed input)) (scene_events (performed input).deeds))
run-text input is =
    let whole = performed input in
    ap (λ (refusal : Option LineFault). flat_map scene_text whole.deeds ++ last_lines run_job whole.last whole.number refusal)
    (refused-none whole.refusal is)
    ∙ ap (λ (w : ControlledWorld Both). flat_map scene_text whole.deeds ++ end_lines w)
    (run-last (world_at_first whole) whole.deeds (world_of whole.last) (every-run input))

-- the law of two_ends
abbrev pub RunsAreSafe : Type 0
RunsAreSafe =
    (client server : Config) (for_client for_server : Both) (events : List Event) → client.role ≡ role.Client → server.role ≡ role.Server → Fits client
    → Fits server
    → Safe kinds_control (plays kinds_control (begins_with kinds_control client server for_client for_server) events)

-- between two safe worlds
abbrev BetweenSafe : Scene → Type 0
BetweenSafe scene = Safe kinds_control scene.before × Safe kinds_control scene.step.after

-- Where all of them are safe, so are those to which the first events lead.
pub prefix-safe : (first : ControlledWorld Both) (scenes : List Scene) (last : ControlledWorld Both) → IsRun first scenes last → All BetweenSafe scenes
    → Safe kinds_control last → (n : ℕ) → Safe kinds_control (plays kinds_control first (take n (scene_events scenes)))
prefix-safe first [] last run all safe zero = subst (Safe kinds_control) run safe
prefix-safe first [] last run all safe (suc n) = subst (Safe kinds_control) run safe
prefix-safe first (here ∷ scenes) last (before, is, rest) all safe zero =
    subst (Safe kinds_control) before (All-head BetweenSafe here scenes all).0
prefix-safe first (here ∷ scenes) last (before, is, rest) all safe (suc n) =
    subst (Safe kinds_control) (one-more first here (take n (scene_events scenes)) is)
    (prefix-safe here.step.after scenes last rest (All-tail BetweenSafe here scenes all) safe n)

-- The worlds of a run whose first is safe after all events are safe.
pub run-safe : (first : ControlledWorld Both) (scenes : List Scene) (last : ControlledWorld Both) → IsRun first scenes last
    → ((events : List Event) → Safe kinds_control (plays kinds_control first events))
    → All BetweenSafe scenes × Safe kinds_control last
run-safe first [] last run safe = (All-nil BetweenSafe, subst (Safe kinds_control) (sym run) (safe []))
run-safe first (scene ∷ scenes) last (before, is, rest) safe =
    let later : (events : List Event) → Safe kinds_control (plays kinds_control scene.step.after events) =
    λ events. subst (Safe kinds_control) (sym (one-more first scene events is)) (safe (scene.event ∷ events)) in
    let more = run-safe scene.step.after scenes last rest later in
    let here : BetweenSafe scene = (subst (Safe kinds_control) (sym before) (safe []), later []) in
    (All-cons BetweenSafe scene scenes here more.0, more.1)

-- The worlds of a schedule are safe, whose configurations at last are those of a client and a server.
pub safe-run : RunsAreSafe → (first : Play) → first ≡ first_play → (input : List ℕ) → (number : ℕ) × IsPlayable (gone_through run_job first input).last
    → SafeThroughout input
safe-run law first start input (number, playable) =
    let whole = performed input in
    let peers = (subst (λ (p : Play). IsPlayable (gone_through run_job p input).last) start playable).peers in
    run-safe (world_at_first whole) whole.deeds (world_of whole.last) (every-run input)
    (λ events. law whole.last.client whole.last.server at_first at_first events peers.is_client peers.is_server peers.client_fits peers.server_fits)

-- Before the first line the two usual ends are configured.
pub playable_at_first : IsPlayable first_play
playable_at_first = record {
  peers =
      record {
        is_client = refl;
        is_server = refl;
        client_fits = record { own_port = lit< tt; peer_port = lit< tt; service = lit< tt; iss = lit< tt; lists = usual_are_lists };
        server_fits = record { own_port = lit< tt; peer_port = lit< tt; service = lit< tt; iss = lit< tt; lists = usual_are_lists };
      };
  few = tt;
}
