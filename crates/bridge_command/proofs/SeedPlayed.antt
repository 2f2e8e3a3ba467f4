-- A schedule of drawn lines is played as the run of its seed.
use Rattle.std.proofs.Common.{◌≡◌, refl, sym, ap, ap₂, ◌∙◌, subst, ℕ, zero, suc, ◌+◌, ◌-◌, ◌*◌, ◌^◌, ◌≤◌, ◌<◌, true, false, if◌then◌else◌, List, [], ◌∷◌, ◌++◌, length, Option, Some, None, Result, Ok, Err, append_assoc, arith}
use Rattle.std.specs.Prelude.{⊤, codes, decimal, flat_map, is_some, nat_lt, IsOk}
use Rattle.std.proofs.lemmas.Bool.Decides.{nat_tests}
use Rattle.std.proofs.lemmas.List.{length-map}
use Rattle.rand_pcg.specs.Lcg.{Lcg}
use Rattle.ccid_two.specs.Kinds.{Both, kinds_control}
use Rattle.dccp_io.specs.Lines.{lines_of, most_input_bytes}
use Rattle.dccp_states.specs.declared.phase.Role.TheVariants as role
use Rattle.fault_campaign.specs.Draws.{after_two, after_one, generator, initial_number, word}
use Rattle.fault_campaign.specs.Reports.{nothing, settled_of, with_seen}
use Rattle.fault_campaign.specs.Seeded.{RunState, after_event, begun_run, frames_of, goes_on, goes_on_for, next_event, next_events, opened_run, played, seeded, seeded_events, seeded_report, usual_from}
use Rattle.fault_campaign.specs.declared.report.Report.{Report}
use Rattle.fault_campaign.proofs.Schedules.{many, number-fits}
use Rattle.fault_campaign.proofs.Short.{IsShort, after-so-many}
use Rattle.schedule_text.specs.Names.{side_name}
use Rattle.schedule_text.specs.Printing.{event_text, line_words}
use Rattle.schedule_text.specs.declared.line.Line as words
use Rattle.schedule_text.specs.declared.line.Line.TheVariants as line
use Rattle.schedule_text.proofs.LineForms.{event-read, spelled-line}
use Rattle.schedule_text.proofs.RowsAre.{number-length, side-length}
use Rattle.tool_text.specs.Jobs.{LinesResult, LineVerdict, Accepted, Refused, gone_by, gone_from, most_events}
use Rattle.tool_jobs.proofs.SchedulesRunning.{every-run, run-last, run-text}
use Rattle.tool_jobs.specs.Scenes.{Scene, scene_events, scene_text}
use Rattle.tool_jobs.specs.Transcript.{by_line, by_scene, by_step, event_shown, first_play, is_refused, judged_line, performed, run_job, says_event, starts, transcript, with_header, with_iss, world_at_first, world_of, world_or_start}
use Rattle.tool_jobs.specs.WorldLines.{end_lines}
use Rattle.tool_text.specs.Refusals.{whole_line}
use Rattle.tool_text.specs.Words.{joined}
use Rattle.tool_text.specs.declared.words.faults.LineFault.{LineFault}
use Rattle.tool_text.specs.declared.words.faults.LineWhy.TheVariants as why
use Rattle.tool_text.proofs.Bytes.{if-true, joined-length}
use Rattle.two_ends.specs.Controlled.{ControlledWorld, ControlledStep, happens_to}
use Rattle.two_ends.specs.World.{half_of}
use Rattle.world_events.specs.declared.event.Event.{Event}
use Rattle.world_events.specs.declared.event.Event.TheVariants.{Open}
use Rattle.world_events.specs.declared.event.Side.{Side}
use Rattle.world_events.specs.declared.event.Side.TheVariants.{Client, Server}
use Rattle.world_events.specs.declared.event.WorldFault.{WorldFault}
use Rattle.bridge_command.specs.Counted.{counted_report, seen_counted}
use Rattle.bridge_command.specs.Schedule.{event_line, event_lines, number_line, seed_text}
use Rattle.bridge_command.proofs.SeedDrawn.{IsBrief, brief-drawn, brief-open}
use Rattle.bridge_command.proofs.SeedReading.{line-gone, read-clean}
use Rattle.schedule_text.specs.Reading.{read_line}

-- the state of a schedule while it is played, of which `world_of` speaks
abbrev domain : {A B : Type 0} → (A → B) → Type 0
domain {A} {B} f = A

abbrev pub Play : Type 0
Play = domain world_of

-- ---- one line

-- what `run` makes of a line that says this, and of the lines after it
line-goes : (play : Play) (number given : ℕ) (text rest : List ℕ) (said : words.Line) → read_line text ≡ Ok said → given + (length text + 1) ≤ most_input_bytes
    → gone_from run_job play number given (lines_of ((text ++ codes "\n") ++ rest))
    ≡ gone_by play number given (by_line play number (Ok said)) (λ next. gone_from run_job next (number + 1) (given + (length text + 1)) (lines_of rest))
unfolding judged_line
line-goes play number given text rest said reads few =
    line-gone run_job play number given text rest (read-clean text said reads) few
    ∙ ap (λ (r : Result words.Line LineFault). gone_by play number given (by_line play number r)
    (λ (next : Play). gone_from run_job next (number + 1) (given + (length text + 1)) (lines_of rest))) reads

-- This many lines of a play were played as these events, from what was counted before to this run.
pub record Follows (before : Report) (last : RunState) (events : List Event) (play : Play) (whole : LinesResult Scene Play) : Type 0 where
  pub refusal : whole.refusal ≡ None
  pub told : scene_events whole.deeds ≡ events
  pub world : world_of whole.last ≡ last.world
  pub counted : seen_counted before whole.deeds ≡ last.report
  pub client : whole.last.client ≡ play.client
  pub server : whole.last.server ≡ play.server

step-of : (result : Result (ControlledStep Both) WorldFault) → IsOk result → (step : ControlledStep Both) × (result ≡ Ok step)
step-of (Ok step) ok = (step, refl)
step-of (Err fault) ok = cc ok

played-ok : (run : RunState) (event : Event) (step : ControlledStep Both) → happens_to kinds_control run.world event ≡ Ok step
    → played run event ≡ record run { world = step.after; report = with_seen run.report step.seen }
unfolding played
played-ok run event step is = ap (after_event run) is

abbrev pub scene_of : Play → ℕ → Event → ControlledStep Both → Scene
scene_of play number event step = record { number = number; before = world_of play; event = event; step = step }

abbrev pub next_play : Play → ControlledStep Both → Play
next_play play step = record play { events = play.events + 1; world = Some step.after }

event-accepted : (play : Play) (number : ℕ) (event : Event) (step : ControlledStep Both) (w : ControlledWorld Both) → world_of play ≡ w → play.events < most_events
    → happens_to kinds_control w event ≡ Ok step → says_event play number event ≡ Accepted (Some (scene_of play number event step)) (next_play play step)
event-accepted play number event step w here few is =
    let less : nat_lt play.events most_events ≡ true = grind (arith, nat_tests) in
    if-true (nat_lt play.events most_events) (by_scene play (event_shown number (world_of play) event)) (Refused (whole_line why.TooManyEvents)) less
    ∙ ap (λ (r : Result (ControlledStep Both) WorldFault). by_scene play (by_step number (world_of play) event r))
    (ap (λ (v : ControlledWorld Both). happens_to kinds_control v event) here ∙ is)

event-goes : (play : Play) (number given : ℕ) (event : Event) (rest : List ℕ) (run last : RunState) (more : List Event) → world_of play ≡ run.world
    → play.events < most_events → IsOk (happens_to kinds_control run.world event) → IsBrief event → given + 201 ≤ most_input_bytes
    → ((next : Play) → next.world ≡ Some (played run event).world → next.events ≡ play.events + 1
    → Follows (played run event).report last more next (gone_from run_job next (number + 1) (given + (length (event_text event) + 1)) (lines_of rest)))
    → Follows run.report last (event ∷ more) play (gone_from run_job play number given (lines_of (event_line event ++ rest)))
event-goes play number given event rest run last more here few ok brief room following =
    let found = step-of (happens_to kinds_control run.world event) ok in
    go found.0 found.1
  where
    go : (step : ControlledStep Both) → happens_to kinds_control run.world event ≡ Ok step
        → Follows run.report last (event ∷ more) play (gone_from run_job play number given (lines_of (event_line event ++ rest)))
    go step is =
        let ran = played-ok run event step is in
        let next = next_play play step in
        let after = following next (ap (λ (r : RunState). Some r.world) (sym ran)) refl in
        let later = gone_from run_job next (number + 1) (given + (length (event_text event) + 1)) (lines_of rest) in
        let short = brief.short in
        let whole : gone_from run_job play number given (lines_of (event_line event ++ rest))
        ≡ gone_by play number given (Accepted (Some (scene_of play number event step)) next)
        (λ (p : Play). gone_from run_job p (number + 1) (given + (length (event_text event) + 1)) (lines_of rest)) =
        line-goes play number given (event_text event) rest (line.Event event) (event-read event brief.printable) (omega (arith, room, short))
        ∙ ap (λ (v : LineVerdict Scene Play). gone_by play number given v
        (λ (p : Play). gone_from run_job p (number + 1) (given + (length (event_text event) + 1)) (lines_of rest)))
        (event-accepted play number event step run.world here few is) in
        subst (Follows run.report last (event ∷ more) play) (sym whole)
        (record {
          refusal = after.refusal;
          told = ap (λ (events : List Event). event ∷ events) after.told;
          world = after.world;
          counted = ap (λ (r : RunState). seen_counted r.report later.deeds) (sym ran) ∙ after.counted;
          client = after.client;
          server = after.server;
        })

-- ---- the lines of further events

-- Each of this many further events can happen, and is said in a short line.
abbrev Passes : ℕ → RunState → Type 0
Passes zero run = ⊤
Passes (suc n) run = IsOk (happens_to kinds_control run.world (next_event run)) × (IsBrief (next_event run) × Passes n (goes_on run))

rest-goes : (n number given : ℕ) (run : RunState) (play : Play) → world_of play ≡ run.world → play.events + n ≤ most_events → given + 201 * n ≤ most_input_bytes
    → Passes n run
    → Follows run.report (goes_on_for n run) (next_events n run) play (gone_from run_job play number given (lines_of (event_lines (next_events n run))))
rest-goes zero number given run play here few room passes =
    record { refusal = refl; told = refl; world = here; counted = refl; client = refl; server = refl }
rest-goes (suc n) number given run play here few room passes =
    let brief = passes.1.0 in
    let short = brief.short in
    event-goes play number given (next_event run) (event_lines (next_events n (goes_on run))) (record run { words = after_two run.words })
    (goes_on_for n (goes_on run)) (next_events n (goes_on run)) here (omega (arith, few)) passes.0 brief (omega (arith, room))
    (λ next is events.
    rest-goes n (number + 1) (given + (length (event_text (next_event run)) + 1)) (goes_on run) next (ap (world_or_start next.client next.server) is)
    (omega (arith, few, events)) (omega (arith, room, short)) passes.1.1)

-- ---- the events of a seed pass

abbrev pub NextHappens : Type 0
NextHappens = (seed events : ℕ) → events < 2 ^ 23 → IsOk (happens_to kinds_control (seeded seed events).world (next_event (seeded seed events)))

abbrev CanGoOn : RunState → Type 0
CanGoOn run = IsOk (happens_to kinds_control run.world (next_event run)) × IsBrief (next_event run)

seeded-can : NextHappens → (seed events : ℕ) → events ≤ 4096 → CanGoOn (seeded seed events)
seeded-can law seed events few =
    let run = seeded seed events in
    let short : IsShort (events - 1 + 1) run = after-so-many seed events in (
      law seed events (omega (arith, few)),
      brief-drawn (word run.words) (word (after_one run.words)) (frames_of run Client) (frames_of run Server) (omega (arith, few, short.clients))
          (omega (arith, few, short.servers)),
    )

one-more : (m : ℕ) (run : RunState) → goes_on_for m (goes_on run) ≡ goes_on (goes_on_for m run)
one-more zero run = refl
one-more (suc m) run = one-more m (goes_on run)

seed-passes : NextHappens → (seed n m : ℕ) → m + n ≤ 4095 → Passes n (goes_on_for m (opened_run seed))
seed-passes law seed zero m few = tt
seed-passes law seed (suc n) m few =
    let same : m + 1 - 1 ≡ m = omega arith in
    let can : CanGoOn (goes_on_for m (opened_run seed)) =
    subst CanGoOn (ap (λ (k : ℕ). goes_on_for k (opened_run seed)) same) (seeded-can law seed (m + 1) (omega (arith, few))) in
    (can.0, (can.1, subst (Passes n) (one-more m (opened_run seed)) (seed-passes law seed n (suc m) (omega (arith, few)))))

-- ---- the lines before all events

number-short : (side : Side) (number : ℕ) → number < 2 ^ 48 → length (joined (line_words (line.Iss side number))) ≤ 200
number-short side number small =
    let one = side-length side in
    let two = number-length number small in
    let size = joined-length (codes "iss") (side_name side ∷ (decimal number ∷ [])) in
    omega arith

number-goes : (play : Play) (number given : ℕ) (side : Side) (iss : ℕ) (rest : List ℕ) → iss < 2 ^ 48 → play.world ≡ None → given + 201 ≤ most_input_bytes
    → gone_from run_job play number given (lines_of (number_line side iss ++ rest))
    ≡ gone_from run_job (with_iss side iss (with_header play)) (number + 1) (given + (length (joined (line_words (line.Iss side iss))) + 1)) (lines_of rest)
number-goes play number given side iss rest small none room =
    let text = joined (line_words (line.Iss side iss)) in
    let short = number-short side iss small in
    line-goes play number given text rest (line.Iss side iss) (spelled-line text (line.Iss side iss) (refl, small)) (omega (arith, room, short))
    ∙ ap (λ (w : Option (ControlledWorld Both)). gone_by play number given
    (if is_some w then Refused (whole_line why.HeaderLate) else Accepted None (with_iss side iss (with_header play)))
    (λ (p : Play). gone_from run_job p (number + 1) (given + (length text + 1)) (lines_of rest))) none

-- ---- the whole schedule

abbrev pub client_number : ℕ → ℕ
client_number seed = initial_number (generator seed)

abbrev pub server_number : ℕ → ℕ
server_number seed = initial_number (after_two (generator seed))

-- after both numbers
abbrev pub configured : ℕ → Play
configured seed = with_iss Server (server_number seed) (with_header (with_iss Client (client_number seed) (with_header first_play)))

begun-world : (g : Lcg) → (begun_run g).world ≡ starts (usual_from role.Client (initial_number g)) (usual_from role.Server (initial_number (after_two g)))
unfolding begun_run
begun-world g = refl

begun-counts : (g : Lcg) → (begun_run g).report ≡ nothing
unfolding begun_run
begun-counts g = refl

abbrev pub OpenHappens : Type 0
OpenHappens = (seed : ℕ) → IsOk (happens_to kinds_control (begun_run (generator seed)).world Open)

events-go : OpenHappens → NextHappens → (seed events number given : ℕ) → 1 ≤ events → events ≤ 4096 → given ≤ 402
    → Follows (begun_run (generator seed)).report (seeded seed events) (seeded_events seed events) (configured seed)
    (gone_from run_job (configured seed) number given (lines_of (event_lines (seeded_events seed events))))
events-go opens nexts seed events number given some most room =
    let short : length (event_text Open) ≤ 200 = brief-open.short in
    let none : (configured seed).events ≡ 0 = refl in
    event-goes (configured seed) number given Open (event_lines (next_events (events - 1) (opened_run seed))) (begun_run (generator seed)) (seeded seed events)
    (next_events (events - 1) (opened_run seed)) (sym (begun-world (generator seed))) (omega (arith, none)) (opens seed) brief-open (omega (arith, room))
    (λ next is count.
    rest-goes (events - 1) (number + 1) (given + (length (event_text Open) + 1)) (opened_run seed) next (ap (world_or_start next.client next.server) is)
    (omega (arith, most, count, none)) (omega (arith, most, room, short)) (seed-passes nexts seed (events - 1) 0 (omega (arith, most))))

pub schedule-follows : OpenHappens → NextHappens → (seed events : ℕ) → 1 ≤ events → events ≤ 4096
    → Follows (begun_run (generator seed)).report (seeded seed events) (seeded_events seed events) (configured seed) (performed (seed_text seed events))
unfolding seed_text
schedule-follows opens nexts seed events some most =
    let lines = event_lines (seeded_events seed events) in
    let one = number_line Client (client_number seed) in
    let two = number_line Server (server_number seed) in
    let fits = number-fits (generator seed) in
    let also = number-fits (after_two (generator seed)) in
    let first = number-short Client (client_number seed) fits in
    let second = number-short Server (server_number seed) also in
    let a = 0 + (length (joined (line_words (line.Iss Client (client_number seed)))) + 1) in
    let b = length (joined (line_words (line.Iss Server (server_number seed)))) + 1 in
    let whole : performed (seed_text seed events) ≡ gone_from run_job (configured seed) (1 + 1 + 1) (a + b) (lines_of lines) =
    ap (λ (bytes : List ℕ). gone_from run_job first_play 1 0 (lines_of bytes)) (append_assoc one two lines)
    ∙ number-goes first_play 1 0 Client (client_number seed) (two ++ lines) fits refl (omega arith)
    ∙ number-goes (with_iss Client (client_number seed) (with_header first_play)) (1 + 1) a Server (server_number seed) lines also refl
    (omega (arith, first)) in
    subst (Follows (begun_run (generator seed)).report (seeded seed events) (seeded_events seed events) (configured seed)) (sym whole)
    (events-go opens nexts seed events (1 + 1 + 1) (a + b) some most (omega (arith, first, second)))

-- ---- what the law says

module _ (opens : OpenHappens) (nexts : NextHappens) (seed events : ℕ) (some : 1 ≤ events) (most : events ≤ 4096) where
  abbrev whole : LinesResult Scene Play
  whole = performed (seed_text seed events)

  follows : Follows (begun_run (generator seed)).report (seeded seed events) (seeded_events seed events) (configured seed) whole
  follows = schedule-follows opens nexts seed events some most

  pub accepts : is_refused (seed_text seed events) ≡ false
  accepts = ap is_some follows.refusal

  pub begins : world_at_first whole ≡ (begun_run (generator seed)).world
  begins = ap₂ starts follows.client follows.server ∙ sym (begun-world (generator seed))

  pub tells : scene_events whole.deeds ≡ seeded_events seed events
  tells = follows.told

  pub ends : world_of whole.last ≡ (seeded seed events).world
  ends = follows.world

  pub writes : transcript (seed_text seed events) ≡ flat_map scene_text whole.deeds ++ end_lines (seeded seed events).world
  writes =
      let last = run-last (world_at_first whole) whole.deeds (world_of whole.last) (every-run (seed_text seed events)) in
      run-text (seed_text seed events) accepts ∙ ap (λ (w : ControlledWorld Both). flat_map scene_text whole.deeds ++ end_lines w) (sym last ∙ ends)

  abbrev reported : Report → ℕ → ControlledWorld Both → Report
  reported r n w =
      record r {
        seeds = 1;
        events = n;
        client_frames = length (half_of w.world Client).frames;
        server_frames = length (half_of w.world Server).frames;
        settled = settled_of w.world;
      }

  told-many : length whole.deeds ≡ events
  told-many = sym (length-map whole.deeds (λ (scene : Scene). scene.event)) ∙ ap length tells ∙ many seed events some

  pub counts : counted_report whole.deeds (world_of whole.last) ≡ seeded_report seed events
  unfolding seeded_report
  counts =
      ap₂ (λ (r : Report) (n : ℕ). reported r n (world_of whole.last))
      (ap (λ (r : Report). seen_counted r whole.deeds) (sym (begun-counts (generator seed))) ∙ follows.counted) told-many
      ∙ ap (λ (w : ControlledWorld Both). reported (seeded seed events).report events w) ends
