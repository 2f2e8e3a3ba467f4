-- The first line that says something says how many options the ends' Ack Vectors have, and no line after it does.
--
-- Before it a play has said nothing (`IsUnsaid`), after it it is settled (`IsSettled`). A line leads from the one to the other (`Opens`),
-- and of a settled play to a settled one with the same vectors (`Stays`); the two inductions over lines follow.
use Rattle.std.proofs.Common.{◌≡◌, refl, sym, ◌∙◌, ℕ, ◌+◌, Bool, true, false, if◌then◌else◌, List, [], ◌∷◌, length, Option, Some, None, Result, Ok, Err, inl, inr}
use Rattle.std.specs.Prelude.{⊤, ◌⊎◌, is_some, nat_lt}
use Rattle.ack_vectors.specs.declared.room.Vectors.{Vectors}
use Rattle.ack_vectors.specs.declared.room.Vectors.TheVariants.{One}
use Rattle.dccp_endpoint.specs.declared.config.Config.{Config}
use Rattle.dccp_io.specs.Lines.{Next, End, Line, Long, Much, lines_of, next_in_lines, text_of}
use Rattle.feature_lists.specs.Wishes.{is_ours, wish_of}
use Rattle.feature_lists.specs.declared.features.Feature.{Feature}
use Rattle.feature_lists.specs.declared.features.Place.{Place}
use Rattle.feature_lists.specs.declared.wishes.PreferFault.{PreferFault}
use Rattle.feature_lists.specs.declared.wishes.Wanted.{Wanted}
use Rattle.feature_machine.specs.Lists.{with_offer}
use Rattle.schedule_text.specs.Reading.{read_line}
use Rattle.schedule_text.specs.declared.line.Line as words
use Rattle.schedule_text.specs.declared.line.Line.TheVariants as line
use Rattle.tool_text.specs.Jobs.{LinesResult, LineVerdict, Accepted, Refused, by_next, gone_by, gone_from, most_events}
use Rattle.tool_jobs.specs.Scenes.{Scene}
use Rattle.tool_jobs.specs.Transcript.{by_line, by_scene, config_of, configures, event_shown, first_play, judged_line, offering, performed, run_job, says_event, says_plain, says_version, vectors_of, wishing, with_config, with_header, with_iss, with_offered, with_set, with_vectors, world_of}
use Rattle.tool_jobs.specs.Versions.{HaveVectors, vectors_by, vectors_next, vectors_said}
use Rattle.tool_jobs.specs.declared.run.play.Play.{Play}
use Rattle.tool_text.specs.Refusals.{whole_line}
use Rattle.tool_text.specs.declared.words.faults.LineFault.{LineFault}
use Rattle.tool_text.specs.declared.words.faults.LineWhy.TheVariants as why
use Rattle.world_events.specs.declared.event.Event.{Event}
use Rattle.world_events.specs.declared.event.Side.{Side}
use Rattle.world_events.specs.declared.event.Side.TheVariants.{Client, Server}

-- a line that comes before all events, or an event, was accepted
abbrev IsSettled : Play → Type 0
IsSettled play = (play.is_configured ≡ true) ⊎ (is_some play.world ≡ true)

-- no line has said anything
record IsUnsaid (play : Play) : Type 0 where
  pub configured : play.is_configured ≡ false
  pub world : is_some play.world ≡ false
  pub have : HaveVectors One play

-- What changes a configuration keeps all but the two ends' lists and numbers.
record Keeps (old new : Play) : Type 0 where
  pub configured : new.is_configured ≡ old.is_configured
  pub client : new.client.vectors ≡ old.client.vectors
  pub server : new.server.vectors ≡ old.server.vectors

config-keeps : (side : Side) (config : Config) (play : Play) → config.vectors ≡ (config_of play side).vectors → Keeps play (with_config side config play)
config-keeps Client config play same = record { configured = refl; client = same; server = refl }
config-keeps Server config play same = record { configured = refl; client = refl; server = same }

wishing-keeps : (config : Config) (feature : Feature) (place : Place) (wanted : Result Wanted PreferFault)
    → (wishing config feature place wanted).vectors ≡ config.vectors
wishing-keeps config feature place (Ok wish) = refl
wishing-keeps config feature place (Err fault) = refl

offering-keeps : (config : Config) (feature : Feature) (place : Place) (mandatory : Bool) → (offering config feature place mandatory).vectors ≡ config.vectors
offering-keeps config feature place mandatory = by (is_ours feature place) where
  by : (ours : Bool) → (if ours then record config { lists = with_offer config.lists feature place mandatory } else config).vectors ≡ config.vectors
  by true = refl
  by false = refl

set-keeps : (side : Side) (feature : Feature) (place : Place) (values : List ℕ) (play : Play) → Keeps play (with_set side feature place values play)
unfolding with_set
set-keeps side feature place values play =
    config-keeps side _ play (wishing-keeps (config_of play side) feature place (wish_of feature place values))

offered-keeps : (side : Side) (feature : Feature) (place : Place) (mandatory : Bool) (play : Play) → Keeps play (with_offered side feature place mandatory play)
offered-keeps side feature place mandatory play = config-keeps side _ play (offering-keeps (config_of play side) feature place mandatory)

-- A settled play

abbrev Stays : Play → LineVerdict Scene Play → Type 0
Stays play (Accepted deed next) = IsSettled next × ((vectors : Vectors) → HaveVectors vectors play → HaveVectors vectors next)
Stays play (Refused fault) = ⊤

configures-stays : (play : Play) (change : Play → Play) → Keeps (with_header play) (change (with_header play)) → Stays play (configures play change)
configures-stays play change keeps = by (is_some play.world) where
  by : (late : Bool) → Stays play (if late then Refused (whole_line why.HeaderLate) else Accepted None (change (with_header play)))
  by true = tt
  by false = (inl keeps.configured, λ vectors have. record { client = keeps.client ∙ have.client; server = keeps.server ∙ have.server })

version-stays : (play : Play) (version : ℕ) → IsSettled play → Stays play (says_version play version)
version-stays play version settled = by play.is_configured (is_some play.world) refl refl settled where
  by : (said late : Bool) → play.is_configured ≡ said → is_some play.world ≡ late → IsSettled play
      → Stays play (if said then Refused (whole_line why.HeaderLate)
      else if late then Refused (whole_line why.HeaderLate) else Accepted None (with_vectors (vectors_of version) (with_header play)))
  by true late is world settled = tt
  by false true is world settled = tt
  by false false is world (inl configured) = cc (is, configured)
  by false false is world (inr some) = cc (world, some)

scene-stays : (play : Play) (shown : Result Scene LineFault) → Stays play (by_scene play shown)
scene-stays play (Ok scene) = (inr refl, λ vectors have. record { client = have.client; server = have.server })
scene-stays play (Err fault) = tt

event-stays : (play : Play) (number : ℕ) (event : Event) → Stays play (says_event play number event)
event-stays play number event = by (nat_lt play.events most_events) where
  by : (few : Bool) → Stays play (if few then by_scene play (event_shown number (world_of play) event) else Refused (whole_line why.TooManyEvents))
  by true = scene-stays play (event_shown number (world_of play) event)
  by false = tt

said-stays : (play : Play) (number : ℕ) (said : Result words.Line LineFault) → IsSettled play → Stays play (by_line play number said)
said-stays play number (Err fault) settled = tt
said-stays play number (Ok line.Nothing) settled = (settled, λ vectors have. have)
said-stays play number (Ok (line.Version version)) settled = version-stays play version settled
said-stays play number (Ok line.Plain) settled = configures-stays play says_plain (record { configured = refl; client = refl; server = refl })
said-stays play number (Ok (line.Iss side iss)) settled = configures-stays play (with_iss side iss) (config-keeps side _ (with_header play) refl)
said-stays play number (Ok (line.Set side place feature values)) settled =
    configures-stays play (with_set side feature place values) (set-keeps side feature place values (with_header play))
said-stays play number (Ok (line.Offer side place feature mandatory)) settled =
    configures-stays play (with_offered side feature place mandatory) (offered-keeps side feature place mandatory (with_header play))
said-stays play number (Ok (line.Event event)) settled = event-stays play number event

line-stays : (play : Play) (number : ℕ) (text : List ℕ) → IsSettled play → Stays play (judged_line play number text)
unfolding judged_line
line-stays play number text = said-stays play number (read_line text)

next-stays : (play : Play) (number : ℕ) (next : Next) → IsSettled play → Stays play (by_next run_job play number next)
next-stays play number (Line line) settled = line-stays play number (text_of line) settled
next-stays play number End settled = (settled, λ vectors have. have)
next-stays play number _ settled = tt

stays-by : (rest : Play → LinesResult Scene Play) (number given : ℕ) (vectors : Vectors)
    → ((next : Play) → IsSettled next → HaveVectors vectors next → HaveVectors vectors (rest next).last) → (play : Play) → HaveVectors vectors play
    → (verdict : LineVerdict Scene Play) → Stays play verdict → HaveVectors vectors (gone_by play number given verdict rest).last
stays-by rest number given vectors on play have (Accepted deed next) stays = on next stays.0 (stays.1 vectors have)
stays-by rest number given vectors on play have (Refused fault) stays = have

lines-stay : (lines : List (List ℕ)) (number given : ℕ) (vectors : Vectors) (play : Play) → IsSettled play → HaveVectors vectors play
    → HaveVectors vectors (gone_from run_job play number given lines).last
lines-stay [] number given vectors play settled have = have
lines-stay (line ∷ lines) number given vectors play settled have =
    stays-by (λ next. gone_from run_job next (number + 1) (given + length line) lines) number given vectors
    (lines-stay lines (number + 1) (given + length line) vectors) play have
    (by_next run_job play number (next_in_lines given (line ∷ lines))) (next-stays play number (next_in_lines given (line ∷ lines)) settled)

-- A play in which nothing is said

data Opens (play : Play) (vectors : Vectors → Vectors) : LineVerdict Scene Play → Type 0 where
  Waits : ((later : Vectors) → vectors later ≡ later) → Opens play vectors (Accepted None play)
  Settles : (deed : Option Scene) (next : Play) → IsSettled next → ((later : Vectors) → HaveVectors (vectors later) next)
      → Opens play vectors (Accepted deed next)
  Stops : (fault : LineFault) → ((later : Vectors) → vectors later ≡ One) → Opens play vectors (Refused fault)

configures-opens : (play : Play) (change : Play → Play) → IsUnsaid play → Keeps (with_header play) (change (with_header play))
    → Opens play (λ later. One) (configures play change)
configures-opens play change unsaid keeps = by (is_some play.world) where
  by : (late : Bool) → Opens play (λ later. One) (if late then Refused (whole_line why.HeaderLate) else Accepted None (change (with_header play)))
  by true = Stops _ (λ later. refl)
  by false =
      Settles None _ (inl keeps.configured)
      (λ later. record { client = keeps.client ∙ unsaid.have.client; server = keeps.server ∙ unsaid.have.server })

version-opens : (play : Play) (version : ℕ) → IsUnsaid play → Opens play (λ later. vectors_of version) (says_version play version)
version-opens play version unsaid = by play.is_configured (is_some play.world) unsaid.configured unsaid.world where
  by : (said late : Bool) → said ≡ false → late ≡ false
      → Opens play (λ later. vectors_of version) (if said then Refused (whole_line why.HeaderLate)
      else if late then Refused (whole_line why.HeaderLate) else Accepted None (with_vectors (vectors_of version) (with_header play)))
  by true late is world = cc is
  by false true is world = cc world
  by false false is world = Settles None _ (inl refl) (λ later. record { client = refl; server = refl })

scene-opens : (play : Play) (shown : Result Scene LineFault) → IsUnsaid play → Opens play (λ later. One) (by_scene play shown)
scene-opens play (Ok scene) unsaid =
    Settles (Some scene) _ (inr refl) (λ later. record { client = unsaid.have.client; server = unsaid.have.server })
scene-opens play (Err fault) unsaid = Stops fault (λ later. refl)

event-opens : (play : Play) (number : ℕ) (event : Event) → IsUnsaid play → Opens play (λ later. One) (says_event play number event)
event-opens play number event unsaid = by (nat_lt play.events most_events) where
  by : (few : Bool) → Opens play (λ later. One)
      (if few then by_scene play (event_shown number (world_of play) event) else Refused (whole_line why.TooManyEvents))
  by true = scene-opens play (event_shown number (world_of play) event) unsaid
  by false = Stops _ (λ later. refl)

said-opens : (play : Play) (number : ℕ) (said : Result words.Line LineFault) → IsUnsaid play → Opens play (vectors_by said) (by_line play number said)
said-opens play number (Err fault) unsaid = Stops _ (λ later. refl)
said-opens play number (Ok line.Nothing) unsaid = Waits (λ later. refl)
said-opens play number (Ok (line.Version version)) unsaid = version-opens play version unsaid
said-opens play number (Ok line.Plain) unsaid = configures-opens play says_plain unsaid (record { configured = refl; client = refl; server = refl })
said-opens play number (Ok (line.Iss side iss)) unsaid = configures-opens play (with_iss side iss) unsaid (config-keeps side _ (with_header play) refl)
said-opens play number (Ok (line.Set side place feature values)) unsaid =
    configures-opens play (with_set side feature place values) unsaid (set-keeps side feature place values (with_header play))
said-opens play number (Ok (line.Offer side place feature mandatory)) unsaid =
    configures-opens play (with_offered side feature place mandatory) unsaid (offered-keeps side feature place mandatory (with_header play))
said-opens play number (Ok (line.Event event)) unsaid = event-opens play number event unsaid

line-opens : (play : Play) (number : ℕ) (text : List ℕ) → IsUnsaid play → Opens play (vectors_by (read_line text)) (judged_line play number text)
unfolding judged_line
line-opens play number text = said-opens play number (read_line text)

next-opens : (play : Play) (number : ℕ) (next : Next) → IsUnsaid play → Opens play (vectors_next next) (by_next run_job play number next)
next-opens play number (Line line) unsaid = line-opens play number (text_of line) unsaid
next-opens play number End unsaid = Waits (λ later. refl)
next-opens play number _ unsaid = Stops _ (λ later. refl)

have-by : (one other : Vectors) (play : Play) → one ≡ other → HaveVectors other play → HaveVectors one play
have-by one other play same have = record { client = have.client ∙ sym same; server = have.server ∙ sym same }

opens-by : (rest : Play → LinesResult Scene Play) (number given : ℕ) (later : Vectors) (vectors : Vectors → Vectors)
    → ((next : Play) (own : Vectors) → IsSettled next → HaveVectors own next → HaveVectors own (rest next).last)
    → ((next : Play) → IsUnsaid next → HaveVectors later (rest next).last) → (play : Play) → IsUnsaid play
    → (verdict : LineVerdict Scene Play) → Opens play vectors verdict → HaveVectors (vectors later) (gone_by play number given verdict rest).last
opens-by rest number given later vectors stay first play unsaid _ (Waits same) = have-by (vectors later) later _ (same later) (first play unsaid)
opens-by rest number given later vectors stay first play unsaid _ (Settles deed next settled have) = stay next (vectors later) settled (have later)
opens-by rest number given later vectors stay first play unsaid _ (Stops fault one) = have-by (vectors later) One play (one later) unsaid.have

lines-first : (lines : List (List ℕ)) (number given : ℕ) (play : Play) → IsUnsaid play
    → HaveVectors (vectors_said given lines) (gone_from run_job play number given lines).last
lines-first [] number given play unsaid = unsaid.have
lines-first (line ∷ lines) number given play unsaid =
    opens-by (λ next. gone_from run_job next (number + 1) (given + length line) lines) number given (vectors_said (given + length line) lines)
    (vectors_next (next_in_lines given (line ∷ lines)))
    (λ next own. lines-stay lines (number + 1) (given + length line) own next) (lines-first lines (number + 1) (given + length line)) play unsaid
    (by_next run_job play number (next_in_lines given (line ∷ lines))) (next-opens play number (next_in_lines given (line ∷ lines)) unsaid)

pub version-first : (input : List ℕ) → HaveVectors (vectors_said 0 (lines_of input)) (performed input).last
version-first input =
    lines-first (lines_of input) 1 0 first_play (record { configured = refl; world = refl; have = record { client = refl; server = refl } })
