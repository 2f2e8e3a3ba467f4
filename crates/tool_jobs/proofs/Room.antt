-- A schedule's world always has room for one more frame: an event sends one at most, and the events are few.
use Rattle.std.proofs.Common.{◌≡◌, ◌≢◌, arith, refl, sym, ◌∙◌, subst, ℕ, ◌+◌, ◌-◌, ◌^◌, ◌≤◌, ◌<◌, Bool, true, false, if◌then◌else◌, List, [], ◌∷◌, ◌++◌, length, length-append, Option, Some, None, Result, Ok, Err, IfSome}
use Rattle.std.proofs.lemmas.Bool.{leb-true}
use Rattle.std.specs.Prelude.{⊤, slice_get}
use Rattle.ccid_two.specs.Kinds.{Both, at_first, kinds_control}
use Rattle.dccp_endpoint.specs.End.{floor_of}
use Rattle.dccp_endpoint.specs.Inputs.{Input, end_stepped}
use Rattle.dccp_endpoint.specs.Inputs as input
use Rattle.dccp_endpoint.specs.declared.config.Config.{Config}
use Rattle.dccp_io.specs.Lines.{lines_of, next_in_lines}
use Rattle.tool_text.specs.Jobs.{LinesResult, LineVerdict, Accepted, Refused, by_next, gone_by, gone_from, most_events}
use Rattle.dccp_endpoint.specs.Drafts.{Fits}
use Rattle.tool_jobs.proofs.Peers.{peers-last}
use Rattle.tool_jobs.proofs.SchedulesRunning.{Turns, every-run, next-turns, run-last}
use Rattle.tool_jobs.specs.Scenes.{Scene, scene_events}
use Rattle.tool_jobs.specs.Transcript.{IsPlayable, SentFew, ShowsEvent, by_step, event_shown, first_play, performed, run_job, world_at_first, world_of, world_or_start}
use Rattle.tool_jobs.specs.declared.run.play.Play.{Play}
use Rattle.two_ends.proofs.OfWorlds.Numbering.{sent-few}
use Rattle.two_ends.specs.Controlled.{ControlledWorld, ControlledStep, begins_with, congestion_of, controls, happens_to, plays, said_by}
use Rattle.two_ends.specs.World.{Half, Happening, WorldState, WorldStep, Calls, Delivers, as_sent, delivers_frame, half_of, half_steps, happening_of, is_far_frame, is_full, takes_place, unless_far, unless_full, with_half}
use Rattle.two_ends.specs.declared.frames.SentFrame.{SentFrame}
use Rattle.world_events.specs.Actors.{actor, other}
use Rattle.world_events.specs.declared.event.Event.{Event}
use Rattle.world_events.specs.declared.event.Side.{Side}
use Rattle.world_events.specs.declared.event.Side.TheVariants.{Client, Server}
use Rattle.world_events.specs.declared.event.WorldFault.{WorldFault}
use Rattle.world_events.specs.declared.event.WorldFault.TheVariants as fault

-- an event that may take place in a world with room, and by which each side sends one frame at most

abbrev Few : WorldState → ℕ → Type 0
Few w n = (side : Side) → length (half_of w side).frames ≤ n

abbrev Grows : WorldState → ℕ → Result WorldStep WorldFault → Type 0
Grows w n (Ok step) = Few step.world (n + 1)
Grows w n (Err reason) = n < 2 ^ 47 - 1 → reason ≢ fault.Full

half-grows : (half : Half) (number : Option ℕ) (given : Input) (n : ℕ) → length half.frames ≤ n
    → length (half_steps half number given).half.frames ≤ n + 1
half-grows half number given n few =
    let step = end_stepped half.end given in
    let sent = as_sent (length (half_steps half number given).half.processed) (floor_of step.after) step.frame in
    let one : length sent ≤ 1 = sent-few _ _ step.frame in
    let all : length (half.frames ++ sent) ≡ length half.frames + length sent = length-append half.frames sent in
    omega arith

with-grown : (w : WorldState) (side : Side) (half : Half) (n : ℕ) → Few w n → length half.frames ≤ n + 1 → Few (with_half w side half) (n + 1)
with-grown w Client half n few more Client = more
with-grown w Client half n few more Server = omega (arith, few Server)
with-grown w Server half n few more Client = omega (arith, few Client)
with-grown w Server half n few more Server = more

full-not : (w : WorldState) (side : Side) (n : ℕ) → Few w n → is_full (half_of w side) ≡ true → Grows w n (Err fault.Full)
full-not w side n few is =
    λ room _.
    let filled : 2 ^ 47 - 1 ≤ length (half_of w side).frames = leb-true (2 ^ 47 - 1) (length (half_of w side).frames) is in
    absurd (omega (arith, room, filled, few side))

step-grows : (w : WorldState) (side : Side) (number : Option ℕ) (given : Input) (n : ℕ) → Few w n
    → Grows w n (unless_full w side (Ok (half_steps (half_of w side) number given)))
step-grows w side number given n few = by (is_full (half_of w side)) refl where
  by : (full : Bool) → is_full (half_of w side) ≡ full
      → Grows w n (if full then Err fault.Full else Ok (record {
        world = with_half w side (half_steps (half_of w side) number given).half;
        calls = (half_steps (half_of w side) number given).calls;
        seen = (half_steps (half_of w side) number given).seen;
      }))
  by true is = full-not w side n few is
  by false is = with-grown w side (half_steps (half_of w side) number given).half n few (half-grows (half_of w side) number given n (few side))

far-grows : (w : WorldState) (side : Side) (n : ℕ) → Few w n → Grows w n (unless_full w side (Err fault.FarShort))
far-grows w side n few = by (is_full (half_of w side)) refl where
  by : (full : Bool) → is_full (half_of w side) ≡ full → Grows w n (if full then Err fault.Full else Err fault.FarShort)
  by true is = full-not w side n few is
  by false is = λ room same. cc same

arrival-grows : (w : WorldState) (from : Side) (frame : Option SentFrame) (n : ℕ) → Few w n → Grows w n (delivers_frame w from frame)
arrival-grows w from None n few = λ _ is. cc is
arrival-grows w from (Some frame) n few = by (is_far_frame (half_of w (other from)).end frame) where
  by : (far : Bool) → Grows w n (unless_full w (other from) (unless_far (half_of w (other from)) frame far))
  by true = far-grows w (other from) n few
  by false = step-grows w (other from) (Some frame.number) (input.Arrives frame.bytes) n few

happening-grows : (w : WorldState) (happening : Happening) (n : ℕ) → Few w n → Grows w n (takes_place w happening)
happening-grows w (Calls side given) n few = step-grows w side None given n few
happening-grows w (Delivers from index) n few = arrival-grows w from (slice_get (half_of w from).frames index) n few

-- the same of the two ends with their congestion controls

abbrev GrowsControlled : ControlledWorld Both → ℕ → Result (ControlledStep Both) WorldFault → Type 0
GrowsControlled w n (Ok step) = SentFew step.after (n + 1)
GrowsControlled w n (Err reason) = n < 2 ^ 47 - 1 → reason ≢ fault.Full

controlled-grows : (w : ControlledWorld Both) (side : Side) (n : ℕ) (result : Result WorldStep WorldFault) → Grows w.world n result
    → GrowsControlled w n (controls kinds_control w side result)
controlled-grows w Client n (Ok step) grows = grows
controlled-grows w Server n (Ok step) grows = grows
controlled-grows w side n (Err reason) grows = grows

event-grows : (w : ControlledWorld Both) (event : Event) (n : ℕ) → SentFew w n → GrowsControlled w n (happens_to kinds_control w event)
event-grows w event n few =
    let said = said_by kinds_control (congestion_of w (actor event)) in
    controlled-grows w (actor event) n (takes_place w.world (happening_of event said)) (happening-grows w.world (happening_of event said) n few)

pub one-more-frame : (w : ControlledWorld Both) (event : Event) (step : ControlledStep Both) (n : ℕ) → SentFew w n → happens_to kinds_control w event ≡ Ok step
    → SentFew step.after (n + 1)
one-more-frame w event step n few is = subst (GrowsControlled w n) is (event-grows w event n few)

pub has-room : (w : ControlledWorld Both) (event : Event) (n : ℕ) → SentFew w n → n < 2 ^ 47 - 1 → happens_to kinds_control w event ≢ Err fault.Full
has-room w event n few room is = subst (GrowsControlled w n) is (event-grows w event n few) room refl

-- the world of a schedule

-- an event that was shown
pub shown-few : (number : ℕ) (before after : ControlledWorld Both) (event : Event) (old new : List ℕ) (n : ℕ)
    → ShowsEvent (event_shown number before event) old new after (Ok tt) → SentFew before n → SentFew after (n + 1)
shown-few number before after event old new n shows few = by (happens_to kinds_control before event) refl shows where
  by : (result : Result (ControlledStep Both) WorldFault) → happens_to kinds_control before event ≡ result
      → ShowsEvent (by_step number before event result) old new after (Ok tt) → SentFew after (n + 1)
  by (Ok step) is shown = subst (λ (w : ControlledWorld Both). SentFew w (n + 1)) (sym shown.1) (one-more-frame before event step n few is)
  by (Err fault.NoSuchFrame) is shown = cc shown.1
  by _ is shown = cc shown.1

pub few-at : (client server : Config) (world : Option (ControlledWorld Both)) (n : ℕ) → IfSome world (λ w. SentFew w n)
    → SentFew (world_or_start client server world) n
few-at client server None n few Client = omega arith
few-at client server None n few Server = omega arith
few-at client server (Some w) n few side = few side

-- a schedule after the line of an event
pub playable-after : (old made : Play) (after : ControlledWorld Both) → made ≡ record old { world = Some (world_of old) } → IsPlayable old
    → SentFew after (old.events + 1)
    → IsPlayable (record made { events = made.events + 1; world = Some after })
playable-after old made after is_made playable few =
    subst (λ (p : Play). IsPlayable (record p { events = p.events + 1; world = Some after })) (sym is_made) (record { peers = playable.peers; few = few })

record Room (play : Play) : Type 0 where
  few : IfSome play.world (λ w. SentFew w play.events)
  events : play.events ≤ 16384

abbrev RoomAfter : LineVerdict Scene Play → Type 0
RoomAfter (Accepted scene next) = Room next
RoomAfter (Refused why) = ⊤

room-after : (play : Play) (verdict : LineVerdict Scene Play) → Turns play verdict → Room play → RoomAfter verdict
room-after play (Accepted None next) turns room = record {
  few =
      subst (λ (n : ℕ). IfSome next.world (λ w. SentFew w n)) (sym turns.events)
      (subst (λ (world : Option (ControlledWorld Both)). IfSome world (λ w. SentFew w play.events)) (sym turns.world) room.few);
  events = omega (arith, turns.events, room.events);
}
room-after play (Accepted (Some scene) next) turns room =
    let few = one-more-frame (world_of play) scene.event scene.step play.events
    (few-at play.client play.server play.world play.events room.few) turns.takes_place in
    record {
      few =
          subst (λ (n : ℕ). IfSome next.world (λ w. SentFew w n)) (sym turns.events)
          (subst (λ (world : Option (ControlledWorld Both)). IfSome world (λ w. SentFew w (play.events + 1))) (sym turns.world) few);
      events = omega (arith, turns.events, turns.few);
    }
room-after play (Refused why) turns room = tt

room-by : (rest : Play → LinesResult Scene Play) (number given : ℕ) → ((next : Play) → Room next → Room (rest next).last) → (play : Play) → Room play
    → (verdict : LineVerdict Scene Play) → Turns play verdict → Room (gone_by play number given verdict rest).last
room-by rest number given later play room (Accepted scene next) turns = later next (room-after play (Accepted scene next) turns room)
room-by rest number given later play room (Refused why) turns = room

room-last : (lines : List (List ℕ)) (number given : ℕ) (play : Play) → Room play → Room (gone_from run_job play number given lines).last
room-last [] number given play room = room
room-last (line ∷ lines) number given play room =
    room-by (λ next. gone_from run_job next (number + 1) (given + length line) lines) number given
    (room-last lines (number + 1) (given + length line)) play room
    (by_next run_job play number (next_in_lines given (line ∷ lines))) (next-turns play number (next_in_lines given (line ∷ lines)))

pub never-full : (input : List ℕ) (event : Event) → happens_to kinds_control (world_of (performed input).last) event ≢ Err fault.Full
never-full input event =
    let last = (performed input).last in
    let room = room-last (lines_of input) 1 0 first_play (record { few = tt; events = omega arith }) in
    has-room (world_of last) event last.events (few-at last.client last.server last.world last.events room.few) (omega (arith, room.events))

-- While the events are so few, each side has sent fewer than 2^23 frames.
pub few_clients : (w : ControlledWorld Both) → SentFew w most_events → length w.world.client.frames < 2 ^ 23
few_clients w few = omega (arith, few Client)

pub few_servers : (w : ControlledWorld Both) → SentFew w most_events → length w.world.server.frames < 2 ^ 23
few_servers w few = omega (arith, few Server)

abbrev NeverFar : Type 0
NeverFar =
    (client server : Config) (for_client for_server : Both) (events : List Event) (next : Event) → Fits client → Fits server
    → length (plays kinds_control (begins_with kinds_control client server for_client for_server) events).world.client.frames < 2 ^ 23
    → length (plays kinds_control (begins_with kinds_control client server for_client for_server) events).world.server.frames < 2 ^ 23
    → happens_to kinds_control (plays kinds_control (begins_with kinds_control client server for_client for_server) events) next ≢ Err fault.FarShort

pub never-far : NeverFar → (input : List ℕ) (event : Event) → happens_to kinds_control (world_of (performed input).last) event ≢ Err fault.FarShort
never-far never input event =
    let last = (performed input).last in
    let peers = peers-last input in
    let room = room-last (lines_of input) 1 0 first_play (record { few = tt; events = omega arith }) in
    let few = few-at last.client last.server last.world last.events room.few in
    subst
    (λ (w : ControlledWorld Both).
    length w.world.client.frames < 2 ^ 23 → length w.world.server.frames < 2 ^ 23 → happens_to kinds_control w event ≢ Err fault.FarShort)
    (sym (run-last (world_at_first (performed input)) (performed input).deeds (world_of last) (every-run input)))
    (λ clients servers.
    never last.client last.server at_first at_first (scene_events (performed input).deeds) event peers.client_fits peers.server_fits clients servers)
    (omega (arith, few Client, room.events)) (omega (arith, few Server, room.events))
