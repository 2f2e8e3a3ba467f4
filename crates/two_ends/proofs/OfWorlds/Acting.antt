-- Facts of two sides, and the one induction over all schedules.
--
-- A fact speaks of a side and its peer. It holds at the start, and a step of either side keeps it (`Keeps`), by facts that were proved
-- before. `run-held` carries it through every schedule. Nothing here or there knows what an end does but its effect.
use Rattle.std.proofs.Common.{◌≡◌, refl, ap, sym, ◌∙◌, subst, ◌-◌, ◌^◌, ◌<◌, ℕ, List, [], ◌∷◌, ◌++◌, Option, Some, None, true, false, Bool, if◌then◌else◌, Result, Ok, Err, slice_get, length, length-append, ◌≤◌, arith}
use Rattle.dccp_endpoint.specs.Causes.{EveryStepHasOneEffect, IsCaused}
use Rattle.dccp_endpoint.specs.Effects.{Effect, Transmission, Silent, Next, WithoutConnection, end_after, frame_by}
use Rattle.dccp_endpoint.specs.End.{EndState, IsProper, floor_of}
use Rattle.dccp_endpoint.specs.Inputs.{Arrives, Input, end_stepped}
use Rattle.dccp_endpoint.specs.Steps.{Step}
use Rattle.dccp_endpoint.specs.declared.config.Config.{Config}
use Rattle.world_events.specs.declared.event.Event.{Event}
use Rattle.world_events.specs.declared.event.Event.TheVariants as event
use Rattle.world_events.specs.declared.event.Side.{Side}
use Rattle.world_events.specs.declared.event.Side.TheVariants.{Client, Server}
use Rattle.world_events.specs.declared.event.WorldFault.{WorldFault}
use Rattle.world_events.specs.declared.event.WorldFault.TheVariants as fault
use Rattle.two_ends.specs.declared.frames.SentFrame.{SentFrame}
use Rattle.dccp_endpoint.specs.Drafts.{Fits}
use Rattle.two_ends.specs.World.{Half, WorldState, WorldStep, Happening, Calls, Delivers, Said, Occurrence, happening_of, as_sent, acting_side, half_with, moved, newly_processed, half_of, half_at_start, half_steps, with_half, happens, delivers_frame, is_far_frame, in_world, takes_place, unless_far, is_full, world_after, world_after_all, at_start}
use Rattle.world_events.specs.Actors.{actor, other}
use Rattle.two_ends.proofs.OfWorlds.Logged.{Logged}
use Rattle.two_ends.proofs.OfWorlds.ReadBack.{AreNumbers, IsFromPeer}

-- a side, with what its numbered frames carry
pub record Party : Type 0 where
  pub half : Half
  pub log : List Logged

abbrev pub end_of : Party → EndState
end_of x = x.half.end

abbrev pub config_of : Party → Config
config_of x = x.half.end.config

-- what is added to the log
abbrev pub logged_by : ℕ → ℕ → Transmission → List Logged
logged_by processed floor Silent = []
logged_by processed floor (Next draft) = record { draft = draft; processed = processed; floor = floor } ∷ []
logged_by processed floor (WithoutConnection number kind) = []

-- all that a side has processed after a step
abbrev pub processed_by : Half → Option ℕ → Effect → List ℕ
processed_by half arrived f = half.processed ++ newly_processed half.end arrived (end_after half.end f)

-- what a step keeps of its frame, and what it adds to the log
abbrev pub sent_by : Half → Option ℕ → Effect → List SentFrame
sent_by half arrived f =
    as_sent (length (processed_by half arrived f)) (floor_of (end_after half.end f)) (frame_by half.end f f.sending)

abbrev pub drafted_by : Half → Option ℕ → Effect → List Logged
drafted_by half arrived f = logged_by (length (processed_by half arrived f)) (floor_of (end_after half.end f)) f.sending

abbrev pub half_after : Half → Option ℕ → Effect → Half
half_after half arrived f = half_with half.frames (end_after half.end f) (processed_by half arrived f) (frame_by half.end f f.sending)

abbrev pub at_beginning : Config → Party
at_beginning config = record { half = half_at_start config; log = [] }

-- A step of a side, with its effect. What arrives, if anything, is a frame of its peer, with its number, and is not far there.
pub record Act : Type 0 where
  pub side : Party
  pub peer : Party
  pub arrived : Option ℕ
  pub given : Input
  pub effect : Effect
  pub room : length side.half.frames < 2 ^ 47 - 1
  pub from_peer : IsFromPeer side.half.end peer.half.frames arrived given
  pub numbers : AreNumbers side.half.end
  pub because : IsCaused side.half.end given effect

abbrev pub acted : Act → Party
acted act = record { half = half_after act.side.half act.arrived act.effect; log = act.side.log ++ drafted_by act.side.half act.arrived act.effect }

-- an act takes nothing from the log
pub longer : (act : Act) → length act.side.log ≤ length (acted act).log
longer act = omega (arith, length-append act.side.log (drafted_by act.side.half act.arrived act.effect))

-- a fact of a side and its peer, and of the peer and the side
abbrev pub Both : (Party → Party → Type 0) → Party → Party → Type 0
Both Fact x y = Fact x y × Fact y x

-- a fact that needs no earlier one
abbrev pub NoFact : Party → Party → Type 0
NoFact x y = Unit {0}

-- Every step keeps the fact, of the side that acts and of its peer, where earlier facts hold of both.
pub record Keeps (Earlier This : Party → Party → Type 0) : Type 0 where
  pub starts : (own peer : Config) → Fits own → Fits peer → This (at_beginning own) (at_beginning peer)
  pub acts : (act : Act) → Both Earlier act.side act.peer → Both This act.side act.peer → Both This (acted act) act.peer

abbrev pub party_of : WorldState → (Side → List Logged) → Side → Party
party_of w logs side = record { half = half_of w side; log = logs side }

-- A fact of both sides, with their logs.
pub record IsHeld (This : Party → Party → Type 0) (w : WorldState) : Type 0 where
  pub logs : Side → List Logged
  pub holds : Both This (party_of w logs Client) (party_of w logs Server)

-- as it is seen from a side
pub held_by : (This : Party → Party → Type 0) (w : WorldState) (h : IsHeld This w) (side : Side)
    → Both This (party_of w h.logs side) (party_of w h.logs (other side))
held_by This w h Client = h.holds
held_by This w h Server = (h.holds.1, h.holds.0)

abbrev with_log : (Side → List Logged) → Side → List Logged → Side → List Logged
with_log logs Client log Client = log
with_log logs Client log Server = logs Server
with_log logs Server log Client = logs Client
with_log logs Server log Server = log

-- A side takes another state.
held-with : (This : Party → Party → Type 0) (w : WorldState) (logs : Side → List Logged) (side : Side) (x : Party)
    → Both This x (party_of w logs (other side)) → IsHeld This (with_half w side x.half)
held-with This w logs Client x both = record { logs = with_log logs Client x.log; holds = both }
held-with This w logs Server x both = record { logs = with_log logs Server x.log; holds = (both.1, both.0) }

pub moved-after : {Answer : Type 0} (half : Half) (arrived : Option ℕ) (step : Step Answer) (f : Effect) → step.after ≡ end_after half.end f
    → step.frame ≡ frame_by half.end f f.sending → moved half arrived step ≡ half_after half arrived f
moved-after half arrived step f after frame =
    ap (λ (e : EndState). half_with half.frames e (half.processed ++ newly_processed half.end arrived e) step.frame) after
    ∙ ap (half_with half.frames (end_after half.end f) (processed_by half arrived f)) frame

-- a side that is not full has room for a frame
pub not-full : (half : Half) → is_full half ≡ false → length half.frames < 2 ^ 47 - 1
not-full half room = grind arith

-- an event delivers what the other side sent, and nothing else
abbrev IsCall : Happening → Type 0
IsCall (Calls side (Arrives bytes)) = ⊥
IsCall _ = Unit {0}

is-call : (e : Event) (said : Said) → IsCall (happening_of e said)
is-call (event.Deliver from index) said = tt
is-call _ said = tt

call-given : (e : EndState) (side : Side) (given : Input) (frames : List SentFrame) → IsCall (Calls side given) → IsFromPeer e frames None given
call-given e side (Arrives bytes) frames is = absurd is
call-given e side _ frames is = tt

frame-given : (w : WorldState) (from : Side) (index : ℕ) (frame : SentFrame) → slice_get (half_of w from).frames index ≡ Some frame
    → is_far_frame (half_of w (other from)).end frame ≡ false
    → IsFromPeer (half_of w (other from)).end (half_of w (other (other from))).frames (Some frame.number) (Arrives frame.bytes)
frame-given w Client index frame there near =
    record { index = index; frame = frame; is_there = there; same = refl; numbered = refl; not_far = near }
frame-given w Server index frame there near =
    record { index = index; frame = frame; is_there = there; same = refl; numbered = refl; not_far = near }

-- The result of an event: nothing, or a step of the side that acts, at which only a frame of the other side can arrive.
pub data Takes (w : WorldState) (side : Side) : Result WorldStep WorldFault → Type 0 where
  Refused : (why : WorldFault) → Takes w side (Err why)
  Steps : (arrived : Option ℕ) (given : Input) → is_full (half_of w side) ≡ false
      → IsFromPeer (half_of w side).end (half_of w (other side)).frames arrived given
      → Takes w side (Ok (record {
        world = with_half w side (half_steps (half_of w side) arrived given).half;
        calls = (half_steps (half_of w side) arrived given).calls;
        seen = (half_steps (half_of w side) arrived given).seen;
      }))

call-taken : (w : WorldState) (side : Side) (given : Input) → IsFromPeer (half_of w side).end (half_of w (other side)).frames None given
    → Takes w side (takes_place w (Calls side given))
call-taken w side given from = by (is_full (half_of w side)) refl where
  by : (full : Bool) → is_full (half_of w side) ≡ full
      → Takes w side (if full then Err fault.Full else in_world w side (Ok (half_steps (half_of w side) None given)))
  by true room = Refused fault.Full
  by false room = Steps None given room from

arrives-taken : (w : WorldState) (from : Side) (index : ℕ) (frame : Option SentFrame) → slice_get (half_of w from).frames index ≡ frame
    → Takes w (other from) (delivers_frame w from frame)
arrives-taken w from index None there = Refused fault.NoSuchFrame
arrives-taken w from index (Some frame) there = by (is_full (half_of w (other from))) (is_far_frame (half_of w (other from)).end frame) refl refl where
  by : (full far : Bool) → is_full (half_of w (other from)) ≡ full → is_far_frame (half_of w (other from)).end frame ≡ far
      → Takes w (other from) (if full then Err fault.Full else in_world w (other from) (unless_far (half_of w (other from)) frame far))
  by true far room near = Refused fault.Full
  by false true room near = Refused fault.FarShort
  by false false room near = Steps (Some frame.number) (Arrives frame.bytes) room (frame-given w from index frame there near)

taken : (w : WorldState) (what : Happening) → IsCall what → Takes w (acting_side what) (takes_place w what)
taken w (Calls side given) is = call-taken w side given (call-given (half_of w side).end side given (half_of w (other side)).frames is)
taken w (Delivers from index) is = arrives-taken w from index (slice_get (half_of w from).frames index) refl

acting-actor : (e : Event) (said : Said) → acting_side (happening_of e said) ≡ actor e
acting-actor (event.Deliver from index) said = refl
acting-actor _ said = refl

-- the result of an event is what was made of the side that acts
pub event-taken : (w : WorldState) (e : Event) (said : Said) → Takes w (actor e) (happens w e said)
event-taken w e said =
    subst (λ (side : Side). Takes w side (happens w e said)) (acting-actor e said) (taken w (happening_of e said) (is-call e said))

-- A side's new state has the old configuration, and the other side is as it was.
config-with : (w : WorldState) (side : Side) (half : Half) → half.end.config ≡ (half_of w side).end.config
    → (each : Side) → (half_of (with_half w side half) each).end.config ≡ (half_of w each).end.config
config-with w Client half same Client = same
config-with w Client half same Server = refl
config-with w Server half same Client = refl
config-with w Server half same Server = same

-- A fact is held in a world that has the configurations of another.
pub record IsKept (This : Party → Party → Type 0) (old new : WorldState) : Type 0 where
  pub held : IsHeld This new
  pub configs : (side : Side) → (half_of new side).end.config ≡ (half_of old side).end.config

module _ (This : Party → Party → Type 0) (keeps : Keeps NoFact This) (proper : (x y : Party) → This x y → IsProper x.half.end)
    (numbers : (x y : Party) → This x y → AreNumbers x.half.end) (effects : EveryStepHasOneEffect) where
  side-held : (w : WorldState) (side : Side) (arrived : Option ℕ) (given : Input) → is_full (half_of w side) ≡ false
      → IsFromPeer (half_of w side).end (half_of w (other side)).frames arrived given → IsHeld This w
      → IsKept This w (with_half w side (half_steps (half_of w side) arrived given).half)
  side-held w side arrived given room from h =
      let x : Party = party_of w h.logs side in
      let y : Party = party_of w h.logs (other side) in
      let now : Both This x y = held_by This w h side in
      let has = effects x.half.end given (proper x y now.0) in
      let act : Act =
      record {
        side = x;
        peer = y;
        arrived = arrived;
        given = given;
        effect = has.effect;
        room = not-full x.half room;
        from_peer = from;
        numbers = numbers x y now.0;
        because = has.because;
      } in
      record {
        held =
            subst (λ (half : Half). IsHeld This (with_half w side half))
            (sym (moved-after x.half arrived (end_stepped x.half.end given) has.effect has.after_is has.frame_is))
            (held-with This w h.logs side (acted act) (keeps.acts act (tt, tt) now));
        configs = config-with w side (half_steps (half_of w side) arrived given).half (ap (λ (e : EndState). e.config) has.after_is);
      }

  pub taken-held : (w : WorldState) (side : Side) (r : Result WorldStep WorldFault) → Takes w side r → IsHeld This w
      → IsKept This w (world_after w r)
  taken-held w side _ (Refused why) h = record { held = h; configs = λ each. refl }
  taken-held w side _ (Steps arrived given room from) h = side-held w side arrived given room from h

  held-from : (w : WorldState) (events : List Occurrence) → IsHeld This w → IsKept This w (world_after_all w events)
  held-from w [] h = record { held = h; configs = λ each. refl }
  held-from w (now ∷ later) h =
      let next : WorldState = world_after w (happens w now.event now.said) in
      let one = taken-held w (actor now.event) (happens w now.event now.said) (event-taken w now.event now.said) h in
      let rest = held-from next later one.held in
      record { held = rest.held; configs = λ each. rest.configs each ∙ one.configs each }

  kept-from : (client server : Config) (events : List Occurrence) → Fits client → Fits server
      → IsKept This (at_start client server) (world_after_all (at_start client server) events)
  kept-from client server events client_fits server_fits =
      let holds : Both This (at_beginning client) (at_beginning server) =
      (keeps.starts client server client_fits server_fits, keeps.starts server client server_fits client_fits) in
      held-from (at_start client server) events (record { logs = λ s. []; holds = holds })

  -- What the start has and each step keeps, holds after every schedule.
  pub run-held : (client server : Config) (events : List Occurrence) → Fits client → Fits server → IsHeld This (world_after_all (at_start client server) events)
  run-held client server events client_fits server_fits = (kept-from client server events client_fits server_fits).held

  -- The ends keep their configurations.
  pub run-configs : (client server : Config) (events : List Occurrence) → Fits client → Fits server → (side : Side)
      → (half_of (world_after_all (at_start client server) events) side).end.config ≡ (half_of (at_start client server) side).end.config
  run-configs client server events client_fits server_fits = (kept-from client server events client_fits server_fits).configs
