-- Drawn events can happen: a delivery's index is below the number of frames, no side has sent all that it may, and no frame is far.
use Rattle.std.proofs.Common.{◌≡◌, refl, sym, ap, subst, ℕ, ◌+◌, ◌-◌, ◌/◌, ◌%◌, ◌^◌, ◌≤◌, ◌<◌, ◌==◌, min, nat_le, Bool, true, false, if◌then◌else◌, length, Option, Some, None, Result, Ok, Err, ◌⊎◌, inl, inr, arith}
use Rattle.std.specs.Prelude.{get_or, slice_get, IsOk}
use Rattle.std.proofs.lemmas.Bool.{leb-true}
use Rattle.std.proofs.lemmas.Bool.Decides.{nat_tests}
use Rattle.std.proofs.lemmas.Nat.{mod_below}
use Rattle.std.proofs.lemmas.Option.{slice_get_cases}
use Rattle.ccid_two.specs.Kinds.{Both, kinds_control}
use Rattle.dccp_states.specs.declared.calls.Timer.TheVariants as timer
use Rattle.two_ends.specs.Controlled.{ControlledWorld, ControlledStep, congestion_of, controls, happens_to, said_by}
use Rattle.two_ends.specs.World.{HalfStep, WorldState, WorldStep, Happening, Calls, Delivers, Said, delivers_frame, half_of, half_steps, happening_of, is_far_frame, is_full, in_world, takes_place, unless_far, unless_full, with_half}
use Rattle.world_events.specs.Actors.{actor, other}
use Rattle.world_events.specs.declared.event.Event.{Event}
use Rattle.world_events.specs.declared.event.Event.TheVariants as event
use Rattle.world_events.specs.declared.event.Side.{Side}
use Rattle.world_events.specs.declared.event.Side.TheVariants.{Client, Server}
use Rattle.world_events.specs.declared.event.WorldFault.{WorldFault}
use Rattle.world_events.specs.declared.event.WorldFault.TheVariants as fault
use Rattle.two_ends.specs.declared.frames.SentFrame.{SentFrame}
use Rattle.fault_campaign.specs.Draws.{after_one, drawn, drawn_delivery, drawn_index, ending, event_numbered, generator, preference, word}
use Rattle.fault_campaign.specs.Seeded.{RunState, begun_run, next_event, seeded}
use Rattle.fault_campaign.proofs.Schedules.{NeverFar, seeded-near}
use Rattle.fault_campaign.proofs.Short.{IsShort, after-so-many}

abbrev IsRoomy : WorldState → Type 0
IsRoomy w = (side : Side) → length (half_of w side).frames < 2 ^ 47 - 1

abbrev HasFrame : WorldState → Happening → Type 0
HasFrame w (Calls side given) = Unit {0}
HasFrame w (Delivers from index) = index < length (half_of w from).frames

-- it happens, or the frame is far
abbrev Happens : Result WorldStep WorldFault → Type 0
Happens result = (result ≡ Err fault.FarShort) ⊎ IsOk result

not-full : (w : WorldState) (acting : Side) → IsRoomy w → is_full (half_of w acting) ≡ true → ⊥
not-full w acting room full =
    let all = leb-true (2 ^ 47 - 1) (length (half_of w acting).frames) full in
    omega (arith, all, room acting)

call-happens : (w : WorldState) (acting : Side) (step : HalfStep) → IsRoomy w → Happens (unless_full w acting (Ok step))
call-happens w acting step room = by (is_full (half_of w acting)) refl where
  by : (full : Bool) → is_full (half_of w acting) ≡ full
      → Happens (if full then Err fault.Full else Ok (record { world = with_half w acting step.half; calls = step.calls; seen = step.seen }))
  by true full = absurd (not-full w acting room full)
  by false full = inr refl

delivery-happens : (w : WorldState) (from : Side) (frame : SentFrame) → IsRoomy w → Happens (delivers_frame w from (Some frame))
delivery-happens w from frame room = by (is_full (half_of w (other from))) (is_far_frame (half_of w (other from)).end frame) refl where
  by : (full far : Bool) → is_full (half_of w (other from)) ≡ full
      → Happens (if full then Err fault.Full else in_world w (other from) (unless_far (half_of w (other from)) frame far))
  by true far full = absurd (not-full w (other from) room full)
  by false true full = inl refl
  by false false full = inr refl

arrives-happens : (w : WorldState) (from : Side) (index : ℕ) → IsRoomy w → index < length (half_of w from).frames
    → Happens (delivers_frame w from (slice_get (half_of w from).frames index))
arrives-happens w from index room below = by (slice_get_cases (half_of w from).frames index).1 where
  by : ((x : SentFrame) × (index < length (half_of w from).frames) × (slice_get (half_of w from).frames index ≡ Some x)
      × (get_or (half_of w from).frames index x ≡ x))
      ⊎ ((length (half_of w from).frames ≤ index) × (slice_get (half_of w from).frames index ≡ None))
      → Happens (delivers_frame w from (slice_get (half_of w from).frames index))
  by (inl there) =
      subst (λ (found : Option SentFrame). Happens (delivers_frame w from found)) (sym there.2)
      (delivery-happens w from there.0 room)
  by (inr past) = absurd (omega (arith, past.0))

takes-place : (w : WorldState) (happening : Happening) → IsRoomy w → HasFrame w happening → Happens (takes_place w happening)
takes-place w (Calls side given) room has = call-happens w side (half_steps (half_of w side) None given) room
takes-place w (Delivers from index) room has = arrives-happens w from index room has

abbrev IsOkOrFar : Result (ControlledStep Both) WorldFault → Type 0
IsOkOrFar result = (result ≡ Err fault.FarShort) ⊎ IsOk result

controls-happens : (w : ControlledWorld Both) (acting : Side) (result : Result WorldStep WorldFault) → Happens result
    → IsOkOrFar (controls kinds_control w acting result)
controls-happens w acting (Ok step) happened = inr refl
controls-happens w acting (Err why) (inl far) =
    let same : why ≡ fault.FarShort = cc far in
    inl (ap Err same)
controls-happens w acting (Err why) (inr ok) = inr ok

minus-below : (n m : ℕ) → 0 < n → n - 1 - m < n
minus-below n m some = omega arith

pub index-below : (b n : ℕ) → 0 < n → drawn_index b n < n
index-below b n some = by (b / 256 % 16 == 0) where
  by : (any : Bool) → (if any then b / 4096 % n else n - 1 - b % min n 8) < n
  by true = mod_below (b / 4096) n some
  by false = minus-below n (b % min n 8) some

module _ (w : WorldState) (said : Said) where
  abbrev Can : Event → Type 0
  Can event = HasFrame w (happening_of event said)

  either : (test : Bool) (one another : Event) → Can one → Can another → Can (if test then one else another)
  either true one another can also = can
  either false one another can also = also

  delivery-can : (from : Side) (b : ℕ) → Can (drawn_delivery from (length (half_of w from).frames) b)
  delivery-can from b = by (length (half_of w from).frames == 0) refl where
    by : (none : Bool) → (length (half_of w from).frames == 0) ≡ none
        → Can (if none then event.Timer Client timer.Request else event.Deliver from (drawn_index b (length (half_of w from).frames)))
    by true none = tt
    by false none =
        let some : 0 < length (half_of w from).frames = grind (arith, nat_tests) in
        index-below b (length (half_of w from).frames) some

  preference-can : (side : Side) (which rest : ℕ) → Can (preference side which rest)
  preference-can side which rest =
      either (which == 0) _ _ tt (either (which == 1) _ _ tt (either (which == 2) _ _ tt (either (which == 3) _ _ tt
      (either (which == 4) _ _ tt (either (which == 5) _ _ tt (either (which == 6) _ _ tt tt))))))

  ending-can : (which : ℕ) → Can (ending which)
  ending-can which = either (which == 0) _ _ tt (either (which == 1) _ _ tt (either (which == 2) _ _ tt (either (which == 3) _ _ tt tt)))

  event_of-can : (kind b : ℕ) → Can (event_numbered kind b (length (half_of w Client).frames) (length (half_of w Server).frames))
  event_of-can kind b =
      either (nat_le kind 11) _ _ (delivery-can Client b)
      (either (nat_le kind 23) _ _ (delivery-can Server b)
      (either (kind == 24) _ _ tt
      (either (kind == 25) _ _ tt
      (either (kind == 26) _ _ (preference-can Client (b % 8) (b / 8))
      (either (kind == 27) _ _ (preference-can Server (b % 8) (b / 8))
      (either (kind == 28) _ _ tt
      (either (kind == 29) _ _ tt
      (either (kind == 30) _ _ (ending-can (b % 512)) tt))))))))

  drawn-can : (a b : ℕ) → Can (drawn a b (length (half_of w Client).frames) (length (half_of w Server).frames))
  unfolding drawn
  drawn-can a b = event_of-can (a % 32) b

happens : (w : ControlledWorld Both) (event : Event) → IsRoomy w.world
    → HasFrame w.world (happening_of event (said_by kinds_control (congestion_of w (actor event))))
    → IsOkOrFar (happens_to kinds_control w event)
happens w event room has =
    controls-happens w (actor event) (takes_place w.world (happening_of event (said_by kinds_control (congestion_of w (actor event)))))
    (takes-place w.world (happening_of event (said_by kinds_control (congestion_of w (actor event)))) room has)

roomy : (n : ℕ) (run : RunState) → n < 2 ^ 47 - 1 → IsShort n run → IsRoomy run.world.world
roomy n run few short Client = omega (arith, short.clients)
roomy n run few short Server = omega (arith, short.servers)

pub open-happens : (seed : ℕ) → IsOk (happens_to kinds_control (begun_run (generator seed)).world event.Open)
unfolding begun_run
open-happens seed = refl

pub next-or-far : (seed events : ℕ) → events < 2 ^ 47 - 1 → IsOkOrFar (happens_to kinds_control (seeded seed events).world (next_event (seeded seed events)))
next-or-far seed events few =
    let run = seeded seed events in
    let short : IsShort (events - 1 + 1) run = after-so-many seed events in
    happens run.world (next_event run) (roomy (events - 1 + 1) run (omega arith) short)
    (drawn-can run.world.world (said_by kinds_control (congestion_of run.world (actor (next_event run)))) (word run.words) (word (after_one run.words)))

-- The events of a run are too few for a frame to be far.
pub next-happens : NeverFar → (seed events : ℕ) → events < 2 ^ 23
    → IsOk (happens_to kinds_control (seeded seed events).world (next_event (seeded seed events)))
next-happens never seed events few =
    let run = seeded seed events in
    let short : IsShort (events - 1 + 1) run = after-so-many seed events in
    elim (next-or-far seed events (omega (arith, few))) [
      | inl far ↦ absurd (seeded-near never seed events (next_event run) (omega (arith, few, short.clients)) (omega (arith, few, short.servers)) far)
      | inr ok ↦ ok
    ]
