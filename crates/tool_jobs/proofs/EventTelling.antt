-- Data that are delivered are within the bytes that arrived, so the line of each event can have them.
use Rattle.std.proofs.Common.{◌≡◌, refl, sym, ap, ◌∙◌, subst, ℕ, List, Bool, true, false, if◌then◌else◌, Option, Some, None, Result, Ok, Err, slice_get}
use Rattle.ccid_two.specs.Kinds.{Both, kinds_control}
use Rattle.dccp_endpoint.specs.Calling.{aborts, closes, opens, prefers, sends_payload}
use Rattle.dccp_endpoint.specs.Early.{sends_early}
use Rattle.dccp_endpoint.specs.Inputs as input
use Rattle.two_ends.specs.Controlled.{ControlledWorld, ControlledStep, congestion_of, controlled, controls, happens_to, said_by}
use Rattle.two_ends.specs.World.{Half, HalfStep, Said, WorldState, WorldStep, delivers_frame as arrives_at, half_of, half_steps, happens, is_far_frame, is_full, in_world, unless_far, with_half}
use Rattle.dccp_endpoint.specs.UserCalls.{seen_of_call}
use Rattle.dccp_states.specs.Refusals.{refusal_of, send_refusal_of}
use Rattle.world_events.specs.Actors.{actor, other}
use Rattle.world_events.specs.declared.event.Event.{Event}
use Rattle.world_events.specs.declared.event.Event.TheVariants as event
use Rattle.dccp_states.specs.declared.seen.Refusal.{Refusal}
use Rattle.dccp_states.specs.declared.seen.Refusal.TheVariants as refusal
use Rattle.dccp_states.specs.declared.seen.Seen.{Seen}
use Rattle.world_events.specs.declared.event.Side.{Side}
use Rattle.world_events.specs.declared.event.Side.TheVariants.{Client, Server}
use Rattle.world_events.specs.declared.event.WorldFault.{WorldFault}
use Rattle.world_events.specs.declared.event.WorldFault.TheVariants as fault
use Rattle.two_ends.specs.declared.frames.SentFrame.{SentFrame}
use Rattle.schedule_text.specs.Results.{IsSeenOf}
use Rattle.tool_jobs.proofs.Telling.{data-in-frame}
use Rattle.tool_jobs.specs.WorldLines.{arrived, sent_bytes}

-- a call delivers no data, and a frame that arrived is where it was sent.

call-told : {Fault : Type 0} (bytes : List ℕ) (named : Fault → Refusal) (result : Result (Unit {0}) Fault) → IsSeenOf bytes (seen_of_call named result)
call-told bytes named (Ok _) = tt
call-told bytes named (Err fault) = tt

abbrev seen-or : Seen → Result WorldStep WorldFault → Seen
seen-or none (Ok step) = step.seen
seen-or none (Err fault) = none

abbrev world-or : WorldState → Result WorldStep WorldFault → WorldState
world-or none (Ok step) = step.world
world-or none (Err fault) = none

-- a step of a side, if it may send a frame
abbrev stepping : WorldState → Side → HalfStep → Bool → Result WorldStep WorldFault
stepping w side half full = if full then Err fault.Full else Ok (record { world = with_half w side half.half; calls = half.calls; seen = half.seen })

called-told : (w : WorldState) (side : Side) (half : HalfStep) (full : Bool) (step : WorldStep) (bytes : List ℕ) → stepping w side half full ≡ Ok step
    → IsSeenOf bytes half.seen → IsSeenOf bytes step.seen
called-told w side half true step bytes is told = cc is
called-told w side half false step bytes is told = subst (IsSeenOf bytes) (ap (seen-or half.seen) is) told

half-kept : (w : WorldState) (from : Side) (half : Half) → half_of (with_half w (other from) half) from ≡ half_of w from
half-kept w Client half = refl
half-kept w Server half = refl

frame-told : (w : WorldState) (from : Side) (index : ℕ) (frame : SentFrame) (half : HalfStep) (full : Bool) (step : WorldStep)
    → slice_get (half_of w from).frames index ≡ Some frame → stepping w (other from) half full ≡ Ok step → IsSeenOf frame.bytes half.seen
    → IsSeenOf (arrived step.world (event.Deliver from index)) step.seen
frame-told w from index frame half true step found is told = cc is
frame-told w from index frame half false step found is told =
    let stands : frame.bytes ≡ arrived step.world (event.Deliver from index) =
    sym (ap sent_bytes found)
    ∙ sym (ap (λ (h : Half). sent_bytes (slice_get h.frames index)) (half-kept w from half.half))
    ∙ ap (λ (x : WorldState). sent_bytes (slice_get (half_of x from).frames index)) (ap (world-or w) is) in
    subst (λ (bytes : List ℕ). IsSeenOf bytes step.seen) stands (subst (IsSeenOf frame.bytes) (ap (seen-or half.seen) is) told)

-- a frame that is refused delivers nothing
arrival-told : (w : WorldState) (from : Side) (index : ℕ) (frame : SentFrame) (full far : Bool) (step : WorldStep)
    → slice_get (half_of w from).frames index ≡ Some frame
    → (if full then Err fault.Full else in_world w (other from) (unless_far (half_of w (other from)) frame far)) ≡ Ok step
    → IsSeenOf frame.bytes (half_steps (half_of w (other from)) (Some frame.number) (input.Arrives frame.bytes)).seen
    → IsSeenOf (arrived step.world (event.Deliver from index)) step.seen
arrival-told w from index frame true far step found is told = cc is
arrival-told w from index frame false true step found is told = cc is
arrival-told w from index frame false false step found is told =
    frame-told w from index frame (half_steps (half_of w (other from)) (Some frame.number) (input.Arrives frame.bytes)) false step found is told

delivery-told : (w : WorldState) (from : Side) (index : ℕ) (frame : Option SentFrame) (step : WorldStep) → slice_get (half_of w from).frames index ≡ frame
    → arrives_at w from frame ≡ Ok step → IsSeenOf (arrived step.world (event.Deliver from index)) step.seen
delivery-told w from index None step found is = cc is
delivery-told w from index (Some frame) step found is =
    let half = half_of w (other from) in
    arrival-told w from index frame (is_full half) (is_far_frame half.end frame) step found is (data-in-frame half.end frame.bytes)

event-told : (w : WorldState) (given : Event) (said : Said) (step : WorldStep) → happens w given said ≡ Ok step → IsSeenOf (arrived step.world given) step.seen
event-told w event.Open said step is =
    called-told w Client (half_steps w.client None input.Opens) (is_full w.client) step (arrived step.world event.Open) is
    (call-told (arrived step.world event.Open) (λ fault. refusal.NotFresh) (opens w.client.end).answer)
event-told w (event.Deliver from index) said step is = delivery-told w from index (slice_get (half_of w from).frames index) step refl is
event-told w (event.Send side payload) said step is =
    called-told w side (half_steps (half_of w side) None (input.Sends payload said.may_send)) (is_full (half_of w side)) step
    (arrived step.world (event.Send side payload)) is
    (call-told (arrived step.world (event.Send side payload)) send_refusal_of (sends_payload (half_of w side).end payload said.may_send).answer)
event-told w (event.SendEarly side payload) said step is =
    called-told w side (half_steps (half_of w side) None (input.SendsEarly payload said.may_send)) (is_full (half_of w side)) step
    (arrived step.world (event.SendEarly side payload)) is
    (call-told (arrived step.world (event.SendEarly side payload)) send_refusal_of (sends_early (half_of w side).end payload said.may_send).answer)
event-told w (event.Prefer side feature place values) said step is =
    called-told w side (half_steps (half_of w side) None (input.Prefers (feature, place) values)) (is_full (half_of w side)) step
    (arrived step.world (event.Prefer side feature place values)) is
    (call-told (arrived step.world (event.Prefer side feature place values)) refusal_of (prefers (half_of w side).end (feature, place) values).answer)
event-told w (event.Timer side timer) said step is =
    called-told w side (half_steps (half_of w side) None (input.Fires timer said.in_flight)) (is_full (half_of w side)) step
    (arrived step.world (event.Timer side timer)) is tt
event-told w (event.Close side) said step is =
    called-told w side (half_steps (half_of w side) None input.Closes) (is_full (half_of w side)) step (arrived step.world (event.Close side)) is
    (call-told (arrived step.world (event.Close side)) (λ fault. refusal.NotOpen) (closes (half_of w side).end).answer)
event-told w (event.Abort side) said step is =
    called-told w side (half_steps (half_of w side) None input.Aborts) (is_full (half_of w side)) step (arrived step.world (event.Abort side)) is
    (call-told (arrived step.world (event.Abort side)) (λ fault. refusal.NotLive) (aborts (half_of w side).end).answer)

abbrev controlled-seen-or : Seen → Result (ControlledStep Both) WorldFault → Seen
controlled-seen-or none (Ok step) = step.seen
controlled-seen-or none (Err fault) = none

abbrev controlled-world-or : WorldState → Result (ControlledStep Both) WorldFault → WorldState
controlled-world-or none (Ok step) = step.after.world
controlled-world-or none (Err fault) = none

same-world : (w : ControlledWorld Both) (side : Side) (step : WorldStep) → step.world ≡ (controlled kinds_control w side step).world
same-world w Client step = refl
same-world w Server step = refl

controlled-told : (w next : ControlledWorld Both) (side : Side) (given : Event) (seen : Seen) (result : Result WorldStep WorldFault)
    → controls kinds_control w side result ≡ Ok (record { after = next; seen = seen })
    → ((step : WorldStep) → result ≡ Ok step → IsSeenOf (arrived step.world given) step.seen) → IsSeenOf (arrived next.world given) seen
controlled-told w next side given seen (Ok step) is told =
    let world : step.world ≡ next.world = same-world w side step ∙ ap (controlled-world-or step.world) is in
    subst (λ (x : WorldState). IsSeenOf (arrived x given) seen) world
    (subst (IsSeenOf (arrived step.world given)) (ap (controlled-seen-or step.seen) is) (told step refl))
controlled-told w next side given seen (Err fault) is told = cc is

event-in-place : (w next : ControlledWorld Both) (given : Event) (seen : Seen) → happens_to kinds_control w given ≡ Ok (record { after = next; seen = seen })
    → IsSeenOf (arrived next.world given) seen
event-in-place w next given seen is =
    let said = said_by kinds_control (congestion_of w (actor given)) in
    controlled-told w next (actor given) given seen (happens w.world given said) is (λ step. event-told w.world given said step)

-- Whatever is seen of an event, the bytes that arrived have the data that it delivers.
pub event_is_told : (w next : ControlledWorld Both) (given : Event) (seen : Seen) (bytes : List ℕ)
    → happens_to kinds_control w given ≡ Ok (record { after = next; seen = seen }) → bytes ≡ arrived next.world given → IsSeenOf bytes seen
event_is_told w next given seen bytes is same = subst (λ (b : List ℕ). IsSeenOf b seen) (sym same) (event-in-place w next given seen is)
