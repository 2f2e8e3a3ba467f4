-- How much a run counts: an event sends one frame at most, and is seen once.
use Rattle.std.proofs.Common.{◌≡◌, ℕ, zero, suc, ◌+◌, ◌-◌, ◌*◌, ◌≤◌, Bool, true, false, if◌then◌else◌, ◌++◌, length, length-append, Option, Some, None, Result, Ok, Err, arith}
use Rattle.std.specs.Prelude.{slice_get}
use Rattle.rand_pcg.specs.Lcg.{Lcg}
use Rattle.ccid_two.specs.Kinds.{kinds_control}
use Rattle.dccp_endpoint.specs.Inputs.{Input, end_stepped}
use Rattle.dccp_endpoint.specs.Inputs as input
use Rattle.dccp_endpoint.specs.End.{floor_of}
use Rattle.dccp_states.specs.declared.outcome.Outcome.{Outcome}
use Rattle.dccp_states.specs.declared.outcome.Outcome.TheVariants.{Took, Dropped, Synced, WasReset, SentReset}
use Rattle.two_ends.proofs.OfWorlds.Numbering.{sent-few}
use Rattle.two_ends.specs.Controlled.{congestion_of, controls, said_by}
use Rattle.two_ends.specs.World.{Half, HalfStep, WorldState, WorldStep, Happening, Calls, Delivers, delivers_frame, as_sent, half_of, half_steps, happens, happening_of, is_far_frame, is_full, takes_place, unless_far, unless_full, with_half, world_after}
use Rattle.world_events.specs.Actors.{actor, other}
use Rattle.world_events.specs.declared.event.Event.{Event}
use Rattle.world_events.specs.declared.event.Event.TheVariants.{Open}
use Rattle.dccp_states.specs.declared.seen.Seen.{Seen}
use Rattle.dccp_states.specs.declared.seen.Seen.TheVariants.{Called, Fired, Received}
use Rattle.world_events.specs.declared.event.Side.{Side}
use Rattle.world_events.specs.declared.event.Side.TheVariants.{Client, Server}
use Rattle.world_events.specs.declared.event.WorldFault.{WorldFault}
use Rattle.world_events.specs.declared.event.WorldFault.TheVariants as fault
use Rattle.two_ends.specs.declared.frames.SentFrame.{SentFrame}
use Rattle.feature_lists.specs.declared.features.Feature.{Feature}
use Rattle.feature_lists.specs.declared.features.Feature.TheVariants as feature
use Rattle.fault_campaign.specs.Draws.{after_two, generator}
use Rattle.fault_campaign.specs.Reports.{is_settled, one_if_settled, settled_at, settles, size, with_outcome, with_seen}
use Rattle.fault_campaign.specs.Seeded.{RunState, after_event, begun_run, frames_of, goes_on, goes_on_for, next_event, opened_run, played, run_report, seeded, seeded_report}
use Rattle.fault_campaign.specs.declared.report.Report.{Report}

-- so much at most is there after n events
pub record IsShort (n : ℕ) (run : RunState) : Type 0 where
  pub counted : size run.report ≤ 2 * n
  pub clients : frames_of run Client ≤ n
  pub servers : frames_of run Server ≤ n

outcome-size : (r : Report) (outcome : Outcome) → size (with_outcome r outcome) ≤ size r + 2
outcome-size r (Took None) = omega arith
outcome-size r (Took (Some place)) = omega arith
outcome-size r (Dropped why) = omega arith
outcome-size r (Synced number) = omega arith
outcome-size r (WasReset code) = omega arith
outcome-size r (SentReset code detail) = omega arith

pub seen-size : (r : Report) (seen : Seen) → size (with_seen r seen) ≤ size r + 2
seen-size r (Called (Ok _)) = omega arith
seen-size r (Called (Err refusal)) = omega arith
seen-size r (Fired applies) = omega arith
seen-size r (Received outcome) = outcome-size r outcome

one-frame : (half : Half) (number : Option ℕ) (given : Input) → length (half_steps half number given).half.frames ≤ length half.frames + 1
one-frame half number given =
    let step = end_stepped half.end given in
    let sent = as_sent (length (half_steps half number given).half.processed) (floor_of step.after) step.frame in
    let few : length sent ≤ 1 = sent-few _ _ step.frame in
    let both : length (half.frames ++ sent) ≡ length half.frames + length sent = length-append half.frames sent in
    omega arith

abbrev Grows : WorldState → Result WorldStep WorldFault → Type 0
Grows w result = (side : Side) → length (half_of (world_after w result) side).frames ≤ length (half_of w side).frames + 1

half-grows : (w : WorldState) (acting : Side) (half : Half) → length half.frames ≤ length (half_of w acting).frames + 1 → (side : Side)
    → length (half_of (with_half w acting half) side).frames ≤ length (half_of w side).frames + 1
half-grows w Client half few Client = few
half-grows w Client half few Server = omega arith
half-grows w Server half few Client = omega arith
half-grows w Server half few Server = few

unless_full-grows : (w : WorldState) (acting : Side) (step : HalfStep) → length step.half.frames ≤ length (half_of w acting).frames + 1
    → Grows w (unless_full w acting (Ok step))
unless_full-grows w acting step few = by (is_full (half_of w acting)) where
  by : (full : Bool) → Grows w (if full then Err fault.Full else Ok (record { world = with_half w acting step.half; calls = step.calls; seen = step.seen }))
  by true side = omega arith
  by false side = half-grows w acting step.half few side

arrives-grows : (w : WorldState) (from : Side) (frame : Option SentFrame) → Grows w (delivers_frame w from frame)
arrives-grows w from None side = omega arith
arrives-grows w from (Some frame) side = by (is_far_frame (half_of w (other from)).end frame) where
  refused : (full : Bool)
      → length (half_of (world_after w (if full then Err fault.Full else Err fault.FarShort)) side).frames ≤ length (half_of w side).frames + 1
  refused true = omega arith
  refused false = omega arith

  by : (far : Bool)
      → length (half_of (world_after w (unless_full w (other from) (unless_far (half_of w (other from)) frame far))) side).frames
      ≤ length (half_of w side).frames + 1
  by true = refused (is_full (half_of w (other from)))
  by false =
      unless_full-grows w (other from) (half_steps (half_of w (other from)) (Some frame.number) (input.Arrives frame.bytes))
      (one-frame (half_of w (other from)) (Some frame.number) (input.Arrives frame.bytes)) side

happening-grows : (w : WorldState) (happening : Happening) → Grows w (takes_place w happening)
happening-grows w (Calls side given) = unless_full-grows w side (half_steps (half_of w side) None given) (one-frame (half_of w side) None given)
happening-grows w (Delivers from index) = arrives-grows w from (slice_get (half_of w from).frames index)

after-event : (n : ℕ) (run : RunState) (acting : Side) (result : Result WorldStep WorldFault) → Grows run.world.world result → IsShort n run
    → IsShort (n + 1) (after_event run (controls kinds_control run.world acting result))
after-event n run Client (Ok step) grows short =
    record {
      counted = omega (arith, seen-size run.report step.seen, short.counted);
      clients = omega (arith, grows Client, short.clients);
      servers =
          omega (arith, grows Server, short.servers);
    }
after-event n run Server (Ok step) grows short =
    record {
      counted = omega (arith, seen-size run.report step.seen, short.counted);
      clients = omega (arith, grows Client, short.clients);
      servers =
          omega (arith, grows Server, short.servers);
    }
after-event n run acting (Err fault) grows short =
    record { counted = omega (arith, short.counted); clients = omega (arith, short.clients); servers = omega (arith, short.servers) }

pub after-one : (n : ℕ) (run : RunState) (event : Event) → IsShort n run → IsShort (n + 1) (played run event)
unfolding played
after-one n run event short =
    after-event n run (actor event) (happens run.world.world event (said_by kinds_control (congestion_of run.world (actor event))))
    (happening-grows run.world.world (happening_of event (said_by kinds_control (congestion_of run.world (actor event))))) short

pub at-first : (g : Lcg) → IsShort 0 (begun_run g)
unfolding begun_run
at-first g = record { counted = omega arith; clients = omega arith; servers = omega arith }

pub after-open : (seed : ℕ) → IsShort 1 (opened_run seed)
after-open seed = after-one 0 _ Open (at-first (generator seed))

pub after-next : (n : ℕ) (run : RunState) → IsShort n run → IsShort (n + 1) (goes_on run)
after-next n run short =
    after-one n (record run { words = after_two run.words }) (next_event run)
    (record { counted = short.counted; clients = short.clients; servers = short.servers })

after-more : (more n m : ℕ) (run : RunState) → n + more ≡ m → IsShort n run → IsShort m (goes_on_for more run)
after-more zero n m run all short =
    record { counted = omega (arith, short.counted); clients = omega (arith, short.clients); servers = omega (arith, short.servers) }
after-more (suc more) n m run all short = after-more more (n + 1) m (goes_on run) (omega arith) (after-next n run short)

pub after-so-many : (seed events : ℕ) → IsShort (events - 1 + 1) (seeded seed events)
after-so-many seed events = after-more (events - 1) 1 (events - 1 + 1) (opened_run seed) (omega arith) (after-open seed)

one_if-few : (b : Bool) → one_if_settled b ≤ 1
one_if-few true = omega arith
one_if-few false = omega arith

settled-few : (w : WorldState) (side : Side) → settled_at w side ≤ 9
settled-few w side =
    omega (
      arith,
      few feature.Ccid,
      few feature.ShortSeqnos,
      few feature.SequenceWindow,
      few feature.EcnIncapable,
      few feature.AckRatio,
      few feature.SendAckVector,
      few feature.SendNdpCount,
      few feature.MinCsCov,
      few feature.CheckDataChecksum,
    ) where
      few : (f : Feature) → settles w side f ≤ 1
      few f = one_if-few (is_settled w (record { feature = f; location = side }))

reported-size : (events : ℕ) (run : RunState) → IsShort events run → size (run_report run events) ≤ 5 * events + 19
reported-size events run short =
    let clients = settled-few run.world.world Client in
    let servers = settled-few run.world.world Server in
    omega (arith, short.counted, short.clients, short.servers)

pub report-size : (seed events : ℕ) → 1 ≤ events → size (seeded_report seed events) ≤ 5 * events + 19
unfolding seeded_report
report-size seed events some =
    reported-size events (seeded seed events) (after-more (events - 1) 1 events (opened_run seed) (omega arith) (after-open seed))
