-- The loop of a run: one event after another, of which each counts twice at most.
use Rattle.std.proofs.Common.{◌≡◌, refl, sym, ap, subst, ◌∙◌, ℕ, suc, ◌+◌, ◌*◌, ◌-◌, ◌^◌, ◌≤◌, ◌<◌, Result, Ok, Err, arith}
use Rattle.rand_pcg.specs.Lcg.{Lcg}
use Rattle.ccid_two.specs.Kinds.{Both, kinds_control}
use Rattle.two_ends.specs.Controlled.{ControlledWorld, ControlledStep, happens_to}
use Rattle.world_events.specs.declared.event.Event.{Event}
use Rattle.world_events.specs.declared.event.Event.TheVariants.{Open}
use Rattle.dccp_states.specs.declared.seen.Seen.{Seen}
use Rattle.world_events.specs.declared.event.WorldFault.{WorldFault}
use Rattle.world_events.specs.declared.event.WorldFault.TheVariants as fault
use Rattle.fault_campaign.specs.Draws.{after_two}
use Rattle.fault_campaign.specs.Reports.{size, with_seen}
use Rattle.fault_campaign.specs.Seeded.{RunState, after_event, begun_run, goes_on, goes_on_for, next_event, opened_run, played, run_report, seeded_report}
use Rattle.fault_campaign.specs.declared.report.Report.{Report}
use Rattle.fault_campaign.proofs.Short.{at-first, seen-size}

abbrev made : Lcg → ControlledWorld Both → Report → RunState
made words world report = record { words = words; world = world; report = report }

pub plays : (words : Lcg) (world after : ControlledWorld Both) (report counted : Report) (event : Event) (seen : Seen)
    → happens_to kinds_control world event ≡ Ok (record { after = after; seen = seen }) → counted ≡ with_seen report seen
    → made words after counted ≡ played (made words world report) event
unfolding played
plays words world after report counted event seen happens counts =
    ap (made words after) counts ∙ sym (ap (after_event (made words world report)) happens)

abbrev failed : WorldFault → Result Seen WorldFault
failed why = Err why

-- an event that cannot happen changes nothing
pub refuses : (words : Lcg) (world after : ControlledWorld Both) (report : Report) (event : Event) (why : WorldFault) → (why ≡ fault.NoMemory → ⊥)
    → (failed why ≡ failed fault.NoSuchFrame → happens_to kinds_control world event ≡ Err fault.NoSuchFrame)
    → (failed why ≡ failed fault.Full → happens_to kinds_control world event ≡ Err fault.Full)
    → (failed why ≡ failed fault.FarShort → happens_to kinds_control world event ≡ Err fault.FarShort)
    → after ≡ world → made words after report ≡ played (made words world report) event
unfolding played
refuses words world after report event fault.NoSuchFrame some lacks full far same =
    ap (λ (w : ControlledWorld Both). made words w report) same ∙ sym (ap (after_event (made words world report)) (lacks refl))
refuses words world after report event fault.Full some lacks full far same =
    ap (λ (w : ControlledWorld Both). made words w report) same ∙ sym (ap (after_event (made words world report)) (full refl))
refuses words world after report event fault.FarShort some lacks full far same =
    ap (λ (w : ControlledWorld Both). made words w report) same ∙ sym (ap (after_event (made words world report)) (far refl))
refuses words world after report event fault.NoMemory some lacks full far same = absurd (some refl)

-- after this many of all further events
pub record IsUnderWay (all done : ℕ) (first run : RunState) : Type 0 where
  pub rest : goes_on_for (all - done) run ≡ goes_on_for all first
  pub few : size run.report + 2 * (all - done) < 2 ^ 62

pub at-start : (all : ℕ) (run : RunState) → size run.report + 2 * all < 2 ^ 62 → IsUnderWay all 0 run run
at-start all run few =
    let none : all - 0 ≡ all = omega arith in
    record { rest = ap (λ (n : ℕ). goes_on_for n run) none; few = omega (arith, few) }

pub starts-little : (g : Lcg) (events : ℕ) (run : RunState) → events ≤ 4096 → run ≡ begun_run g → size run.report + 2 * events < 2 ^ 62
starts-little g events run most is = subst (λ (r : RunState). size r.report + 2 * events < 2 ^ 62) (sym is) (omega (arith, most, (at-first g).counted))

event-size : (run : RunState) (result : Result (ControlledStep Both) WorldFault) → size (after_event run result).report ≤ size run.report + 2
event-size run (Ok step) = seen-size run.report step.seen
event-size run (Err fault) = omega arith

goes-on-size : (run : RunState) → size (goes_on run).report ≤ size run.report + 2
unfolding played
goes-on-size run = event-size (record run { words = after_two run.words }) (happens_to kinds_control run.world (next_event run))

pub counts-little : (all done : ℕ) (first run : RunState) → IsUnderWay all done first run → size run.report < 2 ^ 62
counts-little all done first run before = omega (arith, before.few)

pub one-turn : (all done : ℕ) (first run next : RunState) → done < all → next ≡ goes_on run → IsUnderWay all done first run
    → IsUnderWay all (done + 1) first next
one-turn all done first run next near is before =
    let less : all - done ≡ suc (all - (done + 1)) = omega arith in
    let size_of_next = goes-on-size run in
    subst (IsUnderWay all (done + 1) first) (sym is)
    (record { rest = sym (ap (λ (n : ℕ). goes_on_for n run) less) ∙ before.rest; few = omega (arith, before.few, size_of_next) })

pub at-end : (all done : ℕ) (first run : RunState) → all ≤ done → IsUnderWay all done first run → run ≡ goes_on_for all first
at-end all done first run over before =
    let none : 0 ≡ all - done = omega arith in
    ap (λ (n : ℕ). goes_on_for n run) none ∙ before.rest

played-size : (run : RunState) (event : Event) → size (played run event).report ≤ size run.report + 2
unfolding played
played-size run event = event-size run (happens_to kinds_control run.world event)

-- the events after the first
pub opened-few : (events : ℕ) (run opened : RunState) → 1 ≤ events → size run.report + 2 * events < 2 ^ 62 → opened ≡ played run Open
    → size opened.report + 2 * (events - 1) < 2 ^ 62
opened-few events run opened some few is =
    let more = played-size run Open in
    subst (λ (r : RunState). size r.report + 2 * (events - 1) < 2 ^ 62) (sym is) (omega (arith, some, few, more))

pub reported : (seed events : ℕ) (opened run : RunState) → opened ≡ opened_run seed → run ≡ goes_on_for (events - 1) opened
    → run_report run events ≡ seeded_report seed events
unfolding seeded_report
reported seed events opened run begun is =
    ap (λ (r : RunState). run_report r events) (is ∙ ap (goes_on_for (events - 1)) begun)
