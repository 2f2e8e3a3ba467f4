-- Lines that are written while their events happen.
use Rattle.std.proofs.Common.{◌≡◌, sym, ap, ap₂, subst, ◌∙◌, ℕ, suc, ◌+◌, ◌-◌, ◌*◌, ◌^◌, ◌≤◌, ◌<◌, List, ◌∷◌, ◌++◌, append_assoc, arith}
use Rattle.std.proofs.lemmas.List.{append-nil}
use Rattle.fault_campaign.specs.Draws.{after_two, generator}
use Rattle.fault_campaign.specs.Reports.{size}
use Rattle.fault_campaign.specs.Seeded.{RunState, begun_run, goes_on, next_event, next_events, played, seeded_events}
use Rattle.fault_campaign.proofs.Turns.{IsUnderWay, at-start, counts-little, one-turn, starts-little}
use Rattle.world_events.specs.declared.event.Event.{Event}
use Rattle.world_events.specs.declared.event.Event.TheVariants.{Open}
use Rattle.bridge_command.specs.Schedule.{event_line, event_lines}

-- After this many of all further events, the lines of those are written, and those of the rest are to come.
pub record IsTold (all done : ℕ) (first run : RunState) (before now : List ℕ) : Type 0 where
  pub way : IsUnderWay all done first run
  pub lines : now ++ event_lines (next_events (all - done) run) ≡ before ++ event_lines (next_events all first)

pub told-first : (all : ℕ) (run : RunState) (text : List ℕ) → size run.report + 2 * all < 2 ^ 62 → IsTold all 0 run run text text
told-first all run text few =
    let none : all - 0 ≡ all = omega arith in
    record { way = at-start all run few; lines = ap (λ (n : ℕ). text ++ event_lines (next_events n run)) none }

pub told-more : (all done : ℕ) (first run drawn next : RunState) (event : Event) (before now text : List ℕ) → done < all → event ≡ next_event run
    → drawn ≡ record run { words = after_two run.words } → next ≡ played drawn event → text ≡ now ++ event_line event → IsTold all done first run before now
    → IsTold all (done + 1) first next before text
told-more all done first run drawn next event before now text near is_next is_drawn is put told =
    let goes : next ≡ goes_on run = is ∙ ap₂ played is_drawn is_next in
    let less : all - done ≡ suc (all - (done + 1)) = omega arith in
    let rest = event_lines (next_events (all - (done + 1)) (goes_on run)) in
    let line : text ≡ now ++ event_line (next_event run) = put ∙ ap (λ (e : Event). now ++ event_line e) is_next in
    record {
      way = one-turn all done first run next near goes told.way;
      lines =
          ap (λ (r : RunState). text ++ event_lines (next_events (all - (done + 1)) r)) goes
          ∙ ap (λ (t : List ℕ). t ++ rest) line
          ∙ append_assoc now (event_line (next_event run)) rest
          ∙ sym (ap (λ (n : ℕ). now ++ event_lines (next_events n run)) less)
          ∙ told.lines;
    }

pub drawn-little : (all done : ℕ) (first run next : RunState) (before now : List ℕ) → next ≡ record run { words = after_two run.words }
    → IsTold all done first run before now
    → size next.report < 2 ^ 62
drawn-little all done first run next before now is told = subst (λ (r : RunState). size r.report < 2 ^ 62) (sym is) (counts-little all done first run told.way)

pub told-all : (all done : ℕ) (first run : RunState) (before now : List ℕ) → all ≤ done → IsTold all done first run before now
    → now ≡ before ++ event_lines (next_events all first)
told-all all done first run before now over told =
    let none : 0 ≡ all - done = omega arith in
    sym (append-nil now) ∙ ap (λ (n : ℕ). now ++ event_lines (next_events n run)) none ∙ told.lines

-- ---- all lines of a seed

pub begun-few : (seed events : ℕ) (run : RunState) → events ≤ 4096 → run ≡ begun_run (generator seed) → size run.report + 2 * events < 2 ^ 62
begun-few seed events run most is = starts-little (generator seed) events run most is

pub opened-told : (events : ℕ) (run opened : RunState) (before text after : List ℕ) → opened ≡ played run Open → text ≡ before ++ event_line Open
    → after ≡ text ++ event_lines (next_events (events - 1) opened)
    → after ≡ before ++ event_lines (Open ∷ next_events (events - 1) (played run Open))
opened-told events run opened before text after opens put more =
    more
    ∙ ap₂ (λ (t : List ℕ) (r : RunState). t ++ event_lines (next_events (events - 1) r)) put opens
    ∙ append_assoc before (event_line Open) (event_lines (next_events (events - 1) (played run Open)))

pub seed-told : (seed events : ℕ) (run : RunState) (before after : List ℕ) → run ≡ begun_run (generator seed)
    → after ≡ before ++ event_lines (Open ∷ next_events (events - 1) (played run Open)) → after ≡ before ++ event_lines (seeded_events seed events)
seed-told seed events run before after is told =
    told ∙ ap (λ (r : RunState). before ++ event_lines (Open ∷ next_events (events - 1) (played r Open))) is
