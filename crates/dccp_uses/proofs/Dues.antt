-- What is due of an end, one after another.
use Rattle.std.proofs.Common.{◌≡◌, refl, sym, subst, ℕ, max, List, [], ◌∷◌, Bool, true, false, not, ◌&&◌, if◌then◌else◌, Option, Some, None, is_some, arith}
use Rattle.std.proofs.lemmas.Bool.{false≢true}
use Rattle.congestion_trait.specs.Control.{Control}
use Rattle.dccp_endpoint.specs.Calling.{applies_in, fires}
use Rattle.dccp_endpoint.specs.Controlled.{End, has_in_flight, with_control}
use Rattle.dccp_states.specs.declared.calls.Timer.{Timer}
use Rattle.dccp_states.specs.declared.calls.Timer.TheVariants as timers
use Rattle.dccp_uses.specs.Alarms.{alarm_of, has_run_out, is_idle, rung_by, starting_wait_by}
use Rattle.dccp_uses.specs.Handing.{HandsAll}
use Rattle.dccp_uses.specs.Holding.{HoldingState}
use Rattle.dccp_uses.specs.Path.{path_waits, rules_alarm, sight_of}
use Rattle.dccp_uses.specs.Rules.{alarms_by_rule, due_rule, path_by_rule, rule_does}
use Rattle.dccp_uses.specs.Sessions.{Does, NoneIsDue, holding_rings, rings_due, rings_each_due, stands_still}
use Rattle.dccp_uses.specs.Timed.{TimedState, TimedStep, due_told}
use Rattle.dccp_uses.specs.Upkeeps.{due_alarm, every_due, kept_on, kept_rung_if, ruled_condition}
use Rattle.dccp_uses.specs.Path.{arranged_rules, rules_left, told_timer}
use Rattle.dccp_uses.specs.declared.alarms.Alarm.{Alarm}
use Rattle.dccp_uses.specs.declared.alarms.Alarms.{Alarms}
use Rattle.dccp_uses.specs.declared.path.Path.{Path}
use Rattle.dccp_uses.specs.declared.rule.Rule.{Rule}
use Rattle.dccp_uses.specs.declared.rule.Rule.TheVariants as rule
use Rattle.dccp_uses.specs.declared.timed_end.Due.{Due}
use Rattle.dccp_uses.specs.declared.timed_end.Due.TheVariants as due
use Rattle.dccp_uses.specs.declared.upkeep.Upkeep.{Upkeep}
use Rattle.dccp_uses.specs.declared.waits.Waits.{Waits}
use Rattle.dccp_uses.proofs.Ringing.{arranged_stays, back_runs, fresh_runs, told_stays}

-- a timer that was told, or another one: what has not run out stays so
told-keeps : (waits : Waits) (alarms : Alarms) (told timer : Timer) (now : ℕ) → has_run_out (alarm_of alarms timer) now ≡ false
    → has_run_out (alarm_of (rung_by waits alarms told now) timer) now ≡ false
told-keeps waits alarms timers.Request timers.Request now quiet = back_runs waits.request alarms.request now
told-keeps waits alarms timers.Ack timers.Ack now quiet = back_runs waits.ack alarms.ack now
told-keeps waits alarms timers.Negotiate timers.Negotiate now quiet = back_runs waits.negotiate alarms.negotiate now
told-keeps waits alarms timers.Rto timers.Rto now quiet = back_runs waits.rto alarms.rto now
told-keeps waits alarms timers.Close timers.Close now quiet = back_runs waits.close alarms.close now
told-keeps waits alarms timers.TimeWait timers.TimeWait now quiet = back_runs waits.time_wait alarms.time_wait now
told-keeps waits alarms _ timers.Request now quiet = quiet
told-keeps waits alarms _ timers.Ack now quiet = quiet
told-keeps waits alarms _ timers.Negotiate now quiet = quiet
told-keeps waits alarms _ timers.Rto now quiet = quiet
told-keeps waits alarms _ timers.Close now quiet = quiet
told-keeps waits alarms _ timers.TimeWait now quiet = quiet

-- a wish has negotiate begin anew
wish-keeps : (alarms : Alarms) (timer : Timer) (now : ℕ) → has_run_out (alarm_of alarms timer) now ≡ false
    → has_run_out (alarm_of (record alarms { negotiate = None }) timer) now ≡ false
wish-keeps alarms timers.Negotiate now quiet = refl
wish-keeps alarms _ now quiet = quiet

rule-keeps : (waits : Waits) (alarms : Alarms) (it : Rule) (timer : Timer) (now : ℕ) → has_run_out (alarm_of alarms timer) now ≡ false
    → has_run_out (alarm_of (alarms_by_rule waits alarms it now) timer) now ≡ false
rule-keeps waits alarms rule.Nothing timer now quiet = quiet
rule-keeps waits alarms rule.GiveUp timer now quiet = quiet
rule-keeps waits alarms rule.TimeOut timer now quiet = told-keeps waits alarms timers.Rto timer now quiet
rule-keeps waits alarms _ timer now quiet = wish-keeps alarms timer now quiet

-- no rule is due in the millisecond in which one was
rules-rest : (left : Option ℕ) (now : ℕ) → has_run_out (rules_alarm left 1 now) now ≡ false
rules-rest None now = refl
rules-rest (Some left) now = fresh_runs now (max left 1) (omega arith)

-- nor does a timer that is idle
none-rests : (alarm : Option Alarm) (applies : Bool) (now : ℕ) → (not (is_some alarm) && not applies) ≡ true → has_run_out alarm now ≡ false
none-rests None applies now is = refl
none-rests (Some alarm) applies now is = absurd (false≢true is)

module _ {C : Type 0} (control : Control C) (now : ℕ) where
  -- where the timers go on, one that has not run out stays so
  goes-quiet : (least : ℕ) (alarms : Alarms) (path : Path) (end : End C) (timer : Timer) → has_run_out (alarm_of alarms timer) now ≡ false
      → has_run_out (alarm_of (kept_on control now least alarms path end).alarms timer) now ≡ false
  goes-quiet least alarms path end timer quiet =
      arranged_stays (path_waits path) alarms timer (ruled_condition path (sight_of control end)) now quiet

  abbrev told-so : TimedState C → Timer → End C
  told-so s timer = (with_control control s.end.congestion (fires s.end.state timer (has_in_flight control s.end.congestion))).after

  itself-if : (u : Upkeep) (timer : Timer) (end : End C) (idle : Bool) → is_idle u.alarms timer end.state.phase ≡ idle
      → has_run_out (alarm_of (kept_rung_if control now u timer end idle).alarms timer) now ≡ false
  itself-if u timer end true is = none-rests (alarm_of u.alarms timer) (applies_in timer end.state.phase) now is
  itself-if u timer end false is =
      goes-quiet 0 (rung_by (path_waits u.path) u.alarms timer now) (told_timer u.path timer (sight_of control end) now) end timer
      (told_stays (path_waits u.path) u.alarms timer now)

  told-itself : (s : TimedState C) (it : Due) → has_run_out (due_alarm (due_told control now s it).timed.upkeep it) now ≡ false
  told-itself s (due.Timer timer) = itself-if s.upkeep timer (told-so s timer) (is_idle s.upkeep.alarms timer (told-so s timer).state.phase) refl
  told-itself s due.Rules =
      let u = s.upkeep in
      let it = due_rule u.path now in
      let step = rule_does control s.end it u.path.aim in
      let path = path_by_rule u.path it (sight_of control step.after) now in
      let wait = starting_wait_by (path_waits path) (alarms_by_rule (path_waits u.path) u.alarms it now) timers.Rto in
      rules-rest (rules_left (arranged_rules path wait (sight_of control step.after) now) now) now

  another-if : (u : Upkeep) (told timer : Timer) (end : End C) (idle : Bool) → has_run_out (alarm_of u.alarms timer) now ≡ false
      → has_run_out (alarm_of (kept_rung_if control now u told end idle).alarms timer) now ≡ false
  another-if u told timer end true quiet = quiet
  another-if u told timer end false quiet =
      goes-quiet 0 (rung_by (path_waits u.path) u.alarms told now) (told_timer u.path told (sight_of control end) now) end timer
      (told-keeps (path_waits u.path) u.alarms told timer now quiet)

  told-another : (s : TimedState C) (it : Due) (timer : Timer) → has_run_out (alarm_of s.upkeep.alarms timer) now ≡ false
      → has_run_out (alarm_of (due_told control now s it).timed.upkeep.alarms timer) now ≡ false
  told-another s (due.Timer told) timer quiet =
      another-if s.upkeep told timer (told-so s told) (is_idle s.upkeep.alarms told (told-so s told).state.phase) quiet
  told-another s due.Rules timer quiet =
      let u = s.upkeep in
      let it = due_rule u.path now in
      let step = rule_does control s.end it u.path.aim in
      goes-quiet 1 (alarms_by_rule (path_waits u.path) u.alarms it now) (path_by_rule u.path it (sight_of control step.after) now) step.after timer
      (rule-keeps (path_waits u.path) u.alarms it timer now quiet)

  abbrev rung-if : TimedState C → Due → Bool → TimedStep C Bool
  rung-if s it is = if is then due_told control now s it else stands_still s

  itself-by : (s : TimedState C) (it : Due) (is : Bool) → has_run_out (due_alarm s.upkeep it) now ≡ is
      → has_run_out (due_alarm (rung-if s it is).timed.upkeep it) now ≡ false
  itself-by s it true same = told-itself s it
  itself-by s it false same = same

  pub rung_rests : (s : TimedState C) (it : Due) → has_run_out (due_alarm (rings_due control now s it).timed.upkeep it) now ≡ false
  rung_rests s it = itself-by s it (has_run_out (due_alarm s.upkeep it) now) refl

  another-by : (s : TimedState C) (it : Due) (timer : Timer) (is : Bool) → has_run_out (alarm_of s.upkeep.alarms timer) now ≡ false
      → has_run_out (alarm_of (rung-if s it is).timed.upkeep.alarms timer) now ≡ false
  another-by s it timer true quiet = told-another s it timer quiet
  another-by s it timer false quiet = quiet

  pub other_rests : (s : TimedState C) (it : Due) (timer : Timer) → has_run_out (alarm_of s.upkeep.alarms timer) now ≡ false
      → has_run_out (alarm_of (rings_due control now s it).timed.upkeep.alarms timer) now ≡ false
  other_rests s it timer quiet = another-by s it timer (has_run_out (due_alarm s.upkeep it) now) quiet

  -- each that is due, one after another, of an end by itself
  abbrev pub rung_in_order : TimedState C → List Due → TimedState C
  rung_in_order s [] = s
  rung_in_order s (it ∷ rest) = rung_in_order (rings_due control now s it).timed rest

  -- beside an inbox and a cookie the same
  pub rung_beside : (h : HoldingState C) (list : List Due)
      → (rings_each_due control now h list).holding ≡ record h { timed = rung_in_order h.timed list }
  rung_beside h [] = refl
  rung_beside h (it ∷ rest) = rung_beside (holding_rings control now h it).holding rest

  through : (list : List Due) (s : TimedState C) (timer : Timer) → has_run_out (alarm_of s.upkeep.alarms timer) now ≡ false
      → has_run_out (alarm_of (rung_in_order s list).upkeep.alarms timer) now ≡ false
  through [] s timer quiet = quiet
  through (it ∷ rest) s timer quiet = through rest (rings_due control now s it).timed timer (other_rests s it timer quiet)

  abbrev once : TimedState C → Due → TimedState C
  once s it = (rings_due control now s it).timed

  -- Once each was looked at, none is due.
  pub nothing_left : (s : TimedState C) → NoneIsDue now (rung_in_order s every_due)
  nothing_left s it =
      let a = once s (due.Timer timers.Request) in
      let b = once a (due.Timer timers.Ack) in
      let c = once b (due.Timer timers.Negotiate) in
      let d = once c (due.Timer timers.Rto) in
      let e = once d (due.Timer timers.Close) in
      let f = once e (due.Timer timers.TimeWait) in
      let P : Due → Type 0 = λ (x : Due). has_run_out (due_alarm (once f due.Rules).upkeep x) now ≡ false in
      let by-timer : (timer : Timer) → P (due.Timer timer) = λ timer.
      elim timer as (λ (t : Timer). P (due.Timer t)) [
        | timers.Request ↦ through (due.Timer timers.Ack ∷ due.Timer timers.Negotiate ∷ due.Timer timers.Rto ∷ due.Timer timers.Close ∷ due.Timer timers.TimeWait ∷ due.Rules ∷ []) a timers.Request (rung_rests s (due.Timer timers.Request))
        | timers.Ack ↦ through (due.Timer timers.Negotiate ∷ due.Timer timers.Rto ∷ due.Timer timers.Close ∷ due.Timer timers.TimeWait ∷ due.Rules ∷ []) b timers.Ack (rung_rests a (due.Timer timers.Ack))
        | timers.Negotiate ↦ through (due.Timer timers.Rto ∷ due.Timer timers.Close ∷ due.Timer timers.TimeWait ∷ due.Rules ∷ []) c timers.Negotiate (rung_rests b (due.Timer timers.Negotiate))
        | timers.Rto ↦ through (due.Timer timers.Close ∷ due.Timer timers.TimeWait ∷ due.Rules ∷ []) d timers.Rto (rung_rests c (due.Timer timers.Rto))
        | timers.Close ↦ through (due.Timer timers.TimeWait ∷ due.Rules ∷ []) e timers.Close (rung_rests d (due.Timer timers.Close))
        | timers.TimeWait ↦ through (due.Rules ∷ []) f timers.TimeWait (rung_rests e (due.Timer timers.TimeWait))
      ]
      in
      elim it as P [
        | due.Timer timer ↦ by-timer timer
        | due.Rules ↦ rung_rests f due.Rules
      ]

module _ {C : Type 0} (control : Control C) (now : ℕ) where
  pub nothing_due : (h : HoldingState C) → NoneIsDue now (rings_each_due control now h every_due).holding.timed
  nothing_due h =
      subst (λ (x : HoldingState C). NoneIsDue now x.timed) (sym (rung_beside control now h every_due)) (nothing_left control now h.timed)

-- what a run of several leaves
pub record RingsEachDue {C N : Type 0} (sends : N → List ℕ → N → Type 0) (control : Control C) (now : ℕ) (list : List Due) (s new : HoldingState C)
    (before after : N) : Type 0 where
  pub session_is : new ≡ (rings_each_due control now s list).holding
  pub handed : HandsAll sends before (rings_each_due control now s list).frames after

module _ {C N : Type 0} (sends : N → List ℕ → N → Type 0) (control : Control C) (now : ℕ) where
  pub rung_none : (s : HoldingState C) (network : N) → RingsEachDue sends control now [] s s network network
  rung_none s network = record { session_is = refl; handed = refl }

  -- one, and then the others
  pub rung_first : (it : Due) (rest : List Due) (s between new : HoldingState C) (before middle after : N) (answer : Bool)
      → Does sends (holding_rings control now s it) between before middle answer → RingsEachDue sends control now rest between new middle after
      → RingsEachDue sends control now (it ∷ rest) s new before after
  rung_first it rest s between new before middle after answer first others =
      let P : HoldingState C → Type 0 = λ (x : HoldingState C). RingsEachDue sends control now rest x new middle after in
      let next : RingsEachDue sends control now rest (holding_rings control now s it).holding new middle after = subst P first.session_is others in
      record { session_is = next.session_is; handed = (middle, first.handed, next.handed) }

  -- all of them
  pub rung_all : (s0 s1 s2 s3 s4 s5 s6 s7 : HoldingState C) (n0 n1 n2 n3 n4 n5 n6 n7 : N) (a1 a2 a3 a4 a5 a6 a7 : Bool)
      → Does sends (holding_rings control now s0 (due.Timer timers.Request)) s1 n0 n1 a1
      → Does sends (holding_rings control now s1 (due.Timer timers.Ack)) s2 n1 n2 a2
      → Does sends (holding_rings control now s2 (due.Timer timers.Negotiate)) s3 n2 n3 a3
      → Does sends (holding_rings control now s3 (due.Timer timers.Rto)) s4 n3 n4 a4
      → Does sends (holding_rings control now s4 (due.Timer timers.Close)) s5 n4 n5 a5
      → Does sends (holding_rings control now s5 (due.Timer timers.TimeWait)) s6 n5 n6 a6
      → Does sends (holding_rings control now s6 due.Rules) s7 n6 n7 a7
      → RingsEachDue sends control now every_due s0 s7 n0 n7
  rung_all s0 s1 s2 s3 s4 s5 s6 s7 n0 n1 n2 n3 n4 n5 n6 n7 a1 a2 a3 a4 a5 a6 a7 d1 d2 d3 d4 d5 d6 d7 =
      let r6 = rung_first due.Rules [] s6 s7 s7 n6 n7 n7 a7 d7 (rung_none s7 n7) in
      let r5 = rung_first (due.Timer timers.TimeWait) (due.Rules ∷ []) s5 s6 s7 n5 n6 n7 a6 d6 r6 in
      let r4 = rung_first (due.Timer timers.Close) (due.Timer timers.TimeWait ∷ due.Rules ∷ []) s4 s5 s7 n4 n5 n7 a5 d5 r5 in
      let r3 = rung_first (due.Timer timers.Rto) (due.Timer timers.Close ∷ due.Timer timers.TimeWait ∷ due.Rules ∷ []) s3 s4 s7 n3 n4 n7 a4 d4 r4 in
      let r2 = rung_first (due.Timer timers.Negotiate) (due.Timer timers.Rto ∷ due.Timer timers.Close ∷ due.Timer timers.TimeWait ∷ due.Rules ∷ []) s2 s3 s7 n2 n3 n7 a3 d3 r3 in
      let r1 = rung_first (due.Timer timers.Ack) (due.Timer timers.Negotiate ∷ due.Timer timers.Rto ∷ due.Timer timers.Close ∷ due.Timer timers.TimeWait ∷ due.Rules ∷ []) s1 s2 s7 n1 n2 n7 a2 d2 r2 in
      rung_first (due.Timer timers.Request) (due.Timer timers.Ack ∷ due.Timer timers.Negotiate ∷ due.Timer timers.Rto ∷ due.Timer timers.Close ∷ due.Timer timers.TimeWait ∷ due.Rules ∷ []) s0 s1 s7 n0 n1 n7 a1 d1 r1
