-- Timers and rules that are handled one by one are handled as by a session.
use Rattle.std.proofs.Common.{◌≡◌, refl, sym, ap, ◌∙◌, subst, ℕ, zero, suc, Bool, true, false, if◌then◌else◌, List, [], ◌∷◌, Option, Some, None}
use Rattle.ccid_two.specs.Kinds.{Both, kinds_control}
use Rattle.dccp_uses.specs.Alarms.{has_run_out}
use Rattle.dccp_uses.specs.Holding.{HoldingState}
use Rattle.dccp_uses.specs.Sessions.{NoneIsDue, rings_due, rings_each_due, stands_still}
use Rattle.dccp_uses.specs.Timed.{TimedState, due_told}
use Rattle.dccp_uses.specs.Upkeeps.{due_alarm, every_due, first_due}
use Rattle.dccp_uses.specs.declared.timed_end.Due.{Due}
use Rattle.dccp_uses.specs.declared.timed_end.Due.TheVariants as due
use Rattle.dccp_uses.proofs.Dues.{nothing_due, other_rests, rung_beside, rung_in_order, rung_rests}
use Rattle.dccp_states.specs.declared.calls.Timer.{Timer}
use Rattle.dccp_states.specs.declared.calls.Timer.TheVariants as timers
use Rattle.dccp_c.specs.Doing.{c_tells, c_ticks}
use Rattle.dccp_c.specs.Stepping.{CEnd}
use Rattle.dccp_c.specs.Ticking.{TicksAreATick, seven_ticks, ticked}

-- these timers, and then the rules
abbrev dues : List Timer → List Due
dues [] = due.Rules ∷ []
dues (timer ∷ rest) = due.Timer timer ∷ dues rest

-- after these timers, of which the last comes first
abbrev onto : List Timer → List Due → List Due
onto [] rest = rest
onto (timer ∷ passed) rest = onto passed (due.Timer timer ∷ rest)

-- a tick for each that is left, and some more
abbrev ticks-for : List Timer → ℕ → ℕ
ticks-for [] more = suc more
ticks-for (timer ∷ rest) more = suc (ticks-for rest more)

one-more : (rest : List Timer) (more : ℕ) → ticks-for rest (suc more) ≡ suc (ticks-for rest more)
one-more [] more = refl
one-more (timer ∷ rest) more = ap suc (one-more rest more)

module _ (now : ℕ) where
  abbrev Quiet : Due → TimedState Both → Type 0
  Quiet it s = has_run_out (due_alarm s.upkeep it) now ≡ false

  abbrev AreQuiet : List Timer → TimedState Both → Type 0
  AreQuiet [] s = Unit {0}
  AreQuiet (timer ∷ rest) s = Quiet (due.Timer timer) s × AreQuiet rest s

  abbrev once : TimedState Both → Due → TimedState Both
  once s it = (rings_due kinds_control now s it).timed

  -- what a tick does to the end itself, and what this many ticks do
  abbrev tells-end : TimedState Both → Option Due → TimedState Both
  tells-end s None = s
  tells-end s (Some it) = (due_told kinds_control now s it).timed

  abbrev ticks-once : TimedState Both → TimedState Both
  ticks-once s = tells-end s (first_due s.upkeep now every_due)

  abbrev end-ticked : ℕ → TimedState Both → TimedState Both
  end-ticked zero s = s
  end-ticked (suc n) s = end-ticked n (ticks-once s)

  -- beside an inbox they do the same
  told-beside : (s : CEnd) (it : Option Due) → (c_tells now s it).after ≡ record s { timed = tells-end s.timed it }
  told-beside s None = refl
  told-beside s (Some it) = refl

  ticked-beside : (n : ℕ) (s : CEnd) → ticked now n s ≡ record s { timed = end-ticked n s.timed }
  ticked-beside zero s = refl
  ticked-beside (suc n) s =
      ap (ticked now n) (told-beside s (first_due s.timed.upkeep now every_due))
      ∙ ticked-beside n (record s { timed = ticks-once s.timed })

  -- what is not due is skipped, and what is due is the first
  passes : (s : TimedState Both) (it : Due) (rest : List Due) → Quiet it s → first_due s.upkeep now (it ∷ rest) ≡ first_due s.upkeep now rest
  passes s it rest is = ap (λ (x : Bool). if x then Some it else first_due s.upkeep now rest) is

  stops : (s : TimedState Both) (it : Due) (rest : List Due) → has_run_out (due_alarm s.upkeep it) now ≡ true → first_due s.upkeep now (it ∷ rest) ≡ Some it
  stops s it rest is = ap (λ (x : Bool). if x then Some it else first_due s.upkeep now rest) is

  passes-all : (passed : List Timer) (rest : List Due) (s : TimedState Both) → AreQuiet passed s → first_due s.upkeep now (onto passed rest) ≡ first_due s.upkeep now rest
  passes-all [] rest s quiet = refl
  passes-all (timer ∷ passed) rest s quiet = passes-all passed (due.Timer timer ∷ rest) s quiet.1 ∙ passes s (due.Timer timer) rest quiet.0

  -- what has not run out stays so while another is told
  still-quiet : (passed : List Timer) (s : TimedState Both) (it : Due) → AreQuiet passed s → AreQuiet passed (once s it)
  still-quiet [] s it quiet = tt
  still-quiet (timer ∷ passed) s it quiet = (other_rests kinds_control now s it timer quiet.0, still-quiet passed s it quiet.1)

  -- a session leaves what is not due alone, and does what is
  left-alone : (s : TimedState Both) (it : Due) → Quiet it s → once s it ≡ s
  left-alone s it is = ap (λ (x : Bool). (if x then due_told kinds_control now s it else stands_still s).timed) is

  told : (s : TimedState Both) (it : Due) → has_run_out (due_alarm s.upkeep it) now ≡ true → once s it ≡ (due_told kinds_control now s it).timed
  told s it is = ap (λ (x : Bool). (if x then due_told kinds_control now s it else stands_still s).timed) is

  tells-it : (s : TimedState Both) (it : Due) → first_due s.upkeep now every_due ≡ Some it → has_run_out (due_alarm s.upkeep it) now ≡ true → ticks-once s ≡ once s it
  tells-it s it first is = ap (λ (x : Option Due). tells-end s x) first ∙ sym (told s it is)

  -- where nothing is due, ticks do nothing
  rests : (n : ℕ) (s : TimedState Both) → first_due s.upkeep now every_due ≡ None → end-ticked n s ≡ s
  rests zero s none = refl
  rests (suc n) s none = ap (λ (x : Option Due). end-ticked n (tells-end s x)) none ∙ rests n s none

  -- the rules come last
  last-by : (more : ℕ) (passed : List Timer) (s : TimedState Both) → onto passed (due.Rules ∷ []) ≡ every_due → AreQuiet passed s → (is : Bool)
      → has_run_out (due_alarm s.upkeep due.Rules) now ≡ is → end-ticked (suc more) s ≡ once s due.Rules
  last-by more passed s all quiet true is =
      let first : first_due s.upkeep now every_due ≡ Some due.Rules =
      ap (first_due s.upkeep now) (sym all) ∙ passes-all passed (due.Rules ∷ []) s quiet ∙ stops s due.Rules [] is
      in
      let next : TimedState Both = once s due.Rules in
      let none : first_due next.upkeep now every_due ≡ None =
      ap (first_due next.upkeep now) (sym all) ∙ passes-all passed (due.Rules ∷ []) next (still-quiet passed s due.Rules quiet)
      ∙ passes next due.Rules [] (rung_rests kinds_control now s due.Rules)
      in
      ap (end-ticked more) (tells-it s due.Rules first is) ∙ rests more next none
  last-by more passed s all quiet false is =
      let none : first_due s.upkeep now every_due ≡ None =
      ap (first_due s.upkeep now) (sym all) ∙ passes-all passed (due.Rules ∷ []) s quiet ∙ passes s due.Rules [] is
      in
      rests (suc more) s none ∙ sym (left-alone s due.Rules is)

  -- one that is looked at, and then the others
  told-by : (more : ℕ) (passed : List Timer) (timer : Timer) (rest : List Timer) (s : TimedState Both) → onto passed (due.Timer timer ∷ dues rest) ≡ every_due
      → AreQuiet passed s
      → ((n : ℕ) (t : TimedState Both) → AreQuiet (timer ∷ passed) t → end-ticked (ticks-for rest n) t ≡ rung_in_order kinds_control now t (dues rest))
      → (is : Bool) → has_run_out (due_alarm s.upkeep (due.Timer timer)) now ≡ is
      → end-ticked (suc (ticks-for rest more)) s ≡ rung_in_order kinds_control now (once s (due.Timer timer)) (dues rest)
  told-by more passed timer rest s all quiet later true is =
      let first : first_due s.upkeep now every_due ≡ Some (due.Timer timer) =
      ap (first_due s.upkeep now) (sym all) ∙ passes-all passed (due.Timer timer ∷ dues rest) s quiet ∙ stops s (due.Timer timer) (dues rest) is
      in
      ap (end-ticked (ticks-for rest more)) (tells-it s (due.Timer timer) first is)
      ∙ later more (once s (due.Timer timer)) (rung_rests kinds_control now s (due.Timer timer), still-quiet passed s (due.Timer timer) quiet)
  told-by more passed timer rest s all quiet later false is =
      ap (λ (n : ℕ). end-ticked n s) (sym (one-more rest more))
      ∙ later (suc more) s (is, quiet)
      ∙ ap (λ (x : TimedState Both). rung_in_order kinds_control now x (dues rest)) (sym (left-alone s (due.Timer timer) is))

  -- As many ticks as there are things left to look at, or more, do all that is due.
  all-told : (more : ℕ) (passed rest : List Timer) (s : TimedState Both) → onto passed (dues rest) ≡ every_due → AreQuiet passed s
      → end-ticked (ticks-for rest more) s ≡ rung_in_order kinds_control now s (dues rest)
  all-told more passed [] s all quiet = last-by more passed s all quiet (has_run_out (due_alarm s.upkeep due.Rules) now) refl
  all-told more passed (timer ∷ rest) s all quiet =
      told-by more passed timer rest s all quiet (λ n t q. all-told n (timer ∷ passed) rest t all q)
      (has_run_out (due_alarm s.upkeep (due.Timer timer)) now) refl

  none-first : (list : List Due) (s : TimedState Both) → NoneIsDue now s → first_due s.upkeep now list ≡ None
  none-first [] s none = refl
  none-first (it ∷ rest) s none = passes s it rest (none it) ∙ none-first rest s none

  -- and then nothing is due
  none-left : (s x : CEnd) → x ≡ (rings_each_due kinds_control now s every_due).holding → (c_ticks now x).answer ≡ false
  none-left s x same =
      let none : NoneIsDue now x.timed =
      subst (λ (h : HoldingState Both). NoneIsDue now h.timed) (sym same) (nothing_due kinds_control now s) in
      ap (λ (it : Option Due). (c_tells now x it).answer) (none-first every_due x.timed none)

abbrev six : List Timer
six = timers.Request ∷ timers.Ack ∷ timers.Negotiate ∷ timers.Rto ∷ timers.Close ∷ timers.TimeWait ∷ []

pub told_one_by_one : TicksAreATick
told_one_by_one now s =
    let same : seven_ticks now s ≡ (rings_each_due kinds_control now s every_due).holding =
    ticked-beside now (ticks-for six zero) s
    ∙ ap (λ (x : TimedState Both). record s { timed = x }) (all-told now zero [] six s.timed refl tt)
    ∙ sym (rung_beside kinds_control now s every_due)
    in
    (same, none-left now s (seven_ticks now s) same)
