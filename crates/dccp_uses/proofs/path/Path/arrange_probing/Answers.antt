use Rattle.std.proofs.Common.{◌≡◌, refl, sym, ap, ◌∙◌, ℕ, Bool, true, false, not, Option, Some, None, is_some}
use Rattle.std.proofs.lemmas.Bool.{false≢true}
use Rattle.dccp_states.specs.declared.calls.Timer.TheVariants as timers
use Rattle.dccp_uses.specs.Alarms.{alarm_after, starting_wait_by}
use Rattle.dccp_uses.specs.Path.{kept_if, path_waits}
use Rattle.dccp_uses.specs.declared.alarms.Alarm.{Alarm}
use Rattle.dccp_uses.specs.declared.alarms.Alarms.{Alarms}
use Rattle.dccp_uses.specs.declared.path.Path.{Path}
use Rattle.dccp_uses.specs.declared.waits.Waits.{Waits}
use Rattle.dccp_uses.proofs.path.Path.arrange_probing.Goals as goal

abbrev first-wait : Path → Alarms → ℕ
first-wait path alarms = starting_wait_by (path_waits path) alarms timers.Rto

-- the path as its contract has it, by whether the peer is asked, and by the alarm that it has
abbrev asks-so : Path → Alarms → ℕ → Bool → Option Alarm → Path
asks-so path alarms now probing alarm =
    record path { probe = kept_if probing path.probe; probing = alarm_after probing alarm (first-wait path alarms) now }

none-from : (o : Option Alarm) (none : Bool) → is_some o ≡ not none → none ≡ true → o ≡ None
none-from None none is so = refl
none-from (Some alarm) none is so = absurd (false≢true (sym (is ∙ ap not so)))

goes-on : (o : Option Alarm) (wait now : ℕ) → is_some o ≡ true → o ≡ alarm_after true o wait now
goes-on (Some alarm) wait now is = refl
goes-on None wait now is = absurd (false≢true is)

pub returns-then-not-probing : goal.returns-then-not-probing
returns-then-not-probing c =
    ap (λ (b : Bool). asks-so c.args.self.now c.args.alarms.now c.args.now b c.args.self.now.probing) (sym c.if-not-probing.true)

pub returns-then-is_none : goal.returns-then-is_none
returns-then-is_none c =
    let path = c.args.self.now in
    let none : path.probing ≡ None = none-from path.probing c.is_none.result c.is_none.ensures c.if-is_none.true in
    let wait = c.starting_wait.ensures ∙ ap (λ (w : Waits). starting_wait_by w c.args.alarms.now timers.Rto) c.waits.ensures in
    ap (λ (o : Option Alarm). record path { probing = o }) (c.alarm_for-self.ensures ∙ ap (λ (w : ℕ). Some (record { since = c.args.now; wait = w })) wait)
    ∙ ap (λ (o : Option Alarm). asks-so path c.args.alarms.now c.args.now true o) (sym none)
    ∙ ap (λ (b : Bool). asks-so path c.args.alarms.now c.args.now b path.probing) (sym c.if-not-probing.false)

pub returns-else-is_none : goal.returns-else-is_none
returns-else-is_none c =
    let path = c.args.self.now in
    ap (λ (o : Option Alarm). record path { probing = o })
    (goes-on path.probing (first-wait path c.args.alarms.now) c.args.now (c.is_none.ensures ∙ ap not c.if-is_none.false))
    ∙ ap (λ (b : Bool). asks-so path c.args.alarms.now c.args.now b path.probing) (sym c.if-not-probing.false)
