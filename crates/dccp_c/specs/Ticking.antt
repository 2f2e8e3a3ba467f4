-- Timers and rules that are handled one by one (own).
use Rattle.std.specs.Prelude.{◌≡◌, ℕ, zero, suc, false}
use Rattle.ccid_two.specs.Kinds.{kinds_control}
use Rattle.dccp_uses.specs.Sessions.{rings_each_due}
use Rattle.dccp_uses.specs.Upkeeps.{every_due}
use Rattle.dccp_c.specs.Doing.{c_ticks}
use Rattle.dccp_c.specs.Stepping.{CEnd}

-- an end after this many ticks at one time
abbrev pub ticked : ℕ → ℕ → CEnd → CEnd
ticked now zero s = s
ticked now (suc n) s = ticked now n (c_ticks now s).after

-- seven ticks, one for each timer that may have run out, and one for the rules
abbrev pub seven_ticks : ℕ → CEnd → CEnd
seven_ticks now s = ticked now (suc (suc (suc (suc (suc (suc (suc zero))))))) s

-- They leave what one tick of a session leaves. An eighth tick reports nothing.
abbrev pub TicksAreATick : Type 0
TicksAreATick =
    (now : ℕ) (s : CEnd) → (seven_ticks now s ≡ (rings_each_due kinds_control now s every_due).holding)
    × ((c_ticks now (seven_ticks now s)).answer ≡ false)
