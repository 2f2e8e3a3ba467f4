-- The numbers by which C and the library name results, timers and places (own).
use Rattle.std.specs.Prelude.{ℕ, ◌==◌, Bool, true, false, Option, Some, None, Result, Ok, Err, if◌then◌else◌}
use Rattle.dccp_states.specs.Refusals.{refusal_of, send_refusal_of}
use Rattle.dccp_states.specs.declared.calls.Timer.{Timer}
use Rattle.dccp_states.specs.declared.calls.Timer.TheVariants as timers
use Rattle.dccp_states.specs.declared.seen.Refusal.{Refusal}
use Rattle.dccp_states.specs.declared.seen.Refusal.TheVariants as refusal
use Rattle.dccp_uses.specs.declared.reader.Restraint.{Restraint}
use Rattle.dccp_uses.specs.declared.reader.Restraint.TheVariants as restraint
use Rattle.dccp_uses.specs.declared.reader.SendRefusal.{SendRefusal}
use Rattle.dccp_uses.specs.declared.reader.SendRefusal.TheVariants as refusals
use Rattle.feature_lists.specs.declared.features.Place.{Place}
use Rattle.feature_lists.specs.declared.features.Place.TheVariants.{Here, There}
use Rattle.feature_lists.specs.declared.wishes.PreferFault.{PreferFault}
use Rattle.feature_machine.specs.declared.stands.Stand.{Stand}
use Rattle.feature_machine.specs.declared.stands.Stand.TheVariants as stands

-- the code of a refusal
abbrev pub refusal_code : Refusal → ℕ
refusal_code refusal.NotFresh = 3
refusal_code refusal.NotOpen = 4
refusal_code refusal.TooLong = 5
refusal_code refusal.NotNegotiated = 6
refusal_code refusal.WindowFull = 7
refusal_code refusal.BadList = 8
refusal_code refusal.NotOurs = 9
refusal_code refusal.NotLive = 10

-- the code of a call: 0, or that of its fault
abbrev pub called_code : {Fault : Type 0} → (Fault → ℕ) → Result (Unit {0}) Fault → ℕ
called_code code (Ok _) = 0
called_code code (Err fault) = code fault

-- the code of data that have to wait: 23 if the application no longer listens, otherwise that of a full window
abbrev pub restraint_code : Restraint → ℕ
restraint_code restraint.NotListening = 23
restraint_code restraint.Full = 7

-- the code of data that do not go out
abbrev pub unsent_code : SendRefusal → ℕ
unsent_code (refusals.Held why) = restraint_code why
unsent_code (refusals.Refused fault) = refusal_code (send_refusal_of fault)

-- the code of a wish that is refused
abbrev pub unwished_code : PreferFault → ℕ
unwished_code fault = refusal_code (refusal_of fault)

-- the code of a timer that has run out: 0, or 12 if it has nothing to do
abbrev pub timer_code : Bool → ℕ
timer_code true = 0
timer_code false = 12

-- the place of a feature: at the peer, or here
abbrev pub place_by : Bool → Place
place_by true = There
place_by false = Here

-- the timer with a number, if there is one
abbrev pub timer_coded : ℕ → Option Timer
timer_coded n =
    if n == 0 then Some timers.Request
    else if n == 1 then Some timers.Ack
    else if n == 2 then Some timers.Negotiate
    else if n == 3 then Some timers.Rto
    else if n == 4 then Some timers.Close
    else if n == 5 then Some timers.TimeWait
    else None

-- the number of a negotiation's stand
abbrev pub stand_code : Stand → ℕ
stand_code stands.Stable = 0
stand_code stands.Changing = 1
stand_code stands.Unstable = 2
