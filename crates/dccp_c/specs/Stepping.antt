-- What a call from C does to the end that a handle holds, and to its timers (own; the steps are the end's).
use Rattle.std.specs.Prelude.{ℕ, Bool, List, Option}
use Rattle.ccid_two.specs.Kinds.{Both, kinds_control}
use Rattle.dccp_listener.specs.Chain.{Aborts, Closes, Fires, FlowCall, Opens, Prefers, Sends, SendsEarly}
use Rattle.dccp_packets.specs.Outgoing.{Outgoing}
use Rattle.dccp_states.specs.declared.seen.Refusal.TheVariants as refusal
use Rattle.data_dropped.specs.Inbox.{InboxState}
use Rattle.data_dropped.specs.declared.drops.DropEntry.{DropEntry}
use Rattle.dccp_uses.specs.DropRecord.{drop_recorded, record_after}
use Rattle.dccp_uses.specs.Holding.{HoldingState, HoldingStep, holds_heard, steps_beside}
use Rattle.dccp_uses.specs.Timed.{TimedState, TimedStep, due_told, timed_aborts, timed_closes, timed_fires, timed_takes, timed_opens, timed_prefers, timed_sends}
use Rattle.dccp_uses.specs.declared.holding.Reading.{Reading}
use Rattle.dccp_uses.specs.declared.timed_end.Due.{Due}
use Rattle.dccp_c.specs.Codes.{called_code, refusal_code, timer_code, unsent_code, unwished_code}

-- an end in C is that of a session, with CCID 2 or the fixed window
abbrev pub CEnd : Type 0
CEnd = HoldingState Both

-- the end after a call, the frame that goes out, if any, and the answer
pub record CStep (Answer : Type 0) : Type 0 where
  pub after : CEnd
  pub frame : Option Outgoing
  pub answer : Answer

-- what a call does to an end, by the type of its answer
abbrev pub CDoing : Type 0 → Type 0
CDoing Answer = CEnd → CStep Answer

-- what a call has done
abbrev pub done : {Answer : Type 0} → TimedState Both → Option InboxState → List ℕ → Option Outgoing → Answer → CStep Answer
done s inbox cookie frame answer = record { after = record { timed = s; inbox = inbox; cookie = cookie }; frame = frame; answer = answer }

-- a session's step, as C has it
abbrev pub c_step : {Answer : Type 0} → HoldingStep Both Answer → CStep Answer
c_step step = record { after = step.holding; frame = step.frame; answer = step.answer }

-- a step of an end whose answer is told to C by its code
abbrev coded : {Answer : Type 0} → (Answer → ℕ) → TimedStep Both Answer → TimedStep Both ℕ
coded code step = record { timed = step.timed; frame = step.frame; answer = code step.answer }

-- A call of an end by its owner, and its code: a client asks for its service, data go out, a feature is wished for, the connection is closed in
-- order or given up, or a timer has run out (RFC 4340, sections 8.1.1, 8.1.5, 6.6.1 and 8.3). Both kinds of data go out as soon as the phase
-- lets them, in PARTOPEN and in OPEN (own).
abbrev pub timed_acts : FlowCall → ℕ → TimedState Both → TimedStep Both ℕ
timed_acts Opens now s = coded (called_code (λ fault. refusal_code refusal.NotFresh)) (timed_opens kinds_control now s)
timed_acts (Sends payload) now s = coded (called_code unsent_code) (timed_sends kinds_control now s payload)
timed_acts (SendsEarly payload) now s = coded (called_code unsent_code) (timed_sends kinds_control now s payload)
timed_acts (Prefers feature place values) now s = coded (called_code unwished_code) (timed_prefers kinds_control now s feature place values)
timed_acts Closes now s = coded (called_code (λ fault. refusal_code refusal.NotOpen)) (timed_closes kinds_control now s)
timed_acts Aborts now s = coded (called_code (λ fault. refusal_code refusal.NotLive)) (timed_aborts kinds_control now s)
timed_acts (Fires timer) now s = coded timer_code (timed_fires kinds_control now s timer)

-- the same beside its inbox and its cookie
abbrev pub c_acts : FlowCall → ℕ → CDoing ℕ
c_acts call now s = c_step (steps_beside s (timed_acts call now s.timed))

-- the end does what is due
abbrev pub c_told : Due → ℕ → CDoing Bool
c_told it now s = c_step (steps_beside s (due_told kinds_control now s.timed it))

-- a datagram arrives (section 8.5), and is heard or left out; data that it brings come into the inbox
abbrev pub c_receives : List ℕ → ℕ → CDoing Reading
c_receives bytes now s = c_step (holds_heard s bytes (timed_takes kinds_control now s.timed bytes))

-- the record of drops once a datagram has led the first end to the second
abbrev pub record_heard : List ℕ → TimedState Both → TimedState Both → List DropEntry → List DropEntry
record_heard bytes before after drops = record_after drop_recorded before.upkeep.path.reader.counted after.upkeep.path.reader.counted bytes drops
