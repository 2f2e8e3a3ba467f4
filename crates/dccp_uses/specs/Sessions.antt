-- An end with its timers over a network (own).
use Rattle.std.specs.Prelude.{◌≡◌, nat_le, ℕ, Bool, true, false, List, [], ◌∷◌, length, Option, Some, None, if◌then◌else◌}
use Rattle.congestion_trait.specs.Control.{Control}
use Rattle.dccp_packets.specs.Outgoing.{Outgoing}
use Rattle.dccp_states.specs.declared.outcome.Outcome.{Outcome}
use Rattle.dccp_states.specs.declared.phase.Phase.{Phase}
use Rattle.dccp_uses.specs.Alarms.{has_run_out}
use Rattle.data_dropped.specs.declared.answers.Arrival.{Arrival}
use Rattle.data_dropped.specs.declared.answers.Arrival.TheVariants.{Kept, Dropped}
use Rattle.dccp_uses.specs.Handing.{Hands}
use Rattle.dccp_uses.specs.Holding.{HoldingState, HoldingStep, holds_heard, steps_beside}
use Rattle.dccp_uses.specs.declared.holding.Reading.{Reading}
use Rattle.dccp_uses.specs.Session.{is_listening, news_of}
use Rattle.dccp_uses.specs.Timed.{TimedState, TimedStep, due_told, timed_takes}
use Rattle.dccp_uses.specs.Upkeeps.{due_alarm}
use Rattle.dccp_uses.specs.declared.news.News.{News}
use Rattle.dccp_uses.specs.declared.news.News.TheVariants as news
use Rattle.dccp_uses.specs.declared.timed_end.Due.{Due}

-- The session did that step: the frame that its end made was handed to the network.
pub record Does {C N Answer : Type 0} (sends : N → List ℕ → N → Type 0) (step : HoldingStep C Answer) (new : HoldingState C) (before after : N)
    (answer : Answer) : Type 0 where
  pub session_is : new ≡ step.holding
  pub handed : Hands sends before step.frame after
  pub answer_is : answer ≡ step.answer

-- what a datagram means to the owner: one that was left out means nothing
abbrev pub news_if : Option Outcome → Phase → Phase → News
news_if None was is = news.Quiet
news_if (Some outcome) was is = news_of outcome was is

-- a step that took bytes, with its news for the owner
abbrev pub tells_news_of : {C : Type 0} → TimedState C → TimedStep C (Option Outcome) → TimedStep C News
tells_news_of s step =
    record { timed = step.timed; frame = step.frame; answer = news_if step.answer s.end.state.phase step.timed.end.state.phase }

-- A datagram arrives. One that is longer than an end takes changes nothing.
abbrev pub session_hears : {C : Type 0} → Control C → ℕ → TimedState C → List ℕ → TimedStep C News
session_hears control now s bytes =
    if nat_le (length bytes) 2044 then tells_news_of s (timed_takes control now s bytes)
    else record { timed = s; frame = None; answer = news.TooLong }

-- the news of data that came into the inbox; all other news are as without one
abbrev pub news_kept : Option Arrival → News → News
news_kept None told = told
news_kept (Some Kept) told = news.Waits
news_kept (Some (Dropped code)) told = news.Dropped code

-- a step that took a datagram, with its news for the owner
abbrev pub tells_reading : {C : Type 0} → HoldingState C → HoldingStep C Reading → HoldingStep C News
tells_reading h step =
    record {
      holding = step.holding;
      frame = step.frame;
      answer = news_kept step.answer.arrival (news_if step.answer.heard h.timed.end.state.phase step.holding.timed.end.state.phase);
    }

-- A datagram arrives: its data come into the inbox, if there is one, and the cookie of a Response is kept. One that is longer than an end takes
-- changes nothing.
abbrev pub holding_hears : {C : Type 0} → Control C → ℕ → HoldingState C → List ℕ → HoldingStep C News
holding_hears control now h bytes =
    if nat_le (length bytes) 2044 then tells_reading h (holds_heard h bytes (timed_takes control now h.timed bytes))
    else record { holding = h; frame = None; answer = news.TooLong }

-- nothing happens
abbrev pub stands_still : {C : Type 0} → TimedState C → TimedStep C Bool
stands_still s = record { timed = s; frame = None; answer = false }

-- the end does what is due, if it is
abbrev pub rings_due : {C : Type 0} → Control C → ℕ → TimedState C → Due → TimedStep C Bool
rings_due control now s due = if has_run_out (due_alarm s.upkeep due) now then due_told control now s due else stands_still s

-- the same with an inbox and a cookie
abbrev pub holding_rings : {C : Type 0} → Control C → ℕ → HoldingState C → Due → HoldingStep C Bool
holding_rings control now h due = steps_beside h (rings_due control now h.timed due)

-- a session after several steps, and their frames
pub record HoldingSteps (C : Type 0) : Type 0 where
  pub holding : HoldingState C
  pub frames : List (Option Outgoing)

-- a step before those that come after it, with its frame as the first
abbrev pub ring_first : {C : Type 0} → HoldingStep C Bool → HoldingSteps C → HoldingSteps C
ring_first step rest = record { holding = rest.holding; frames = step.frame ∷ rest.frames }

-- each of these that is due, one after another
abbrev pub rings_each_due : {C : Type 0} → Control C → ℕ → HoldingState C → List Due → HoldingSteps C
rings_each_due control now h [] = record { holding = h; frames = [] }
rings_each_due control now h (it ∷ rest) =
    ring_first (holding_rings control now h it) (rings_each_due control now (holding_rings control now h it).holding rest)

-- nothing is due
abbrev pub NoneIsDue : {C : Type 0} → ℕ → TimedState C → Type 0
NoneIsDue now s = (it : Due) → has_run_out (due_alarm s.upkeep it) now ≡ false

-- the session of an end, if it has left LISTEN
abbrev pub unless_it_listens : {C : Type 0} → HoldingState C → Bool → Option (HoldingState C)
unless_it_listens h true = None
unless_it_listens h false = Some h

-- the session that a first datagram has made, if its end has left LISTEN
abbrev pub session_accepted : {C : Type 0} → HoldingStep C News → Option (HoldingState C)
session_accepted step = unless_it_listens step.holding (is_listening step.holding.timed.end.state.phase)
