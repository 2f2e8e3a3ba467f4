-- An end with its timers, the inbox in which its data wait, and the Init Cookie that it returns, if it has them (own).
use Rattle.std.specs.Prelude.{ℕ, List, [], Option, None}
use Rattle.data_dropped.specs.Inbox.{InboxState}
use Rattle.data_dropped.specs.Intakes.{IntakeDelivery, came_in, spoken}
use Rattle.dccp_endpoint.specs.End.{last_taken}
use Rattle.dccp_packets.specs.Outgoing.{Outgoing}
use Rattle.dccp_states.specs.declared.outcome.Outcome.{Outcome}
use Rattle.dccp_uses.specs.ClientCookies.{cookie_kept, returning}
use Rattle.dccp_uses.specs.Timed.{TimedState, TimedStep}
use Rattle.dccp_uses.specs.declared.holding.Reading.{Reading}

-- an end with its timers, its inbox, if it has one, and the Init Cookie that it returns, as an option, if it has one
pub record HoldingState (C : Type 0) : Type 0 where
  pub timed : TimedState C
  pub inbox : Option InboxState
  pub cookie : List ℕ

-- all after something happened, the frame that goes out, if any, and the answer
pub record HoldingStep (C Answer : Type 0) : Type 0 where
  pub holding : HoldingState C
  pub frame : Option Outgoing
  pub answer : Answer

-- an end whose data go to its owner at once, and which was given no cookie
abbrev pub without_inbox : {C : Type 0} → TimedState C → HoldingState C
without_inbox s = record { timed = s; inbox = None; cookie = [] }

-- a frame of this end as it goes out: it says what the inbox has to say
abbrev pub spoken_by : {C : Type 0} → Option InboxState → TimedState C → Option Outgoing → Option Outgoing
spoken_by inbox s frame = spoken s.end.state.config.pseudo_out inbox frame

-- a frame of this end as it goes out: in PARTOPEN it returns the cookie (RFC 4340, section 8.1.4)
abbrev pub frame_returned : {C : Type 0} → List ℕ → TimedState C → Option Outgoing → Option Outgoing
frame_returned cookie s frame = returning s.end.state.phase s.end.state.config.pseudo_out cookie frame

-- a frame that an end has left, as it goes out: it says what the inbox has to say, and returns the cookie
abbrev pub holding_frame : {C : Type 0} → HoldingState C → Option Outgoing → Option Outgoing
holding_frame h frame = frame_returned h.cookie h.timed (spoken_by h.inbox h.timed frame)

-- an end in this state has left this frame
abbrev pub holding_step : {C Answer : Type 0} → HoldingState C → Option Outgoing → Answer → HoldingStep C Answer
holding_step h frame answer = record { holding = h; frame = holding_frame h frame; answer = answer }

-- A step of the end with its timers, which leaves its inbox and its cookie unchanged.
abbrev pub steps_beside : {C Answer : Type 0} → HoldingState C → TimedStep C Answer → HoldingStep C Answer
steps_beside h step = holding_step (record h { timed = step.timed }) step.frame step.answer

-- the end has heard a datagram or left it out: this is its cookie then, and this became of the inbox
abbrev pub holds_settled : {C : Type 0} → List ℕ → IntakeDelivery → TimedStep C (Option Outcome) → HoldingStep C Reading
holds_settled cookie settled step =
    holding_step (record { timed = step.timed; inbox = settled.inbox; cookie = cookie }) step.frame
    (record { heard = step.answer; arrival = settled.arrival })

-- The end has heard a datagram or left it out: data that it delivers come into the inbox, and the cookie of a Response is
-- kept.
abbrev pub holds_heard : {C : Type 0} → HoldingState C → List ℕ → TimedStep C (Option Outcome) → HoldingStep C Reading
holds_heard h bytes step =
    holds_settled (cookie_kept h.timed.end.state.phase step.timed.end.state.phase bytes h.cookie)
    (came_in h.inbox (last_taken step.timed.end.state) bytes step.answer) step
