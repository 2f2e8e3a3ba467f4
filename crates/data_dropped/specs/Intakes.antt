-- Where the data that an end delivers go: to its owner at once, or into an inbox until they are read (own).
use Rattle.std.specs.Prelude.{ℕ, zero, suc, List, length, Option, Some, None}
use Rattle.dccp_packets.specs.Outgoing.{Outgoing}
use Rattle.dccp_states.specs.declared.outcome.Outcome.{Outcome}
use Rattle.dccp_sum.specs.declared.pseudo_header.Pseudo.{Pseudo}
use Rattle.data_dropped.specs.Buffering.{Delivery, HasDataWithin, delivery_by}
use Rattle.data_dropped.specs.Frames.{buffered_frame}
use Rattle.data_dropped.specs.Inbox.{InboxState, first_over, first_taken, inbox_of, stopping, taking}
use Rattle.data_dropped.specs.declared.answers.Arrival.{Arrival}

-- An inbox for this many packets, whose items have room for all data that a datagram of 2,044 bytes brings (own); none if the number is 0.
abbrev pub intake_of : ℕ → Option InboxState
intake_of zero = None
intake_of (suc n) = Some (inbox_of 2032 (suc n))

-- the inbox, if there is one, once a packet was received, and what became of its data, if they came into it
pub record IntakeDelivery : Type 0 where
  pub inbox : Option InboxState
  pub arrival : Option Arrival

-- by what an inbox does with the data
abbrev pub settled_by : Delivery → IntakeDelivery
settled_by delivery = record { inbox = Some delivery.inbox; arrival = delivery.arrival }

-- a packet of this number was received with this outcome
abbrev pub settled_in : Option InboxState → ℕ → List ℕ → Outcome → IntakeDelivery
settled_in None n bytes outcome = record { inbox = None; arrival = None }
settled_in (Some held) n bytes outcome = settled_by (delivery_by held n bytes outcome)

-- a packet was received with this outcome, if the end heard it at all
abbrev pub came_in : Option InboxState → ℕ → List ℕ → Option Outcome → IntakeDelivery
came_in held n bytes None = record { inbox = held; arrival = None }
came_in held n bytes (Some outcome) = settled_in held n bytes outcome

-- the data that it delivers, if any, lie within the bytes
abbrev pub HasDataIfHeard : List ℕ → Option Outcome → Type 0
HasDataIfHeard bytes None = Unit {0}
HasDataIfHeard bytes (Some outcome) = HasDataWithin bytes outcome

-- a frame as it goes out: it says what the inbox has to say, if there is one
abbrev pub spoken : Pseudo → Option InboxState → Option Outgoing → Option Outgoing
spoken pseudo None frame = frame
spoken pseudo (Some held) frame = buffered_frame pseudo held frame

-- the first data were read, if any waited
abbrev pub without_first : Option InboxState → Option InboxState
without_first None = None
without_first (Some held) = Some (taking held)

-- their packet's number and their length
abbrev pub first_read : Option InboxState → Option (ℕ × ℕ)
first_read None = None
first_read (Some held) = first_taken held.items

-- these data over the front of bytes
abbrev pub read_over : Option InboxState → List ℕ → List ℕ
read_over None old = old
read_over (Some held) old = first_over held.items old

-- the application has stopped listening
abbrev pub without_listener : Option InboxState → Option InboxState
without_listener None = None
without_listener (Some held) = Some (stopping held)

-- how many bytes it adds to an acknowledgement, at most: a full Data Dropped option and Slow Receiver (RFC 4340, section
-- 5.8), whose sum is whole words
abbrev pub most_said : Option InboxState → ℕ
most_said None = 0
most_said (Some held) = 256

-- how many packets' data wait
abbrev pub count_held : Option InboxState → ℕ
count_held None = 0
count_held (Some held) = length held.items
