-- What an end notes about the packets that it takes, and how it reports them by Ack Vectors (RFC 4340, sections 11.2 to 11.5).
use Rattle.std.specs.Prelude.{map, ◌==◌, ◌&&◌, not, nat_le, min, if◌then◌else◌, ℕ, ◌+◌, ◌-◌, ◌^◌, Bool, true, false, List, [], ◌++◌, Option, Some, None}
use Rattle.ack_vectors.specs.Kept.{ReceivedState, acked, marked_by, recorded}
use Rattle.ack_vectors.specs.Vector.{is_whole_under, option_data, vector_under}
use Rattle.ack_vectors.specs.declared.room.Vectors.{Vectors}
use Rattle.dccp_options.specs.Kinds as options
use Rattle.dccp_options.specs.Written.{Item}
use Rattle.dccp_packets.specs.declared.header.PacketType.{PacketType}
use Rattle.dccp_packets.specs.declared.header.PacketType.TheVariants as types
use Rattle.dccp_states.specs.declared.phase.Phase.{Phase}
use Rattle.feature_lists.specs.declared.features.Feature.TheVariants.{AckRatio, SendAckVector}
use Rattle.feature_lists.specs.declared.features.Place.TheVariants.{Here, There}
use Rattle.feature_machine.specs.declared.row.Row.{Row}
use Rattle.run_list.specs.MarkedSet.{MarkedSet, answer_to, has}
use Rattle.run_list.specs.declared.answers.Marked.{Marked}
use Rattle.run_list.specs.declared.answers.Marked.TheVariants.{New, Again, BelowFloor}
use Rattle.dccp_endpoint.specs.Drafts.{Draft}
use Rattle.dccp_endpoint.specs.End.{EndState, is_open, value_in}
use Rattle.dccp_endpoint.specs.Steps.{Step, next_frame, next_number, with_next_number}

-- Ack and DataAck
abbrev pub is_acking : PacketType → Bool
is_acking types.Request = false
is_acking types.Response = false
is_acking types.Data = false
is_acking types.Ack = true
is_acking types.DataAck = true
is_acking types.CloseReq = false
is_acking types.Close = false
is_acking types.Reset = false
is_acking types.Sync = false
is_acking types.SyncAck = false

-- Data and DataAck
abbrev pub carries_data : PacketType → Bool
carries_data types.Request = false
carries_data types.Response = false
carries_data types.Data = true
carries_data types.Ack = false
carries_data types.DataAck = true
carries_data types.CloseReq = false
carries_data types.Close = false
carries_data types.Reset = false
carries_data types.Sync = false
carries_data types.SyncAck = false

-- the number was not taken before
abbrev pub is_new : Marked → Bool
is_new New = true
is_new Again = false
is_new BelowFloor = false

-- one number more that was taken; the count stays at 2^64 - 1 (own)
abbrev pub one_more_taken : ℕ → Bool → ℕ
one_more_taken count true = min (count + 1) (2 ^ 64 - 1)
one_more_taken count false = count

-- The number of a packet is marked and is the one that was taken last, and an acknowledgement is owed, whatever the mark
-- answers.
abbrev pub marks : EndState → ℕ → EndState
marks e number =
    record e {
      received = marked_by e.received number;
      marked = one_more_taken e.marked (is_new (answer_to e.received.set number));
      owed = true;
      last = number;
    }

-- What an Ack or a DataAck acknowledges is looked up among the records; of other types nothing is (own).
abbrev pub looked_up : PacketType → Option ℕ → Option ℕ
looked_up kind ack = if is_acking kind then ack else None

-- if the number is that of a record, the floor rises past what its vector reported
abbrev pub looked_by : ReceivedState → Option ℕ → ReceivedState
looked_by old None = old
looked_by old (Some number) = acked old number

-- the end with a number looked up
abbrev pub looks_up : EndState → Option ℕ → EndState
looks_up e number = record e { received = looked_by e.received number }

-- Data are delivered if they are new and the phase is OPEN (section 8.5, step 16).
abbrev pub delivers : PacketType → Phase → Marked → Bool
delivers kind phase mark = carries_data kind && (is_open phase && is_new mark)

-- the place of data that are delivered
abbrev pub delivered_if : Bool → ℕ × ℕ → Option (ℕ × ℕ)
delivered_if true place = Some place
delivered_if false place = None

-- one data packet more that is not acknowledged; the count stays at 65,535, the greatest Ack Ratio (section 11.3)
abbrev pub unacked_after : ℕ → Bool → ℕ
unacked_after unacked true = min (unacked + 1) 65535
unacked_after unacked false = unacked

-- the end with a data packet counted that was delivered
abbrev pub counts_data : EndState → Bool → EndState
counts_data e delivered = record e { unacked = unacked_after e.unacked delivered }

-- As many data packets are not acknowledged as the peer's Ack Ratio says; with 0 only the timer ack acknowledges them (own).
abbrev pub is_enough : List Row → ℕ → Bool
is_enough rows unacked = not (value_in rows AckRatio There == 0) && nat_le (value_in rows AckRatio There) unacked

-- Ack Vectors go out if Send Ack Vector here is 1 (section 11.5).
abbrev pub sends_vectors : List Row → Bool
sends_vectors rows = value_in rows SendAckVector Here == 1

-- an Ack Vector option with these bytes
abbrev pub vector_item : List ℕ → Item
vector_item part = record { mandatory = false; kind = options.ack_vector_0; body = part }

-- The Ack Vector of an acknowledgement number, if one goes out: one option, or two if one has no room for it (own).
abbrev pub vector_items : Bool → Vectors → MarkedSet → ℕ → List Item
vector_items true vectors set ack = map vector_item (option_data (vector_under (has set.numbers) set.floor ack vectors))
vector_items false vectors set ack = []

-- the record of it, under the packet's number: whole if its options hold all of it
abbrev pub recorded_by : Bool → Vectors → ReceivedState → ℕ → ℕ → ReceivedState
recorded_by true vectors kept number ack = recorded kept number ack (is_whole_under (has kept.set.numbers) kept.set.floor ack vectors)
recorded_by false vectors kept number ack = kept

-- The end once an Ack or a DataAck went out: its Ack Vector is recorded, and nothing is owed.
abbrev pub acknowledged : EndState → EndState
acknowledged e =
    record (with_next_number e) { received = recorded_by (sends_vectors e.rows) e.config.vectors e.received (next_number e) e.marks.gsr; owed = false; unacked = 0 }

-- An Ack or a DataAck as it goes out: the Ack Vector comes before all other options (own).
abbrev pub reporting : EndState → Draft → Draft
reporting e draft = record draft { options = vector_items (sends_vectors e.rows) e.config.vectors e.received.set e.marks.gsr ++ draft.options }

-- an Ack or a DataAck goes out under the next number
abbrev pub sends_ack : {EndAnswer : Type 0} → EndState → Draft → EndAnswer → Step EndAnswer
sends_ack e draft answer =
    record { after = acknowledged e; frame = Some (next_frame e (reporting e draft)); calls = []; answer = answer }
