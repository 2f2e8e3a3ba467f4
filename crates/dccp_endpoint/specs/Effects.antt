-- What one step of an end does, as plain data: a part for each part of the end (own). Why each part is what it is,
-- is in Causes.
use Rattle.std.specs.Prelude.{◌&&◌, ℕ, Bool, true, false, List, [], Option, Some, None}
use Rattle.ack_vectors.specs.Kept.{ReceivedState, marked_by}
use Rattle.ack_vectors.specs.Kept as kept
use Rattle.seq_circle.specs.Circle.{later_of}
use Rattle.congestion_trait.specs.Calls.{Call}
use Rattle.dccp_packets.specs.Grammar.{packet_type}
use Rattle.dccp_packets.specs.Outgoing.{Outgoing}
use Rattle.dccp_packets.specs.declared.header.Kind.{Kind}
use Rattle.dccp_packets.specs.declared.header.PacketType.{PacketType}
use Rattle.dccp_packets.specs.declared.header.PacketType.TheVariants as types
use Rattle.dccp_states.specs.declared.phase.Phase.{Phase}
use Rattle.dccp_endpoint.specs.Drafts.{Draft, alone, sent_of}
use Rattle.dccp_endpoint.specs.End.{EndState, value_in}
use Rattle.dccp_endpoint.specs.Receiving.{osr_after}
use Rattle.dccp_endpoint.specs.ShortForm.{goes_short}
use Rattle.dccp_endpoint.specs.Reporting.{is_acking, is_new, looked_by, one_more_taken, recorded_by, sends_vectors}
use Rattle.dccp_endpoint.specs.Steps.{next_number}
use Rattle.feature_lists.specs.declared.features.Feature.TheVariants.{SequenceWindow}
use Rattle.feature_lists.specs.declared.features.Place.TheVariants.{Here, There}
use Rattle.feature_machine.specs.Turns.{Turn, turned}
use Rattle.feature_machine.specs.declared.row.Row.{Row}
use Rattle.run_list.specs.MarkedSet.{answer_to}

-- What became of a valid packet, other than a Reset: step 7 refused it, it was answered with a Reset 5, 6 or 8 that
-- closed the end, or it was taken.
pub data PacketFate : Type 0 where
  Refused Shut Taken : PacketFate

-- What was heard: nothing new, or a valid packet's number, as the first of the connection or not. That is a Bool of one
-- constructor, so that each part of the end is computed while the case is still open. Whether OSR changes is a Bool
-- too, since its new value can only be the number heard.
pub data HeardNumber : Type 0 where
  Unheard : HeardNumber
  Heard : (first : Bool) (number : ℕ) (how : PacketFate) → HeardNumber

-- what goes out: nothing, a packet under the next number, or a Reset without a connection under another
pub data Transmission : Type 0 where
  Silent : Transmission
  Next : (packet : Draft) → Transmission
  WithoutConnection : (number : ℕ) (packet : Kind) → Transmission

-- all that a step changes, sends and owes
pub record Effect : Type 0 where
  -- sets ISR, raises GSR, and is marked if it was taken
  pub hearing : HeardNumber
  -- raises GAR
  pub acknowledged : Option ℕ
  -- the number heard becomes OSR
  pub opening : Bool
  pub phase : Phase
  -- `opened` is set
  pub opens : Bool
  -- looked up among the records of the Ack Vectors that were sent
  pub looked_up : Option ℕ
  -- what happens to rows, in order
  pub turns : List Turn
  -- what is due to the congestion control, in order
  pub calls : List Call
  pub sending : Transmission
  -- whether an acknowledgement is owed, and how many data packets are not acknowledged, as they are afterwards
  pub owed : Bool
  pub unacked : ℕ

-- An acknowledgement is owed once a packet was taken. What is owed after a step is computed from what was heard and what goes out, so a Close
-- that is marked and answered with a Reset is no separate case.
abbrev pub owed_as : PacketFate → Bool → Bool
owed_as Taken old = true
owed_as Refused old = old
owed_as Shut old = old

-- a step that hears nothing leaves what was owed before
abbrev pub owed_by : Bool → HeardNumber → Bool
owed_by old Unheard = old
owed_by old (Heard first number how) = owed_as how old

-- The effect of a step in which no row has a turn, nothing is looked up, nothing is due to a congestion control, and
-- neither data are delivered nor an Ack or a DataAck goes out.
abbrev pub effect_of : EndState → HeardNumber → Option ℕ → Bool → Phase → Bool → Transmission → Effect
effect_of e hearing acknowledged opening phase opens sending =
    record {
      hearing = hearing;
      acknowledged = acknowledged;
      opening = opening;
      phase = phase;
      opens = opens;
      looked_up = None;
      turns = [];
      calls = [];
      sending = sending;
      owed = owed_by e.owed hearing;
      unacked = e.unacked;
    }

-- nothing is heard, and the phase stays: only this goes out
abbrev pub effect_of_sending : EndState → Transmission → Effect
effect_of_sending e sending = effect_of e Unheard None false e.phase false sending

-- The new value of each part. A first number replaces the old one; any other leaves ISR and raises GSR.
abbrev pub isr_or : Bool → ℕ → ℕ → ℕ
isr_or true number old = number
isr_or false number old = old

-- GSR begins at the first number, and later rises to the number heard if this is after it on the circle
abbrev pub greatest_or : Bool → ℕ → ℕ → ℕ
greatest_or true number old = number
greatest_or false number old = later_of old number

-- ISR, GSR and OSR by what was heard
abbrev pub first_by : ℕ → HeardNumber → ℕ
first_by old Unheard = old
first_by old (Heard first number how) = isr_or first number old

-- GSR after a step
abbrev pub greatest_by : ℕ → HeardNumber → ℕ
greatest_by old Unheard = old
greatest_by old (Heard first number how) = greatest_or first number old

-- OSR begins at the first number, and moves to the number heard if the end becomes OPEN
abbrev pub osr_by : ℕ → HeardNumber → Bool → ℕ
osr_by old Unheard opening = old
osr_by old (Heard first number how) opening = osr_after (isr_or first number old) number opening

-- What a packet acknowledges raises GAR, except for a Sync.
abbrev pub raising : PacketType → Option ℕ → Option ℕ
raising types.Sync ack = None
raising _ ack = ack

-- GAR by what was acknowledged
abbrev pub gar_by : ℕ → Option ℕ → ℕ
gar_by old None = old
gar_by old (Some ack) = later_of old ack

-- GSS by what goes out
abbrev pub gss_by : EndState → Transmission → ℕ
gss_by e Silent = e.marks.gss
gss_by e (Next packet) = next_number e
gss_by e (WithoutConnection number packet) = e.marks.gss

-- whether `open` was ever taken
abbrev pub opened_by : Bool → Bool → Bool
opened_by old true = true
opened_by old false = old

-- the rows by their turns
abbrev pub rows_by : List Row → Effect → List Row
rows_by rows f = turned rows f.turns

-- the set and its records begin anew with a first number
abbrev pub begun_or : Bool → ℕ → ReceivedState → ReceivedState
begun_or true number old = kept.fresh number
begun_or false number old = old

-- the number of a packet that was taken is marked
abbrev pub marked_as : PacketFate → ReceivedState → ℕ → ReceivedState
marked_as Taken old number = marked_by old number
marked_as Refused old number = old
marked_as Shut old number = old

-- what is kept begins anew with a first number, and then marks a packet that was taken
abbrev pub heard_by : ReceivedState → HeardNumber → ReceivedState
heard_by old Unheard = old
heard_by old (Heard first number how) = marked_as how (begun_or first number old) number

-- how many numbers were taken, by what the mark answers
abbrev pub count_as : PacketFate → ℕ → ReceivedState → ℕ → ℕ
count_as Taken count old number = one_more_taken count (is_new (answer_to old.set number))
count_as Refused count old number = count
count_as Shut count old number = count

-- how many numbers were taken, by what was heard; at a first number the set has just begun
abbrev pub count_by : ℕ → ReceivedState → HeardNumber → ℕ
count_by count old Unheard = count
count_by count old (Heard first number how) = count_as how count (begun_or first number old) number

-- the number that was taken last, by what became of a valid packet
abbrev pub last_as : PacketFate → ℕ → ℕ → ℕ
last_as Taken old number = number
last_as Refused old number = old
last_as Shut old number = old

-- the number that was taken last, by what was heard
abbrev pub last_by : ℕ → HeardNumber → ℕ
last_by old Unheard = old
last_by old (Heard first number how) = last_as how old number

-- What was marked and looked up: the Ack Vector of a packet that goes out reports this.
abbrev pub told_by : ReceivedState → Effect → ReceivedState
told_by old f = looked_by (heard_by old f.hearing) f.looked_up

-- an Ack or a DataAck goes out
abbrev pub is_acking_sent : Transmission → Bool
is_acking_sent Silent = false
is_acking_sent (Next packet) = is_acking (packet_type packet.kind)
is_acking_sent (WithoutConnection number packet) = false

-- What is kept of received numbers: the set begins, a number is marked, one is looked up, and the packet's own Ack
-- Vector is recorded.
abbrev pub received_by : EndState → Effect → ReceivedState
received_by e f =
    recorded_by (is_acking_sent f.sending && sends_vectors (rows_by e.rows f)) e.config.vectors (told_by e.received f) (next_number e)
    (greatest_by e.marks.gsr f.hearing)

-- The end after a step.
abbrev pub end_after : EndState → Effect → EndState
end_after e f =
    record {
      config = e.config;
      phase = f.phase;
      opened = opened_by e.opened f.opens;
      marks =
          record {
            iss = e.marks.iss;
            gss = gss_by e f.sending;
            gar = gar_by e.marks.gar f.acknowledged;
            isr = first_by e.marks.isr f.hearing;
            gsr = greatest_by e.marks.gsr f.hearing;
            osr = osr_by e.marks.osr f.hearing f.opening;
            own_w = value_in (rows_by e.rows f) SequenceWindow Here;
            peer_w = value_in (rows_by e.rows f) SequenceWindow There;
          };
      rows = rows_by e.rows f;
      received = received_by e f;
      marked = count_by e.marked e.received f.hearing;
      owed = f.owed;
      unacked = f.unacked;
      last = last_by e.last f.hearing;
    }

-- The frame of a step, in the form in which the end as the step leaves it sends the packet; a Reset without a
-- connection is long.
abbrev pub frame_by : EndState → Effect → Transmission → Option Outgoing
frame_by e f Silent = None
frame_by e f (Next packet) = Some (sent_of e.config (goes_short (end_after e f) packet) (next_number e) packet)
frame_by e f (WithoutConnection number packet) = Some (sent_of e.config false number (alone packet))
