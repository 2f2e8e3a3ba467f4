-- The numbers of the frames that were sent (RFC 4340, section 7.1).
use Rattle.std.specs.Prelude.{◌≡◌, ◌⊎◌, ℕ, ◌+◌, ◌-◌, ◌^◌, ◌<◌, ◌≤◌, true, false, List, [], ◌∷◌, length, Some, None, slice_get}
use Rattle.seq_circle.specs.Circle.{residue}
use Rattle.dccp_options.specs.Vectors.{ack_vectors}
use Rattle.dccp_packets.specs.Grammar.{Parts}
use Rattle.dccp_states.specs.declared.phase.Role.{Role}
use Rattle.dccp_endpoint.specs.Causes.{is_without_connection}
use Rattle.dccp_endpoint.specs.End.{EndState, is_live}
use Rattle.dccp_packets.specs.Kinds.{ack_of}
use Rattle.dccp_endpoint.specs.Receiving.{receives}
use Rattle.two_ends.specs.declared.frames.SentFrame.{SentFrame}
use Rattle.world_events.specs.declared.event.Side.{Side}
use Rattle.two_ends.specs.World.{Half, WorldState, half_of}
use Rattle.world_events.specs.Actors.{other}
use Rattle.two_ends.specs.Frames.{packet_of, options_in, is_reset, SpellsItsNumbers}
use Rattle.two_ends.specs.Pairs.{FeatureAt, times_said}
use Rattle.two_ends.specs.Remembered.{AreRecordsHonest, MarksWhatItProcessed, NewestIsProcessed}

-- A Reset without a connection, whose number comes from the packet that it answers (own): its code is 3, No Connection,
-- or a server's 8, Bad Service Code (section 8.5, steps 2 and 3). A client's 8 belongs to its connection. It carries no
-- option.
pub record IsResetWithoutConnection (role : Role) (frame : SentFrame) : Type 0 where
  pub spells : SpellsItsNumbers frame
  pub has_code : is_without_connection role spells.packet.header.kind ≡ true
  pub no_options : options_in frame.bytes ≡ []

-- any other frame, with its number
pub record IsNumberedFrame (role : Role) (number : ℕ) (frame : SentFrame) : Type 0 where
  pub spells : SpellsItsNumbers frame
  pub of_connection : is_without_connection role spells.packet.header.kind ≡ false
  pub has_number : frame.number ≡ number

-- All frames except Resets without a connection are numbered: each carries the next number. The second argument is how many of them went before
-- the list, and `count` is how many there are with the list.
abbrev pub AreNumbered : Role → ℕ → ℕ → List SentFrame → ℕ → Type 0
AreNumbered role iss before [] count = count ≡ before
AreNumbered role iss before (frame ∷ frames) count =
    (IsNumberedFrame role (residue (iss + before)) frame × AreNumbered role iss (before + 1) frames count)
    ⊎ (IsResetWithoutConnection role frame × AreNumbered role iss before frames count)

-- A side's numbered frames carry ISS, ISS + 1, and so on up to GSS, in this order. Together with the other frames there are fewer than 2^47.
pub record IsNumbered (half : Half) : Type 0 where
  pub count : ℕ
  pub in_order : AreNumbered half.end.config.role half.end.marks.iss 0 half.frames count
  pub up_to_greatest : half.end.marks.gss ≡ residue (half.end.marks.iss + count + (2 ^ 48 - 1))
  pub few : count < 2 ^ 47
  pub few_frames : length half.frames < 2 ^ 47

-- no first number was received yet, as far as the marks and the phase show
pub record IsUnset (e : EndState) : Type 0 where
  pub not_live : is_live e.phase ≡ false
  pub no_first : e.marks.isr ≡ 0
  pub no_greatest : e.marks.gsr ≡ 0

-- The number is that of one of the first `count` numbered frames of a side whose first is ISS.
pub record IsNumberOf (iss count number : ℕ) : Type 0 where
  pub place : ℕ
  pub was_sent : place < count
  pub same : number ≡ residue (iss + place)

-- ISR and GSR are numbers of numbered frames of the other side, whose first is ISS and which has sent `count`, and the
-- frame of ISR is not the later one.
pub record AreSentNumbers (iss count isr gsr : ℕ) : Type 0 where
  pub first : IsNumberOf iss count isr
  pub greatest : IsNumberOf iss count gsr
  pub in_order : first.place ≤ greatest.place

-- an end has received no first number yet, or its ISR and GSR are numbers that the other side sent
abbrev pub Hears : ℕ → ℕ → EndState → Type 0
Hears iss count e = IsUnset e ⊎ AreSentNumbers iss count e.marks.isr e.marks.gsr

-- The end is unchanged in the numbers that it received, in what it knows acknowledged, in its rows, and in its set with the floor, the records
-- and the count of what was marked.
pub record KeepsReceived (before after : EndState) : Type 0 where
  pub first : after.marks.isr ≡ before.marks.isr
  pub greatest : after.marks.gsr ≡ before.marks.gsr
  pub opening : after.marks.osr ≡ before.marks.osr
  pub acknowledged : after.marks.gar ≡ before.marks.gar
  pub rows : after.rows ≡ before.rows
  pub set : after.received ≡ before.received
  pub marked : after.marked ≡ before.marked

-- This is so if the bytes are a Reset.
abbrev pub ResetsMoveNothing : EndState → Type 0
ResetsMoveNothing e = (bytes : List ℕ) (packet : Parts) → packet_of bytes ≡ Some packet → is_reset packet.header.kind ≡ true
    → KeepsReceived e (receives e bytes).after

-- No frame says two things about one feature and side, and none has an Ack Vector without an acknowledgement number.
pub record SpeaksOnce (side : Side) (bytes : List ℕ) : Type 0 where
  pub of_each_pair : (pair : FeatureAt) → times_said pair side bytes ≤ 1
  pub vectors_acknowledge : (packet : Parts) → packet_of bytes ≡ Some packet → ack_of packet.header.kind ≡ None
      → ack_vectors (options_in bytes) ≡ []

-- What holds after each schedule.
pub record Facts (w : WorldState) : Type 0 where
  pub numbered : (side : Side) → IsNumbered (half_of w side)
  pub heard : (side : Side) → Hears (half_of w (other side)).end.marks.iss (numbered (other side)).count (half_of w side).end
  pub unmoved : (side : Side) → ResetsMoveNothing (half_of w side).end
  -- GAR is the number of a numbered frame of its own side
  pub acknowledged : (side : Side) → 1 ≤ (numbered side).count
      → IsNumberOf (half_of w side).end.marks.iss (numbered side).count (half_of w side).end.marks.gar
  pub spoken : (side : Side) (index : ℕ) (frame : SentFrame) → slice_get (half_of w side).frames index ≡ Some frame → SpeaksOnce side frame.bytes
  pub processed : (side : Side) → MarksWhatItProcessed (half_of w side)
  pub newest : (side : Side) → NewestIsProcessed w side
  pub recorded : (side : Side) → AreRecordsHonest w side
