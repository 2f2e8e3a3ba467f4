-- What the ends processed of each other's packets, and what they believe received (RFC 4340, section 11.4).
use Rattle.std.specs.Prelude.{◌≡◌, ℕ, ◌^◌, ◌<◌, true, false, List, length, take, slice_get, slice_index, Some, Contains}
use Rattle.seq_circle.specs.Circle.{distance, IsBefore, IsFrom, IsWithin}
use Rattle.run_list.specs.MarkedSet.{has, floor_under}
use Rattle.ack_vectors.specs.Vector.{vector_under, is_whole_under}
use Rattle.dccp_options.specs.Vectors.{report_of}
use Rattle.dccp_packets.specs.Grammar.{Parts}
use Rattle.congestion_trait.specs.Control.{Control}
use Rattle.dccp_endpoint.specs.Controlled.{reported_of}
use Rattle.dccp_endpoint.specs.End.{floor_of}
use Rattle.two_ends.specs.declared.frames.SentFrame.{SentFrame}
use Rattle.world_events.specs.declared.event.Side.{Side}
use Rattle.two_ends.specs.World.{Half, WorldState, half_of}
use Rattle.world_events.specs.Actors.{other}
use Rattle.two_ends.specs.Controlled.{ControlledWorld, congestion_of}
use Rattle.two_ends.specs.Frames.{packet_of, options_in, is_reset}

-- A side sent a packet with this number that is no Reset. The number of a Reset without a connection comes from the packet that it answers, and
-- says nothing about the numbers of its sender.
pub record HasSentNumber (w : WorldState) (side : Side) (n : ℕ) : Type 0 where
  pub index : ℕ
  pub frame : SentFrame
  pub packet : Parts
  pub is_there : slice_get (half_of w side).frames index ≡ Some frame
  pub is_packet : packet_of frame.bytes ≡ Some packet
  pub is_numbered : frame.number ≡ n
  pub is_no_reset : is_reset packet.header.kind ≡ false

-- Each number is processed once, and only if the other side sent it.
pub record IsOnce (w : WorldState) (side : Side) : Type 0 where
  pub distinct : (i j : ℕ) → i < length (half_of w side).processed → j < length (half_of w side).processed
      → slice_index (half_of w side).processed i ≡ slice_index (half_of w side).processed j → i ≡ j
  pub sent : (i : ℕ) → i < length (half_of w side).processed → HasSentNumber w (other side) (slice_index (half_of w side).processed i)

-- neither end processes a number twice, nor one that the other side has not sent
abbrev pub Once : WorldState → Type 0
Once w = (side : Side) → IsOnce w side

-- What an end believes received, by its congestion control, the other side processed.
abbrev pub Heard : {C : Type 0} → Control C → ControlledWorld C → Type 0
Heard control w = (side : Side) (n : ℕ) → Contains (reported_of control (congestion_of w side)) n → Contains (half_of w.world (other side)).processed n

-- what a side had processed when it sent a frame
abbrev pub processed_by : Half → SentFrame → List ℕ
processed_by half frame = take frame.processed half.processed

-- nothing was cut of the vector by which a frame acknowledges this number
abbrev pub IsUncut : Half → SentFrame → ℕ → Type 0
IsUncut half frame ack = is_whole_under (has (processed_by half frame)) frame.floor ack half.end.config.vectors ≡ true

-- a number from the first received on that lies below the floor
abbrev pub LiesBelowFloor : Half → ℕ → Type 0
LiesBelowFloor half n = distance half.end.marks.isr n < distance half.end.marks.isr (floor_of half.end)

-- A frame acknowledges a number and carries Ack Vectors, whose bytes are joined here.
pub record CarriesVector (frame : SentFrame) (ack : ℕ) (bytes : List ℕ) : Type 0 where
  pub acknowledges : frame.ack ≡ Some ack
  pub carries : report_of ack (options_in frame.bytes) ≡ Some (record { ack = ack; bytes = bytes })

-- Among the frames that a side sent is this one, which carries this vector.
pub record HasSentVector (half : Half) (frame : SentFrame) (ack : ℕ) (bytes : List ℕ) : Type 0 where
  pub index : ℕ
  pub is_there : slice_get half.frames index ≡ Some frame
  pub carries : CarriesVector frame ack bytes

-- A whole vector covers this number: it lies from the frame's floor up to the acknowledged number, which is not before the floor. All three are
-- numbers of 48 bits.
pub record IsSpokenOf (frame : SentFrame) (ack n : ℕ) : Type 0 where
  pub floor_fits : frame.floor < 2 ^ 48
  pub ack_fits : ack < 2 ^ 48
  pub fits : n < 2 ^ 48
  pub in_order : IsFrom frame.floor ack
  pub within : IsWithin n frame.floor ack

-- The bytes are the vector of just what the side had processed, from the acknowledged number down to its floor, as far as its options have room.
-- The side had processed nothing after that number.
pub record TellsTruth (half : Half) (frame : SentFrame) (ack : ℕ) (bytes : List ℕ) : Type 0 where
  pub is_vector : bytes ≡ vector_under (has (processed_by half frame)) frame.floor ack half.end.config.vectors
  pub none_after : (n : ℕ) → Contains (processed_by half frame) n → IsBefore ack n → ⊥

-- No whole vector that the other side processed has reported this number, from the frame's floor up to the acknowledged number (RFC 4340,
-- section 11.4).
abbrev pub IsUntold : WorldState → Side → ℕ → Type 0
IsUntold w side n = (frame : SentFrame) (ack : ℕ) (bytes : List ℕ) → HasSentVector (half_of w side) frame ack bytes
    → IsUncut (half_of w side) frame ack → IsWithin n frame.floor ack → Contains (half_of w (other side)).processed frame.number → ⊥

-- every Ack Vector that was ever sent
abbrev pub Truthful : WorldState → Type 0
Truthful w = (side : Side) (index : ℕ) (frame : SentFrame) (ack : ℕ) (bytes : List ℕ) → slice_get (half_of w side).frames index ≡ Some frame
    → CarriesVector frame ack bytes → TellsTruth (half_of w side) frame ack bytes

-- A frame whose vector reported a number, down to the floor, and which the other side processed.
pub record ToldIn (w : WorldState) (side : Side) (n : ℕ) : Type 0 where
  pub index : ℕ
  pub frame : SentFrame
  pub ack : ℕ
  pub bytes : List ℕ
  pub is_there : slice_get (half_of w side).frames index ≡ Some frame
  pub vector_is : CarriesVector frame ack bytes
  pub whole : IsUncut (half_of w side) frame ack
  pub heard : Contains (half_of w (other side)).processed frame.number
  pub reaches : IsWithin n frame.floor ack

-- why a side need not report a number any more: it lies more than 2,047 below one that it processed, or it was reported to the other side
pub data NeedsNoReport (w : WorldState) (side : Side) (n : ℕ) : Type 0 where
  Far : (processed : ℕ) → Contains (half_of w side).processed processed → IsBefore n (floor_under processed) → NeedsNoReport w side n
  WasTold : ToldIn w side n → NeedsNoReport w side n

-- every number from the first received up to the floor needs no report
abbrev pub Told : WorldState → Type 0
Told w = (side : Side) (n : ℕ) → n < 2 ^ 48 → LiesBelowFloor (half_of w side) n
    → NeedsNoReport w side n
