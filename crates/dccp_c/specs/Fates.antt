-- What became of the data that an end has sent, and how long the next data may be (own).
use Rattle.std.specs.Prelude.{◌≡◌, ℕ, ◌+◌, ◌-◌, ◌*◌, ◌/◌, ◌^◌, ◌<◌, ◌↔◌, min, Bool, true, false, List, length, Option, Some, None, if◌then◌else◌}
use Rattle.std.specs.Option.{option_map}
use Rattle.ack_vectors.specs.Vector.{numbers_between, option_room}
use Rattle.ccid_two.specs.Kinds.{Both, kinds_control}
use Rattle.congestion_trait.specs.Flight.{Has}
use Rattle.congestion_trait.specs.declared.flight.Standing.{Standing}
use Rattle.congestion_trait.specs.declared.flight.Standing.TheVariants.{Lost, Out, Reported}
use Rattle.dccp_endpoint.specs.Controlled.{End}
use Rattle.dccp_endpoint.specs.Early.{is_part_open}
use Rattle.dccp_endpoint.specs.End.{EndState, floor_of}
use Rattle.dccp_endpoint.specs.Reporting.{sends_vectors}
use Rattle.data_dropped.specs.Intakes.{most_said}
use Rattle.dccp_states.specs.declared.phase.Phase.{Phase}
use Rattle.dccp_c.specs.Stepping.{CEnd}

-- There is an end, which has sent data under this number, and knows that they have this standing (RFC 4341, section 5).
abbrev pub StandSo : Option (End Both) → ℕ → Standing → Type 0
StandSo None number standing = ⊥
StandSo (Some e) number standing = (number < 2 ^ 48) × Has (kinds_control.flight e.congestion) number standing

-- the end by itself
abbrev pub end_alone : Option CEnd → Option (End Both)
end_alone = option_map (λ s. s.timed.end)

-- The number of what became of data, by their standing and the code with which they were dropped, if they were: 2 if the peer has reported them,
-- or 4 plus the Drop Code if it dropped them (RFC 4340, section 11.7); otherwise 3 if they are counted as lost, 1 if they are in flight, and 0
-- if nothing is known about them.
pub record IsFate (stands : Standing → Type 0) (code : Option ℕ) (fate : ℕ) : Type 0 where
  pub delivered : (fate ≡ 2) ↔ (stands Reported × (code ≡ None))
  pub dropped : (c : ℕ) → (fate ≡ 4 + c) ↔ (stands Reported × (code ≡ Some c))
  pub lost : (fate ≡ 3) ↔ (stands Lost × ¬ stands Reported)
  pub in_flight : (fate ≡ 1) ↔ (stands Out × ¬ stands Lost × ¬ stands Reported)

-- The most bytes of an Ack Vector option that reports this many numbers, with the zeros after it up to a whole word: two of the option, and at
-- most a byte for each number (RFC 4340, sections 5.8 and 11.4).
abbrev pub most_vector_bytes : ℕ → ℕ
most_vector_bytes numbers = 4 * ((min numbers option_room + 2 + 3) / 4)

-- the most bytes of options in a packet with data: those of an Ack Vector, if Ack Vectors go out
abbrev pub most_options_beside : Bool → ℕ → ℕ
most_options_beside true numbers = most_vector_bytes numbers
most_options_beside false numbers = 0

-- The most bytes of the next packet with data, besides the data: the header of a DataAck with a long number, and its options (RFC 4340, sections
-- 5.1 and 5.3).
abbrev pub most_beside_data : EndState → ℕ
most_beside_data e = 24 + most_options_beside (sends_vectors e.rows) (numbers_between (floor_of e) e.marks.gsr)

-- the most bytes that the cookie of an end adds to a frame: whole words of one option, in PARTOPEN
abbrev pub most_returned : Phase → List ℕ → ℕ
most_returned phase cookie = if is_part_open phase then 4 * ((min (length cookie) 256 + 3) / 4) else 0

-- what is left of a number of bytes besides the cookie of an end and what its inbox may say, if there is an end
abbrev pub left_beside : ℕ → Option CEnd → ℕ
left_beside most None = most
left_beside most (Some s) = most - most_said s.inbox - most_returned s.timed.end.state.phase s.cookie

-- the longest data whose packet certainly has at most this many bytes; at most 1,024, and 0 if there is no end
abbrev pub longest_in : ℕ → Option (End Both) → ℕ
longest_in most None = 0
longest_in most (Some e) = min 1024 (most - most_beside_data e.state)
