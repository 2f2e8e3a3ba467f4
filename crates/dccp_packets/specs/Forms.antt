-- The two forms of numbers: how a number is cut to its short form, and how one is read in full (RFC 4340, sections 5.1
-- and 7.6).
use Rattle.std.specs.Prelude.{ℕ, ◌%◌, ◌^◌, Bool, true, false, Option, Some}
use Rattle.seq_circle.specs.Circle.{extended}
use Rattle.dccp_packets.specs.declared.header.PacketType.{PacketType}
use Rattle.dccp_packets.specs.declared.header.Number.{Number}
use Rattle.dccp_packets.specs.declared.header.Number.TheVariants.{Long, Short}
use Rattle.dccp_packets.specs.declared.header.Kind.{Kind}
use Rattle.dccp_packets.specs.declared.header.Kind.TheVariants as kind
use Rattle.dccp_packets.specs.Grammar.{has_form}
use Rattle.dccp_packets.specs.Kinds.{ack_of}

-- the types whose packets may carry short numbers: Data, Ack and DataAck (section 5.1)
abbrev pub may_be_short : PacketType → Bool
may_be_short t = has_form false t

-- a number in full: a long one as it is, a short one as the number near the reference that it shortens (section 7.6)
abbrev pub near : ℕ → Number → ℕ
near reference (Long n) = n
near reference (Short n) = extended n reference

-- the acknowledgement number in full, of a packet that has one
abbrev pub ack_near : ℕ → Kind → Option ℕ
ack_near reference (kind.Ack ack) = Some (near reference ack)
ack_near reference (kind.DataAck ack) = Some (near reference ack)
ack_near reference k = ack_of k

-- a number in one of the two forms; the short one keeps only its low 24 bits (section 7.6)
abbrev pub number_in_form : Bool → ℕ → Number
number_in_form true n = Short (n % 2 ^ 24)
number_in_form false n = Long n

-- the short form of a number in either form
abbrev pub shortened : Number → Number
shortened (Long n) = Short (n % 2 ^ 24)
shortened (Short n) = Short n

-- a type with its fields; only the acknowledgement number of Ack and DataAck has a short form (section 5.1)
abbrev pub in_form : Bool → Kind → Kind
in_form false k = k
in_form true (kind.Ack ack) = kind.Ack (shortened ack)
in_form true (kind.DataAck ack) = kind.DataAck (shortened ack)
in_form true k = k
