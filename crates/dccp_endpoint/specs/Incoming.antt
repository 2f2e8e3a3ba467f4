-- A packet that arrived, read once: its type with its fields, its numbers, its options, and where its data lie.
use Rattle.std.specs.Prelude.{◌≡◌, ◌≤◌, ℕ, ◌-◌, Bool, not, ◌||◌, List, length, Option, Result, Ok, Err}
use Rattle.seq_circle.specs.Circle.{is_before}
use Rattle.dccp_options.specs.Grammar.{Entry, options_of}
use Rattle.dccp_options.specs.declared.option.OptFault.{OptFault}
use Rattle.dccp_packets.specs.Forms.{ack_near}
use Rattle.dccp_packets.specs.Grammar.{Parts, decoded, packet_type}
use Rattle.dccp_packets.specs.Kinds.{is_data, reset_code, service_of}
use Rattle.dccp_packets.specs.declared.header.PacketType.{PacketType}
use Rattle.dccp_packets.specs.declared.reading.Malformed.{Malformed}
use Rattle.dccp_packets.specs.declared.reading.Packet.{Packet}
use Rattle.dccp_endpoint.specs.End.{EndState, is_live}

-- the parts of a packet, without their places in memory
abbrev pub parts_of_packet : Packet → Parts
parts_of_packet p = record { header = p.header; options = p.options.now; payload = p.payload.now }

-- what these bytes were decoded as
abbrev pub IsReadAs : List ℕ → Result Packet Malformed → Type 0
IsReadAs bytes (Ok packet) = (decoded bytes ≡ Ok (parts_of_packet packet)) × (length packet.options.now ≤ 1008)
IsReadAs bytes (Err fault) = decoded bytes ≡ Err fault

-- A packet of the connection, with its numbers in full. Its data lie in the input from the first place up to the second. It is newest if no
-- number was received before it, or none as great (own).
pub record Incoming : Type 0 where
  pub kind : PacketType
  pub number : ℕ
  pub ack : Option ℕ
  pub service : Option ℕ
  pub code : ℕ
  pub options : List (Result Entry OptFault)
  pub data_place : ℕ × ℕ
  pub newest : Bool

-- the first packet of the connection is newest, and so is one after GSR
abbrev pub is_newest : EndState → ℕ → Bool
is_newest e number = not (is_live e.phase) || is_before e.marks.gsr number

-- What is read of a packet with these numbers in full, in an input of this many bytes.
abbrev pub incoming_of : Parts → ℕ → Option ℕ → ℕ → Bool → Incoming
incoming_of p number ack size newest =
    record {
      kind = packet_type p.header.kind;
      number = number;
      ack = ack;
      service = service_of p.header.kind;
      code = reset_code p.header.kind;
      options = options_of p.options (is_data (packet_type p.header.kind));
      data_place = (size - length p.payload, size);
      newest = newest;
    }

-- The packet that was read from these bytes. Its acknowledgement number, if it is short, is the one near GSS, and the end's GSR decides whether
-- it is newest.
abbrev pub incoming : EndState → List ℕ → Parts → ℕ → Incoming
incoming e bytes p number = incoming_of p number (ack_near e.marks.gss p.header.kind) (length bytes) (is_newest e number)
