-- Where a captured record carries DCCP: Ethernet, IPv4 (RFC 791, section 3.1) and IPv6 (RFC 8200, section 3).
use Rattle.std.specs.Prelude.{ℕ, ◌≤◌, ◌+◌, ◌-◌, ◌*◌, ◌/◌, ◌%◌, Bool, ◌&&◌, ◌==◌, nat_le, nat_lt, if◌then◌else◌, List, length, drop, slice_index, Option, Some, None, option_map}
use Rattle.dccp_sum.specs.declared.pseudo_header.Pseudo.{Pseudo}
use Rattle.dccp_sum.specs.declared.pseudo_header.Pseudo.TheVariants.{V4, V6}
use Rattle.capture_reader.specs.Records.{bytes_at}
use Rattle.packet_show.specs.declared.network.Datagram.{Datagram}
use Rattle.dccp_packets.specs.Grammar.{number_at}

-- The addresses, the DCCP bytes that were captured, and whether these are all that the IP length leaves.
pub record DatagramParts : Type 0 where
  pub pseudo : Pseudo
  pub bytes : List ℕ
  pub whole : Bool

-- the same, without the place of the bytes
abbrev pub carried_by : Datagram → DatagramParts
carried_by d = record { pseudo = d.pseudo; bytes = d.bytes.now; whole = d.whole }

-- the parts of a datagram, if there is one
abbrev pub parts_in : Option Datagram → Option DatagramParts
parts_in = option_map carried_by

-- a datagram's bytes have an IP length
abbrev pub FitsIp : Datagram → Type 0
FitsIp d = length d.bytes.now ≤ 65535

-- the IP version: the first four bits
abbrev pub version : List ℕ → ℕ
version bytes = slice_index bytes 0 / 16

-- the length of an IPv4 header, which is counted in words of four bytes
abbrev pub v4_header : List ℕ → ℕ
v4_header bytes = 4 * (slice_index bytes 0 % 16)

-- the total length of an IPv4 packet
abbrev pub v4_total : List ℕ → ℕ
v4_total bytes = number_at 2 2 bytes

-- no fragment: the flag More Fragments and the offset, the low 14 of 16 bits, are zero
abbrev pub is_unfragmented : List ℕ → Bool
is_unfragmented bytes = number_at 6 2 bytes % 16384 == 0

-- IPv4 that carries DCCP, protocol 33, in one piece, with its header captured whole and a total length that holds it
abbrev pub is_v4 : List ℕ → Bool
is_v4 bytes =
    nat_le 20 (length bytes) && version bytes == 4
    && nat_le 20 (v4_header bytes) && nat_le (v4_header bytes) (length bytes) && nat_le (v4_header bytes) (v4_total bytes)
    && is_unfragmented bytes
    && slice_index bytes 9 == 33

-- the DCCP packet after an IPv4 header
abbrev pub after_v4 : List ℕ → DatagramParts
after_v4 bytes = record {
  pseudo = V4 (bytes_at 12 4 bytes) (bytes_at 16 4 bytes);
  bytes = bytes_at (v4_header bytes) (v4_total bytes - v4_header bytes) bytes;
  whole = nat_le (v4_total bytes) (length bytes);
}

-- the DCCP packet in these bytes, if they are IPv4 that carries one
abbrev pub in_v4 : List ℕ → Option DatagramParts
in_v4 bytes = if is_v4 bytes then Some (after_v4 bytes) else None

-- the payload length of an IPv6 packet
abbrev pub v6_payload : List ℕ → ℕ
v6_payload bytes = number_at 4 2 bytes

-- IPv6 whose next header is DCCP, 33, with its header captured whole
abbrev pub is_v6 : List ℕ → Bool
is_v6 bytes = nat_le 40 (length bytes) && version bytes == 6 && slice_index bytes 6 == 33

-- the DCCP packet after an IPv6 header
abbrev pub after_v6 : List ℕ → DatagramParts
after_v6 bytes = record {
  pseudo = V6 (bytes_at 8 16 bytes) (bytes_at 24 16 bytes);
  bytes = bytes_at 40 (v6_payload bytes) bytes;
  whole = nat_le (40 + v6_payload bytes) (length bytes);
}

-- the DCCP packet in these bytes, if they are IPv6 that carries one
abbrev pub in_v6 : List ℕ → Option DatagramParts
in_v6 bytes = if is_v6 bytes then Some (after_v6 bytes) else None

-- the DCCP packet in IP of the version that its first bits say
abbrev pub in_ip : List ℕ → Option DatagramParts
in_ip bytes = if is_v4 bytes then in_v4 bytes else in_v6 bytes

-- Ethernet: 14 bytes, the last two of which are 0800 for IPv4 or 86dd for IPv6
abbrev pub in_frame : ℕ → List ℕ → Option DatagramParts
in_frame kind bytes = if kind == 2048 then in_v4 bytes else if kind == 34525 then in_v6 bytes else None

-- the DCCP packet in a frame of Ethernet, which is found after the type in its header
abbrev pub in_ethernet : List ℕ → Option DatagramParts
in_ethernet bytes = if nat_lt (length bytes) 14 then None else in_frame (number_at 12 2 bytes) (drop 14 bytes)

-- DCCP in a record of this link type: 1 is Ethernet, 101 begins with IP
abbrev pub carried : ℕ → List ℕ → Option DatagramParts
carried link bytes = if link == 1 then in_ethernet bytes else if link == 101 then in_ip bytes else None
