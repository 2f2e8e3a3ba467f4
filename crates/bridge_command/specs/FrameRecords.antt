-- The bytes of a capture of frames: the savefile format of libpcap, and IPv4 (RFC 791, section 3.1).
use Rattle.std.specs.Prelude.{ℕ, ◌+◌, ◌-◌, List, [], ◌∷◌, ◌++◌, length}
use Rattle.byteorder.specs.Endian.{big_bytes, big_number}
use Rattle.bridge_records.specs.Writing.{RawRecord}
use Rattle.dccp_listener.specs.declared.peer.Peer.{Peer}
use Rattle.dccp_sum.specs.Words.{word_sum, ones_complement}
use Rattle.world_events.specs.Actors.{other}
use Rattle.world_events.specs.declared.event.Side.{Side}
use Rattle.world_events.specs.declared.event.Side.TheVariants.{Client, Server}
use Rattle.bridge_command.specs.declared.capture.records.Travel.{Travel}

-- A frame that was sent or came, the addresses between which it went, and its time: the number of the line that was answered, as seconds.
pub record TimedFrame : Type 0 where
  pub seconds : ℕ
  pub travel : Travel
  pub frame : List ℕ

-- the address of the usual client, 10.0.0.1, and that of the usual server and of a listener, 10.0.0.2, as numbers
abbrev pub address : Side → ℕ
address Client = 167772161
address Server = 167772162

-- from a side to the other
abbrev pub travel_of : Side → Travel
travel_of from = record { from = address from; to = address (other from) }

-- the address of a peer as a number
abbrev pub peer_address : Peer → ℕ
peer_address peer = big_number 4 peer.address

-- from a listener to a peer
abbrev pub travel_to : Peer → Travel
travel_to peer = record { from = address Server; to = peer_address peer }

-- from a peer to a listener
abbrev pub travel_from : Peer → Travel
travel_from peer = record { from = peer_address peer; to = address Server }

-- an IPv4 header in front of its addresses: version 4 and five words, the total length, no identification, Don't
-- Fragment, 64 hops, protocol 33, and this checksum
abbrev pub ip_front : ℕ → ℕ → List ℕ
ip_front sum total = (69 ∷ 0 ∷ []) ++ big_bytes 2 total ++ (0 ∷ 0 ∷ 64 ∷ 0 ∷ 64 ∷ 33 ∷ []) ++ big_bytes 2 sum

-- both addresses of a packet
abbrev pub both_addresses : Travel → List ℕ
both_addresses t = big_bytes 4 t.from ++ big_bytes 4 t.to

-- the header with this checksum
abbrev pub ip_header_with : ℕ → Travel → ℕ → List ℕ
ip_header_with sum t total = ip_front sum total ++ both_addresses t

-- the header's checksum: the complement of the ones' complement sum of its words, the checksum itself taken as zero
abbrev pub ip_checksum : Travel → ℕ → ℕ
ip_checksum t total = 65535 - ones_complement (word_sum (ip_header_with 0 t total))

-- the header of a packet of this many bytes
abbrev pub ip_header : Travel → ℕ → List ℕ
ip_header t total = ip_header_with (ip_checksum t total) t total

-- the packet of a frame
unfoldable pub ip_packet : Travel → List ℕ → List ℕ
ip_packet t frame = ip_header t (20 + length frame) ++ frame

-- the record of a frame: its packet, captured whole, without a fraction of a second
abbrev pub frame_record : TimedFrame → RawRecord
frame_record f = record { seconds = f.seconds; fraction = 0; original = 20 + length f.frame; bytes = ip_packet f.travel f.frame }
