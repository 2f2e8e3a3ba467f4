-- Where IP begins in a frame of a wireless network (IEEE 802.11, sections 9.2 and 9.3.2), which may follow the radio's header (radiotap).
use Rattle.std.specs.Prelude.{ℕ, ◌+◌, ◌*◌, ◌/◌, ◌%◌, Bool, ◌&&◌, ◌||◌, ◌==◌, not, nat_le, nat_lt, if◌then◌else◌, List, length, drop, slice_index, Option, None}
use Rattle.capture_reader.specs.Format.{ordered_number_at}
use Rattle.capture_reader.specs.declared.format.Order.TheVariants.{Little}
use Rattle.dccp_packets.specs.Grammar.{number_at}
use Rattle.bridge_links.specs.EtherTypes.{ip_after_tags}
use Rattle.bridge_links.specs.Starts.{start_after, start_or}

-- a frame that carries data: version 0, type 2, and a subtype without its bit 4, which says that there are none
abbrev pub is_data_frame : List ℕ → Bool
is_data_frame bytes = slice_index bytes 0 % 16 == 8 && slice_index bytes 0 / 64 % 2 == 0

-- its subtype has the highest bit set, for two bytes of quality of service
abbrev pub has_quality : List ℕ → Bool
has_quality bytes = nat_le 128 (slice_index bytes 0)

-- how many bytes there are up to the last address: of three addresses, or of four if the frame goes from one access point to another
abbrev pub front_bytes : List ℕ → ℕ
front_bytes bytes = if slice_index bytes 1 % 4 == 3 then 30 else 24

-- how many bytes quality of service has, and four more with the highest flag
abbrev pub quality_bytes : List ℕ → ℕ
quality_bytes bytes =
    if not (has_quality bytes) then 0
    else if nat_le 128 (slice_index bytes 1) then 6
    else 2

-- the frame's header
abbrev pub frame_header : List ℕ → ℕ
frame_header bytes = front_bytes bytes + quality_bytes bytes

-- the highest bit of quality of service says that the frame has several packets: two addresses and a length come before the first
abbrev pub aggregate_bytes : List ℕ → ℕ
aggregate_bytes bytes = if has_quality bytes && nat_le 128 (slice_index bytes (front_bytes bytes)) then 14 else 0

-- six bytes say that a type of Ethernet follows: aaaa03, and three zeros (RFC 1042)
abbrev pub is_snap : ℕ → List ℕ → Bool
is_snap place bytes = number_at place 4 bytes == 2863268608 && number_at (place + 4) 2 bytes == 0

-- IP after them and the type
abbrev pub ip_after_snap : ℕ → List ℕ → Option ℕ
ip_after_snap place bytes =
    if nat_lt (length bytes) (place + 8) then None
    else if not (is_snap place bytes) then None
    else ip_after_tags (number_at (place + 6) 2 bytes) (place + 8) bytes

-- a size filled up to whole words of four
abbrev pub whole_words : ℕ → ℕ
whole_words size = (size + 3) / 4 * 4

-- IP in a frame, whose header some radios fill up (own)
abbrev pub ip_in_frame : List ℕ → Option ℕ
ip_in_frame bytes =
    start_or (ip_after_snap (frame_header bytes + aggregate_bytes bytes) bytes)
    (ip_after_snap (whole_words (frame_header bytes) + aggregate_bytes bytes) bytes)

-- the same of a frame that has room for it
unfoldable pub ip_in_wireless : List ℕ → Option ℕ
ip_in_wireless bytes = if nat_lt (length bytes) 32 || not (is_data_frame bytes) then None else ip_in_frame bytes

-- the length of the radio's header, in its third and fourth byte
abbrev pub radio_bytes : List ℕ → ℕ
radio_bytes bytes = ordered_number_at Little 2 2 bytes

-- IP in a frame after the radio's header, of version 0
unfoldable pub ip_after_radio : List ℕ → Option ℕ
ip_after_radio bytes =
    if nat_lt (length bytes) 4 || not (slice_index bytes 0 == 0) then None
    else if nat_lt (length bytes) (radio_bytes bytes) then None
    else start_after (radio_bytes bytes) (ip_in_wireless (drop (radio_bytes bytes) bytes))
