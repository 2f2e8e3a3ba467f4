-- An IPv6 packet whose extension headers are removed (RFC 8200, section 4).
use Rattle.std.specs.Prelude.{ℕ, zero, suc, ◌+◌, ◌-◌, ◌*◌, ◌/◌, ◌&&◌, ◌||◌, ◌==◌, Bool, not, nat_le, nat_lt, if◌then◌else◌, List, [], ◌∷◌, ◌++◌, length, drop, slice_index, Option, Some, None}
use Rattle.byteorder.specs.Endian.{big_bytes}
use Rattle.capture_reader.specs.Records.{bytes_at}
use Rattle.dccp_packets.specs.Grammar.{number_at}
use Rattle.bridge_links.specs.declared.extensions.Upper.{Upper}

-- a header that is skipped: Hop-by-Hop Options, Routing, and Destination Options
abbrev pub is_extension : ℕ → Bool
is_extension kind = kind == 0 || (kind == 43 || kind == 60)

-- how many bytes the header at a place has: its second byte counts the words of eight after the first
abbrev pub extension_size : ℕ → List ℕ → ℕ
extension_size place bytes = 8 + 8 * slice_index bytes (place + 1)

-- the place of the last address of a Routing header: the first address of a segment list (RFC 8754, section 2), or else the last (RFC 2460,
-- section 4.4; RFC 6275, section 6.4)
abbrev pub last_address : ℕ → ℕ → List ℕ → ℕ
last_address place to bytes =
    if slice_index bytes (place + 2) == 4 then place + 8
    else if slice_index bytes (place + 2) == 0 || slice_index bytes (place + 2) == 2 then place + extension_size place bytes - 16
    else to

-- the place of the packet's last destination, after this header: where a Routing header has segments left, it is the
-- last address of that header, which the checksum counts (RFC 8200, section 8.1)
abbrev pub destination_after : ℕ → ℕ → ℕ → List ℕ → ℕ
destination_after kind place to bytes =
    if not (kind == 43) || (slice_index bytes (place + 3) == 0 || slice_index bytes (place + 1) == 0 || slice_index bytes (place + 1) == 1) then to
    else last_address place to bytes

-- the header at this place, if all before it was captured and it is not one to skip
abbrev pub upper_at : ℕ → ℕ → ℕ → List ℕ → Option Upper
upper_at kind place to bytes =
    if is_extension kind || nat_lt (length bytes) place then None else Some (record { kind = kind; place = place; to = to })

-- the header after at most this many more that are skipped, from one of this kind at a place on
unfoldable pub upper_from : ℕ → ℕ → ℕ → ℕ → List ℕ → Option Upper
upper_from zero kind place to bytes = upper_at kind place to bytes
upper_from (suc left) kind place to bytes =
    if is_extension kind && nat_le (place + 8) (length bytes)
    then upper_from left (slice_index bytes place) (place + extension_size place bytes) (destination_after kind place to bytes) bytes
    else upper_at kind place to bytes

-- the header after the extension headers of an IPv6 packet, of which at most 16 are skipped (own)
abbrev pub upper_of : List ℕ → Option Upper
upper_of ip = upper_from 16 (slice_index ip 6) 40 24 ip

-- IPv6 with an extension header after its own
abbrev pub is_extended : List ℕ → Bool
is_extended ip = nat_le 40 (length ip) && (slice_index ip 0 / 16 == 6 && is_extension (slice_index ip 6))

-- the payload length of the packet without them
abbrev pub plain_length : Upper → List ℕ → ℕ
plain_length upper ip = number_at 4 2 ip - (upper.place - 40)

-- the packet whose header of DCCP is at this place, with nothing between the two headers, and with its last destination
unfoldable pub without_extensions : Upper → List ℕ → List ℕ
without_extensions upper ip =
    bytes_at 0 4 ip ++ big_bytes 2 (plain_length upper ip) ++ (33 ∷ []) ++ bytes_at 7 17 ip ++ bytes_at upper.to 16 ip ++ drop upper.place ip

-- DCCP is there, and the packet's length includes all before it
abbrev pub holds_dccp : Upper → List ℕ → Bool
holds_dccp upper ip = upper.kind == 33 && nat_le upper.place (40 + number_at 4 2 ip)

-- the packet without them if they lead to DCCP, and else as it is
abbrev pub plain_by : Option Upper → List ℕ → List ℕ
plain_by None ip = ip
plain_by (Some upper) ip = if holds_dccp upper ip then without_extensions upper ip else ip

-- the packet that was made, or the one that was there
abbrev pub plain_or : Option (List ℕ) → List ℕ → List ℕ
plain_or None ip = ip
plain_or (Some plain) ip = plain

-- An IP packet without the extension headers before DCCP.
abbrev pub plain_ip : List ℕ → List ℕ
plain_ip ip = if is_extended ip then plain_by (upper_of ip) ip else ip
