-- A packet that Linux's packet filter logged, of link type 239 (the link-layer header types of libpcap): an address family in the first byte,
-- and from the fifth byte on parts in the byte order of the host that captured. Each part has its length, its type and its value, and is filled
-- up to whole words of four.
use Rattle.std.specs.Prelude.{ℕ, zero, suc, ◌+◌, ◌*◌, ◌/◌, ◌==◌, nat_lt, if◌then◌else◌, List, length, slice_index, Option, Some, None}
use Rattle.capture_reader.specs.Format.{ordered_number_at}
use Rattle.capture_reader.specs.declared.format.Order.{Order}
use Rattle.capture_reader.specs.declared.format.Order.TheVariants.{Big, Little}
use Rattle.bridge_links.specs.Starts.{ip_at, start_or}

-- the bytes of the part at a place
abbrev pub part_size : Order → ℕ → List ℕ → ℕ
part_size order place bytes = (ordered_number_at order place 2 bytes + 3) / 4 * 4

-- the place of the value of the first part of type 9, the packet, among this many parts from a place on
unfoldable pub payload_from : ℕ → Order → ℕ → List ℕ → Option ℕ
payload_from zero order place bytes = None
payload_from (suc left) order place bytes =
    if nat_lt (length bytes) (place + 4) then None
    else if ordered_number_at order (place + 2) 2 bytes == 9 then Some (place + 4)
    else payload_from left order (place + part_size order place bytes) bytes

-- the same among the first parts of a record, 32 at most (own)
abbrev pub payload_place : Order → List ℕ → Option ℕ
payload_place order bytes = payload_from 32 order 4 bytes

-- IP begins there, of the version of this address family: 2 is IPv4, and 10 IPv6
abbrev pub ip_of_host_family : ℕ → Option ℕ → List ℕ → Option ℕ
ip_of_host_family family None bytes = None
ip_of_host_family family (Some place) bytes =
    if family == 2 then ip_at 4 place bytes
    else if family == 10 then ip_at 6 place bytes
    else None

-- IP in a logged packet whose parts have this byte order
abbrev pub ip_in_order : Order → List ℕ → Option ℕ
ip_in_order order bytes = ip_of_host_family (slice_index bytes 0) (payload_place order bytes) bytes

-- IP in a logged packet, in the byte order in which there is one.
abbrev pub ip_in_log : List ℕ → Option ℕ
ip_in_log bytes = if nat_lt (length bytes) 4 then None else start_or (ip_in_order Little bytes) (ip_in_order Big bytes)
