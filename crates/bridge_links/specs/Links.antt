-- Where the IP packet of a captured record begins, by its link type (the link-layer header types of libpcap).
use Rattle.std.specs.Prelude.{◌≡◌, ℕ, ◌+◌, Bool, false, ◌||◌, ◌==◌, not, nat_lt, if◌then◌else◌, List, [], length, drop, Option, Some, None}
use Rattle.byteorder.specs.Endian.{big_number, little_number}
use Rattle.capture_reader.specs.Format.{ordered_number_at}
use Rattle.capture_reader.specs.declared.format.Order.TheVariants.{Little}
use Rattle.dccp_packets.specs.Grammar.{number_at}
use Rattle.bridge_links.specs.EtherTypes.{has_inner_header, ip_after_tags, ip_of_protocol}
use Rattle.bridge_links.specs.Extensions.{is_extended, plain_ip}
use Rattle.bridge_links.specs.Labels.{ip_in_labels}
use Rattle.bridge_links.specs.Logs.{ip_in_log}
use Rattle.bridge_links.specs.Starts.{ip_at, ip_at_either, start_after, start_or}
use Rattle.bridge_links.specs.Wireless.{ip_after_radio, ip_in_wireless}

-- Link types 0 and 108 begin with an address family, 1 is Ethernet, 9 is PPP, 12 and 101 are raw IP, 105 is a frame of 802.11, 113 and 276 are
-- those of the "any" device of Linux, 127 is 802.11 after the radio's header, 219 is MPLS, 228 IPv4, 229 IPv6, 239 a logged packet, and 258 a
-- record of macOS with another in it.

-- IP of either version begins with the record
abbrev pub ip_at_first : List ℕ → Option ℕ
ip_at_first bytes = ip_at_either 0 bytes

-- PPP begins with its protocol, or with an address and a control byte, ff and 03, before it (RFC 1662, section 3.1)
abbrev pub ip_in_ppp : List ℕ → Option ℕ
ip_in_ppp bytes =
    if nat_lt (length bytes) 4 then None
    else if number_at 0 2 bytes == 65283 then ip_of_protocol (number_at 2 2 bytes) 4 bytes
    else ip_of_protocol (number_at 0 2 bytes) 2 bytes

-- the type is at one place of the link's header, and its packet is after the header
abbrev pub ip_by_type : ℕ → ℕ → List ℕ → Option ℕ
ip_by_type place header bytes = if nat_lt (length bytes) header then None else ip_after_tags (number_at place 2 bytes) header bytes

-- the address families of IP: 2 of IPv4, and 10, 24, 28 or 30 of IPv6, by the system that captured
abbrev pub ip_of_family : ℕ → List ℕ → Option ℕ
ip_of_family family bytes =
    if family == 2 then ip_at 4 4 bytes
    else if family == 10 || (family == 24 || (family == 28 || family == 30)) then ip_at 6 4 bytes
    else None

-- the family comes first, with the most significant byte first
abbrev pub ip_in_loop : List ℕ → Option ℕ
ip_in_loop bytes = if nat_lt (length bytes) 4 then None else ip_of_family (big_number 4 bytes) bytes

-- the family comes first, in the byte order of the system that captured
abbrev pub ip_in_null : List ℕ → Option ℕ
ip_in_null bytes =
    if nat_lt (length bytes) 4 then None else start_or (ip_of_family (big_number 4 bytes) bytes) (ip_of_family (little_number 4 bytes) bytes)

-- where the IP packet begins in a record of a link type from 113 on, if it has one
unfoldable pub ip_of_later_link : ℕ → List ℕ → Option ℕ
ip_of_later_link link bytes =
    if link == 113 then ip_by_type 14 16 bytes
    else if link == 127 then ip_after_radio bytes
    else if link == 219 then ip_in_labels 0 bytes
    else if link == 228 then ip_at 4 0 bytes
    else if link == 229 then ip_at 6 0 bytes
    else if link == 239 then ip_in_log bytes
    else if link == 276 then ip_by_type 0 20 bytes
    else None

-- where the IP packet begins in a record of one link, if it has one
abbrev pub ip_of_link : ℕ → List ℕ → Option ℕ
ip_of_link link bytes =
    if link == 0 then ip_in_null bytes
    else if link == 1 then ip_by_type 12 14 bytes
    else if link == 9 then ip_in_ppp bytes
    else if link == 12 || link == 101 then ip_at_first bytes
    else if link == 105 then ip_in_wireless bytes
    else if link == 108 then ip_in_loop bytes
    else ip_of_later_link link bytes

-- a record of macOS has three numbers of four bytes, the less significant first: how many bytes come before the inner record, 1 if there is one,
-- and its link type
abbrev pub outer_bytes : List ℕ → ℕ
outer_bytes bytes = ordered_number_at Little 0 4 bytes

-- where the IP packet begins in the inner record
unfoldable pub ip_in_inner : List ℕ → Option ℕ
ip_in_inner bytes =
    if nat_lt (length bytes) 12 then None
    else if not (ordered_number_at Little 4 4 bytes == 1) || nat_lt (length bytes) (outer_bytes bytes) then None
    else start_after (outer_bytes bytes) (ip_of_link (ordered_number_at Little 8 4 bytes) (drop (outer_bytes bytes) bytes))

-- where the IP packet begins in a record of this link type, if it has one
abbrev pub ip_start : ℕ → List ℕ → Option ℕ
ip_start link bytes = if link == 258 then ip_in_inner bytes else ip_of_link link bytes

-- the IP packet that begins there, or no bytes if there is none
abbrev pub bytes_at_start : Option ℕ → List ℕ → List ℕ
bytes_at_start (Some start) bytes = drop start bytes
bytes_at_start None bytes = []

-- the IP packet in a record of this link type, as it was captured
abbrev pub captured_ip : ℕ → List ℕ → List ℕ
captured_ip link bytes = bytes_at_start (ip_start link bytes) bytes

-- the IP packet in a record of this link type, without the extension headers before DCCP
abbrev pub ip_bytes : ℕ → List ℕ → List ℕ
ip_bytes link bytes = plain_ip (captured_ip link bytes)

-- the IP packet in a record has no extension header
abbrev pub IsUnextended : ℕ → List ℕ → Type 0
IsUnextended link bytes = is_extended (captured_ip link bytes) ≡ false

-- no other header comes between that of Ethernet and IP
abbrev pub IsPlainFrame : List ℕ → Type 0
IsPlainFrame bytes = has_inner_header (number_at 12 2 bytes) ≡ false
