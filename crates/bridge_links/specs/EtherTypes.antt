-- Where IP begins after a type of Ethernet, or a protocol of PPP.
use Rattle.std.specs.Prelude.{ℕ, ◌+◌, Bool, ◌||◌, ◌==◌, not, nat_lt, if◌then◌else◌, List, length, Option, None}
use Rattle.dccp_packets.specs.Grammar.{number_at}
use Rattle.bridge_links.specs.Labels.{ip_in_labels}
use Rattle.bridge_links.specs.Starts.{ip_at}

-- the protocols of PPP for MPLS: 0281, and 0283 to a group (RFC 3032, section 4)
abbrev pub is_label_protocol : ℕ → Bool
is_label_protocol protocol = protocol == 641 || protocol == 643

-- what follows at a place has this protocol of PPP (RFC 1332, section 2; RFC 5072, section 3): 0021 for IPv4, 0057 for
-- IPv6
abbrev pub ip_of_protocol : ℕ → ℕ → List ℕ → Option ℕ
ip_of_protocol protocol next bytes =
    if protocol == 33 then ip_at 4 next bytes
    else if protocol == 87 then ip_at 6 next bytes
    else if is_label_protocol protocol then ip_in_labels next bytes
    else None

-- a header of PPPoE has six bytes, and the protocol of PPP follows (RFC 2516, section 4)
abbrev pub ip_in_session : ℕ → List ℕ → Option ℕ
ip_in_session next bytes = if nat_lt (length bytes) (next + 8) then None else ip_of_protocol (number_at (next + 6) 2 bytes) (next + 8) bytes

-- the types of MPLS: 8847, and 8848 to a group (RFC 3032, section 5)
abbrev pub is_label_type : ℕ → Bool
is_label_type kind = kind == 34887 || kind == 34888

-- what follows at a place has this type: 0800 for IPv4, 86dd for IPv6, 8864 for a session of PPPoE
abbrev pub ip_of_type : ℕ → ℕ → List ℕ → Option ℕ
ip_of_type kind next bytes =
    if kind == 2048 then ip_at 4 next bytes
    else if kind == 34525 then ip_at 6 next bytes
    else if kind == 34916 then ip_in_session next bytes
    else if is_label_type kind then ip_in_labels next bytes
    else None

-- the types of VLAN tags (IEEE 802.1Q): 8100, 88a8, and 9100, which some use for the outer one
abbrev pub is_tag : ℕ → Bool
is_tag kind = kind == 33024 || (kind == 34984 || kind == 37120)

-- what follows a tag has this type: the last two of the tag's four bytes are the next type
abbrev pub ip_after_tag : ℕ → ℕ → List ℕ → Option ℕ
ip_after_tag kind next bytes =
    if not (is_tag kind) then ip_of_type kind next bytes
    else if nat_lt (length bytes) (next + 4) then None
    else ip_of_type (number_at (next + 2) 2 bytes) (next + 4) bytes

-- what follows at a place has this type, after up to two tags
abbrev pub ip_after_tags : ℕ → ℕ → List ℕ → Option ℕ
ip_after_tags kind next bytes =
    if not (is_tag kind) then ip_of_type kind next bytes
    else if nat_lt (length bytes) (next + 4) then None
    else ip_after_tag (number_at (next + 2) 2 bytes) (next + 4) bytes

-- a type after which other headers come before IP: a VLAN tag, PPPoE or MPLS
abbrev pub has_inner_header : ℕ → Bool
has_inner_header kind = is_tag kind || (kind == 34916 || is_label_type kind)
