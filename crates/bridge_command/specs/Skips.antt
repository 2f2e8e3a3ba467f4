-- Why an IP packet holds no DCCP packet that can be read (RFC 791, section 3.1; RFC 8200, section 3; the words are
-- own).
use Rattle.std.specs.Prelude.{ℕ, ◌&&◌, ◌==◌, not, nat_lt, if◌then◌else◌, List, length, slice_index, codes, Option, Some, None}
use Rattle.bridge_links.specs.Extensions.{upper_of}
use Rattle.bridge_links.specs.declared.extensions.Upper.{Upper}
use Rattle.packet_show.specs.Network.{is_unfragmented, v4_header, version}
use Rattle.bridge_command.specs.declared.json.skips.Skip.{Skip}
use Rattle.bridge_command.specs.declared.json.skips.Skip.TheVariants as skip

-- the first of these that is wrong with IPv4 in which no DCCP is found: its length, its protocol, that it is a fragment, its options' length,
-- and otherwise that its lengths contradict each other
abbrev pub v4_skip : List ℕ → Skip
v4_skip bytes =
    if nat_lt (length bytes) 20 then skip.ShortHeader
    else if not (slice_index bytes 9 == 33) then skip.NotDccp
    else if not (is_unfragmented bytes) then skip.Fragment
    else if nat_lt (length bytes) (v4_header bytes) then skip.ShortHeader
    else skip.BadHeader

-- the same for IPv6, from the header after the extension headers: DCCP that the packet's length does not reach, a fragment of DCCP (RFC 8200,
-- section 4.5), or another
abbrev pub upper_skip : Upper → List ℕ → Skip
upper_skip upper bytes =
    if upper.kind == 33 then skip.BadHeader
    else if upper.kind == 44 && slice_index bytes upper.place == 33 then skip.Fragment
    else skip.NotDccp

-- the same, depending on whether the extension headers were captured whole
abbrev pub upper_skip_by : Option Upper → List ℕ → Skip
upper_skip_by None bytes = skip.ShortHeader
upper_skip_by (Some upper) bytes = upper_skip upper bytes

-- the same for IPv6: its length, or else what follows its headers
abbrev pub v6_skip : List ℕ → Skip
v6_skip bytes = if nat_lt (length bytes) 40 then skip.ShortHeader else upper_skip_by (upper_of bytes) bytes

-- the same for bytes that may be IP
abbrev pub ip_skip : List ℕ → Skip
ip_skip bytes =
    if nat_lt (length bytes) 1 then skip.NotIp
    else if version bytes == 4 then v4_skip bytes
    else if version bytes == 6 then v6_skip bytes
    else skip.NotIp

-- the word for why
abbrev pub skip_name : Skip → List ℕ
skip_name skip.NotIp = codes "NotIp"
skip_name skip.ShortHeader = codes "ShortHeader"
skip_name skip.BadHeader = codes "BadHeader"
skip_name skip.NotDccp = codes "NotDccp"
skip_name skip.Fragment = codes "Fragment"
skip_name skip.CutShort = codes "CutShort"
