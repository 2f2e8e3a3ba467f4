-- The link types whose records may carry IP (the link-layer header types of libpcap).
use Rattle.std.specs.Prelude.{ℕ, ◌%◌, if◌then◌else◌, List, [], ◌∷◌, Result, Ok, Err}
use Rattle.capture_reader.specs.Format.{format_of, is_link, ordered_number_at}
use Rattle.capture_reader.specs.declared.fault.FormatFault.{FormatFault}
use Rattle.capture_reader.specs.declared.fault.FormatFault.TheVariants as fault
use Rattle.capture_reader.specs.declared.format.Format.{Format}
use Rattle.capture_reader.specs.declared.format.Order.TheVariants.{Big, Little}

-- 0 and 108 begin with an address family, 1 is Ethernet, 9 PPP, 12 and 101 are raw IP, 105 and 127 frames of 802.11, 113
-- and 276 those of the "any" device of Linux, 219 is MPLS, 228 IPv4, 229 IPv6, 239 a packet that Linux's packet filter
-- logged, and 258 a record of macOS with another in it
abbrev pub known_links : List ℕ
known_links = 0 ∷ 1 ∷ 9 ∷ 12 ∷ 101 ∷ 105 ∷ 108 ∷ 113 ∷ 127 ∷ 219 ∷ 228 ∷ 229 ∷ 239 ∷ 258 ∷ 276 ∷ []

-- the four bytes of a file header with its link type, in either byte order
abbrev pub either_link : List ℕ → List ℕ
either_link bytes = ordered_number_at Big 20 4 bytes ∷ ordered_number_at Little 20 4 bytes ∷ []

-- the low 16 bits of it are the link type, which has to be known; the bits above say how long a frame's check sequence is
-- (draft-ietf-opsawg-pcap, section 4)
abbrev pub by_link : Result Format FormatFault → Result Format FormatFault
by_link (Err why) = Err why
by_link (Ok format) =
    if is_link known_links (format.link % 65536) then Ok (record { order = format.order; nanos = format.nanos; link = format.link % 65536 })
    else Err fault.BadLink

-- The file header of a classic capture.
abbrev pub classic_format : List ℕ → Result Format FormatFault
classic_format bytes = by_link (format_of (either_link bytes) bytes)
