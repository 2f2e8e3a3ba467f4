-- Captures that the second tool unwraps: worked bytes of a pcapng file and of the "any" device of Linux, and what is refused in them (own).
use Rattle.std.proofs.Common.{◌≡◌, refl, ℕ, Bool, false, true, List, ◌++◌, take, codes}
use Rattle.std.specs.Prelude.{slice_set}
use Rattle.std.specs.Fmt.{digits}
use Rattle.bridge_links.specs.Links.{ip_of_later_link}
use Rattle.bridge_command.specs.Complaints.{capture_complaint, capture_line, complaint_text}
use Rattle.bridge_command.specs.Unwrapping.{is_unwrapped_faulty, unwrapped_entry, unwrapped_pieces, unwrapped_text}
use Rattle.bridge_records.specs.Recording.{capture_refusal, capture_skips}
use Rattle.bridge_records.specs.Skips.{no_tally}
use Rattle.tests_tool.proofs.rows.RowsSeen.{bytes, refused_after}

-- what `unwrap` writes of an input, what it also reports, and whether it refuses the input
abbrev pub unwrapped : List ℕ → List ℕ × Bool
unwrapped input = (unwrapped_text input ++ complaint_text (capture_complaint (capture_refusal (unwrapped_pieces input))), is_unwrapped_faulty input)

-- The most significant byte first: a section, an interface of Ethernet that counts milliseconds, a block that nobody
-- knows, an interface of raw IP that counts parts of 512 from a second before 1970, a packet of each, and one without a
-- time. Then a section with the least significant byte first, an interface that says nothing of time, and a packet.
abbrev pub blocks : List ℕ
blocks =
    bytes
    (codes "0a0d0d0a000000201a2b3c4d00010000ffffffffffffffff00000000000000200000000100000028000100000004000000020001610000000009000103000000"
    ++ codes "0000000000000028000000050000000c0000000c000000010000002c0065000000000000000e0008ffffffffffffffff0009000189000000000000000000002c"
    ++ codes "00000006000000340000000000000000000005dc0000001200000040020202020202020202020202080045000028000000000034000000060000002400000001"
    ++ codes "00000000000006010000000100000028600000000000002400000003000000200000000f02020202020202020202020286dd6000000000200a0d0d0a1c000000"
    ++ codes "4d3c2b1a01000000ffffffffffffffff1c0000000100000014000000650000000000000014000000060000002400000000000000010000000000000001000000"
    ++ codes "280000004500000024000000")

-- 1.5 seconds; three seconds and a part of 512, less one second; none; and 2^32 microseconds.
abbrev pub records : List ℕ
records =
    bytes
    (codes "a1b2c3d40002000400000000000000000004000000000065000000010007a12000000004000000324500002800000002000007a1000000010000002860000000"
    ++ codes "0000000000000000010000000160000010c6000ec280000000010000002845")

-- All of it; and a section without an interface has only the file header.
blocks_of_two_sections :
    (unwrapped blocks ≡ (records, false))
    × (unwrapped (take 32 blocks) ≡ (take 24 records, false))
unfolding unwrapped_entry ip_of_later_link capture_line digits
blocks_of_two_sections = (refl, refl)

-- Of these, the block that nobody knows, of type 5, is skipped. With another link type of the first interface, 147, so are both of its packets.
skips_of_blocks :
    (capture_skips (unwrapped_pieces blocks) ≡ record { links = no_tally; long = no_tally; blocks = record { count = 1; first = 5 } })
    × ((capture_skips (unwrapped_pieces (slice_set blocks 41 147))).links ≡ record { count = 2; first = 147 })
skips_of_blocks = (refl, refl)

-- the blocks, with another byte at a place
abbrev pub changed : ℕ → ℕ → List ℕ
changed place byte = slice_set blocks place byte

-- The packet of the other interface in a block of the older kind, whose interface has two bytes.
blocks_of_the_older_kind :
    unwrapped (slice_set (slice_set (changed 183 2) 189 1) 191 0) ≡ (records, false)
unfolding unwrapped_entry ip_of_later_link capture_line digits
blocks_of_the_older_kind = refl

-- A place in the blocks, the byte that is there instead, how much is written before it is refused, and the line
-- after that.
refused_blocks :
    (unwrapped (changed 8 0) ≡ refused_after records 0 "capture BadMagic after record 0\n")
    × (unwrapped (changed 13 2) ≡ refused_after records 0 "capture BadVersion after record 0\n")
    × (unwrapped (changed 7 30) ≡ refused_after records 0 "capture BadBlock after record 0\n")
    × (unwrapped (changed 7 24) ≡ refused_after records 0 "capture BadBlock after record 0\n")
    × (unwrapped (changed 5 8) ≡ refused_after records 0 "capture RecordTooLong after record 0\n")
    × (unwrapped (changed 31 36) ≡ refused_after records 0 "capture BadBlock after record 0\n")
    × (unwrapped (changed 83 16) ≡ refused_after records 24 "capture BadBlock after record 0\n")
    × (unwrapped (changed 75 6) ≡ refused_after records 24 "capture BadBlock after record 0\n")
    × (unwrapped (changed 139 2) ≡ refused_after records 24 "capture BadBlock after record 0\n")
    × (unwrapped (changed 151 21) ≡ refused_after records 24 "capture BadBlock after record 0\n")
    × (unwrapped (changed 149 5) ≡ refused_after records 24 "capture BadBlock after record 0\n")
    × (unwrapped (changed 256 0) ≡ refused_after records 78 "capture BadBlock after record 3\n")
    × (unwrapped (changed 260 2) ≡ refused_after records 78 "capture BadVersion after record 3\n")
    × (unwrapped (changed 304 1) ≡ refused_after records 78 "capture BadBlock after record 3\n")
unfolding unwrapped_entry ip_of_later_link capture_line digits
refused_blocks = (refl, refl, refl, refl, refl, refl, refl, refl, refl, refl, refl, refl, refl, refl)

-- Link type 276, the least significant byte first: IPv4 after the header of the device, ARP, IPv6 after a VLAN tag,
-- and a record of no bytes.
abbrev pub of_any_device : List ℕ
of_any_device =
    bytes
    (codes "d4c3b2a1020004000000000000000000ffff0000140100000100000020a10700180000003c000000080000000000000300010006020202020202000045000028"
    ++ codes "02000000000000001600000030000000080600000000000300010006020202020202000000010300000000000000190000001900000081000000000000030001"
    ++ codes "00060202020202020000000786dd6004000000090000000000000005000000")

-- The same records of raw IP, the most significant byte first.
abbrev pub raw : List ℕ
raw =
    bytes
    (codes "a1b2c3d40002000400000000000000000004000000000065000000010007a1200000000400000028450000280000000200000000000000000000000000000003"
    ++ codes "0000000000000001000000016000000004000000090000000000000000")

-- All of it.
records_of_the_any_device :
    unwrapped of_any_device ≡ (raw, false)
unfolding unwrapped_entry ip_of_later_link capture_line digits
records_of_the_any_device = refl

-- How much of the output comes before the line.
captures_that_are_cut :
    (unwrapped (take 0 of_any_device) ≡ refused_after raw 0 "capture CutShort after record 0\n")
    × (unwrapped (take 23 of_any_device) ≡ refused_after raw 0 "capture CutShort after record 0\n")
    × (unwrapped (take 39 of_any_device) ≡ refused_after raw 24 "capture CutShort after record 0\n")
    × (unwrapped (take 63 of_any_device) ≡ refused_after raw 24 "capture CutShort after record 0\n")
    × (unwrapped (take 65 of_any_device) ≡ refused_after raw 44 "capture CutShort after record 1\n")
unfolding unwrapped_entry ip_of_later_link capture_line digits
captures_that_are_cut = (refl, refl, refl, refl, refl)
