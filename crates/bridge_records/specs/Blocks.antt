-- The blocks of a pcapng file (draft-ietf-opsawg-pcapng, 3 and 4.1): type, length, body, and the length once more. The first block of a section
-- gives the byte order of all its numbers.
use Rattle.std.specs.Prelude.{ℕ, ◌+◌, ◌-◌, ◌%◌, ◌&&◌, ◌||◌, ◌==◌, not, nat_lt, Bool, if◌then◌else◌, List, length, Option, Some, None}
use Rattle.capture_reader.specs.Format.{ordered_number_at}
use Rattle.capture_reader.specs.declared.format.Order.{Order}
use Rattle.capture_reader.specs.declared.format.Order.TheVariants.{Big, Little}
use Rattle.bridge_records.specs.declared.pieces.fault.PieceFault.{PieceFault}
use Rattle.bridge_records.specs.declared.pieces.fault.PieceFault.TheVariants as why
use Rattle.bridge_records.specs.declared.blocks.BlockHead.{BlockHead}

-- 0a0d0d0a: the first block of a section, a number that is the same in either byte order
abbrev pub section_block : ℕ
section_block = 168627466

-- an interface: its link type, and how it counts time
abbrev pub interface_block : ℕ
interface_block = 1

-- a packet of the first interface, without a time
abbrev pub simple_block : ℕ
simple_block = 3

-- a packet with its interface and time
abbrev pub enhanced_block : ℕ
enhanced_block = 6

-- the older form of it that some wrote: two bytes have the interface, and two count lost packets
abbrev pub packet_block : ℕ
packet_block = 2

-- blocks of these types are read, and all others skipped
abbrev pub is_read_block : ℕ → Bool
is_read_block kind =
    kind == section_block || (kind == interface_block || (kind == packet_block || (kind == simple_block || kind == enhanced_block)))

-- the byte order in which the number 1a2b3c4d follows the first eight bytes
abbrev pub section_order : List ℕ → Option Order
section_order bytes =
    if ordered_number_at Big 8 4 bytes == 439041101 then Some Big
    else if ordered_number_at Little 8 4 bytes == 439041101 then Some Little
    else None

-- the version at a place is 1.0, or 1.2, which some wrote instead
abbrev pub is_section_version : Order → ℕ → List ℕ → Bool
is_section_version order place bytes =
    ordered_number_at order place 2 bytes == 1 && (ordered_number_at order (place + 2) 2 bytes == 0 || ordered_number_at order (place + 2) 2 bytes == 2)

-- what is wrong with the length of a block: it has too few bytes, no whole words of four, or too many bytes
abbrev pub length_fault : ℕ → ℕ → Option PieceFault
length_fault least total =
    if nat_lt total least || not (total % 4 == 0) then Some why.BadBlock
    else if nat_lt 524288 total then Some why.TooLong
    else None

-- blocks of these types say how others are read
abbrev pub is_needed_block : ℕ → Bool
is_needed_block kind = kind == section_block || kind == interface_block

-- any other block is skipped piece by piece if it is longer than a block may be that is read
abbrev pub is_passed_over : BlockHead → Bool
is_passed_over head = nat_lt 524288 head.total && (head.total % 4 == 0 && not (is_needed_block head.kind))

-- the byte order of a block: the first block of a section has its own, and any other that of the section
abbrev pub block_order : Order → List ℕ → Option Order
block_order order bytes = if ordered_number_at order 0 4 bytes == section_block then section_order bytes else Some order

-- what the first twelve bytes of a block say: its type, its length, and a number of its body
abbrev pub block_head : Order → List ℕ → BlockHead
block_head order bytes = record {
  kind = ordered_number_at order 0 4 bytes;
  total = ordered_number_at order 4 4 bytes;
  first = ordered_number_at order 8 4 bytes;
}

-- the length of a block is repeated in its last four bytes
abbrev pub ends_block : Order → ℕ → List ℕ → Bool
ends_block order total bytes = ordered_number_at order (length bytes - 4) 4 bytes == total
