-- Versions, times and captured lengths of pcapng files, and where IP begins in a record. The numbers are those of the drafts of pcapng and of
-- libpcap.
use Rattle.std.proofs.Common.{◌≡◌, refl, ℕ, Bool, true, false, List, [], ◌∷◌, ◌++◌, map, codes, Option, None, Some}
use Rattle.capture_reader.specs.declared.format.Order.TheVariants.{Big, Little}
use Rattle.bridge_records.specs.Blocks.{is_passed_over, is_section_version, length_fault}
use Rattle.bridge_records.specs.Interfaces.{needs_nanos, units_of}
use Rattle.bridge_records.specs.Packets.{captured_of}
use Rattle.bridge_records.specs.declared.pieces.fault.PieceFault.TheVariants as why
use Rattle.bridge_links.specs.Extensions.{plain_ip, upper_from, without_extensions}
use Rattle.bridge_links.specs.Links.{ip_start}
use Rattle.bridge_links.specs.Logs.{ip_in_log, payload_from}
use Rattle.tests_tool.proofs.rows.RowsSeen.{bytes}

-- only 1.0 and 1.2, in either byte order
versions_of_sections :
    (is_section_version Big 0 (0 ∷ 1 ∷ 0 ∷ 0 ∷ []) ≡ true)
    × (is_section_version Big 0 (0 ∷ 1 ∷ 0 ∷ 2 ∷ []) ≡ true)
    × (is_section_version Little 0 (1 ∷ 0 ∷ 2 ∷ 0 ∷ []) ≡ true)
    × (is_section_version Big 0 (0 ∷ 1 ∷ 0 ∷ 1 ∷ []) ≡ false)
    × (is_section_version Big 0 (0 ∷ 1 ∷ 0 ∷ 3 ∷ []) ≡ false)
    × (is_section_version Big 0 (0 ∷ 2 ∷ 0 ∷ 0 ∷ []) ≡ false)
versions_of_sections = (refl, refl, refl, refl, refl, refl)

-- A block has 12 bytes at least, whole words of four, and 524,288 at most; a longer block of a packet is skipped, and one of an interface is
-- not.
lengths_of_blocks :
    (length_fault 12 12 ≡ None)
    × (length_fault 12 8 ≡ Some why.BadBlock)
    × (length_fault 12 14 ≡ Some why.BadBlock)
    × (length_fault 12 524288 ≡ None)
    × (length_fault 12 524292 ≡ Some why.TooLong)
    × (map (λ total. is_passed_over (record { kind = 6; total = total; first = 0 })) (524288 ∷ 524290 ∷ 524292 ∷ []) ≡ false ∷ false ∷ true ∷ [])
    × (is_passed_over (record { kind = 1; total = 524292; first = 0 }) ≡ false)
lengths_of_blocks = (refl, refl, refl, refl, refl, refl, refl)

-- Six digits write tenths of up to the sixth power, and halves of up to the sixth; a number of 64 bits has room for 10^19 and 2^63.
units_of_interfaces :
    (map needs_nanos (0 ∷ 6 ∷ 7 ∷ 127 ∷ 128 ∷ 134 ∷ 135 ∷ 255 ∷ []) ≡ false ∷ false ∷ true ∷ true ∷ false ∷ false ∷ true ∷ true ∷ [])
    × (units_of 6 ≡ Some 1000000)
    × (units_of 19 ≡ Some 10000000000000000000)
    × (units_of 20 ≡ None)
    × (units_of 127 ≡ None)
    × (units_of 128 ≡ Some 1)
    × (units_of 191 ≡ Some 9223372036854775808)
    × (units_of 192 ≡ None)
units_of_interfaces = (refl, refl, refl, refl, refl, refl, refl, refl)

-- where no most is said, all is there
captured_lengths :
    (captured_of 0 100 ≡ 100)
    × (captured_of 60 100 ≡ 60)
    × (captured_of 100 60 ≡ 60)
captured_lengths = (refl, refl, refl)

-- The family of a loopback record has the most significant byte first, and that of the null device either.
families_of_loopback :
    (ip_start 108 (0 ∷ 0 ∷ 0 ∷ 2 ∷ 69 ∷ []) ≡ Some 4)
    × (ip_start 108 (2 ∷ 0 ∷ 0 ∷ 0 ∷ 69 ∷ []) ≡ None)
    × (ip_start 0 (0 ∷ 0 ∷ 0 ∷ 2 ∷ 69 ∷ []) ≡ Some 4)
    × (ip_start 0 (2 ∷ 0 ∷ 0 ∷ 0 ∷ 69 ∷ []) ≡ Some 4)
    × (ip_start 108 (0 ∷ 0 ∷ 0 ∷ 30 ∷ 96 ∷ []) ≡ Some 4)
    × (ip_start 108 (0 ∷ 0 ∷ 0 ∷ 30 ∷ 69 ∷ []) ≡ None)
families_of_loopback = (refl, refl, refl, refl, refl, refl)

-- The parts of a logged packet in either byte order: one of five bytes, and that of type 9. A family has its version.
starts_in_logs :
    (ip_in_log (bytes (codes "0200000005000100aa0000000800090045000000")) ≡ Some 16)
    × (ip_in_log (bytes (codes "0a00000000050001aa0000000008000960000000")) ≡ Some 16)
    × (ip_in_log (bytes (codes "0a00000005000100aa0000000800090045000000")) ≡ None)
    × (ip_in_log (bytes (codes "0200000005000100aa0000000800080045000000")) ≡ None)
unfolding payload_from
starts_in_logs = (refl, refl, refl, refl)

-- A packet of 41 bytes, and the same with Hop-by-Hop Options; with a Routing header, type 0, whose one segment is left; and with a length that
-- ends before DCCP.
extensions_are_taken_out :
    (plain_ip (bytes (codes "60000000000900400000000000000000000000000000000100000000000000000000000000000002210000000000000007"))
    ≡ bytes (codes "6000000000012140000000000000000000000000000000010000000000000000000000000000000207"))
    × (plain_ip (bytes (codes "6000000000192b400000000000000000000000000000000100000000000000000000000000000002210200010000000000000000" ++ codes "00000000000000000000000307"))
    ≡ bytes (codes "6000000000012140000000000000000000000000000000010000000000000000000000000000000307"))
    × (plain_ip (bytes (codes "60000000000700400000000000000000000000000000000100000000000000000000000000000002210000000000000007"))
    ≡ bytes (codes "60000000000700400000000000000000000000000000000100000000000000000000000000000002210000000000000007"))
unfolding upper_from without_extensions
extensions_are_taken_out = (refl, refl, refl)
