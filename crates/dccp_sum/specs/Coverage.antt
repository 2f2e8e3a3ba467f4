-- How much of a packet its checksum covers (RFC 4340, section 9.2).
use Rattle.std.specs.Prelude.{ℕ, ◌+◌, ◌-◌, ◌*◌, ◌%◌, List, length, slice_index, Option, Some, None, nat_le, ◌==◌, if◌then◌else◌}

-- the field CsCov: the low four bits of byte 5 (RFC 4340, section 5.1)
abbrev pub coverage_field : List ℕ → ℕ
coverage_field bytes = slice_index bytes 5 % 16

-- the field Data Offset: byte 4, which counts words of four bytes (RFC 4340, section 5.1)
abbrev pub data_offset_words : List ℕ → ℕ
data_offset_words bytes = slice_index bytes 4

-- the whole packet if CsCov is 0, otherwise the header, the options and the first words of the data
abbrev pub coverage : List ℕ → ℕ
coverage bytes =
    if coverage_field bytes == 0 then length bytes
    else 4 * data_offset_words bytes + 4 * (coverage_field bytes - 1)

-- the same, or none if the packet is shorter
abbrev pub covered : List ℕ → Option ℕ
covered bytes = if nat_le (coverage bytes) (length bytes) then Some (coverage bytes) else None
