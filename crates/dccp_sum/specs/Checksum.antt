-- The checksum of a packet (RFC 4340, section 9, over RFC 1071).
use Rattle.std.specs.Prelude.{ℕ, ◌-◌, Bool, ◌&&◌, ◌||◌, List, [], ◌∷◌, ◌++◌, length, take, drop, Option, Some, None, Result, Ok, Err, ◌==◌, if◌then◌else◌}
use Rattle.byteorder.specs.Endian.{big_number, big_bytes}
use Rattle.dccp_sum.specs.Words.{word_sum, ones_complement}
use Rattle.dccp_sum.specs.Coverage.{covered}
use Rattle.dccp_sum.specs.declared.pseudo_header.Pseudo.{Pseudo}
use Rattle.dccp_sum.specs.declared.pseudo_header.Pseudo.TheVariants.{V4, V6}
use Rattle.dccp_sum.specs.declared.packet_sum.SumFault.{SumFault}
use Rattle.dccp_sum.specs.declared.packet_sum.SumFault.TheVariants.{CoverageTooLarge, Wrong}

-- the pseudo-header of a packet of that many bytes; DCCP is protocol 33 (RFC 4340, section 9.1; RFC 8200, section 8.1)
abbrev pub pseudo_header : Pseudo → ℕ → List ℕ
pseudo_header (V4 from to) size = from ++ to ++ 0 ∷ 33 ∷ [] ++ big_bytes 2 size
pseudo_header (V6 from to) size = from ++ to ++ big_bytes 4 size ++ 0 ∷ 0 ∷ 0 ∷ 33 ∷ []

-- the addresses of the packets that go back
abbrev pub reversed : Pseudo → Pseudo
reversed (V4 from to) = V4 to from
reversed (V6 from to) = V6 to from

-- the packet with a checksum in its bytes 6 and 7
abbrev pub with_checksum : ℕ → List ℕ → List ℕ
with_checksum sum bytes = take 6 bytes ++ big_bytes 2 sum ++ drop 8 bytes

-- what the checksum is taken over: the pseudo-header with the length of the whole packet, and the covered bytes, the
-- checksum itself taken as zero
abbrev pub summed : Pseudo → List ℕ → ℕ → List ℕ
summed pseudo bytes count = pseudo_header pseudo (length bytes) ++ take count (with_checksum 0 bytes)

-- the complement of the ones' complement sum
abbrev pub checksum : Pseudo → List ℕ → ℕ → ℕ
checksum pseudo bytes count = 65535 - ones_complement (word_sum (summed pseudo bytes count))

-- the checksum that is in the packet
abbrev pub stated : List ℕ → ℕ
stated bytes = big_number 2 (drop 6 bytes)

-- zero has two spellings in ones' complement
abbrev pub is_zero : ℕ → Bool
is_zero sum = sum == 0 || sum == 65535

-- two checksums are one number in ones' complement
abbrev pub same_checksum : ℕ → ℕ → Bool
same_checksum a b = a == b || (is_zero a && is_zero b)

-- the verdict on a packet, by what its checksum covers
abbrev pub checked_over : Pseudo → List ℕ → Option ℕ → Result (Unit {0}) SumFault
checked_over pseudo bytes None = Err CoverageTooLarge
checked_over pseudo bytes (Some count) =
    if same_checksum (stated bytes) (checksum pseudo bytes count) then Ok tt else Err Wrong

-- the verdict on a packet, by the coverage that it states
abbrev pub checked : Pseudo → List ℕ → Result (Unit {0}) SumFault
checked pseudo bytes = checked_over pseudo bytes (covered bytes)

-- the packet with its checksum, or unchanged if the coverage passes its end
abbrev pub sealed_over : Pseudo → List ℕ → Option ℕ → List ℕ
sealed_over pseudo bytes None = bytes
sealed_over pseudo bytes (Some count) = with_checksum (checksum pseudo bytes count) bytes

-- the packet with its checksum, by the coverage that it states
abbrev pub sealed : Pseudo → List ℕ → List ℕ
sealed pseudo bytes = sealed_over pseudo bytes (covered bytes)
