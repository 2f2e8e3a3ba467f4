-- Checksums of whole packets and of their parts, over IPv4 and IPv6 (RFC 4340, section 9), computed from the definitions. The sums are those of
-- a separate model.
use Rattle.std.specs.Prelude.{◌≡◌, refl, ℕ, Bool, true, false, List, [], ◌∷◌, Option, None, Some, Result, Ok, Err, is_some, slice_range}
use Prim.Native.String.{String}
use Rattle.dccp_sum.specs.Checksum.{checked, checksum, sealed}
use Rattle.dccp_sum.specs.Coverage.{covered}
use Rattle.dccp_sum.specs.Words.{ones_complement}
use Rattle.dccp_sum.specs.declared.packet_sum.SumFault.{SumFault}
use Rattle.dccp_sum.specs.declared.packet_sum.SumFault.TheVariants.{CoverageTooLarge, Wrong}
use Rattle.dccp_sum.specs.declared.pseudo_header.Pseudo.{Pseudo}
use Rattle.dccp_sum.specs.declared.pseudo_header.Pseudo.TheVariants.{V4, V6}
use Rattle.tests_codec.proofs.rows.RowsSeen.{bytes}

-- the ways from 10.0.0.1 to 10.0.0.2 and back, and from 2001:db8::1 to 2001:db8::2
abbrev pub to_server : Pseudo
to_server = V4 (10 ∷ 0 ∷ 0 ∷ 1 ∷ []) (10 ∷ 0 ∷ 0 ∷ 2 ∷ [])

abbrev pub to_client : Pseudo
to_client = V4 (10 ∷ 0 ∷ 0 ∷ 2 ∷ []) (10 ∷ 0 ∷ 0 ∷ 1 ∷ [])

abbrev pub ipv6 : Pseudo
ipv6 = V6 (bytes "20010db8000000000000000000000001") (bytes "20010db8000000000000000000000002")

-- how many bytes of a packet its checksum covers, and that checksum; what the check answers; and whether the packet is sealed, with its
-- bytes 6 and 7 then
abbrev pub covered_sum : Pseudo → List ℕ → Option ℕ → Option (ℕ × ℕ)
covered_sum way packet None = None
covered_sum way packet (Some count) = Some (count, checksum way packet count)

abbrev pub told_of : Pseudo → List ℕ → Option (ℕ × ℕ) × Result (Unit {0}) SumFault × Bool × List ℕ
told_of way packet =
    (covered_sum way packet (covered packet), checked way packet, is_some (covered packet), slice_range (sealed way packet) 6 8)

abbrev pub told : Pseudo → String → Option (ℕ × ℕ) × Result (Unit {0}) SumFault × Bool × List ℕ
told way digits = told_of way (bytes digits)

-- packets by their way and their bytes
sums_of_packets :
    -- The plain handshake, a packet of odd length, and one byte changed
    (told to_server "9c401389050031ec01000000000003e80000002a" ≡ (Some (20, 12780), Ok tt, true, 49 ∷ 236 ∷ []))
    × (told to_server "9c4013890700503609000000000003ea00000000000007d126030000aa" ≡ (Some (29, 20534), Ok tt, true, 80 ∷ 54 ∷ []))
    × (told to_client "13899c400700261403000000000007d000000000000003e80000002a" ≡ (Some (28, 9748), Ok tt, true, 38 ∷ 20 ∷ []))
    × (told to_server "9c401389050031ec01ff0000000003e80000002a" ≡ (Some (20, 12525), Err Wrong, true, 48 ∷ 237 ∷ []))
    -- Over IPv6, and sealed there
    × (told ipv6 "9c401389050031ec01000000000003e80000002a" ≡ (Some (20, 60025), Err Wrong, true, 234 ∷ 121 ∷ []))
    × (told ipv6 "9c4013890500ea7901000000000003e80000002a" ≡ (Some (20, 60025), Ok tt, true, 234 ∷ 121 ∷ []))
    -- All 29 bytes are covered, or only the header, or the header and a word of the data: what is not covered may change, and what is covered
    -- may not
    × (told to_server "9c4013890600000007000000000003e900000000000007d0aabbccddee" ≡ (Some (29, 48545), Err Wrong, true, 189 ∷ 161 ∷ []))
    × (told to_server "9c4013890600bda107000000000003e900000000000007d0aabbccddee" ≡ (Some (29, 48545), Ok tt, true, 189 ∷ 161 ∷ []))
    × (told to_server "9c4013890600bda107000000000003e900000000000007d0aabbccdd00" ≡ (Some (29, 43938), Err Wrong, true, 171 ∷ 162 ∷ []))
    × (told to_server "9c4013890600bda107000000000003e900000000000007d1aabbccddee" ≡ (Some (29, 48544), Err Wrong, true, 189 ∷ 160 ∷ []))
    × (told to_server "9c4013890601000007000000000003e900000000000007d0aabbccddee" ≡ (Some (24, 9019), Err Wrong, true, 35 ∷ 59 ∷ []))
    × (told to_server "9c4013890601233b07000000000003e900000000000007d0aabbccddee" ≡ (Some (24, 9019), Ok tt, true, 35 ∷ 59 ∷ []))
    × (told to_server "9c4013890601233b07000000000003e900000000000007d0aabbccdd00" ≡ (Some (24, 9019), Ok tt, true, 35 ∷ 59 ∷ []))
    × (told to_server "9c4013890601233b07000000000003e900000000000007d1aabbccddee" ≡ (Some (24, 9018), Err Wrong, true, 35 ∷ 58 ∷ []))
    × (told to_server "9c4013890602000007000000000003e900000000000007d0aabbccddee" ≡ (Some (28, 43936), Err Wrong, true, 171 ∷ 160 ∷ []))
    × (told to_server "9c4013890602aba007000000000003e900000000000007d0aabbccddee" ≡ (Some (28, 43936), Ok tt, true, 171 ∷ 160 ∷ []))
    × (told to_server "9c4013890602aba007000000000003e900000000000007d0aabbccdd00" ≡ (Some (28, 43936), Ok tt, true, 171 ∷ 160 ∷ []))
    × (told to_server "9c4013890602aba007000000000003e900000000000007d1aabbccddee" ≡ (Some (28, 43935), Err Wrong, true, 171 ∷ 159 ∷ []))
    -- A coverage past the end, one that ends just there, and one with a word more; the upper half of the byte is CCVal
    × (told to_server "9c4013890503000001000000000003e80000002a01020304050607" ≡ (None, Err CoverageTooLarge, false, 0 ∷ 0 ∷ []))
    × (told to_server "9c401389050131eb01000000000003e80000002a" ≡ (Some (20, 12779), Ok tt, true, 49 ∷ 235 ∷ []))
    × (told to_server "9c401389050231eb01000000000003e80000002a" ≡ (None, Err CoverageTooLarge, false, 49 ∷ 235 ∷ []))
    × (told to_server "9c40138905f131eb01000000000003e80000002a" ≡ (Some (20, 12539), Err Wrong, true, 48 ∷ 251 ∷ []))
    -- All four bits of CsCov count: 4 (n - 1) bytes of data are covered (RFC 4340, section 9.2)
    × (told to_server "0000000005040000000000000000000000000000000000000000000000000000" ≡ (Some (32, 59063), Err Wrong, true, 230 ∷ 183 ∷ []))
    × (told to_server "00000000050400000000000000000000000000000000000000000000000000" ≡ (None, Err CoverageTooLarge, false, 0 ∷ 0 ∷ []))
    × (told to_server "000000000508000000000000000000000000000000000000000000000000000000000000000000000000000000000000" ≡ (Some (48, 59043), Err Wrong, true, 230 ∷ 163 ∷ []))
    × (told to_server "0000000005080000000000000000000000000000000000000000000000000000000000000000000000000000000000" ≡ (None, Err CoverageTooLarge, false, 0 ∷ 0 ∷ []))
    × (told to_server "00000000050900000000000000000000000000000000000000000000000000000000000000000000000000000000000000000000" ≡ (Some (52, 59038), Err Wrong, true, 230 ∷ 158 ∷ []))
    × (told to_server "000000000509000000000000000000000000000000000000000000000000000000000000000000000000000000000000000000" ≡ (None, Err CoverageTooLarge, false, 0 ∷ 0 ∷ []))
    × (told to_server "00000000050f00000000000000000000000000000000000000000000000000000000000000000000000000000000000000000000000000000000000000000000000000000000000000000000" ≡ (Some (76, 59008), Err Wrong, true, 230 ∷ 128 ∷ []))
    × (told to_server "00000000050f000000000000000000000000000000000000000000000000000000000000000000000000000000000000000000000000000000000000000000000000000000000000000000" ≡ (None, Err CoverageTooLarge, false, 0 ∷ 0 ∷ []))
    -- Both spellings of zero are accepted, and 0 is written
    × (told to_server "9c4013890500000001000000000003e800003216" ≡ (Some (20, 0), Ok tt, true, 0 ∷ 0 ∷ []))
    × (told to_server "9c4013890500ffff01000000000003e800003216" ≡ (Some (20, 0), Ok tt, true, 0 ∷ 0 ∷ []))
    × (told to_server "9c4013890500fffe01000000000003e800003216" ≡ (Some (20, 0), Err Wrong, true, 0 ∷ 0 ∷ []))
sums_of_packets = (refl, refl, refl, refl, refl, refl, refl, refl, refl, refl, refl, refl, refl, refl, refl, refl, refl, refl, refl, refl, refl, refl, refl, refl, refl, refl, refl, refl, refl, refl, refl, refl, refl)

-- the words of RFC 1071, section 3, are around the checksum: their sum is ddf2, and with protocol 33 and ten bytes de1d
abbrev pub nowhere : Pseudo
nowhere = V4 (0 ∷ 0 ∷ 0 ∷ 0 ∷ []) (0 ∷ 0 ∷ 0 ∷ 0 ∷ [])

sum_of_rfc_1071 :
    (checksum nowhere (bytes "0001f203f4f5fffff6f7") 10 ≡ 8674)
sum_of_rfc_1071 = refl

-- no sum, the greatest word, and a carry that goes round (RFC 1071, section 1)
ones_complement_of_sums :
    (ones_complement 0 ≡ 0)
    × (ones_complement 1 ≡ 1)
    × (ones_complement 65535 ≡ 65535)
    × (ones_complement 65536 ≡ 1)
ones_complement_of_sums = (refl, refl, refl, refl)
