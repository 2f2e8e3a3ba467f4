-- Packets, their headers and the forms of their numbers (RFC 4340, sections 5 and 7.6), computed from the definitions. The frames are written by
-- hand or are those of worked runs of both ends, whose values come from a separate model.
use Rattle.std.specs.Prelude.{◌≡◌, refl, ℕ, ◌+◌, ◌-◌, Bool, true, false, List, [], ◌∷◌, ◌++◌, length, map, replicate, take, Option, None, Some, Result, Ok, Err}
use Rattle.std.specs.List.{range_with_len}
use Prim.Native.String.{String}
use Rattle.dccp_packets.specs.Forms.{ack_near, in_form, may_be_short, near, number_in_form}
use Rattle.dccp_packets.specs.Grammar.{Parts, decoded, header_length, is_valid, packet_type, padded, spelling}
use Rattle.dccp_packets.specs.Kinds.{ack_of, has_ack, is_data, reset_code, service_of, value_of}
use Rattle.dccp_packets.specs.ResetCodes.{code_of_number, number_of_code}
use Rattle.dccp_packets.specs.declared.header.Header.{Header}
use Rattle.dccp_packets.specs.declared.header.Kind.{Kind}
use Rattle.dccp_packets.specs.declared.header.Kind.TheVariants.{Ack, Close, CloseReq, Data, DataAck, Request, Reset, Response, Sync, SyncAck}
use Rattle.dccp_packets.specs.declared.header.Number.{Number}
use Rattle.dccp_packets.specs.declared.header.Number.TheVariants.{Long, Short}
use Rattle.dccp_packets.specs.declared.header.PacketType.{PacketType}
use Rattle.dccp_packets.specs.declared.header.PacketType.TheVariants as types
use Rattle.dccp_packets.specs.declared.reading.Malformed.{Malformed}
use Rattle.dccp_packets.specs.declared.reading.Malformed.TheVariants as faults
use Rattle.dccp_packets.specs.declared.reset_code.ResetCode.TheVariants as codes
use Rattle.tests_codec.proofs.rows.RowsSeen.{bytes}

abbrev pub reads : String → Result Parts Malformed
reads digits = decoded (bytes digits)

-- what is seen of a packet: its type, the ports, CCVal, CsCov and the checksum; the number; what the type carries, the acknowledgement
-- number, the Service Code and the Reset Code of that; and how many bytes of options and of data there are
abbrev pub Seen : Type 0
Seen = (PacketType × ℕ × ℕ × ℕ × ℕ × ℕ) × Number × Kind × Option ℕ × Option ℕ × ℕ × ℕ × ℕ

abbrev pub fields : Header → PacketType × ℕ × ℕ × ℕ × ℕ × ℕ
fields h = (packet_type h.kind, h.from, h.to, h.ccval, h.cscov, h.checksum)

abbrev pub seen : Parts → Seen
seen p = (
  fields p.header,
  p.header.number,
  p.header.kind,
  ack_of p.header.kind,
  service_of p.header.kind,
  reset_code p.header.kind,
  length p.options,
  length p.payload,
)

abbrev pub told_of : Result Parts Malformed → Option Seen
told_of (Ok p) = Some (seen p)
told_of (Err fault) = None

abbrev pub told : String → Option Seen
told digits = told_of (reads digits)

-- bytes that are no packet, and their first fault
packets_are_refused :
    -- One byte of a Request is another
    (reads "9c401389050031ec15000000000003e80000002a" ≡ Err faults.ReservedType)
    × (reads "9c401389040031ec01000000000003e80000002a" ≡ Err faults.OffsetSmall)
    × (reads "9c401389060031ec01000000000003e80000002a" ≡ Err faults.OffsetLarge)
    × (reads "9c401389050031ec00000000000003e80000002a" ≡ Err faults.ShortNumbers)
    -- Types that have only long numbers, with X = 0: the offset is measured by the long form, and that comes first
    × (reads "9c401389040000000000000100000000" ≡ Err faults.OffsetSmall)
    × (reads "9c40138905000000000000010000000000000000" ≡ Err faults.ShortNumbers)
    × (reads "9c4013890600000002000001000000000000000000000000" ≡ Err faults.OffsetSmall)
    × (reads "9c401389070000000200000100000000000000000000000000000000" ≡ Err faults.ShortNumbers)
    × (reads "9c401389050000000a0000010000000000000000" ≡ Err faults.OffsetSmall)
    × (reads "9c401389060000000a000001000000000000000000000000" ≡ Err faults.ShortNumbers)
    × (reads "9c401389050000000c0000010000000000000000" ≡ Err faults.OffsetSmall)
    × (reads "9c401389060000000c000001000000000000000000000000" ≡ Err faults.ShortNumbers)
    × (reads "9c401389060000000e000001000000000000000000000000" ≡ Err faults.OffsetSmall)
    × (reads "9c401389070000000e00000100000000000000000000000000000000" ≡ Err faults.ShortNumbers)
    × (reads "9c40138905000000100000010000000000000000" ≡ Err faults.OffsetSmall)
    × (reads "9c4013890600000010000001000000000000000000000000" ≡ Err faults.ShortNumbers)
    × (reads "9c40138905000000120000010000000000000000" ≡ Err faults.OffsetSmall)
    × (reads "9c4013890600000012000001000000000000000000000000" ≡ Err faults.ShortNumbers)
    -- A Data of the short form is measured by that
    × (reads "9c4013890200000004000001" ≡ Err faults.OffsetSmall)
    -- An offset that is both too small and beyond the end is too small, and one beyond the end comes before the form of the numbers
    × (reads "9c4013890400000000000001" ≡ Err faults.OffsetSmall)
    × (reads "9c40138906000000000000010000000000000000" ≡ Err faults.OffsetLarge)
packets_are_refused = (refl, refl, refl, refl, refl, refl, refl, refl, refl, refl, refl, refl, refl, refl, refl, refl, refl, refl, refl, refl, refl)

-- packets as they are read
packets_are_read :
    -- Frames of worked runs of both ends, and a CloseReq, a short Data and a short DataAck written by hand: every type in every form
    (told "9c401389050031ec01000000000003e80000002a" ≡ Some ((types.Request, 40000, 5001, 0, 0, 12780), Long 1000, Request 42, None, Some 42, 0, 0, 0))
    × (told "13899c400700261403000000000007d000000000000003e80000002a" ≡ Some ((types.Response, 5001, 40000, 0, 0, 9748), Long 2000, Response 1000 42, Some 1000, Some 42, 0, 0, 0))
    × (told "9c4013890600234107000000000003e900000000000007d0" ≡ Some ((types.Ack, 40000, 5001, 0, 0, 9025), Long 1001, Ack (Long 2000), Some 2000, None, 0, 0, 0))
    × (told "13899c400600234007000000000007d100000000000003e9" ≡ Some ((types.Ack, 5001, 40000, 0, 0, 9024), Long 2001, Ack (Long 1001), Some 1001, None, 0, 0, 0))
    × (told "9c401389050035d50100fffffffffffe0000002a" ≡ Some ((types.Request, 40000, 5001, 0, 0, 13781), Long 281474976710654, Request 42, None, Some 42, 0, 0, 0))
    × (told "13899c40070029fd03000000000007d00000fffffffffffe0000002a" ≡ Some ((types.Response, 5001, 40000, 0, 0, 10749), Long 2000, Response 281474976710654 42, Some 281474976710654, Some 42, 0, 0, 0))
    × (told "9c4013890600272a0700ffffffffffff00000000000007d0" ≡ Some ((types.Ack, 40000, 5001, 0, 0, 10026), Long 281474976710655, Ack (Long 2000), Some 2000, None, 0, 0, 0))
    × (told "13899c400600272907000000000007d10000ffffffffffff" ≡ Some ((types.Ack, 5001, 40000, 0, 0, 10025), Long 2001, Ack (Long 281474976710655), Some 281474976710655, None, 0, 0, 0))
    × (told "9c40138906002729070000000000000000000000000007d1" ≡ Some ((types.Ack, 40000, 5001, 0, 0, 10025), Long 0, Ack (Long 2001), Some 2001, None, 0, 0, 0))
    × (told "9c401389050031eb01000000000003e90000002a" ≡ Some ((types.Request, 40000, 5001, 0, 0, 12779), Long 1001, Request 42, None, Some 42, 0, 0, 0))
    × (told "13899c400700261303000000000007d000000000000003e90000002a" ≡ Some ((types.Response, 5001, 40000, 0, 0, 9747), Long 2000, Response 1001 42, Some 1001, Some 42, 0, 0, 0))
    × (told "13899c400600194111000000000007d100000000000003e8" ≡ Some ((types.Sync, 5001, 40000, 0, 0, 6465), Long 2001, Sync 1000, Some 1000, None, 0, 0, 0))
    × (told "13899c400400000005000000000007d0" ≡ Some ((types.Data, 5001, 40000, 0, 0, 0), Long 2000, Data, None, None, 0, 0, 0))
    × (told "9c4013890700163b0f000000000003e900000000000007d004020000" ≡ Some ((types.Reset, 40000, 5001, 0, 0, 5691), Long 1001, Reset 2000 4 (2 ∷ 0 ∷ 0 ∷ []), Some 2000, None, 4, 0, 0))
    × (told "9c401389070016dc01000000000003e80000002a20050102f8000000" ≡ Some ((types.Request, 40000, 5001, 0, 0, 5852), Long 1000, Request 42, None, Some 42, 0, 8, 0))
    × (told "13899c400900070b03000000000007d000000000000003e80000002a230601f8f8020000" ≡ Some ((types.Response, 5001, 40000, 0, 0, 1803), Long 2000, Response 1000 42, Some 1000, Some 42, 0, 8, 0))
    × (told "9c401389070029bc01000000000003e80000002a0122040601000000" ≡ Some ((types.Request, 40000, 5001, 0, 0, 10684), Long 1000, Request 42, None, Some 42, 0, 8, 0))
    × (told "13899c4007000e1b0f000000000007d000000000000003e806220601" ≡ Some ((types.Reset, 5001, 40000, 0, 0, 3611), Long 2000, Reset 1000 6 (34 ∷ 6 ∷ 1 ∷ []), Some 1000, None, 6, 0, 0))
    × (told "9c4013890800000001000000000003e80000002a20090300000000001f000000" ≡ Some ((types.Request, 40000, 5001, 0, 0, 0), Long 1000, Request 42, None, Some 42, 0, 12, 0))
    × (told "13899c400800ff0c03000000000007d000000000000003e80000002a23030300" ≡ Some ((types.Response, 5001, 40000, 0, 0, 65292), Long 2000, Response 1000 42, Some 1000, Some 42, 0, 4, 0))
    × (told "9c401389080000b601000000000003e80000002a012004040101220406010000" ≡ Some ((types.Request, 40000, 5001, 0, 0, 182), Long 1000, Request 42, None, Some 42, 0, 12, 0))
    × (told "13899c400d00a1c303000000000007d000000000000003e80000002a230604010100210606010100012004040101220406010000" ≡ Some ((types.Response, 5001, 40000, 0, 0, 41411), Long 2000, Response 1000 42, Some 1000, Some 42, 0, 24, 0))
    × (told "9c4013890a00eadd07000000000003e900000000000007d026030023060401010021060601010000" ≡ Some ((types.Ack, 40000, 5001, 0, 0, 60125), Long 1001, Ack (Long 2000), Some 2000, None, 0, 16, 0))
    × (told "13899c400700fb3807000000000007d100000000000003e926030100" ≡ Some ((types.Ack, 5001, 40000, 0, 0, 64312), Long 2001, Ack (Long 1001), Some 1001, None, 0, 4, 0))
    × (told "9c4013890700503609000000000003ea00000000000007d126030000aa" ≡ Some ((types.DataAck, 40000, 5001, 0, 0, 20534), Long 1002, DataAck (Long 2001), Some 2001, None, 0, 4, 1))
    × (told "13899c400800fa6e07000000000007d200000000000003ec260500c000000000" ≡ Some ((types.Ack, 5001, 40000, 0, 0, 64110), Long 2002, Ack (Long 1004), Some 1004, None, 0, 8, 0))
    × (told "13899c400700fc3207000000000007d300000000000003ed26030000" ≡ Some ((types.Ack, 5001, 40000, 0, 0, 64562), Long 2003, Ack (Long 1005), Some 1005, None, 0, 4, 0))
    × (told "9c4013890600000001000000000003e80000002a00000001" ≡ Some ((types.Request, 40000, 5001, 0, 0, 0), Long 1000, Request 42, None, Some 42, 0, 4, 0))
    × (told "13899c400700153d0f000000000007d000000000000003e805010000" ≡ Some ((types.Reset, 5001, 40000, 0, 0, 5437), Long 2000, Reset 1000 5 (1 ∷ 0 ∷ 0 ∷ []), Some 1000, None, 5, 0, 0))
    × (told "9c4013890503000001000000000003e80000002a01020304050607" ≡ Some ((types.Request, 40000, 5001, 0, 3, 0), Long 1000, Request 42, None, Some 42, 0, 0, 7))
    × (told "9c40138906001d3f0d000000000003ea00000000000007d1" ≡ Some ((types.Close, 40000, 5001, 0, 0, 7487), Long 1002, Close 2001, Some 2001, None, 0, 0, 0))
    × (told "13899c400700193a0f000000000007d200000000000003ea01000000" ≡ Some ((types.Reset, 5001, 40000, 0, 0, 6458), Long 2002, Reset 1002 1 (0 ∷ 0 ∷ 0 ∷ []), Some 1002, None, 1, 0, 0))
    × (told "9c40138904002647060003ea000007d1" ≡ Some ((types.Ack, 40000, 5001, 0, 0, 9799), Short 1002, Ack (Short 2001), Some 2001, None, 0, 0, 0))
    × (told "13899c400600173e13000000000007d200000000000003ea" ≡ Some ((types.SyncAck, 5001, 40000, 0, 0, 5950), Long 2002, SyncAck 1002, Some 1002, None, 0, 0, 0))
    × (told "13899c4006001f3c0b000000000007d300000000000003eb" ≡ Some ((types.CloseReq, 5001, 40000, 0, 0, 7996), Long 2003, CloseReq 1003, Some 1003, None, 0, 0, 0))
    × (told "13899c4003308b4e040007d3a1b2" ≡ Some ((types.Data, 5001, 40000, 3, 0, 35662), Short 2003, Data, None, None, 0, 0, 2))
    × (told "9c4013890500f937080003eb000007d326030000010203" ≡ Some ((types.DataAck, 40000, 5001, 0, 0, 63799), Short 1003, DataAck (Short 2003), Some 2003, None, 0, 4, 3))
    -- A Reset Code without a name, and reserved bits before the type and after it
    × (told "13899c400700193a0f000000000007d200000000000003eac8000000" ≡ Some ((types.Reset, 5001, 40000, 0, 0, 6458), Long 2002, Reset 1002 200 (0 ∷ 0 ∷ 0 ∷ []), Some 1002, None, 200, 0, 0))
    × (told "13899c4004000000e5000000000007d0" ≡ Some ((types.Data, 5001, 40000, 0, 0, 0), Long 2000, Data, None, None, 0, 0, 0))
    × (told "9c40138904000000e80003ea000007d1" ≡ Some ((types.DataAck, 40000, 5001, 0, 0, 0), Short 1002, DataAck (Short 2001), Some 2001, None, 0, 0, 0))
    × (told "9c401389050031ec01ff0000000003e80000002a" ≡ Some ((types.Request, 40000, 5001, 0, 0, 12780), Long 1000, Request 42, None, Some 42, 0, 0, 0))
    -- The three bytes of a Reset before data, and both halves of byte 5 full
    × (told "13899c400700193a0f000000000007d200000000000003eac8010203aabb" ≡ Some ((types.Reset, 5001, 40000, 0, 0, 6458), Long 2002, Reset 1002 200 (1 ∷ 2 ∷ 3 ∷ []), Some 1002, None, 200, 0, 2))
    × (told "13899c4003ff8b4e040007d3" ≡ Some ((types.Data, 5001, 40000, 15, 15, 35662), Short 2003, Data, None, None, 0, 0, 0))
packets_are_read = (refl, refl, refl, refl, refl, refl, refl, refl, refl, refl, refl, refl, refl, refl, refl, refl, refl, refl, refl, refl, refl, refl, refl, refl, refl, refl, refl, refl, refl, refl, refl, refl, refl, refl, refl, refl, refl, refl, refl, refl, refl, refl, refl)

-- a packet that was read, as it is written
abbrev pub spelled : Result Parts Malformed → List ℕ
spelled (Ok p) = spelling p.header p.options p.payload
spelled (Err fault) = []

abbrev pub again : String → List ℕ
again digits = spelled (reads digits)

-- each of them is written as it was read, except for reserved bits, which are written as zeros
packets_are_written_again :
    (again "9c401389050031ec01000000000003e80000002a" ≡ bytes "9c401389050031ec01000000000003e80000002a")
    × (again "13899c400700261403000000000007d000000000000003e80000002a" ≡ bytes "13899c400700261403000000000007d000000000000003e80000002a")
    × (again "9c4013890600234107000000000003e900000000000007d0" ≡ bytes "9c4013890600234107000000000003e900000000000007d0")
    × (again "13899c400600234007000000000007d100000000000003e9" ≡ bytes "13899c400600234007000000000007d100000000000003e9")
    × (again "9c401389050035d50100fffffffffffe0000002a" ≡ bytes "9c401389050035d50100fffffffffffe0000002a")
    × (again "13899c40070029fd03000000000007d00000fffffffffffe0000002a" ≡ bytes "13899c40070029fd03000000000007d00000fffffffffffe0000002a")
    × (again "9c4013890600272a0700ffffffffffff00000000000007d0" ≡ bytes "9c4013890600272a0700ffffffffffff00000000000007d0")
    × (again "13899c400600272907000000000007d10000ffffffffffff" ≡ bytes "13899c400600272907000000000007d10000ffffffffffff")
    × (again "9c40138906002729070000000000000000000000000007d1" ≡ bytes "9c40138906002729070000000000000000000000000007d1")
    × (again "9c401389050031eb01000000000003e90000002a" ≡ bytes "9c401389050031eb01000000000003e90000002a")
    × (again "13899c400700261303000000000007d000000000000003e90000002a" ≡ bytes "13899c400700261303000000000007d000000000000003e90000002a")
    × (again "13899c400600194111000000000007d100000000000003e8" ≡ bytes "13899c400600194111000000000007d100000000000003e8")
    × (again "13899c400400000005000000000007d0" ≡ bytes "13899c400400000005000000000007d0")
    × (again "9c4013890700163b0f000000000003e900000000000007d004020000" ≡ bytes "9c4013890700163b0f000000000003e900000000000007d004020000")
    × (again "9c401389070016dc01000000000003e80000002a20050102f8000000" ≡ bytes "9c401389070016dc01000000000003e80000002a20050102f8000000")
    × (again "13899c400900070b03000000000007d000000000000003e80000002a230601f8f8020000" ≡ bytes "13899c400900070b03000000000007d000000000000003e80000002a230601f8f8020000")
    × (again "9c401389070029bc01000000000003e80000002a0122040601000000" ≡ bytes "9c401389070029bc01000000000003e80000002a0122040601000000")
    × (again "13899c4007000e1b0f000000000007d000000000000003e806220601" ≡ bytes "13899c4007000e1b0f000000000007d000000000000003e806220601")
    × (again "9c4013890800000001000000000003e80000002a20090300000000001f000000" ≡ bytes "9c4013890800000001000000000003e80000002a20090300000000001f000000")
    × (again "13899c400800ff0c03000000000007d000000000000003e80000002a23030300" ≡ bytes "13899c400800ff0c03000000000007d000000000000003e80000002a23030300")
    × (again "9c401389080000b601000000000003e80000002a012004040101220406010000" ≡ bytes "9c401389080000b601000000000003e80000002a012004040101220406010000")
    × (again "13899c400d00a1c303000000000007d000000000000003e80000002a230604010100210606010100012004040101220406010000" ≡ bytes "13899c400d00a1c303000000000007d000000000000003e80000002a230604010100210606010100012004040101220406010000")
    × (again "9c4013890a00eadd07000000000003e900000000000007d026030023060401010021060601010000" ≡ bytes "9c4013890a00eadd07000000000003e900000000000007d026030023060401010021060601010000")
    × (again "13899c400700fb3807000000000007d100000000000003e926030100" ≡ bytes "13899c400700fb3807000000000007d100000000000003e926030100")
    × (again "9c4013890700503609000000000003ea00000000000007d126030000aa" ≡ bytes "9c4013890700503609000000000003ea00000000000007d126030000aa")
    × (again "13899c400800fa6e07000000000007d200000000000003ec260500c000000000" ≡ bytes "13899c400800fa6e07000000000007d200000000000003ec260500c000000000")
    × (again "13899c400700fc3207000000000007d300000000000003ed26030000" ≡ bytes "13899c400700fc3207000000000007d300000000000003ed26030000")
    × (again "9c4013890600000001000000000003e80000002a00000001" ≡ bytes "9c4013890600000001000000000003e80000002a00000001")
    × (again "13899c400700153d0f000000000007d000000000000003e805010000" ≡ bytes "13899c400700153d0f000000000007d000000000000003e805010000")
    × (again "9c4013890503000001000000000003e80000002a01020304050607" ≡ bytes "9c4013890503000001000000000003e80000002a01020304050607")
    × (again "9c40138906001d3f0d000000000003ea00000000000007d1" ≡ bytes "9c40138906001d3f0d000000000003ea00000000000007d1")
    × (again "13899c400700193a0f000000000007d200000000000003ea01000000" ≡ bytes "13899c400700193a0f000000000007d200000000000003ea01000000")
    × (again "9c40138904002647060003ea000007d1" ≡ bytes "9c40138904002647060003ea000007d1")
    × (again "13899c400600173e13000000000007d200000000000003ea" ≡ bytes "13899c400600173e13000000000007d200000000000003ea")
    × (again "13899c4006001f3c0b000000000007d300000000000003eb" ≡ bytes "13899c4006001f3c0b000000000007d300000000000003eb")
    × (again "13899c4003308b4e040007d3a1b2" ≡ bytes "13899c4003308b4e040007d3a1b2")
    × (again "9c4013890500f937080003eb000007d326030000010203" ≡ bytes "9c4013890500f937080003eb000007d326030000010203")
    × (again "13899c400700193a0f000000000007d200000000000003eac8000000" ≡ bytes "13899c400700193a0f000000000007d200000000000003eac8000000")
    × (again "13899c4004000000e5000000000007d0" ≡ bytes "13899c400400000005000000000007d0")
    × (again "9c40138904000000e80003ea000007d1" ≡ bytes "9c40138904000000080003ea000007d1")
    × (again "9c401389050031ec01ff0000000003e80000002a" ≡ bytes "9c401389050031ec01000000000003e80000002a")
    × (again "13899c400700193a0f000000000007d200000000000003eac8010203aabb" ≡ bytes "13899c400700193a0f000000000007d200000000000003eac8010203aabb")
    × (again "13899c4003ff8b4e040007d3" ≡ bytes "13899c4003ff8b4e040007d3")
packets_are_written_again = (refl, refl, refl, refl, refl, refl, refl, refl, refl, refl, refl, refl, refl, refl, refl, refl, refl, refl, refl, refl, refl, refl, refl, refl, refl, refl, refl, refl, refl, refl, refl, refl, refl, refl, refl, refl, refl, refl, refl, refl, refl, refl, refl)

-- the fault of each prefix of the bytes, from the empty one to the whole
abbrev pub fault_of : Result Parts Malformed → Option Malformed
fault_of (Ok p) = None
fault_of (Err fault) = Some fault

abbrev pub fronts : String → List (Option Malformed)
fronts digits = map (λ count. fault_of (decoded (take count (bytes digits)))) (range_with_len 0 (length (bytes digits) + 1))

-- below 12 bytes a packet is too short, then its offset lies beyond its end, and from the offset on it is a packet
abbrev pub cut : ℕ → ℕ → List (Option Malformed)
cut offset following =
    replicate 12 (Some faults.Short) ++ (replicate (offset - 12) (Some faults.OffsetLarge) ++ replicate (following + 1) None)

-- the same packets cut off anywhere, by where their options end and how many bytes of data follow
packets_are_cut :
    (fronts "9c401389050031ec01000000000003e80000002a" ≡ cut 20 0)
    × (fronts "13899c400700261403000000000007d000000000000003e80000002a" ≡ cut 28 0)
    × (fronts "9c4013890600234107000000000003e900000000000007d0" ≡ cut 24 0)
    × (fronts "13899c400600234007000000000007d100000000000003e9" ≡ cut 24 0)
    × (fronts "9c401389050035d50100fffffffffffe0000002a" ≡ cut 20 0)
    × (fronts "13899c40070029fd03000000000007d00000fffffffffffe0000002a" ≡ cut 28 0)
    × (fronts "9c4013890600272a0700ffffffffffff00000000000007d0" ≡ cut 24 0)
    × (fronts "13899c400600272907000000000007d10000ffffffffffff" ≡ cut 24 0)
    × (fronts "9c40138906002729070000000000000000000000000007d1" ≡ cut 24 0)
    × (fronts "9c401389050031eb01000000000003e90000002a" ≡ cut 20 0)
    × (fronts "13899c400700261303000000000007d000000000000003e90000002a" ≡ cut 28 0)
    × (fronts "13899c400600194111000000000007d100000000000003e8" ≡ cut 24 0)
    × (fronts "13899c400400000005000000000007d0" ≡ cut 16 0)
    × (fronts "9c4013890700163b0f000000000003e900000000000007d004020000" ≡ cut 28 0)
    × (fronts "9c401389070016dc01000000000003e80000002a20050102f8000000" ≡ cut 28 0)
    × (fronts "13899c400900070b03000000000007d000000000000003e80000002a230601f8f8020000" ≡ cut 36 0)
    × (fronts "9c401389070029bc01000000000003e80000002a0122040601000000" ≡ cut 28 0)
    × (fronts "13899c4007000e1b0f000000000007d000000000000003e806220601" ≡ cut 28 0)
    × (fronts "9c4013890800000001000000000003e80000002a20090300000000001f000000" ≡ cut 32 0)
    × (fronts "13899c400800ff0c03000000000007d000000000000003e80000002a23030300" ≡ cut 32 0)
    × (fronts "9c401389080000b601000000000003e80000002a012004040101220406010000" ≡ cut 32 0)
    × (fronts "13899c400d00a1c303000000000007d000000000000003e80000002a230604010100210606010100012004040101220406010000" ≡ cut 52 0)
    × (fronts "9c4013890a00eadd07000000000003e900000000000007d026030023060401010021060601010000" ≡ cut 40 0)
    × (fronts "13899c400700fb3807000000000007d100000000000003e926030100" ≡ cut 28 0)
    × (fronts "9c4013890700503609000000000003ea00000000000007d126030000aa" ≡ cut 28 1)
    × (fronts "13899c400800fa6e07000000000007d200000000000003ec260500c000000000" ≡ cut 32 0)
    × (fronts "13899c400700fc3207000000000007d300000000000003ed26030000" ≡ cut 28 0)
    × (fronts "9c4013890600000001000000000003e80000002a00000001" ≡ cut 24 0)
    × (fronts "13899c400700153d0f000000000007d000000000000003e805010000" ≡ cut 28 0)
    × (fronts "9c4013890503000001000000000003e80000002a01020304050607" ≡ cut 20 7)
    × (fronts "9c40138906001d3f0d000000000003ea00000000000007d1" ≡ cut 24 0)
    × (fronts "13899c400700193a0f000000000007d200000000000003ea01000000" ≡ cut 28 0)
    × (fronts "9c40138904002647060003ea000007d1" ≡ cut 16 0)
    × (fronts "13899c400600173e13000000000007d200000000000003ea" ≡ cut 24 0)
    × (fronts "13899c4006001f3c0b000000000007d300000000000003eb" ≡ cut 24 0)
    × (fronts "13899c4003308b4e040007d3a1b2" ≡ cut 12 2)
    × (fronts "9c4013890500f937080003eb000007d326030000010203" ≡ cut 20 3)
    × (fronts "13899c400700193a0f000000000007d200000000000003eac8000000" ≡ cut 28 0)
    × (fronts "13899c4004000000e5000000000007d0" ≡ cut 16 0)
    × (fronts "9c40138904000000e80003ea000007d1" ≡ cut 16 0)
    × (fronts "9c401389050031ec01ff0000000003e80000002a" ≡ cut 20 0)
    × (fronts "13899c400700193a0f000000000007d200000000000003eac8010203aabb" ≡ cut 28 2)
    × (fronts "13899c4003ff8b4e040007d3" ≡ cut 12 0)
packets_are_cut = (refl, refl, refl, refl, refl, refl, refl, refl, refl, refl, refl, refl, refl, refl, refl, refl, refl, refl, refl, refl, refl, refl, refl, refl, refl, refl, refl, refl, refl, refl, refl, refl, refl, refl, refl, refl, refl, refl, refl, refl, refl, refl, refl)

-- the types in the order of their codes
abbrev pub all_types : List PacketType
all_types =
    types.Request ∷ types.Response ∷ types.Data ∷ types.Ack ∷ types.DataAck ∷ types.CloseReq ∷ types.Close ∷ types.Reset ∷ types.Sync
    ∷ types.SyncAck ∷ []

-- which types have an acknowledgement number, carry only data, and may be short (section 5.1)
types_say_what_they_carry :
    (map (λ t. has_ack t) all_types ≡ false ∷ true ∷ false ∷ true ∷ true ∷ true ∷ true ∷ true ∷ true ∷ true ∷ [])
    × (map (λ t. is_data t) all_types ≡ false ∷ false ∷ true ∷ false ∷ false ∷ false ∷ false ∷ false ∷ false ∷ false ∷ [])
    × (map (λ t. may_be_short t) all_types ≡ false ∷ false ∷ true ∷ true ∷ true ∷ false ∷ false ∷ false ∷ false ∷ false ∷ [])
types_say_what_they_carry = (refl, refl, refl)

-- the header of a Request, with these fields of four bits
abbrev pub request_header : Header
request_header = record {
  from = 40000;
  to = 5001;
  ccval = 0;
  cscov = 0;
  checksum = 12780;
  number = Long 1000;
  kind = Request 42;
}

abbrev pub with_fields : ℕ → ℕ → Header
with_fields ccval cscov = record request_header { ccval = ccval; cscov = cscov }

-- what fits four bits
fields_of_four_bits :
    (is_valid (with_fields 15 15) ≡ true)
    × (is_valid (with_fields 16 0) ≡ false)
    × (is_valid (with_fields 0 16) ≡ false)
fields_of_four_bits = (refl, refl, refl)

-- the header with a number and what its type carries
abbrev pub with_kind : Number → Kind → Header
with_kind number kind = record request_header { number = number; kind = kind }

-- an acknowledgement has the form of the sequence number, and the other types except Data have only the long form (section 5.1)
forms_of_the_types :
    (is_valid (with_kind (Long 1) (Ack (Long 2))) ≡ true)
    × (is_valid (with_kind (Long 1) (Ack (Short 2))) ≡ false)
    × (is_valid (with_kind (Short 1) (Ack (Long 2))) ≡ false)
    × (is_valid (with_kind (Short 1) (Ack (Short 2))) ≡ true)
    × (is_valid (with_kind (Long 1) (DataAck (Long 2))) ≡ true)
    × (is_valid (with_kind (Long 1) (DataAck (Short 2))) ≡ false)
    × (is_valid (with_kind (Short 1) (DataAck (Long 2))) ≡ false)
    × (is_valid (with_kind (Short 1) (DataAck (Short 2))) ≡ true)
    × (is_valid (with_kind (Long 1) Data) ≡ true)
    × (is_valid (with_kind (Short 1) Data) ≡ true)
    × (is_valid (with_kind (Short 1) (Request 42)) ≡ false)
    × (is_valid (with_kind (Short 1) (Sync 2)) ≡ false)
forms_of_the_types = (refl, refl, refl, refl, refl, refl, refl, refl, refl, refl, refl, refl)

-- the Reset Codes of section 5.6, and numbers without a name
reset_codes_by_number :
    (number_of_code codes.Unspecified ≡ 0)
    × (code_of_number 0 ≡ Some codes.Unspecified)
    × (number_of_code codes.Closed ≡ 1)
    × (code_of_number 1 ≡ Some codes.Closed)
    × (number_of_code codes.Aborted ≡ 2)
    × (code_of_number 2 ≡ Some codes.Aborted)
    × (number_of_code codes.NoConnection ≡ 3)
    × (code_of_number 3 ≡ Some codes.NoConnection)
    × (number_of_code codes.PacketError ≡ 4)
    × (code_of_number 4 ≡ Some codes.PacketError)
    × (number_of_code codes.OptionError ≡ 5)
    × (code_of_number 5 ≡ Some codes.OptionError)
    × (number_of_code codes.MandatoryError ≡ 6)
    × (code_of_number 6 ≡ Some codes.MandatoryError)
    × (number_of_code codes.ConnectionRefused ≡ 7)
    × (code_of_number 7 ≡ Some codes.ConnectionRefused)
    × (number_of_code codes.BadServiceCode ≡ 8)
    × (code_of_number 8 ≡ Some codes.BadServiceCode)
    × (number_of_code codes.TooBusy ≡ 9)
    × (code_of_number 9 ≡ Some codes.TooBusy)
    × (number_of_code codes.BadInitCookie ≡ 10)
    × (code_of_number 10 ≡ Some codes.BadInitCookie)
    × (number_of_code codes.AggressionPenalty ≡ 11)
    × (code_of_number 11 ≡ Some codes.AggressionPenalty)
    × (code_of_number 12 ≡ None)
    × (code_of_number 255 ≡ None)
reset_codes_by_number = (refl, refl, refl, refl, refl, refl, refl, refl, refl, refl, refl, refl, refl, refl, refl, refl, refl, refl, refl, refl, refl, refl, refl, refl, refl, refl)

-- whether the type may have the short form, the acknowledgement number in that form and in the long one, and what the short one means
-- near a number
abbrev pub forms : Kind → ℕ → Bool × Option ℕ × Option ℕ × Option ℕ
forms kind reference =
    (may_be_short (packet_type kind), ack_of (in_form true kind), ack_of (in_form false kind), ack_near reference (in_form true kind))

-- up to half a turn of the short form away, and 2^40 away
numbers_in_a_form :
    (forms (Ack (Long 1108160546054)) 1108160546055 ≡ (true, Some 8652038, Some 1108160546054, Some 1108160546054))
    × (forms (Ack (Long 1108160546054)) 1108168934661 ≡ (true, Some 8652038, Some 1108160546054, Some 1108160546054))
    × (forms (Ack (Long 1108160546054)) 1108152157447 ≡ (true, Some 8652038, Some 1108160546054, Some 1108160546054))
    × (forms (DataAck (Long 1108160546054)) 1108160546055 ≡ (true, Some 8652038, Some 1108160546054, Some 1108160546054))
    -- A Sync has only the long form, which means the same anywhere
    × (forms (Sync 1108160546054) 2207672173830 ≡ (false, Some 1108160546054, Some 1108160546054, Some 1108160546054))
    × (forms (Reset 1108160546054 1 (0 ∷ 0 ∷ 0 ∷ [])) 2207672173830 ≡ (false, Some 1108160546054, Some 1108160546054, Some 1108160546054))
    × (forms (Request 42) 1108160546054 ≡ (false, None, None, None))
    × (forms Data 1108160546054 ≡ (true, None, None, None))
    -- The type stays
    × (in_form true (Ack (Long 1108160546054)) ≡ Ack (Short 8652038))
    × (in_form true (DataAck (Long 1108160546054)) ≡ DataAck (Short 8652038))
    × (in_form true (Sync 1108160546054) ≡ Sync 1108160546054)
numbers_in_a_form = (refl, refl, refl, refl, refl, refl, refl, refl, refl, refl, refl)

-- a number as it is in a form, and what that means near another: up to half a turn of the short form away, and 2^40 away
forms_of_a_number :
    (value_of (number_in_form true 1108160546054) ≡ 8652038)
    × (near 1108168934661 (number_in_form true 1108160546054) ≡ 1108160546054)
    × (value_of (number_in_form true 1108160546054) ≡ 8652038)
    × (near 1108152157447 (number_in_form true 1108160546054) ≡ 1108160546054)
    × (value_of (number_in_form false 1108160546054) ≡ 1108160546054)
    × (near 2207672173830 (number_in_form false 1108160546054) ≡ 1108160546054)
forms_of_a_number = (refl, refl, refl, refl, refl, refl)

-- a byte of options too many for 1,020 bytes of header and options, and the longest frame, whose options have three zeros after them
options_padded_to_words :
    (header_length request_header ≡ 20)
    × (length (padded (replicate 1001 0)) ≡ 1004)
    × (length (padded (replicate 997 2)) ≡ 1000)
    × (padded (replicate 997 2) ≡ replicate 997 2 ++ (0 ∷ 0 ∷ 0 ∷ []))
    × (length (spelling request_header (replicate 997 2) (replicate 1024 7)) ≡ 2044)
options_padded_to_words = (refl, refl, refl, refl, refl)
