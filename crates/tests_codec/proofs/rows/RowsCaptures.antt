-- Worked captures: the records that bytes have, and what ends them. The values are by hand, after the savefile format of libpcap; the limits are
-- own. What is read does not depend on the pieces in which a source gives its bytes.
use Rattle.std.proofs.Common.{◌≡◌, refl, ℕ, zero, suc, ◌+◌, Bool, true, false, List, [], ◌∷◌, ◌++◌, length, take, codes, Option, None, Some, Ok, Err}
use Rattle.std.proofs.Math.ListN.{replicate}
use Rattle.capture_reader.specs.declared.fault.CaptureFault.{CaptureFault}
use Rattle.capture_reader.specs.declared.fault.CaptureFault.TheVariants.{BadLink, BadMagic, BadVersion, CutShort, RecordTooLong, TooLarge}
use Rattle.capture_reader.specs.declared.format.Format.{Format}
use Rattle.capture_reader.specs.declared.format.Order.TheVariants.{Big, Little}
use Rattle.capture_reader.specs.Records.{CaptureContents, RecordParts, body_fault, captured, found_in, next_of}
use Rattle.capture_reader.specs.State.{CapturesState, holds_record}
use Rattle.tests_codec.proofs.rows.RowsSeen.{bytes}

-- a record: its number, the seconds and the fraction, whether that counts nanoseconds, the link type, how many bytes the packet had, and those
-- that were captured
abbrev entry : ℕ → ℕ → ℕ → Bool → ℕ → ℕ → List ℕ → RecordParts
entry number seconds fraction nanos link original captured = record {
  number = number;
  seconds = seconds;
  fraction = fraction;
  nanos = nanos;
  link = link;
  original = original;
  bytes = captured;
}

-- the records of an input, and what ends them
abbrev reads : List RecordParts → Option CaptureFault → CaptureContents
reads records end = record { records = records; end = end }

records_in_any_pieces :
    -- The capture of one packet, and that all of it is read
    (captured (bytes "d4c3b2a1020004000000000000000000ffff0000650000000100000020a1070028000000280000004500002800010000402166b20a0000010a0000029c401389050031ec01000000000003e80000002a") ≡ reads (entry 1 1 500000 false 101 40 (bytes "4500002800010000402166b20a0000010a0000029c401389050031ec01000000000003e80000002a") ∷ []) None)
    -- Both byte orders, microseconds and nanoseconds, and both link types: three records, of which the middle one is empty
    × (captured (bytes "d4c3b2a102000400090909090909090909090909010000000100000002000000050000000600000066697273740300000000286bee0000000001000000ffffffff05000000090000000a000000746865207468697264") ≡ reads (entry 1 1 2 false 1 6 (codes "first") ∷ entry 2 3 4000000000 false 1 1 [] ∷ entry 3 4294967295 5 false 1 10 (codes "the third") ∷ []) None)
    × (captured (bytes "a1b2c3d4000200040909090909090909090909090000000100000001000000020000000500000006666972737400000003ee6b28000000000000000001ffffffff00000005000000090000000a746865207468697264") ≡ reads (entry 1 1 2 false 1 6 (codes "first") ∷ entry 2 3 4000000000 false 1 1 [] ∷ entry 3 4294967295 5 false 1 10 (codes "the third") ∷ []) None)
    × (captured (bytes "4d3cb2a102000400090909090909090909090909650000000100000002000000050000000600000066697273740300000000286bee0000000001000000ffffffff05000000090000000a000000746865207468697264") ≡ reads (entry 1 1 2 true 101 6 (codes "first") ∷ entry 2 3 4000000000 true 101 1 [] ∷ entry 3 4294967295 5 true 101 10 (codes "the third") ∷ []) None)
    × (captured (bytes "a1b23c4d000200040909090909090909090909090000006500000001000000020000000500000006666972737400000003ee6b28000000000000000001ffffffff00000005000000090000000a746865207468697264") ≡ reads (entry 1 1 2 true 101 6 (codes "first") ∷ entry 2 3 4000000000 true 101 1 [] ∷ entry 3 4294967295 5 true 101 10 (codes "the third") ∷ []) None)
    -- Three short records in pieces
    × (captured (bytes "a1b23c4d0002000409090909090909090909090900000065000000010000000200000001000000026100000003000000040000000000000001000000050000000600000002000000036263") ≡ reads (entry 1 1 2 true 101 2 (codes "a") ∷ entry 2 3 4 true 101 1 [] ∷ entry 3 5 6 true 101 3 (codes "bc") ∷ []) None)
    -- File headers: CutShort comes before BadMagic, that before BadVersion, and that before BadLink
    × (captured (bytes "a1b2c3d40002000409090909090909090909090900000001") ≡ reads [] None)
    × (captured (bytes "a0b2c3d40002000409090909090909090909090900000001") ≡ reads [] (Some BadMagic))
    × (captured (bytes "a1b2c34d0002000409090909090909090909090900000001") ≡ reads [] (Some BadMagic))
    × (captured (bytes "a1b2c3d40102000409090909090909090909090900000001") ≡ reads [] (Some BadVersion))
    × (captured (bytes "a1b2c3d40001000409090909090909090909090900000001") ≡ reads [] (Some BadVersion))
    × (captured (bytes "a1b2c3d40003000409090909090909090909090900000001") ≡ reads [] (Some BadVersion))
    × (captured (bytes "a1b2c3d40002000309090909090909090909090900000001") ≡ reads [] (Some BadVersion))
    × (captured (bytes "a1b2c3d40002000509090909090909090909090900000001") ≡ reads [] (Some BadVersion))
    × (captured (bytes "a1b2c3d40002010409090909090909090909090900000001") ≡ reads [] (Some BadVersion))
    × (captured (bytes "a1b2c3d40002000409090909090909090909090901000001") ≡ reads [] (Some BadLink))
    × (captured (bytes "a1b2c3d40002000409090909090909090909090900000000") ≡ reads [] (Some BadLink))
    × (captured (bytes "a1b2c3d40002000409090909090909090909090900000002") ≡ reads [] (Some BadLink))
    × (captured (bytes "a1b2c3d4000200040909090909090909090909090000000c") ≡ reads [] (Some BadLink))
    × (captured (bytes "a1b2c3d400020004090909090909090909090909000000e4") ≡ reads [] (Some BadLink))
    × (captured (bytes "a1b2c3d40002000409090909090909090909090900000064") ≡ reads [] (Some BadLink))
    × (captured (bytes "a1b2c3d40002000309090909090909090909090900000002") ≡ reads [] (Some BadVersion))
    × (captured (bytes "00b2c3d40002000309090909090909090909090900000002") ≡ reads [] (Some BadMagic))
    × (captured (bytes "00b2c3d400020003090909090909090909090909000000") ≡ reads [] (Some CutShort))
    -- Bytes after a file header that is refused
    × (captured (bytes "00b2c3d4000200040909090909090909090909090000000172657374") ≡ reads [] (Some BadMagic))
    -- A record, and the header of one of 262,145 bytes: it is judged after its header
    × (captured (bytes "a1b2c3d400020004090909090909090909090909000000010000000100000002000000050000000673686f727400000001000000020004000100000000") ≡ reads (entry 1 1 2 false 1 6 (codes "short") ∷ []) (Some RecordTooLong))
    × (captured (bytes "a1b2c3d400020004090909090909090909090909000000010000000100000002000000050000000673686f7274000000010000000200040001000000") ≡ reads (entry 1 1 2 false 1 6 (codes "short") ∷ []) (Some CutShort))
records_in_any_pieces = (refl, refl, refl, refl, refl, refl, refl, refl, refl, refl, refl, refl, refl, refl, refl, refl, refl, refl, refl, refl, refl, refl, refl, refl, refl, refl, refl)

-- how many records an input has, how many bytes these have together, and what ends them
abbrev captured_bytes : List RecordParts → ℕ
captured_bytes [] = 0
captured_bytes (first ∷ records) = length first.bytes + captured_bytes records

abbrev summed : CaptureContents → ℕ × ℕ × Option CaptureFault
summed whole = (length whole.records, captured_bytes whole.records, whole.end)

-- the same of the first bytes of an input, of one size after the other
abbrev ends_from : ℕ → ℕ → List ℕ → List (ℕ × ℕ × Option CaptureFault)
ends_from zero size input = []
ends_from (suc more) size input = summed (captured (take size input)) ∷ ends_from more (size + 1) input

-- The first bytes of the capture of one packet, of each size from none to all, and of one of three records of 17, 16 and 18 bytes
every_prefix_of_a_capture :
    (ends_from 81 0 (bytes "d4c3b2a1020004000000000000000000ffff0000650000000100000020a1070028000000280000004500002800010000402166b20a0000010a0000029c401389050031ec01000000000003e80000002a") ≡ replicate 24 (0, 0, Some CutShort) ++ replicate 1 (0, 0, None) ++ replicate 55 (0, 0, Some CutShort) ++ replicate 1 (1, 40, None))
    × (ends_from 76 0 (bytes "a1b23c4d0002000409090909090909090909090900000065000000010000000200000001000000026100000003000000040000000000000001000000050000000600000002000000036263") ≡ replicate 24 (0, 0, Some CutShort) ++ replicate 1 (0, 0, None) ++ replicate 16 (0, 0, Some CutShort) ++ replicate 1 (1, 1, None) ++ replicate 15 (1, 1, Some CutShort) ++ replicate 1 (2, 1, None) ++ replicate 17 (2, 1, Some CutShort) ++ replicate 1 (3, 3, None))
every_prefix_of_a_capture = (refl, refl)

-- the format of a capture in the order of the network, with microseconds, of Ethernet
abbrev big_and_plain : Format
big_and_plain = record { order = Big; nanos = false; link = 1 }

-- Of 262,144 bytes a record has room, and of one more it has none; this is judged after its header. The numbers of `body_fault` are how many
-- bytes were captured, how many count, and how many are there; that of `found_in` is how many count, with those of the header.
records_of_the_greatest_length :
    (body_fault 262144 4294967256 262144 ≡ None)
    × (body_fault 262144 4294967256 262143 ≡ Some CutShort)
    × (body_fault 262145 4294967256 262145 ≡ Some RecordTooLong)
    × (body_fault 262145 4294967256 0 ≡ Some RecordTooLong)
    × (body_fault 4294967295 0 0 ≡ Some RecordTooLong)
    × (body_fault 262144 262144 262144 ≡ None)
    × (body_fault 262144 262143 262144 ≡ Some TooLarge)
    × (found_in Big 16 (bytes "00000001000000020000000000000001") ≡ Ok (Some (record { seconds = 1; fraction = 2; captured = 0; original = 1 })))
    × (found_in Big 15 (bytes "00000001000000020000000000000001") ≡ Err TooLarge)
    × (found_in Big 17 (bytes "0000000100000002000000010000000107") ≡ Ok (Some (record { seconds = 1; fraction = 2; captured = 1; original = 1 })))
    × (found_in Big 16 (bytes "0000000100000002000000010000000107") ≡ Err TooLarge)
    × (found_in Big 17 (bytes "00000001000000020000000100000001") ≡ Err CutShort)
records_of_the_greatest_length = (refl, refl, refl, refl, refl, refl, refl, refl, refl, refl, refl, refl)

-- Of a capture 4,294,967,296 bytes count: a record's header of 16 may end with them, and not after them. The row has how many bytes come before
-- the header.
the_last_bytes_that_count :
    (next_of big_and_plain 0 4294967280 (bytes "00000001000000020000000000000001") ≡ Ok (Some (entry 1 1 2 false 1 1 [])))
    × (next_of big_and_plain 0 4294967281 (bytes "00000001000000020000000000000001") ≡ Err TooLarge)
    × (next_of big_and_plain 0 4294967279 (bytes "0000000100000002000000010000000107") ≡ Ok (Some (entry 1 1 2 false 1 1 (7 ∷ []))))
    × (next_of big_and_plain 0 4294967280 (bytes "0000000100000002000000010000000107") ≡ Err TooLarge)
the_last_bytes_that_count = (refl, refl, refl, refl)

-- the capture of one packet after its file header
abbrev of_one : List ℕ
of_one = bytes "0100000020a1070028000000280000004500002800010000402166b20a0000010a0000029c401389050031ec01000000000003e80000002a"

-- a reader after that file header, which has read these bytes
abbrev with_pending : List ℕ → CapturesState ℕ
with_pending pending = record {
  source = 0;
  pending = pending;
  lent = [];
  format = record { order = Little; nanos = false; link = 101 };
  given = 24;
  number = 0;
  fault = None;
}

-- A record is held once all its bytes were read, or its header says that it is too long or too much, and no read follows where a fault ended the
-- capture.
a_reader_tells_when_it_holds_a_record :
    (holds_record (with_pending []) ≡ false)
    × (holds_record (with_pending (take 15 of_one)) ≡ false)
    × (holds_record (with_pending (take 16 of_one)) ≡ false)
    × (holds_record (with_pending (take 55 of_one)) ≡ false)
    × (holds_record (with_pending of_one) ≡ true)
    × (holds_record (record (with_pending (take 55 of_one)) { fault = Some CutShort }) ≡ true)
    × (holds_record (with_pending (bytes "01000000020000000000040000000400")) ≡ false)
    × (holds_record (with_pending (bytes "01000000020000000100040001000400")) ≡ true)
    × (holds_record (record (with_pending (take 16 of_one)) { given = 4294967288 }) ≡ true)
a_reader_tells_when_it_holds_a_record = (refl, refl, refl, refl, refl, refl, refl, refl, refl)
