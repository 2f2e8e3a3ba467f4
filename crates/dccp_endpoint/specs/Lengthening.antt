-- A packet that goes out with more options after its own (RFC 4340, section 5.8).
use Rattle.std.specs.Prelude.{ℕ, ◌+◌, ◌==◌, ◌&&◌, not, nat_le, Bool, true, false, List, ◌++◌, length}
use Rattle.dccp_packets.specs.Grammar.{Parts, header_length, padded, spelling}
use Rattle.dccp_sum.specs.Checksum.{sealed}
use Rattle.dccp_sum.specs.declared.pseudo_header.Pseudo.{Pseudo}

-- The packet has room for these options after its own: a Data Offset counts 1,020 bytes at most (section 5.1), and a
-- frame has room for 1,024 bytes of data (own).
abbrev pub has_room_for : Parts → List ℕ → Bool
has_room_for p more = nat_le (header_length p.header + length (padded (p.options ++ more))) 1020 && nat_le (length p.payload) 1024

-- something is to be said, and the packet has room for it
abbrev pub says_more : Parts → List ℕ → Bool
says_more p more = not (length more == 0) && has_room_for p more

-- the packet with these options after its own, and its checksum made anew
abbrev pub lengthened : Pseudo → Parts → List ℕ → List ℕ
lengthened pseudo p more = sealed pseudo (spelling p.header (p.options ++ more) p.payload)

-- the packet lengthened, or the frame as it is
abbrev pub lengthened_if : Bool → Pseudo → Parts → List ℕ → List ℕ → List ℕ
lengthened_if true pseudo p frame more = lengthened pseudo p more
lengthened_if false pseudo p frame more = frame
