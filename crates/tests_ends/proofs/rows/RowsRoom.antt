-- Worked acknowledgements with as many bytes of options as two full Ack Vectors and many Confirms have, here zeros, computed from the
-- definitions: whether there is room for what an inbox has to report (RFC 4340, sections 5.1 and 5.8; the numbers were worked out by hand).
use Rattle.std.proofs.Common.{◌≡◌, refl, ℕ, ◌+◌, true, false, List, [], ◌∷◌, ◌++◌, replicate, length, Result, Ok, Err}
use Rattle.data_dropped.specs.Frames.{drops_said}
use Rattle.dccp_endpoint.specs.Lengthening.{lengthened_if, says_more}
use Rattle.dccp_endpoint.specs.Drafts.{framed, own_header}
use Rattle.dccp_endpoint.specs.Usual.{to_client, usual}
use Rattle.dccp_packets.specs.Grammar.{Parts, decoded}
use Rattle.dccp_packets.specs.declared.header.Kind.TheVariants.{Ack}
use Rattle.dccp_packets.specs.declared.header.Number.TheVariants.{Long}
use Rattle.dccp_packets.specs.declared.reading.Malformed.{Malformed}
use Rattle.dccp_states.specs.declared.phase.Role.TheVariants.{Server}

-- Data Dropped of 253 bytes, and Slow Receiver
abbrev more : List ℕ
more = 40 ∷ 255 ∷ (replicate 253 160 ++ 2 ∷ [])

-- the length of a frame, and its last byte
abbrev last_or : ℕ → List ℕ → ℕ
last_or byte [] = byte
last_or byte (next ∷ rest) = last_or next rest

abbrev length_and_last : List ℕ → ℕ × ℕ
length_and_last frame = (length frame, last_or 0 frame)

-- the server's Ack of 1,603 with this many bytes of options, and the frame that goes out in its place
abbrev own_ack : ℕ → List ℕ
own_ack count = framed (usual Server) false 2072 (Ack (Long 1603)) (replicate count 0) []

abbrev answered : List ℕ → Result Parts Malformed → ℕ × ℕ
answered frame (Ok p) = length_and_last (lengthened_if (says_more p more) to_client p frame more)
answered frame (Err fault) = (0, 0)

abbrev answer : List ℕ → ℕ × ℕ
answer frame = answered frame (decoded frame)

-- After a header of 24 bytes come as many bytes as vectors of 510 and Confirms of 229 bytes have, and three more. Data Dropped and Slow Receiver
-- take 256: 1,020 bytes in all, and 1,024, which the Data Offset cannot say.
room_after_options :
    (length more ≡ 256)
    × (answer (own_ack (510 + 229)) ≡ (1020, 2))
    × (answer (own_ack (510 + 232)) ≡ (768, 0))
unfolding framed
room_after_options = (refl, refl, refl)

-- a report without a byte says nothing; a packet has 1,024 bytes of data at most where more is said
abbrev with_data : ℕ → Parts
with_data count = record { header = own_header (usual Server) false 2072 (Ack (Long 1603)); options = []; payload = replicate count 0 }

what_is_said :
    (drops_said [] ≡ [])
    × (drops_said (160 ∷ []) ≡ 40 ∷ 3 ∷ 160 ∷ [])
    × (says_more (with_data 1024) (2 ∷ []) ≡ true)
    × (says_more (with_data 1025) (2 ∷ []) ≡ false)
    × (says_more (with_data 0) [] ≡ false)
what_is_said = (refl, refl, refl, refl, refl)
