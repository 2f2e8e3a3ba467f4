-- A packet with more options after its own is read as such.
use Rattle.std.proofs.Common.{◌≡◌, ℕ, ◌+◌, ◌==◌, not, nat_le, true, IsTrue, List, ◌++◌, length, Option, Some}
use Rattle.std.proofs.lemmas.Bool.{and_parts, leb-true}
use Rattle.dccp_packets.specs.Grammar.{Parts, header_length, is_valid, padded}
use Rattle.dccp_packets.specs.Widths.{HasDetail, in_widths}
use Rattle.dccp_packets.specs.declared.header.Kind.{Kind}
use Rattle.dccp_packets.specs.declared.header.Kind.TheVariants as kind
use Rattle.dccp_sum.specs.declared.pseudo_header.Pseudo.{Pseudo}
use Rattle.dccp_endpoint.proofs.AnyFrames.{IsSealed, sealed-read}
use Rattle.dccp_endpoint.specs.Lengthening.{has_room_for, lengthened, says_more}
use Rattle.data_dropped.specs.Frames.{acknowledged_by}

acking-detail : (told : Option ℕ) (ack : ℕ) (k : Kind) → acknowledged_by told k ≡ Some ack → HasDetail k
acking-detail told ack (kind.Reset n code detail) is = absurd cc
acking-detail told ack _ is = tt

pub lengthened-read : (pseudo : Pseudo) (told : Option ℕ) (ack : ℕ) (p : Parts) (more : List ℕ) → acknowledged_by told p.header.kind ≡ Some ack
    → p.header.cscov ≡ 0
    → IsTrue (is_valid p.header) → says_more p more ≡ true
    → IsSealed (in_widths p.header) pseudo (p.options ++ more) p.payload (lengthened pseudo p more)
lengthened-read pseudo told ack p more acks whole valid says =
    let room : has_room_for p more ≡ true = (and_parts (not (length more == 0)) (has_room_for p more) says).1 in
    let fits : nat_le (header_length p.header + length (padded (p.options ++ more))) 1020 ≡ true =
    (and_parts (nat_le (header_length p.header + length (padded (p.options ++ more))) 1020) (nat_le (length p.payload) 1024) room).0 in
    sealed-read pseudo p.header (p.options ++ more) p.payload whole (acking-detail told ack p.header.kind acks) valid
    (leb-true (header_length p.header + length (padded (p.options ++ more))) 1020 fits)
