-- A packet whose checksum covers all of it is read back, and its checksum fits.
use Rattle.std.proofs.Common.{◌≡◌, ℕ, ◌+◌, ◌-◌, ◌<◌, ◌≤◌, ◌%◌, ◌^◌, true, nat_le, IsTrue, List, length, Some, Ok, refl, ap, ◌∙◌, arith}
use Rattle.dccp_packets.specs.Grammar.{decoded, header_length, is_valid, padded, spelling}
use Rattle.dccp_packets.specs.Widths.{HasDetail, in_widths}
use Rattle.dccp_packets.specs.declared.header.Header.{Header}
use Rattle.dccp_packets.proofs.ReadBack.{reads_in_widths}
use Rattle.dccp_sum.specs.Checksum.{checked, checksum, sealed, sealed_over, with_checksum}
use Rattle.dccp_sum.specs.Coverage.{covered, coverage_field}
use Rattle.dccp_sum.specs.declared.pseudo_header.Pseudo.{Pseudo}
use Rattle.dccp_sum.proofs.Sealing.{checked-sealed}

le-same : (n : ℕ) → nat_le n n ≡ true
le-same n = grind arith

sum-fits : (n : ℕ) → 65535 - n < 65536
sum-fits n = omega arith

covers : (h : Header) (area payload : List ℕ) → h.cscov ≡ 0 → covered (spelling h area payload) ≡ Some (length (spelling h area payload))
covers h area payload whole =
    let field : coverage_field (spelling h area payload) ≡ 0 = omega (arith, whole) in
    rw (field, le-same (length (spelling h area payload))) refl

resummed : (sum : ℕ) (h : Header) (area payload : List ℕ)
    → with_checksum sum (spelling h area payload) ≡ spelling (record h { checksum = sum }) area payload
resummed sum h area payload = refl

pub record IsSealed (h : Header) (pseudo : Pseudo) (area payload bytes : List ℕ) : Type 0 where
  pub sum : ℕ
  pub is_packet : decoded bytes ≡ Ok (record { header = record h { checksum = sum }; options = padded area; payload = payload })
  pub is_accepted : checked pseudo bytes ≡ Ok tt

-- a packet that was sealed is read back in its widths
pub sealed-read : (pseudo : Pseudo) (h : Header) (area payload : List ℕ) → h.cscov ≡ 0 → HasDetail h.kind → IsTrue (is_valid h)
    → header_length h + length (padded area) ≤ 1020 → IsSealed (in_widths h) pseudo area payload (sealed pseudo (spelling h area payload))
sealed-read pseudo h area payload whole detail valid room =
    let bytes : List ℕ = spelling h area payload in
    let sum : ℕ = checksum pseudo bytes (length bytes) in
    let is = ap (sealed_over pseudo bytes) (covers h area payload whole) in
    record {
      sum = sum % 2 ^ 16;
      is_packet = ap decoded (is ∙ resummed sum h area payload) ∙ reads_in_widths (record h { checksum = sum }) area payload detail valid room;
      is_accepted = ap (checked pseudo) is ∙ checked-sealed pseudo bytes (length bytes) sum (omega arith) (covers h area payload whole) refl (sum-fits _);
    }
