-- Equalities of headers and packets from those of their parts, and what reading makes where no fault holds.
use Rattle.std.proofs.Common.{◌≡◌, ℕ, ◌≤◌, Bool, true, List, length, Some, Ok, refl, ap, ◌∙◌}
use Rattle.std.proofs.lemmas.Bool.{le-ltb}
use Rattle.dccp_packets.specs.declared.header.PacketType.{PacketType}
use Rattle.dccp_packets.specs.declared.header.Number.{Number}
use Rattle.dccp_packets.specs.declared.header.Kind.{Kind}
use Rattle.dccp_packets.specs.declared.header.Kind.TheVariants.{Response, Reset}
use Rattle.dccp_packets.specs.declared.header.Header.{Header}
use Rattle.dccp_packets.specs.Grammar.{Parts, type_of, has_form, fixed_length, data_offset_bytes, type_code, has_long_numbers, parts_of, decoded}

pub same_response : {a b s t : ℕ} → a ≡ b → s ≡ t → Response a s ≡ Response b t
same_response {a} {b} {s} {t} ack service = ap (λ x. Response x s) ack ∙ ap (Response b) service

pub same_reset : {a b c d : ℕ} {e f : List ℕ} → a ≡ b → c ≡ d → e ≡ f → Reset a c e ≡ Reset b d f
same_reset {a} {b} {c} {d} {e} {f} ack code detail = ap (λ x. Reset x c e) ack ∙ (ap (λ x. Reset b x e) code ∙ ap (Reset b d) detail)

abbrev parts : Header → List ℕ → List ℕ → Parts
parts header options payload = record { header = header; options = options; payload = payload }

abbrev header : ℕ → ℕ → ℕ → ℕ → ℕ → Number → Kind → Header
header from to ccval cscov checksum number kind =
    record { from = from; to = to; ccval = ccval; cscov = cscov; checksum = checksum; number = number; kind = kind }

pub same_header : {a a' b b' c c' d d' e e' : ℕ} {n n' : Number} {k k' : Kind} → a ≡ a' → b ≡ b' → c ≡ c' → d ≡ d' → e ≡ e' → n ≡ n' → k ≡ k'
    → header a b c d e n k ≡ header a' b' c' d' e' n' k'
same_header from to ccval cscov checksum number kind = cc

pub same_parts : {h k : Header} {o p d e : List ℕ} → h ≡ k → o ≡ p → d ≡ e → parts h o d ≡ parts k p e
same_parts header options payload = cc

-- where none of the five faults holds, the parts are read
pub decoded_ok : (kind : PacketType) (long : Bool) (bytes : List ℕ) → 12 ≤ length bytes → type_of (type_code bytes) ≡ Some kind → has_long_numbers bytes ≡ long
    → fixed_length long kind ≤ data_offset_bytes bytes → data_offset_bytes bytes ≤ length bytes → has_form long kind ≡ true
    → decoded bytes ≡ Ok (parts_of kind long bytes)
decoded_ok kind long bytes enough typed x above within form =
    let e1 = le-ltb (length bytes) 12 enough in
    let e2 = le-ltb (data_offset_bytes bytes) (fixed_length long kind) above in
    let e3 = le-ltb (length bytes) (data_offset_bytes bytes) within in
    rw (e1, typed, x, e2, e3, form) refl
