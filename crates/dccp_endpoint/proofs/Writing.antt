-- The bytes of options, one after the other.
use Rattle.std.proofs.Common.{◌≡◌, ◌<◌, ◌≤◌, ℕ, Bool, false, if◌then◌else◌, List, [], ◌∷◌, ◌++◌, length, map, take, drop, refl, sym, ap, ◌∙◌, append_assoc, append-nil}
use Rattle.std.proofs.lemmas.Bool.{le-leb, lt-leb}
use Rattle.ack_vectors.specs.Vector.{option_data}
use Rattle.dccp_options.specs.Written.{Item, spelled, written}
use Rattle.dccp_packets.specs.Beginning.{Begins}
use Rattle.dccp_packets.specs.Grammar.{header_bytes}
use Rattle.dccp_packets.specs.declared.header.Header.{Header}
use Rattle.dccp_endpoint.specs.Reporting.{vector_item}

-- options of two lists
pub written-append : (one other : List Item) → written (one ++ other) ≡ written one ++ written other
written-append [] other = refl
written-append (item ∷ one) other =
    ap (λ (rest : List ℕ). spelled item.mandatory item.kind item.body ++ rest) (written-append one other)
    ∙ sym (append_assoc (spelled item.mandatory item.kind item.body) (written one) (written other))

-- one list of options, and nothing after it
pub written_alone : (one : List Item) → [] ++ written one ≡ written (one ++ [])
written_alone one = ap written (sym (append-nil one))

-- two lists of options that were written one after the other
pub written_both : (one other : List Item) → [] ++ written one ++ written other ≡ written (one ++ other)
written_both one other = sym (written-append one other)

-- Confirms after others, and no Change
pub written_confirms : (one other : List Item) → [] ++ written one ++ written other ≡ written (one ++ (other ++ []))
written_confirms one other = sym (written-append one other) ∙ ap (λ (rest : List Item). written (one ++ rest)) (sym (append-nil other))

-- an Ack Vector for which one option has room, or two
abbrev vector_in : List ℕ → Bool → List ℕ
vector_in bytes fits = written (map vector_item (if fits then bytes ∷ [] else take 253 bytes ∷ drop 253 bytes ∷ []))

pub vector_in_one : (bytes : List ℕ) → length bytes ≤ 253 → spelled false 38 bytes ≡ written (map vector_item (option_data bytes))
vector_in_one bytes fits = sym (ap (vector_in bytes) (le-leb (length bytes) 253 fits) ∙ append-nil (spelled false 38 bytes))

pub vector_in_two : (bytes : List ℕ) → 253 < length bytes
    → spelled false 38 (take 253 bytes) ++ spelled false 38 (drop 253 bytes) ≡ written (map vector_item (option_data bytes))
vector_in_two bytes long =
    let first : List ℕ = spelled false 38 (take 253 bytes) in
    let second : List ℕ = spelled false 38 (drop 253 bytes) in
    sym (ap (vector_in bytes) (lt-leb (length bytes) 253 long) ∙ ap (λ (rest : List ℕ). first ++ rest) (append-nil second))

-- what is appended to a packet that has begun are further options
pub begins_on : (header : Header) (area more bytes next : List ℕ) → Begins header area bytes → next ≡ bytes ++ more → Begins header (area ++ more) next
begins_on header area more bytes next begins is =
    record {
      is = is ∙ ap (λ (front : List ℕ). front ++ more) begins.is ∙ append_assoc (header_bytes header 0) area more;
      whole = begins.whole;
    }
