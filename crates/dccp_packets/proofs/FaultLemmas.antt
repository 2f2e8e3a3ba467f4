-- Each fault is answered exactly if it holds and none before it does.
use Rattle.std.proofs.Common.{◌≡◌, ℕ, zero, suc, ◌<◌, ◌≤◌, ◌↔◌, Bool, true, false, not, cond, nat_lt, if◌then◌else◌, List, length, Option, Some, None, Result, Ok, Err, is_some, refl, sym, ap, ◌∙◌, arith, ⊎_elim}
use Rattle.std.proofs.lemmas.Bool.{true≢false, false≢true, ltb-true, lt-ltb, le-ltb, cases_lt, not-true, not_from_false}
use Rattle.dccp_packets.specs.declared.header.PacketType.{PacketType}
use Rattle.dccp_packets.specs.declared.reading.Malformed.{Malformed}
use Rattle.dccp_packets.specs.declared.reading.Malformed.TheVariants.{Short, ReservedType, OffsetSmall, OffsetLarge, ShortNumbers}
use Rattle.dccp_packets.specs.Grammar.{Parts, type_of, has_form, fixed_length, data_offset_bytes, type_code, has_long_numbers, parts_of, decoded_as, decoded_by, decoded}
use Rattle.dccp_packets.proofs.TableLemmas.{type_none}

-- the place of an answer in the order
abbrev fault_rank : Malformed → ℕ
fault_rank Short = 0
fault_rank ReservedType = 1
fault_rank OffsetSmall = 2
fault_rank OffsetLarge = 3
fault_rank ShortNumbers = 4

abbrev rank : Result Parts Malformed → ℕ
rank (Err fault) = fault_rank fault
rank (Ok parts) = 5

-- a test that answers a fault, before later answers
refused_at : (b : Bool) (e : Malformed) (r : Result Parts Malformed) → fault_rank e < rank r → cond b (Err e) r ≡ Err e → b ≡ true
refused_at true e r later h = refl
refused_at false e r later h = let same = ap rank h in absurd (omega (arith, later, same))

refused_by : (b : Bool) (e : Malformed) (r : Result Parts Malformed) → b ≡ true → cond b (Err e) r ≡ Err e
refused_by true e r h = refl
refused_by false e r h = absurd (false≢true h)

passed_by : (b : Bool) (e : Malformed) (r : Result Parts Malformed) → b ≡ false → cond b (Err e) r ≡ r
passed_by true e r h = absurd (true≢false h)
passed_by false e r h = refl

-- the answers after a test come no earlier
rank_at : (b : Bool) (e : Malformed) (r : Result Parts Malformed) (n : ℕ) → n ≤ fault_rank e → n ≤ rank r → n ≤ rank (cond b (Err e) r)
rank_at true e r n now later = now
rank_at false e r n now later = later

-- what comes after each test
abbrev form_left : PacketType → Bool → List ℕ → Result Parts Malformed
form_left kind long bytes = if not (has_form long kind) then Err ShortNumbers else Ok (parts_of kind long bytes)

abbrev large_left : PacketType → Bool → List ℕ → Result Parts Malformed
large_left kind long bytes = if nat_lt (length bytes) (data_offset_bytes bytes) then Err OffsetLarge else form_left kind long bytes

form_rank : (kind : PacketType) (long : Bool) (bytes : List ℕ) → 4 ≤ rank (form_left kind long bytes)
form_rank kind long bytes = rank_at (not (has_form long kind)) ShortNumbers (Ok (parts_of kind long bytes)) 4 (omega arith) (omega arith)

large_rank : (kind : PacketType) (long : Bool) (bytes : List ℕ) → 3 ≤ rank (large_left kind long bytes)
large_rank kind long bytes =
    let next = form_rank kind long bytes in
    rank_at (nat_lt (length bytes) (data_offset_bytes bytes)) OffsetLarge (form_left kind long bytes) 3 (omega arith) (omega (arith, next))

small_rank : (kind : PacketType) (long : Bool) (bytes : List ℕ) → 2 ≤ rank (decoded_as kind long bytes)
small_rank kind long bytes =
    let next = large_rank kind long bytes in
    rank_at (nat_lt (data_offset_bytes bytes) (fixed_length long kind)) OffsetSmall (large_left kind long bytes) 2 (omega arith) (omega (arith, next))

type_rank : (t : Option PacketType) (bytes : List ℕ) → 1 ≤ rank (decoded_by t bytes)
type_rank None bytes = omega arith
type_rank (Some kind) bytes = let next = small_rank kind (has_long_numbers bytes) bytes in omega (arith, next)

pub short_fault : (bytes : List ℕ) → (decoded bytes ≡ Err Short) ↔ (length bytes < 12)
short_fault bytes =
    let test = nat_lt (length bytes) 12 in
    let left = decoded_by (type_of (type_code bytes)) bytes in
    let next = type_rank (type_of (type_code bytes)) bytes in
    ((λ h. ltb-true (length bytes) 12 (refused_at test Short left (omega (arith, next)) h)), (λ h. refused_by test Short left (lt-ltb (length bytes) 12 h)))

to_type : (bytes : List ℕ) → 12 ≤ length bytes → decoded bytes ≡ decoded_by (type_of (type_code bytes)) bytes
to_type bytes enough = passed_by (nat_lt (length bytes) 12) Short (decoded_by (type_of (type_code bytes)) bytes) (le-ltb (length bytes) 12 enough)

-- codes below ten have a type
type_some : (code : ℕ) → code < 10 → is_some (type_of code) ≡ true
type_some (suc (suc (suc (suc (suc (suc (suc (suc (suc (suc n)))))))))) h = absurd (omega (arith, h))
type_some _ h = refl

no_type : (t : Option PacketType) (bytes : List ℕ) → decoded_by t bytes ≡ Err ReservedType → is_some t ≡ false
no_type None bytes h = refl
no_type (Some kind) bytes h =
    let next = small_rank kind (has_long_numbers bytes) bytes in let same = ap rank h in absurd (omega (arith, next, same))

pub reserved_fault : (bytes : List ℕ) → 12 ≤ length bytes → (decoded bytes ≡ Err ReservedType) ↔ (10 ≤ type_code bytes)
reserved_fault bytes enough =
    let code = type_code bytes in
    let reach = to_type bytes enough in (
      (λ h. ⊎_elim (λ below. absurd (true≢false (sym (type_some code below) ∙ no_type (type_of code) bytes (sym reach ∙ h)))) (λ above. above)
          (cases_lt code 10)),
      (λ h. reach ∙ ap (λ t. decoded_by t bytes) (type_none code h)),
    )

to_kind : (bytes : List ℕ) (kind : PacketType) → 12 ≤ length bytes → type_of (type_code bytes) ≡ Some kind
    → decoded bytes ≡ decoded_as kind (has_long_numbers bytes) bytes
to_kind bytes kind enough typed = to_type bytes enough ∙ ap (λ t. decoded_by t bytes) typed

pub small_fault : (bytes : List ℕ) (kind : PacketType) → 12 ≤ length bytes → type_of (type_code bytes) ≡ Some kind
    → (decoded bytes ≡ Err OffsetSmall) ↔ (data_offset_bytes bytes < fixed_length (has_long_numbers bytes) kind)
small_fault bytes kind enough typed =
    let long = has_long_numbers bytes in
    let offset = data_offset_bytes bytes in
    let size = fixed_length long kind in
    let reach = to_kind bytes kind enough typed in
    let next = large_rank kind long bytes in (
      (λ h. ltb-true offset size (refused_at (nat_lt offset size) OffsetSmall (large_left kind long bytes) (omega (arith, next)) (sym reach ∙ h))),
      (λ h. reach ∙ refused_by (nat_lt offset size) OffsetSmall (large_left kind long bytes) (lt-ltb offset size h)),
    )

to_large : (bytes : List ℕ) (kind : PacketType) → 12 ≤ length bytes → type_of (type_code bytes) ≡ Some kind
    → fixed_length (has_long_numbers bytes) kind ≤ data_offset_bytes bytes
    → decoded bytes ≡ large_left kind (has_long_numbers bytes) bytes
to_large bytes kind enough typed above =
    let long = has_long_numbers bytes in
    to_kind bytes kind enough typed
    ∙ passed_by (nat_lt (data_offset_bytes bytes) (fixed_length long kind)) OffsetSmall (large_left kind long bytes)
    (le-ltb (data_offset_bytes bytes) (fixed_length long kind) above)

pub large_fault : (bytes : List ℕ) (kind : PacketType) → 12 ≤ length bytes → type_of (type_code bytes) ≡ Some kind
    → fixed_length (has_long_numbers bytes) kind ≤ data_offset_bytes bytes
    → (decoded bytes ≡ Err OffsetLarge) ↔ (length bytes < data_offset_bytes bytes)
large_fault bytes kind enough typed above =
    let long = has_long_numbers bytes in
    let test = nat_lt (length bytes) (data_offset_bytes bytes) in
    let reach = to_large bytes kind enough typed above in
    let next = form_rank kind long bytes in (
      (λ h. ltb-true (length bytes) (data_offset_bytes bytes) (refused_at test OffsetLarge (form_left kind long bytes) (omega (arith, next)) (sym reach ∙ h))),
      (λ h. reach ∙ refused_by test OffsetLarge (form_left kind long bytes) (lt-ltb (length bytes) (data_offset_bytes bytes) h)),
    )

pub form_fault : (bytes : List ℕ) (kind : PacketType) → 12 ≤ length bytes → type_of (type_code bytes) ≡ Some kind
    → fixed_length (has_long_numbers bytes) kind ≤ data_offset_bytes bytes
    → data_offset_bytes bytes ≤ length bytes → (decoded bytes ≡ Err ShortNumbers) ↔ (has_form (has_long_numbers bytes) kind ≡ false)
form_fault bytes kind enough typed above within =
    let long = has_long_numbers bytes in
    let form = has_form long kind in
    let read : Result Parts Malformed = Ok (parts_of kind long bytes) in
    let reach = to_large bytes kind enough typed above
    ∙ passed_by (nat_lt (length bytes) (data_offset_bytes bytes)) OffsetLarge (form_left kind long bytes)
    (le-ltb (length bytes) (data_offset_bytes bytes) within) in (
      (λ h. not-true form (refused_at (not form) ShortNumbers read (omega arith) (sym reach ∙ h))),
      (λ h. reach ∙ refused_by (not form) ShortNumbers read (not_from_false form h)),
    )
