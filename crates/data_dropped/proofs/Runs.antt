-- The bytes of a report, run by run of its codes.
use Rattle.std.proofs.lemmas.Bool.{cases_lt, eqb-false, eqb-true, lt-leb}
use Rattle.std.proofs.Common.{◌==◌, Bool, true, false, nat_le, suc, append-nil, length-append, ◌≡◌, ℕ, ◌+◌, ◌<◌, ◌≤◌, List, [], ◌∷◌, ◌++◌, length, take, drop, get_or, Option, None, inl, inr, ap, sym, ◌∙◌, arith, append_assoc}
use Rattle.std.proofs.lemmas.List.{drop_all, take_all, take_at}
use Rattle.ack_vectors.specs.Coding.{coded_bytes}
use Rattle.ack_vectors.proofs.Coded.{bytes-first}
use Rattle.data_dropped.specs.Drops.{drop_byte, drop_coding, most_numbers}
use Rattle.data_dropped.specs.Writing.{IsRunAt, bytes_from}
use Rattle.data_dropped.proofs.Lawful.{IsCode, drop_lawful}

-- the byte of a run, and those of the codes after it
pub bytes_from-run : (codes : List (Option ℕ)) (place count : ℕ) → 1 ≤ count → count ≤ most_numbers (get_or codes place None) → IsRunAt codes place count
    → bytes_from codes place ≡ drop_byte (get_or codes place None) count ∷ bytes_from codes (place + count)
bytes_from-run codes place count some few run =
    ap (λ (rest : List (Option ℕ)). coded_bytes drop_coding rest) run.same
    ∙ bytes-first drop_coding IsCode drop_lawful (get_or codes place None) count (drop (place + count) codes) some few run.ends

-- an option that is not full
pub below_from : (n most : ℕ) (full : Bool) → full ≡ (n == most) → full ≡ false → n ≤ most → n < most
below_from n most full is fails within =
    elim (cases_lt n most) [ inl below ↦ below | inr past ↦ absurd (eqb-false n most (sym is ∙ fails) (omega arith)) ]

pub full_from : (n most : ℕ) (full : Bool) → full ≡ (n == most) → full ≡ true → n ≡ most
full_from n most full is holds = eqb-true n most (sym is ∙ holds)

module _ (codes : List (Option ℕ)) (place : ℕ) (out : List ℕ) (joins : out ++ bytes_from codes place ≡ bytes_from codes 0) where
  -- the room is used up, with more to come
  pub full-front : length out ≡ 253 → out ≡ take 253 (bytes_from codes 0)
  full-front full = sym (ap (λ (bytes : List ℕ). take 253 bytes) (sym joins) ∙ take_at out (bytes_from codes place) 253 full)

  pub full-cut : (byte : ℕ) (later : List ℕ) → bytes_from codes place ≡ byte ∷ later → length out ≡ 253 → false ≡ nat_le (length (bytes_from codes 0)) 253
  full-cut byte later more full =
      let all : length (out ++ bytes_from codes place) ≡ length (bytes_from codes 0) = ap (λ (bytes : List ℕ). length bytes) joins in
      let parts : length (out ++ bytes_from codes place) ≡ length out + length (bytes_from codes place) = length-append out (bytes_from codes place) in
      let some : length (bytes_from codes place) ≡ suc (length later) = ap (λ (bytes : List ℕ). length bytes) more in
      sym (lt-leb (length (bytes_from codes 0)) 253 (omega (arith, all, parts, some, full)))

  -- all is written
  pub all-front : length codes ≤ place → length out ≤ 253 → out ≡ take 253 (bytes_from codes 0)
  all-front past fits =
      let none : drop place codes ≡ [] = drop_all place codes past in
      let all : out ≡ bytes_from codes 0 =
      sym (append-nil out) ∙ ap (λ (rest : List (Option ℕ)). out ++ coded_bytes drop_coding rest) (sym none) ∙ joins in
      let same : length out ≡ length (bytes_from codes 0) = ap (λ (bytes : List ℕ). length bytes) all in
      all ∙ sym (take_all 253 (bytes_from codes 0) (omega (arith, same, fits)))

  -- one byte more
  pub more-front : (byte : ℕ) (later new : List ℕ) → bytes_from codes place ≡ byte ∷ later → new ≡ out ++ byte ∷ [] → new ++ later ≡ bytes_from codes 0
  more-front byte later new more is =
      ap (λ (bytes : List ℕ). bytes ++ later) is ∙ append_assoc out (byte ∷ []) later
      ∙ ap (λ (bytes : List ℕ). out ++ bytes) (sym more) ∙ joins
