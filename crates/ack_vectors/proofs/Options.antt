-- How a vector goes into its options, and what a second one adds to the first.
use Rattle.std.proofs.Common.{◌≡◌, ℕ, ◌+◌, ◌-◌, ◌<◌, ◌≤◌, Bool, true, false, List, [], ◌∷◌, ◌++◌, refl, ap, arith, sym, ◌∙◌, length, take, drop, map, nat_le, length-append, length-take, length-drop, append-nil, take-add, Option, Some, take-append-drop, inl, inr}
use Rattle.std.specs.List.{All, concat}
use Rattle.std.proofs.lemmas.Bool.{cases_Bool, le-leb, lt-leb, leb-true, leb-false}
use Rattle.std.proofs.lemmas.List.{take_all}
use Rattle.std.proofs.lemmas.List.Elements.{All-nil, All-cons}
use Rattle.dccp_options.specs.Vectors.{VectorReport, joined_report, states}
use Rattle.dccp_options.proofs.States.{states-append}
use Rattle.ack_vectors.specs.declared.room.Vectors.{Vectors}
use Rattle.ack_vectors.specs.declared.room.Vectors.TheVariants.{One, Two}
use Rattle.ack_vectors.specs.Vector.{set_states, all_bytes, most_options, room_of, vector_under, is_whole_under, numbers_told_under, option_data}
use Rattle.ack_vectors.proofs.ReadBack.{states-long}

-- the bytes of at most one option, and those of more
pub one-option : (bytes : List ℕ) → length bytes ≤ 253 → option_data bytes ≡ bytes ∷ []
one-option bytes fits = rw (le-leb (length bytes) 253 fits) refl

pub two-options : (bytes : List ℕ) → 253 < length bytes → option_data bytes ≡ take 253 bytes ∷ drop 253 bytes ∷ []
two-options bytes more = rw (lt-leb (length bytes) 253 more) refl

pub options-joined : (bytes : List ℕ) → concat (option_data bytes) ≡ bytes
options-joined bytes =
    elim (cases_Bool (nat_le (length bytes) 253)) [
      | inl one ↦ ap concat (one-option bytes (leb-true (length bytes) 253 one)) ∙ append-nil bytes
      | inr two ↦
          ap concat (two-options bytes (leb-false (length bytes) 253 two))
          ∙ ap (λ xs. take 253 bytes ++ xs) (append-nil (drop 253 bytes)) ∙ take-append-drop 253 bytes
    ]

-- a packet with these options reports the vector
pub options-read : (ack : ℕ) (bytes : List ℕ) → joined_report ack (option_data bytes) ≡ Some (record { ack = ack; bytes = bytes })
options-read ack bytes =
    elim (cases_Bool (nat_le (length bytes) 253)) [
      | inl one ↦
          ap (joined_report ack) (one-option bytes (leb-true (length bytes) 253 one))
          ∙ ap (reported_as ack) (append-nil bytes)
      | inr two ↦
          ap (joined_report ack) (two-options bytes (leb-false (length bytes) 253 two))
          ∙ ap (λ xs. reported_as ack (take 253 bytes ++ xs)) (append-nil (drop 253 bytes))
          ∙ ap (reported_as ack) (take-append-drop 253 bytes)
    ]
  where
    reported_as : ℕ → List ℕ → Option VectorReport
    reported_as ack bytes = Some (record { ack = ack; bytes = bytes })

-- no option holds more than it has room for
abbrev Fits : List ℕ → Type 0
Fits part = length part ≤ 253

pub options-fit : (bytes : List ℕ) → length bytes ≤ 506 → All (λ part. length part ≤ 253) (option_data bytes)
options-fit bytes most =
    elim (cases_Bool (nat_le (length bytes) 253)) [
      | inl one ↦
          let fits : length bytes ≤ 253 = leb-true (length bytes) 253 one in
          rw (one-option bytes fits) (All-cons Fits bytes [] fits (All-nil Fits))
      | inr two ↦
          let front : length (take 253 bytes) ≤ 253 = omega (arith, length-take 253 bytes) in
          let following : length (drop 253 bytes) ≤ 253 = omega (arith, length-drop 253 bytes) in
          rw (two-options bytes (leb-false (length bytes) 253 two))
          (All-cons Fits (take 253 bytes) (drop 253 bytes ∷ []) front (All-cons Fits (drop 253 bytes) [] following (All-nil Fits)))
    ]

pub most-room : (vectors : Vectors) → room_of vectors ≤ 506
most-room One = omega arith
most-room Two = omega arith

-- no more options than the setting allows
pub options-few : (vectors : Vectors) (bytes : List ℕ) → length bytes ≤ room_of vectors → length (option_data bytes) ≤ most_options vectors
options-few One bytes fits = rw (one-option bytes fits) (omega arith)
options-few Two bytes fits =
    elim (cases_Bool (nat_le (length bytes) 253)) [
      | inl one ↦ rw (one-option bytes (leb-true (length bytes) 253 one)) (omega arith)
      | inr two ↦ rw (two-options bytes (leb-false (length bytes) 253 two)) (omega arith)
    ]

pub options-full : (bytes : List ℕ) → 253 < length bytes → map length (option_data bytes) ≡ 253 ∷ (length bytes - 253) ∷ []
options-full bytes more =
    let front : length (take 253 bytes) ≡ 253 = omega (arith, length-take 253 bytes) in
    let following : length (drop 253 bytes) ≡ length bytes - 253 = length-drop 253 bytes in
    ap (map length) (two-options bytes more) ∙ ap (λ n. n ∷ length (drop 253 bytes) ∷ []) front ∙ ap (λ n. 253 ∷ n ∷ []) following

-- what the second option adds
pub whole-alike : (has : ℕ → Bool) (floor ack : ℕ) → is_whole_under has floor ack One ≡ true
    → (is_whole_under has floor ack Two ≡ true) × (vector_under has floor ack Two ≡ vector_under has floor ack One)
whole-alike has floor ack whole =
    let bytes : List ℕ = all_bytes (set_states has) floor ack in
    let fits : length bytes ≤ 253 = leb-true (length bytes) 253 whole in
    (le-leb (length bytes) 506 (omega arith), take_all 506 bytes (omega arith) ∙ sym (take_all 253 bytes fits))

pub more-told : (has : ℕ → Bool) (floor ack : ℕ) → is_whole_under has floor ack One ≡ false
    → numbers_told_under has floor ack One < numbers_told_under has floor ack Two
more-told has floor ack cut =
    let bytes : List ℕ = all_bytes (set_states has) floor ack in
    let long : 253 < length bytes = leb-false (length bytes) 253 cut in
    let following : List ℕ = take 253 (drop 253 bytes) in
    let some : 1 ≤ length following = omega (arith, length-take 253 (drop 253 bytes), length-drop 253 bytes) in
    let parts : length (states (take 506 bytes)) ≡ length (states (take 253 bytes)) + length (states following) =
    ap (λ xs. length (states xs)) (take-add 253 253 bytes) ∙ ap length (states-append (take 253 bytes) following)
    ∙ length-append (states (take 253 bytes)) (states following) in
    let told = states-long following in
    omega (arith, parts, told, some)
