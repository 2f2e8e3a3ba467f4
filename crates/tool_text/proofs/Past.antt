-- A byte is a digit where it is past neither the figures nor the letters.
use Rattle.std.proofs.Common.{◌≡◌, refl, subst, ℕ, zero, suc, ◌+◌, ◌-◌, ◌%◌, ◌^◌, ◌<◌, Bool, true, false, ◌&&◌, ◌==◌, min, inl, inr, eq-zero-or-pos, arith}
use Rattle.std.specs.Prelude.{bit_or}
use Rattle.hex.specs.Hex.{is_hex_digit}
use Rattle.tool_text.proofs.Bytes.{both-true}

-- how far a byte is past the figures or the letters, whichever is less
abbrev pub past : ℕ → ℕ
past byte = min ((byte + (2 ^ 8 - 48)) % 2 ^ 8 - 9) ((bit_or byte 32 + (2 ^ 8 - 97)) % 2 ^ 8 - 5)

abbrev same : Bool → Bool → Bool
same true b = b
same false true = false
same false false = true

same-is : (a b : Bool) → same a b ≡ true → a ≡ b
same-is true true is = refl
same-is true false is = cc is
same-is false true is = cc is
same-is false false is = refl

abbrev agrees : ℕ → Bool
agrees byte = same (past byte == 0) (is_hex_digit byte)

abbrev all-below : (ℕ → Bool) → ℕ → Bool
all-below test zero = true
all-below test (suc count) = test count && all-below test count

one-below : (test : ℕ → Bool) (count n : ℕ) → all-below test count ≡ true → n < count → test n ≡ true
one-below test zero n all within = absurd (omega arith)
one-below test (suc count) n all within =
    let both = both-true (test count) (all-below test count) all in
    elim (eq-zero-or-pos (count - n)) [
      | inl none ↦ let last : count ≡ n = omega arith in subst (λ (k : ℕ). test k ≡ true) last both.0
      | inr some ↦ one-below test count n both.1 (omega arith)
    ]

pub past_digits : (byte : ℕ) → byte < 256 → (past byte == 0) ≡ is_hex_digit byte
past_digits byte fits = same-is (past byte == 0) (is_hex_digit byte) (one-below agrees 256 byte refl fits)
