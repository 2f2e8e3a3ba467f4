-- Bytes in hexadecimal, byte by byte and block by block.
use Rattle.std.proofs.Common.{◌≡◌, refl, sym, ap, ◌∙◌, ℕ, zero, suc, ◌+◌, ◌*◌, ◌<◌, ◌≤◌, List, [], ◌∷◌, ◌++◌, if◌then◌else◌, nat_lt, ◌/◌, ◌%◌, length, take, get_or, append_assoc, arith}
use Rattle.std.proofs.lemmas.Grind.{common_steps}
use Rattle.std.proofs.lemmas.List.{append-nil, take_more, take_more_set}
use Rattle.std.specs.Prelude.{slice_index, slice_set}
use Rattle.hex.specs.Hex.{encode_with, encode_lower, lower_digits}

pub encode-append : (first rest : List ℕ) → encode_lower (first ++ rest) ≡ encode_lower first ++ encode_lower rest
unfolding encode_with
encode-append [] rest = refl
encode-append (byte ∷ first) rest =
    ap (λ (digits : List ℕ). slice_index lower_digits (byte / 16) ∷ slice_index lower_digits (byte % 16) ∷ digits) (encode-append first rest)

pub encode-none : encode_lower [] ≡ []
unfolding encode_with
encode-none = refl

-- one block further
pub block-put : (before after all block rest digits whole : List ℕ) → all ≡ block ++ rest → after ≡ before ++ digits → digits ≡ encode_lower block
    → before ++ encode_lower all ≡ whole → after ++ encode_lower rest ≡ whole
block-put before after all block rest digits whole parts put is same =
    ap (λ (text : List ℕ). text ++ encode_lower rest) (put ∙ ap (λ (more : List ℕ). before ++ more) is)
    ∙ append_assoc before (encode_lower block) (encode_lower rest)
    ∙ ap (λ (more : List ℕ). before ++ more) (sym (encode-append block rest) ∙ ap encode_lower (sym parts))
    ∙ same

-- no block is left
pub all-put : (before rest whole : List ℕ) → length rest ≡ 0 → before ++ encode_lower rest ≡ whole → before ≡ whole
all-put before [] whole none same = sym (append-nil before) ∙ ap (λ (more : List ℕ). before ++ more) (sym encode-none) ∙ same
all-put before (byte ∷ rest) whole none same = absurd (omega arith)

-- the ten figures, and the six letters
pub digit_of : (value gap : ℕ) → value < 16 → gap ≡ (if nat_lt value 10 then 0 else 39) → value + 48 + gap ≡ slice_index lower_digits value
digit_of zero gap small is = ap (λ (n : ℕ). 48 + n) is
digit_of (suc zero) gap small is = ap (λ (n : ℕ). 49 + n) is
digit_of (suc (suc zero)) gap small is = ap (λ (n : ℕ). 50 + n) is
digit_of (suc (suc (suc zero))) gap small is = ap (λ (n : ℕ). 51 + n) is
digit_of (suc (suc (suc (suc zero)))) gap small is = ap (λ (n : ℕ). 52 + n) is
digit_of (suc (suc (suc (suc (suc zero))))) gap small is = ap (λ (n : ℕ). 53 + n) is
digit_of (suc (suc (suc (suc (suc (suc zero)))))) gap small is = ap (λ (n : ℕ). 54 + n) is
digit_of (suc (suc (suc (suc (suc (suc (suc zero))))))) gap small is = ap (λ (n : ℕ). 55 + n) is
digit_of (suc (suc (suc (suc (suc (suc (suc (suc zero)))))))) gap small is = ap (λ (n : ℕ). 56 + n) is
digit_of (suc (suc (suc (suc (suc (suc (suc (suc (suc zero))))))))) gap small is = ap (λ (n : ℕ). 57 + n) is
digit_of (suc (suc (suc (suc (suc (suc (suc (suc (suc (suc zero)))))))))) gap small is = ap (λ (n : ℕ). 58 + n) is
digit_of (suc (suc (suc (suc (suc (suc (suc (suc (suc (suc (suc zero))))))))))) gap small is = ap (λ (n : ℕ). 59 + n) is
digit_of (suc (suc (suc (suc (suc (suc (suc (suc (suc (suc (suc (suc zero)))))))))))) gap small is = ap (λ (n : ℕ). 60 + n) is
digit_of (suc (suc (suc (suc (suc (suc (suc (suc (suc (suc (suc (suc (suc zero))))))))))))) gap small is = ap (λ (n : ℕ). 61 + n) is
digit_of (suc (suc (suc (suc (suc (suc (suc (suc (suc (suc (suc (suc (suc (suc zero)))))))))))))) gap small is = ap (λ (n : ℕ). 62 + n) is
digit_of (suc (suc (suc (suc (suc (suc (suc (suc (suc (suc (suc (suc (suc (suc (suc zero))))))))))))))) gap small is = ap (λ (n : ℕ). 63 + n) is
digit_of (suc (suc (suc (suc (suc (suc (suc (suc (suc (suc (suc (suc (suc (suc (suc (suc value)))))))))))))))) gap small is = absurd (omega arith)

-- one byte further
encode-one : (byte : ℕ) → encode_lower (byte ∷ []) ≡ slice_index lower_digits (byte / 16) ∷ slice_index lower_digits (byte % 16) ∷ []
unfolding encode_with
encode-one byte = refl

pub one_encoded : (bytes room : List ℕ) (place high low : ℕ) → length room ≡ 2 * length bytes → place < length bytes
    → take (2 * place) room ≡ encode_lower (take place bytes) → high ≡ slice_index lower_digits (get_or bytes place 0 / 16)
    → low ≡ slice_index lower_digits (get_or bytes place 0 % 16)
    → take (2 * (place + 1)) (slice_set (slice_set room (2 * place) high) (2 * place + 1) low) ≡ encode_lower (take (place + 1) bytes)
one_encoded bytes room place high low sized within done first second =
    let byte : ℕ = get_or bytes place 0 in
    let some : List ℕ = slice_set room (2 * place) high in
    let same : length some ≡ length room = grind (arith, common_steps) in
    let front : List ℕ = encode_lower (take place bytes) in
    let count : 2 * (place + 1) ≡ 2 * place + 1 + 1 = omega arith in
    ap (λ (n : ℕ). take n (slice_set some (2 * place + 1) low)) count
    ∙ take_more_set some (2 * place + 1) low (omega arith)
    ∙ ap (λ (text : List ℕ). text ++ (low ∷ [])) (take_more_set room (2 * place) high (omega arith))
    ∙ ap (λ (text : List ℕ). (text ++ (high ∷ [])) ++ (low ∷ [])) done
    ∙ append_assoc front (high ∷ []) (low ∷ [])
    ∙ ap (λ (n : ℕ). front ++ (n ∷ (low ∷ []))) first
    ∙ ap (λ (n : ℕ). front ++ (slice_index lower_digits (byte / 16) ∷ (n ∷ []))) second
    ∙ ap (λ (text : List ℕ). front ++ text) (sym (encode-one byte))
    ∙ sym (encode-append (take place bytes) (byte ∷ []))
    ∙ ap encode_lower (sym (take_more bytes place 0 within))

take-whole : (xs : List ℕ) (count : ℕ) → length xs ≤ count → take count xs ≡ xs
take-whole xs count many = grind (arith, common_steps)

-- no byte is left
pub all_encoded : (bytes room : List ℕ) (place : ℕ) → length room ≡ 2 * length bytes → length bytes ≤ place
    → take (2 * place) room ≡ encode_lower (take place bytes) → room ≡ encode_lower bytes
all_encoded bytes room place sized over done =
    sym (take-whole room (2 * place) (omega arith)) ∙ done ∙ ap encode_lower (take-whole bytes place over)
