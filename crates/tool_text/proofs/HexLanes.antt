-- Bytes in hexadecimal, sixteen side by side.
use Rattle.std.proofs.Common.{◌≡◌, refl, sym, ap, subst, ◌∙◌, ℕ, zero, suc, ◌+◌, ◌*◌, ◌/◌, ◌%◌, ◌^◌, ◌<◌, ◌≤◌, List, [], ◌∷◌, ◌++◌, cond, ltb, map, length, take, drop, replicate, append_assoc, arith}
use Rattle.std.specs.Prelude.{bit_and, slice_index}
use Rattle.std.proofs.Math.Seq.{take-add, take-append_seam}
use Rattle.std.proofs.lemmas.Grind.{common_steps}
use Rattle.std.proofs.lemmas.List.{length-take-le, take-append-drop}
use Rattle.std.proofs.lemmas.Nat.{and_mask}
use Rattle.std.proofs.lemmas.Simd.{Each1-all, Each1-weaker, Each1-zip2, Each2-splat, length-put_chunk, pick_l_whole, take_more_put_chunk, zip2_splat}
use lib.Lanes.{Each1, chunk, pick_l, put_chunk, sel_l, top, zip2}
use Rattle.hex.specs.Hex.{encode_with, encode_lower, lower_digits}
use Rattle.tool_text.proofs.HexText.{encode-append}

-- Values

abbrev pub digit_at : ℕ → ℕ
digit_at value = slice_index lower_digits value

abbrev plus : ℕ → ℕ → ℕ
plus a b = (a + b) % 2 ^ 8

abbrev below : ℕ → ℕ → ℕ
below a b = cond (ltb a b) 255 0

-- what is worked out for a value is its digit
worked-out : (value : ℕ) → value < 16 → plus (plus value 48) (cond (top 7 (below 9 value)) 39 0) ≡ digit_at value
worked-out (suc (suc (suc (suc (suc (suc (suc (suc (suc (suc (suc (suc (suc (suc (suc (suc value)))))))))))))))) small = absurd (omega arith)
worked-out _ small = refl

pub lanes-digits : (values : List ℕ) (count : ℕ) → length values ≡ count → Each1 (λ value. value < 16) values
    → zip2 plus (zip2 plus values (replicate count 48)) (sel_l (map (top 7) (zip2 below (replicate count 9) values)) (replicate count 39) (replicate count 0))
    ≡ map digit_at values
lanes-digits [] count long small = refl
lanes-digits (value ∷ values) zero long small = absurd (omega arith)
lanes-digits (value ∷ values) (suc count) long small = λ i. worked-out value small.0 i ∷ lanes-digits values count (omega arith) small.1 i

-- Bytes

abbrev high : ℕ → ℕ → ℕ
high a b = a / 2 ^ b

pub highs-small : (bytes : List ℕ) (count : ℕ) → Each1 (λ byte. byte < 256) bytes → Each1 (λ value. value < 16) (zip2 high bytes (replicate count 4))
highs-small bytes count bytes_fit =
    Each1-zip2 high (λ value. value < 16) bytes (replicate count 4)
    (Each2-splat (λ a b. high a b < 16) bytes count 4 (Each1-weaker (λ a. a < 256) (λ a. a / 16 < 16) (λ a small. omega arith) bytes bytes_fit))

pub lows-small : (bytes : List ℕ) (count : ℕ) → Each1 (λ value. value < 16) (zip2 bit_and bytes (replicate count 15))
lows-small bytes count =
    Each1-zip2 bit_and (λ value. value < 16) bytes (replicate count 15)
    (Each2-splat (λ a b. bit_and a b < 16) bytes count 15 (Each1-all (λ a. bit_and a 15 < 16) (λ a. omega (arith, and_mask a 4)) bytes))

abbrev both_halves : List ℕ → List ℕ → List ℕ
both_halves highs lows =
    pick_l 0 (highs ++ lows) (0 ∷ 16 ∷ 1 ∷ 17 ∷ 2 ∷ 18 ∷ 3 ∷ 19 ∷ 4 ∷ 20 ∷ 5 ∷ 21 ∷ 6 ∷ 22 ∷ 7 ∷ 23 ∷ [])
    ++ pick_l 0 (highs ++ lows) (8 ∷ 24 ∷ 9 ∷ 25 ∷ 10 ∷ 26 ∷ 11 ∷ 27 ∷ 12 ∷ 28 ∷ 13 ∷ 29 ∷ 14 ∷ 30 ∷ 15 ∷ 31 ∷ [])

abbrev listed : List ℕ → List ℕ
listed xs = pick_l 0 xs (0 ∷ 1 ∷ 2 ∷ 3 ∷ 4 ∷ 5 ∷ 6 ∷ 7 ∷ 8 ∷ 9 ∷ 10 ∷ 11 ∷ 12 ∷ 13 ∷ 14 ∷ 15 ∷ [])

woven-listed : (bytes : List ℕ)
    → both_halves (map (λ byte. digit_at (byte / 16)) (listed bytes)) (map (λ byte. digit_at (byte % 16)) (listed bytes)) ≡ encode_lower (listed bytes)
unfolding encode_with
woven-listed bytes = refl

woven : (bytes : List ℕ) → length bytes ≡ 16
    → both_halves (map (λ byte. digit_at (byte / 16)) bytes) (map (λ byte. digit_at (byte % 16)) bytes) ≡ encode_lower bytes
woven bytes long =
    subst (λ (xs : List ℕ). both_halves (map (λ byte. digit_at (byte / 16)) xs) (map (λ byte. digit_at (byte % 16)) xs) ≡ encode_lower xs)
    (pick_l_whole 0 bytes 16 long) (woven-listed bytes)

map-high : (bytes : List ℕ) → map digit_at (map (λ byte. high byte 4) bytes) ≡ map (λ byte. digit_at (byte / 16)) bytes
map-high [] = refl
map-high (byte ∷ bytes) = ap (λ (xs : List ℕ). digit_at (byte / 16) ∷ xs) (map-high bytes)

map-low : (bytes : List ℕ) → map digit_at (map (λ byte. bit_and byte 15) bytes) ≡ map (λ byte. digit_at (byte % 16)) bytes
map-low [] = refl
map-low (byte ∷ bytes) = λ i. digit_at (and_mask byte 4 i) ∷ map-low bytes i

-- a block's digits
pub block-digits : (bytes highs lows : List ℕ) → length bytes ≡ 16 → highs ≡ map digit_at (zip2 high bytes (replicate 16 4))
    → lows ≡ map digit_at (zip2 bit_and bytes (replicate 16 15))
    → both_halves highs lows ≡ encode_lower bytes
block-digits bytes highs lows long above below =
    let first = above ∙ ap (map digit_at) (zip2_splat high bytes 16 4 long) ∙ map-high bytes in
    let second = below ∙ ap (map digit_at) (zip2_splat bit_and bytes 16 15 long) ∙ map-low bytes in
    (λ i. both_halves (first i) (second i)) ∙ woven bytes long

-- Blocks

-- one block more is written
pub block-written : (bytes room first second : List ℕ) (done : ℕ) → length room ≡ 2 * length bytes → done + 16 ≤ length bytes → length first ≡ 16
    → length second ≡ 16
    → take (2 * done) room ≡ encode_lower (take done bytes) → first ++ second ≡ encode_lower (chunk done 16 bytes)
    → take (2 * (done + 16)) (put_chunk (2 * done + 16) (put_chunk (2 * done) room first) second) ≡ encode_lower (take (done + 16) bytes)
block-written bytes room first second done sized within few some before is =
    let same = length-put_chunk (2 * done) room first in
    take_more_put_chunk (2 * done + 16) (put_chunk (2 * done) room first) second (2 * (done + 16)) (omega (arith, some)) (omega (arith, same))
    ∙ ap (λ (front : List ℕ). front ++ second) (take_more_put_chunk (2 * done) room first (2 * done + 16) (omega (arith, few)) (omega arith))
    ∙ append_assoc (take (2 * done) room) first second
    ∙ ap (λ (front : List ℕ). front ++ (first ++ second)) before
    ∙ ap (λ (more : List ℕ). encode_lower (take done bytes) ++ more) is
    ∙ sym (encode-append (take done bytes) (chunk done 16 bytes))
    ∙ ap encode_lower (sym (take-add done 16 bytes))

pub still-sized : (room first second : List ℕ) (here following size : ℕ) → length room ≡ size → length (put_chunk following (put_chunk here room first) second) ≡ size
still-sized room first second here following size sized = length-put_chunk following (put_chunk here room first) second ∙ length-put_chunk here room first ∙ sized

-- what is written further on is written up to an earlier place
encode-length : (bytes : List ℕ) → length (encode_lower bytes) ≡ 2 * length bytes
unfolding encode_with
encode-length [] = refl
encode-length (byte ∷ rest) = let more = encode-length rest in omega arith

pub written-earlier : (bytes room : List ℕ) (place done : ℕ) → place ≤ done → done ≤ length bytes
    → take (2 * done) room ≡ encode_lower (take done bytes) → take (2 * place) room ≡ encode_lower (take place bytes)
written-earlier bytes room place done before within is =
    let more : List ℕ = drop place (take done bytes) in
    let front : take place (take done bytes) ≡ take place bytes = grind (arith, common_steps) in
    let parts : take done bytes ≡ take place bytes ++ more = sym (take-append-drop place (take done bytes)) ∙ ap (λ (some : List ℕ). some ++ more) front in
    let long : length (take place bytes) ≡ place = length-take-le place bytes (omega arith) in
    let digits : length (encode_lower (take place bytes)) ≡ 2 * place = encode-length (take place bytes) ∙ ap (λ (n : ℕ). 2 * n) long in
    let shorter : take (2 * place) (take (2 * done) room) ≡ take (2 * place) room = grind (arith, common_steps) in
    sym shorter
    ∙ ap (λ (text : List ℕ). take (2 * place) text) (is ∙ ap encode_lower parts ∙ encode-append (take place bytes) more)
    ∙ ap (λ (n : ℕ). take n (encode_lower (take place bytes) ++ encode_lower more)) (sym digits)
    ∙ take-append_seam (encode_lower (take place bytes)) (encode_lower more)
