-- The options after one that is not looked for.
use Rattle.std.proofs.Common.{arith, ◌≡◌, refl, sym, ap, ◌∙◌, ℕ, zero, suc, ◌+◌, ◌-◌, ◌*◌, ◌/◌, ◌<◌, ◌≤◌, List, [], ◌∷◌, length, length-drop, drop, true, false, nat_lt, ◌==◌, Option, Some, None}
use Rattle.std.proofs.lemmas.Bool.{le-ltb, lt-ltb}
use Rattle.std.proofs.lemmas.List.{drop-drop}
use Rattle.byteorder.specs.Endian.{big_number, little_number}
use Rattle.capture_reader.specs.Format.{ordered_number_at}
use Rattle.capture_reader.specs.declared.format.Order.{Order}
use Rattle.capture_reader.specs.declared.format.Order.TheVariants.{Big, Little}
use Rattle.bridge_records.specs.Interfaces.{by_option, option_from, option_size}

-- the first bytes belong to the option before
skipped : (order : Order) (code place skip : ℕ) (bytes : List ℕ)
    → option_from order code place skip bytes ≡ option_from order code (place + skip) 0 (drop skip bytes)
skipped order code place zero [] = refl
skipped order code place zero (byte ∷ bytes) =
    let same : place ≡ place + 0 = omega arith in
    ap (λ (n : ℕ). option_from order code n 0 (byte ∷ bytes)) same
skipped order code place (suc skip) [] = refl
skipped order code place (suc skip) (byte ∷ bytes) =
    let same : place + 1 + skip ≡ place + suc skip = omega arith in
    skipped order code (place + 1) skip bytes ∙ ap (λ (n : ℕ). option_from order code n 0 (drop skip bytes)) same

-- where some bytes are left, the option there is judged, and then those after it
cut : (order : Order) (code place : ℕ) (bytes : List ℕ) → 0 < length bytes
    → option_from order code place 0 bytes ≡ by_option order code place bytes
    (option_from order code (place + option_size order bytes) 0 (drop (option_size order bytes) bytes))
cut order code place [] some = absurd (omega (arith, some))
cut order code place (byte ∷ bytes) some =
    let size = option_size order (byte ∷ bytes) in
    let further : place + 1 + (size - 1) ≡ place + size = omega arith in
    let one : size ≡ suc (size - 1) = omega arith in
    let following : drop (size - 1) bytes ≡ drop size (byte ∷ bytes) = sym (ap (λ (n : ℕ). drop n (byte ∷ bytes)) one) in
    ap (by_option order code place (byte ∷ bytes))
    (skipped order code (place + 1) (size - 1) bytes
    ∙ ap (λ (n : ℕ). option_from order code n 0 (drop (size - 1) bytes)) further
    ∙ ap (λ (rest : List ℕ). option_from order code (place + size) 0 rest) following)

-- what is looked for from a place on
abbrev pub sought : Order → ℕ → ℕ → List ℕ → Option ℕ
sought order code place options = option_from order code place 0 (drop place options)

-- an option's code and its length, read from its place on
code-here : (order : Order) (place : ℕ) (options : List ℕ) → ordered_number_at order 0 2 (drop place options) ≡ ordered_number_at order place 2 options
code-here Big place options = refl
code-here Little place options = refl

length-here : (order : Order) (place : ℕ) (options : List ℕ) → ordered_number_at order 2 2 (drop place options) ≡ ordered_number_at order (place + 2) 2 options
length-here Big place options = ap (big_number 2) (drop-drop 2 place options)
length-here Little place options = ap (little_number 2) (drop-drop 2 place options)

-- too few bytes have no option
nowhere : (order : Order) (code place : ℕ) (bytes : List ℕ) → length bytes < 8 → option_from order code place 0 bytes ≡ None
nowhere order code place [] few = refl
nowhere order code place (byte ∷ bytes) few =
    let none : nat_lt (length (byte ∷ bytes)) 8 ≡ true = lt-ltb (length (byte ∷ bytes)) 8 few in
    rw none refl

module _ (order : Order) (code place : ℕ) (options : List ℕ) where
  -- no option has room
  pub sought_nowhere : length options < place + 8 → sought order code place options ≡ None
  sought_nowhere short = nowhere order code place (drop place options) (let size = length-drop place options in omega (arith, size, short))

  module _ (room : place + 8 ≤ length options) where
    -- some bytes are left
    some : 0 < length (drop place options)
    some = let size = length-drop place options in omega (arith, size, room)

    long : nat_lt (length (drop place options)) 8 ≡ false
    long = le-ltb (length (drop place options)) 8 (let size = length-drop place options in omega (arith, size, room))

    -- the options end
    pub sought_end : (ordered_number_at order place 2 options == 0) ≡ true → sought order code place options ≡ None
    sought_end last =
        let is : (ordered_number_at order 0 2 (drop place options) == 0) ≡ true = ap (λ (n : ℕ). n == 0) (code-here order place options) ∙ last in
        cut order code place (drop place options) some ∙ rw (long, is) refl

    module _ (further : (ordered_number_at order place 2 options == 0) ≡ false) where
      not_last : (ordered_number_at order 0 2 (drop place options) == 0) ≡ false
      not_last = ap (λ (n : ℕ). n == 0) (code-here order place options) ∙ further

      -- it is found
      pub sought_here : (ordered_number_at order place 2 options == code) ≡ true → sought order code place options ≡ Some place
      sought_here here =
          let is : (ordered_number_at order 0 2 (drop place options) == code) ≡ true = ap (λ (n : ℕ). n == code) (code-here order place options) ∙ here in
          cut order code place (drop place options) some ∙ rw (long, not_last, is) refl

      -- it is looked for after another
      pub sought_on : (ordered_number_at order place 2 options == code) ≡ false
          → sought order code place options ≡ sought order code (place + (4 + (ordered_number_at order (place + 2) 2 options + 3) / 4 * 4)) options
      sought_on other =
          let is : (ordered_number_at order 0 2 (drop place options) == code) ≡ false = ap (λ (n : ℕ). n == code) (code-here order place options) ∙ other in
          let size = option_size order (drop place options) in
          let same : size ≡ 4 + (ordered_number_at order (place + 2) 2 options + 3) / 4 * 4 =
          ap (λ (n : ℕ). 4 + (n + 3) / 4 * 4) (length-here order place options) in
          cut order code place (drop place options) some
          ∙ rw (long, not_last, is) refl
          ∙ ap (λ (rest : List ℕ). option_from order code (place + size) 0 rest) (drop-drop size place options)
          ∙ ap (λ (n : ℕ). sought order code (place + n) options) same
