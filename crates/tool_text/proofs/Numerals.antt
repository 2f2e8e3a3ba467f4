-- A decimal number below a limit is read as it is written, and what is read is written so.
use Rattle.std.proofs.Common.{◌≡◌, refl, sym, ap, ◌∙◌, subst, ℕ, zero, suc, ◌+◌, ◌-◌, ◌*◌, ◌/◌, ◌%◌, ◌^◌, ◌≤◌, ◌<◌, List, [], ◌∷◌, ◌++◌, length, append_assoc, Bool, true, false, ◌&&◌, ◌==◌, if◌then◌else◌, nat_lt, Option, Some, None, get_or, arith}
use Rattle.std.specs.Prelude.{decimal}
use Rattle.std.proofs.lemmas.Bool.Decides.{nat_tests}
use Rattle.std.proofs.lemmas.List.{append-nil}
use Rattle.std.proofs.lemmas.Fmt.{decimal_step, decimal_digit, decimal_by_steps, first_decimal, decimal_nonempty, length-decimal-le}
use Rattle.tool_text.specs.Numbers.{is_digit, digits_after, number_below}

record Spells (n : ℕ) (rest : List ℕ) (whole limit : ℕ) : Type 0 where
  pub digits : decimal whole ≡ decimal n ++ rest
  pub fits : whole < limit

module _ (limit : ℕ) (top : limit ≤ 2 ^ 48) where
  digit-low : (n byte : ℕ) → (is_digit byte && nat_lt (10 * n + (byte - 48)) limit) ≡ true → 48 ≤ byte
  digit-low n byte is = grind (arith, nat_tests)

  digit-high : (n byte : ℕ) → (is_digit byte && nat_lt (10 * n + (byte - 48)) limit) ≡ true → byte ≤ 57
  digit-high n byte is = grind (arith, nat_tests)

  digit-fits : (n byte : ℕ) → (is_digit byte && nat_lt (10 * n + (byte - 48)) limit) ≡ true → 10 * n + (byte - 48) < limit
  digit-fits n byte is = grind (arith, nat_tests)

  digit-passes : (n byte : ℕ) → 48 ≤ byte → byte ≤ 57 → 10 * n + (byte - 48) < limit → (is_digit byte && nat_lt (10 * n + (byte - 48)) limit) ≡ true
  digit-passes n byte low high fits = grind (arith, nat_tests)

  decimal-grows : (n byte : ℕ) → 0 < n → 48 ≤ byte → byte ≤ 57 → 10 * n + (byte - 48) < limit → decimal (10 * n + (byte - 48)) ≡ decimal n ++ (byte ∷ [])
  decimal-grows n byte some low high fits =
      let tens : (10 * n + (byte - 48)) / 10 ≡ n = omega arith in
      let ones : 48 + (10 * n + (byte - 48)) % 10 ≡ byte = omega arith in
      decimal_step (10 * n + (byte - 48)) (omega arith) (omega arith)
      ∙ ap (λ (m : ℕ). decimal m ++ ((48 + (10 * n + (byte - 48)) % 10) ∷ [])) tens
      ∙ ap (λ (last : ℕ). decimal n ++ (last ∷ [])) ones

  digit-then : (n byte whole : ℕ) (rest : List ℕ) → 0 < n → 48 ≤ byte → byte ≤ 57 → 10 * n + (byte - 48) < limit
      → Spells (10 * n + (byte - 48)) rest whole limit → Spells n (byte ∷ rest) whole limit
  digit-then n byte whole rest some low high fits spells = record {
    digits = spells.digits ∙ ap (λ (front : List ℕ). front ++ rest) (decimal-grows n byte some low high fits) ∙ append_assoc (decimal n) (byte ∷ []) rest;
    fits = spells.fits;
  }

  by-test : {A : Type 0} (test : Bool) (x : Option A) (y : A) → (if test then x else None) ≡ Some y → (test ≡ true) × (x ≡ Some y)
  by-test true x y read = (refl, read)
  by-test false x y read = cc read

  spelled-on : (n : ℕ) (rest : List ℕ) (whole : ℕ) → 0 < n → n < limit → digits_after limit n rest ≡ Some whole → Spells n rest whole limit
  spelled-on n [] whole some fits read =
      let same : n ≡ whole = cc read in
      record { digits = ap decimal (sym same) ∙ sym (append-nil (decimal n)); fits = omega arith }
  spelled-on n (byte ∷ rest) whole some fits read =
      let both = by-test (is_digit byte && nat_lt (10 * n + (byte - 48)) limit) (digits_after limit (10 * n + (byte - 48)) rest) whole read in
      digit-then n byte whole rest some (digit-low n byte both.0) (digit-high n byte both.0) (digit-fits n byte both.0)
      (spelled-on (10 * n + (byte - 48)) rest whole (omega arith) (digit-fits n byte both.0) both.1)

  one-digit : (byte : ℕ) → 48 ≤ byte → byte ≤ 57 → decimal (byte - 48) ≡ byte ∷ []
  one-digit byte low high =
      let back : 48 + (byte - 48) ≡ byte = omega arith in
      decimal_digit (byte - 48) (omega arith) ∙ ap (λ (last : ℕ). last ∷ []) back

  by-other : {A : Type 0} (test : Bool) (x : Option A) (y : A) → (if test then None else x) ≡ Some y → (test ≡ false) × (x ≡ Some y)
  by-other true x y read = cc read
  by-other false x y read = (refl, read)

  above-zero : (byte : ℕ) → (byte == 48) ≡ false → 48 ≤ byte → 48 < byte
  above-zero byte other low = grind (arith, nat_tests)

  -- a number that is read is spelled so
  pub number-spelled : (bytes : List ℕ) (n : ℕ) → number_below limit bytes ≡ Some n → (bytes ≡ decimal n) × (n < limit)
  number-spelled [] n read = cc read
  number-spelled (byte ∷ []) n read =
      let both = by-test (is_digit byte && nat_lt (10 * 0 + (byte - 48)) limit) (Some (10 * 0 + (byte - 48))) n read in
      let low = digit-low 0 byte both.0 in
      let high = digit-high 0 byte both.0 in
      let fits = digit-fits 0 byte both.0 in
      let first : 10 * 0 + (byte - 48) ≡ byte - 48 = omega arith in
      let same : 10 * 0 + (byte - 48) ≡ n = cc both.1 in
      (sym (one-digit byte low high) ∙ ap decimal (sym first ∙ same), omega arith)
  number-spelled (byte ∷ (next ∷ rest)) n read =
      let other = by-other (byte == 48) (digits_after limit 0 (byte ∷ (next ∷ rest))) n read in
      let both = by-test (is_digit byte && nat_lt (10 * 0 + (byte - 48)) limit) (digits_after limit (10 * 0 + (byte - 48)) (next ∷ rest)) n other.1 in
      let low = digit-low 0 byte both.0 in
      let high = digit-high 0 byte both.0 in
      let below = digit-fits 0 byte both.0 in
      let some = above-zero byte other.0 low in
      let first : 10 * 0 + (byte - 48) ≡ byte - 48 = omega arith in
      let spells = spelled-on (byte - 48) (next ∷ rest) n (omega arith) (omega arith)
      (subst (λ (front : ℕ). digits_after limit front (next ∷ rest) ≡ Some n) first both.1) in
      (sym (spells.digits ∙ ap (λ (front : List ℕ). front ++ (next ∷ rest)) (one-digit byte low high)), spells.fits)

  snoc-by : {A : Type 0} (test : Bool) (x y z : Option A) (m : A) → (if test then x else None) ≡ Some m → (x ≡ Some m → y ≡ z) → (if test then y else None) ≡ z
  snoc-by true x y z m read then_same = then_same read
  snoc-by false x y z m read then_same = cc read

  digits-snoc : (n : ℕ) (bytes : List ℕ) (byte m : ℕ) → digits_after limit n bytes ≡ Some m
      → digits_after limit n (bytes ++ byte ∷ []) ≡ digits_after limit m (byte ∷ [])
  digits-snoc n [] byte m read = let same : n ≡ m = cc read in ap (λ (front : ℕ). digits_after limit front (byte ∷ [])) same
  digits-snoc n (first ∷ bytes) byte m read =
      snoc-by (is_digit first && nat_lt (10 * n + (first - 48)) limit) (digits_after limit (10 * n + (first - 48)) bytes)
      (digits_after limit (10 * n + (first - 48)) (bytes ++ byte ∷ []))
      (digits_after limit m (byte ∷ [])) m read (λ more. digits-snoc (10 * n + (first - 48)) bytes byte m more)

  last-digit : (n digit whole : ℕ) → digit < 10 → 10 * n + digit ≡ whole → whole < limit → digits_after limit n ((48 + digit) ∷ []) ≡ Some whole
  last-digit n digit whole low is fits =
      let passes = digit-passes n (48 + digit) (omega arith) (omega arith) (omega arith) in
      let value : 10 * n + ((48 + digit) - 48) ≡ whole = omega arith in
      ap (λ (test : Bool). if test then Some (10 * n + ((48 + digit) - 48)) else None) passes ∙ ap Some value

  decimal-read : (n : ℕ) → n < limit → digits_after limit 0 (decimal n) ≡ Some n
  decimal-read n small =
      decimal_by_steps (λ m ds. m < limit → digits_after limit 0 ds ≡ Some m)
      (λ m low fits. last-digit 0 m m low (omega arith) fits)
      (λ m ds many before fits. digits-snoc 0 ds (48 + m % 10) (m / 10) (before (omega arith))
      ∙ last-digit (m / 10) (m % 10) m (omega arith) (omega arith) fits)
      n (omega arith) small

  number-by : (bytes : List ℕ) (n : ℕ) → digits_after limit 0 bytes ≡ Some n → 0 < length bytes → (1 < length bytes → 48 < get_or bytes 0 0)
      → number_below limit bytes ≡ Some n
  number-by [] n read some first = absurd (omega arith)
  number-by (byte ∷ []) n read some first = read
  number-by (byte ∷ (next ∷ rest)) n read some first =
      let above : 48 < byte = first (omega arith) in
      let other : (byte == 48) ≡ false = grind (arith, nat_tests) in
      ap (λ (test : Bool). if test then None else digits_after limit 0 (byte ∷ (next ∷ rest))) other ∙ read

  first-of : (n : ℕ) → n < 2 ^ 64 → 1 < length (decimal n) → 48 < get_or (decimal n) 0 0
  first-of zero small more = absurd (let one : length (decimal 0) ≤ 1 = length-decimal-le 1 0 (omega arith) (omega arith) (omega arith) in omega arith)
  first-of (suc n) small more = first_decimal (suc n) (omega arith) small

  -- a number is read as it is written
  pub number-read : (n : ℕ) → n < limit → number_below limit (decimal n) ≡ Some n
  number-read n small = number-by (decimal n) n (decimal-read n small) (decimal_nonempty n (omega arith)) (first-of n (omega arith))
