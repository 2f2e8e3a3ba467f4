-- The address and port of a peer as one number: numbers are in the order of peers.
use Rattle.std.proofs.Common.{◌≡◌, refl, sym, ap, ◌∙◌, ℕ, ◌+◌, ◌*◌, ◌<◌, List, [], ◌∷◌, length, get_or, Ordering, Less, Equal, Greater, nat_cmp, arith}
use Rattle.std.specs.Cmp.{nat_cmp_is, ranks}
use Rattle.std.specs.Cmp.Lexicographic.{slice_cmp}
use Rattle.std.specs.Int.{from_be_bytes, w32}
use Rattle.std.specs.Ordering.{MatchOrdering, ordering_then}
use Rattle.dccp_listener.specs.Numbers.{AreDigits}

-- how two numbers compare
abbrev pub Ranks : Ordering → ℕ → ℕ → Type 0
Ranks o x y = MatchOrdering o (x < y) (x ≡ y) (y < x)

-- a further digit
digit : (o s : Ordering) (x y a b : ℕ) → Ranks o x y → Ranks s a b → a < 256 → b < 256 → Ranks (ordering_then o s) (x * 256 + a) (y * 256 + b)
digit Less s x y a b first then low high = omega (arith, first, low, high)
digit Equal Less x y a b first then low high = omega (arith, first, then)
digit Equal Equal x y a b first then low high = omega (arith, first, then)
digit Equal Greater x y a b first then low high = omega (arith, first, then)
digit Greater s x y a b first then low high = omega (arith, first, low, high)

-- and a port
port : (o s : Ordering) (x y a b : ℕ) → Ranks o x y → Ranks s a b → a < 65536 → b < 65536 → Ranks (ordering_then o s) (x * 65536 + a) (y * 65536 + b)
port Less s x y a b first then low high = omega (arith, first, low, high)
port Equal Less x y a b first then low high = omega (arith, first, then)
port Equal Equal x y a b first then low high = omega (arith, first, then)
port Equal Greater x y a b first then low high = omega (arith, first, then)
port Greater s x y a b first then low high = omega (arith, first, low, high)

in-turn : (a b c d e : Ordering) → ordering_then (ordering_then a (ordering_then b (ordering_then c (ordering_then d Equal)))) e
    ≡ ordering_then (ordering_then (ordering_then (ordering_then a b) c) d) e
in-turn Less b c d e = refl
in-turn Greater b c d e = refl
in-turn Equal Less c d e = refl
in-turn Equal Greater c d e = refl
in-turn Equal Equal Less d e = refl
in-turn Equal Equal Greater d e = refl
in-turn Equal Equal Equal Less e = refl
in-turn Equal Equal Equal Equal e = refl
in-turn Equal Equal Equal Greater e = refl

four : (xs : List ℕ) → length xs ≡ 4 → xs ≡ get_or xs 0 0 ∷ get_or xs 1 0 ∷ get_or xs 2 0 ∷ get_or xs 3 0 ∷ []
four [] is = absurd (omega (arith, is))
four (a ∷ []) is = absurd (omega (arith, is))
four (a ∷ b ∷ []) is = absurd (omega (arith, is))
four (a ∷ b ∷ c ∷ []) is = absurd (omega (arith, is))
four (a ∷ b ∷ c ∷ d ∷ []) is = refl
four (a ∷ b ∷ c ∷ d ∷ e ∷ xs) is = absurd (omega (arith, is))

module _ (a b c d p x y z w q : ℕ) where
  by-digits : a < 256 → b < 256 → c < 256 → d < 256 → p < 65536 → x < 256 → y < 256 → z < 256 → w < 256 → q < 65536
      → Ranks (ordering_then (ordering_then (ordering_then (ordering_then (nat_cmp a x) (nat_cmp b y)) (nat_cmp c z)) (nat_cmp d w)) (nat_cmp p q))
      ((((a * 256 + b) * 256 + c) * 256 + d) * 65536 + p) ((((x * 256 + y) * 256 + z) * 256 + w) * 65536 + q)
  by-digits la lb lc ld lp lx ly lz lw lq =
      port (ordering_then (ordering_then (ordering_then (nat_cmp a x) (nat_cmp b y)) (nat_cmp c z)) (nat_cmp d w)) (nat_cmp p q) _ _ p q
      (digit (ordering_then (ordering_then (nat_cmp a x) (nat_cmp b y)) (nat_cmp c z)) (nat_cmp d w) _ _ d w
      (digit (ordering_then (nat_cmp a x) (nat_cmp b y)) (nat_cmp c z) _ _ c z
      (digit (nat_cmp a x) (nat_cmp b y) a x b y (ranks a x) (ranks b y) lb ly) (ranks c z) lc lz) (ranks d w) ld lw)
      (ranks p q) lp lq

  by-number : a < 256 → b < 256 → c < 256 → d < 256 → p < 65536 → x < 256 → y < 256 → z < 256 → w < 256 → q < 65536
      → ordering_then (slice_cmp nat_cmp (a ∷ b ∷ c ∷ d ∷ []) (x ∷ y ∷ z ∷ w ∷ [])) (nat_cmp p q)
      ≡ nat_cmp ((((a * 256 + b) * 256 + c) * 256 + d) * 65536 + p) ((((x * 256 + y) * 256 + z) * 256 + w) * 65536 + q)
  by-number la lb lc ld lp lx ly lz lw lq =
      in-turn (nat_cmp a x) (nat_cmp b y) (nat_cmp c z) (nat_cmp d w) (nat_cmp p q)
      ∙ nat_cmp_is _ _ _ (by-digits la lb lc ld lp lx ly lz lw lq)

spelt : (a b c d p : ℕ) → from_be_bytes w32 (a ∷ b ∷ c ∷ d ∷ []) * 65536 + p ≡ (((a * 256 + b) * 256 + c) * 256 + d) * 65536 + p
spelt a b c d p = omega arith

in-order : (xs ys : List ℕ) (p q : ℕ) → length xs ≡ 4 → length ys ≡ 4 → ((i : ℕ) → get_or xs i 0 < 256) → ((i : ℕ) → get_or ys i 0 < 256)
    → p < 65536 → q < 65536
    → nat_cmp (from_be_bytes w32 xs * 65536 + p) (from_be_bytes w32 ys * 65536 + q) ≡ ordering_then (slice_cmp nat_cmp xs ys) (nat_cmp p q)
in-order xs ys p q long long_too bytes bytes_too lp lq =
    ap (λ (l : List ℕ). nat_cmp (from_be_bytes w32 l * 65536 + p) (from_be_bytes w32 ys * 65536 + q)) (four xs long)
    ∙ ap (λ (l : List ℕ). nat_cmp (from_be_bytes w32 (get_or xs 0 0 ∷ get_or xs 1 0 ∷ get_or xs 2 0 ∷ get_or xs 3 0 ∷ []) * 65536 + p) (from_be_bytes w32 l * 65536 + q)) (four ys long_too)
    ∙ ap (λ (n : ℕ). nat_cmp n (from_be_bytes w32 (get_or ys 0 0 ∷ get_or ys 1 0 ∷ get_or ys 2 0 ∷ get_or ys 3 0 ∷ []) * 65536 + q)) (spelt _ _ _ _ p)
    ∙ ap (λ (n : ℕ). nat_cmp ((((get_or xs 0 0 * 256 + get_or xs 1 0) * 256 + get_or xs 2 0) * 256 + get_or xs 3 0) * 65536 + p) n) (spelt _ _ _ _ q)
    ∙ sym
    (ap (λ (l : List ℕ). ordering_then (slice_cmp nat_cmp l ys) (nat_cmp p q)) (four xs long)
    ∙ ap (λ (l : List ℕ). ordering_then (slice_cmp nat_cmp (get_or xs 0 0 ∷ get_or xs 1 0 ∷ get_or xs 2 0 ∷ get_or xs 3 0 ∷ []) l) (nat_cmp p q)) (four ys long_too)
    ∙ by-number _ _ _ _ p _ _ _ _ q (bytes 0) (bytes 1) (bytes 2) (bytes 3) lp (bytes_too 0) (bytes_too 1) (bytes_too 2) (bytes_too 3) lq)

pub in_order : (xs ys : List ℕ) (p q m n : ℕ) → AreDigits xs p → AreDigits ys q → m ≡ from_be_bytes w32 xs * 65536 + p → n ≡ from_be_bytes w32 ys * 65536 + q
    → nat_cmp m n ≡ ordering_then (slice_cmp nat_cmp xs ys) (nat_cmp p q)
in_order xs ys p q m n digits digits_too is is_too =
    ap (λ (k : ℕ). nat_cmp k n) is ∙ ap (λ (k : ℕ). nat_cmp (from_be_bytes w32 xs * 65536 + p) k) is_too
    ∙ in-order xs ys p q digits.long digits_too.long digits.bytes digits_too.bytes digits.fits digits_too.fits
