-- The code of a number, option by option.
use Rattle.std.proofs.Common.{◌≡◌, ℕ, zero, suc, ◌+◌, ◌-◌, ◌<◌, ◌≤◌, List, [], ◌∷◌, ◌++◌, length, drop, get_or, replicate, slice_get, Option, Some, refl, ap, sym, subst, ◌∙◌, arith, length-append}
use Rattle.std.proofs.lemmas.List.{drop_more, length-replicate}
use Rattle.std.proofs.lemmas.Option.{slice_get_within}
use Rattle.ack_vectors.specs.Coding.{states_of}
use Rattle.ack_vectors.proofs.Coded.{states_of-append}
use Rattle.ack_vectors.proofs.ReadBack.{slice_get-front}
use Rattle.data_dropped.specs.Drops.{code_at_place, code_in, drop_coding, numbers_in}

slice_get-after : {X : Type 0} (front following : List X) (below left : ℕ) → length front + left ≡ below
    → slice_get (front ++ following) below ≡ slice_get following left
slice_get-after [] following below left is = let same : below ≡ left = omega arith in ap (λ (i : ℕ). slice_get following i) same
slice_get-after (x ∷ front) following zero left is = absurd (omega arith)
slice_get-after (x ∷ front) following (suc below) left is = slice_get-after front following below left (omega arith)

-- in the first option
pub code-within : (body rest : List ℕ) (below : ℕ) (code : Option ℕ) → slice_get (states_of drop_coding body) below ≡ Some code
    → code_at_place (slice_get (states_of drop_coding (body ++ rest)) below) ≡ code
code-within body rest below code is =
    let inside : below < length (states_of drop_coding body) = slice_get_within (states_of drop_coding body) below code is in
    ap (λ (codes : List (Option ℕ)). code_at_place (slice_get codes below)) (states_of-append drop_coding body rest)
    ∙ ap code_at_place (slice_get-front (states_of drop_coding body) (states_of drop_coding rest) below inside ∙ is)

-- after it
pub code-after : (body rest : List ℕ) (below left : ℕ) → length (states_of drop_coding body) + left ≡ below
    → slice_get (states_of drop_coding (body ++ rest)) below ≡ slice_get (states_of drop_coding rest) left
code-after body rest below left is =
    ap (λ (codes : List (Option ℕ)). slice_get codes below) (states_of-append drop_coding body rest)
    ∙ slice_get-after (states_of drop_coding body) (states_of drop_coding rest) below left is

-- ------ byte by byte
slice_get-replicate : (count : ℕ) (code : Option ℕ) (i : ℕ) → i < count → slice_get (replicate count code) i ≡ Some code
slice_get-replicate zero code i inside = absurd (omega arith)
slice_get-replicate (suc count) code zero inside = refl
slice_get-replicate (suc count) code (suc i) inside = slice_get-replicate count code i (omega arith)

module _ (bytes : List ℕ) (place count : ℕ) (inside : place < length bytes) (counts : count ≡ numbers_in (get_or bytes place 0)) where
  abbrev run : List (Option ℕ)
  run = replicate (numbers_in (get_or bytes place 0)) (code_in (get_or bytes place 0))

  first-byte : states_of drop_coding (drop place bytes) ≡ run ++ states_of drop_coding (drop (place + 1) bytes)
  first-byte = ap (λ (rest : List ℕ). states_of drop_coding rest) (drop_more bytes place 0 inside)

  size : length run ≡ count
  size = length-replicate (numbers_in (get_or bytes place 0)) (code_in (get_or bytes place 0)) ∙ sym counts

  -- a number of the byte's
  pub within-byte : (left : ℕ) → left < count → slice_get (states_of drop_coding (drop place bytes)) left ≡ Some (code_in (get_or bytes place 0))
  within-byte left near =
      let short : left < numbers_in (get_or bytes place 0) = subst (λ (k : ℕ). left < k) counts near in
      let fits : left < length run = subst (λ (k : ℕ). left < k) (sym size) near in
      ap (λ (codes : List (Option ℕ)). slice_get codes left) first-byte
      ∙ slice_get-front run (states_of drop_coding (drop (place + 1) bytes)) left fits
      ∙ slice_get-replicate (numbers_in (get_or bytes place 0)) (code_in (get_or bytes place 0)) left short

  -- one of those after it
  pub after-byte : (left : ℕ) → count ≤ left
      → slice_get (states_of drop_coding (drop (place + 1) bytes)) (left - count) ≡ slice_get (states_of drop_coding (drop place bytes)) left
  after-byte left far =
      sym (ap (λ (codes : List (Option ℕ)). slice_get codes left) first-byte
      ∙ slice_get-after run (states_of drop_coding (drop (place + 1) bytes)) left (left - count) (omega (arith, size, far)))

  pub length-byte : length (states_of drop_coding (drop place bytes)) ≡ count + length (states_of drop_coding (drop (place + 1) bytes))
  length-byte =
      ap (λ (codes : List (Option ℕ)). length codes) first-byte ∙ length-append run (states_of drop_coding (drop (place + 1) bytes))
      ∙ ap (λ (k : ℕ). k + length (states_of drop_coding (drop (place + 1) bytes))) size
