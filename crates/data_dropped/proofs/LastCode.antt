-- Codes up to the last one that is there.
use Rattle.std.proofs.lemmas.Bool.{false≢true, true≢false}
use Rattle.std.proofs.Common.{is_some, not, Bool, true, false, ◌≡◌, ℕ, zero, suc, ◌+◌, ◌<◌, List, [], ◌∷◌, ◌++◌, length, take, replicate, slice_get, Option, Some, None, refl, ap, sym, ◌∙◌, subst}
use Rattle.std.proofs.lemmas.List.{take_more}
use Rattle.std.specs.Prelude.{get_or}
use Rattle.data_dropped.specs.Drops.{before_codes, code_at_place, up_to_last_code}

-- no code follows all codes
last-none : (codes : List (Option ℕ)) → up_to_last_code (codes ++ None ∷ []) ≡ up_to_last_code codes
last-none [] = refl
last-none (code ∷ codes) = ap (λ (rest : List (Option ℕ)). before_codes code rest) (last-none codes)

before-some : (code : Option ℕ) (codes : List (Option ℕ)) (last : ℕ) → before_codes code (codes ++ Some last ∷ []) ≡ code ∷ (codes ++ Some last ∷ [])
before-some (Some code) codes last = refl
before-some None [] last = refl
before-some None (other ∷ codes) last = refl

-- or one
last-some : (codes : List (Option ℕ)) (last : ℕ) → up_to_last_code (codes ++ Some last ∷ []) ≡ codes ++ Some last ∷ []
last-some [] last = refl
last-some (code ∷ codes) last =
    ap (λ (rest : List (Option ℕ)). before_codes code rest) (last-some codes last) ∙ before-some code codes last

-- by the code at the last place
pub shorter : (codes : List (Option ℕ)) (count : ℕ) → count < length codes → get_or codes count None ≡ None
    → up_to_last_code (take (count + 1) codes) ≡ up_to_last_code (take count codes)
shorter codes count inside none =
    ap (λ (all : List (Option ℕ)). up_to_last_code all) (take_more codes count None inside ∙ ap (λ (code : Option ℕ). take count codes ++ code ∷ []) none)
    ∙ last-none (take count codes)

pub stays : (codes : List (Option ℕ)) (count last : ℕ) → count < length codes → get_or codes count None ≡ Some last
    → up_to_last_code (take (count + 1) codes) ≡ take (count + 1) codes
stays codes count last inside some =
    let more : take (count + 1) codes ≡ take count codes ++ Some last ∷ [] =
    take_more codes count None inside ∙ ap (λ (code : Option ℕ). take count codes ++ code ∷ []) some in
    subst (λ (all : List (Option ℕ)). up_to_last_code all ≡ all) (sym more) (last-some (take count codes) last)

-- what is cut off has no code
code_before : (code : Option ℕ) (all rest codes : List (Option ℕ)) (i : ℕ) → all ≡ rest
    → ((k : ℕ) → code_at_place (slice_get all k) ≡ code_at_place (slice_get codes k))
    → code_at_place (slice_get (before_codes code rest) i) ≡ code_at_place (slice_get (code ∷ codes) i)
code_before (Some code) all rest codes zero is same = refl
code_before (Some code) all rest codes (suc i) is same = ap (λ (l : List (Option ℕ)). code_at_place (slice_get l i)) (sym is) ∙ same i
code_before None all [] codes zero is same = refl
code_before None all [] codes (suc i) is same = ap (λ (l : List (Option ℕ)). code_at_place (slice_get l i)) (sym is) ∙ same i
code_before None all (other ∷ rest) codes zero is same = refl
code_before None all (other ∷ rest) codes (suc i) is same = ap (λ (l : List (Option ℕ)). code_at_place (slice_get l i)) (sym is) ∙ same i

-- so each place has the code that it had
pub code_up_to_last : (codes : List (Option ℕ)) (i : ℕ) → code_at_place (slice_get (up_to_last_code codes) i) ≡ code_at_place (slice_get codes i)
code_up_to_last [] i = refl
code_up_to_last (code ∷ codes) i = code_before code (up_to_last_code codes) (up_to_last_code codes) codes i refl (code_up_to_last codes)

-- no codes at all
pub none-count : (count : ℕ) → up_to_last_code (replicate count None) ≡ []
none-count zero = refl
none-count (suc count) = ap (λ (rest : List (Option ℕ)). before_codes None rest) (none-count count)

-- what the test of a place says
pub none-from : (code : Option ℕ) (b : Bool) → is_some code ≡ not b → b ≡ true → code ≡ None
none-from None b is holds = refl
none-from (Some code) true is holds = absurd (true≢false is)
none-from (Some code) false is holds = absurd (false≢true holds)

pub some-from : (code : Option ℕ) (b : Bool) → is_some code ≡ not b → b ≡ false → (last : ℕ) × (code ≡ Some last)
some-from (Some code) b is fails = (code, refl)
some-from None true is fails = absurd (true≢false fails)
some-from None false is fails = absurd (false≢true is)
