-- How the options of an area follow one another.
use Rattle.std.proofs.Common.{◌≡◌, ℕ, zero, suc, ◌+◌, ◌-◌, ◌≤◌, List, [], ◌∷◌, length, drop, Some, ap, sym, ◌∙◌, arith, length-drop}
use Rattle.dccp_options.specs.Grammar.{RawOption, raw_options, raw_then, option_body, bytes_after}

-- bytes that belong to the option before are passed over
pub raw_options-skip : (place skip : ℕ) (bytes : List ℕ) → skip ≤ length bytes
    → raw_options place skip bytes ≡ raw_options (place + skip) 0 (drop skip bytes)
raw_options-skip place zero bytes _ = ap (λ p. raw_options p 0 bytes) (omega arith)
raw_options-skip place (suc skip) [] h = absurd (omega arith)
raw_options-skip place (suc skip) (byte ∷ rest) h =
    let e : place + 1 + skip ≡ place + suc skip = omega arith in
    raw_options-skip (place + 1) skip rest (omega arith) ∙ ap (λ p. raw_options p 0 (drop skip rest)) e

-- the first option, and those after it
pub raw_options-first : (place kind : ℕ) (rest body : List ℕ) → option_body kind rest ≡ Some body
    → bytes_after kind body ≤ length rest
    → raw_options place 0 (kind ∷ rest)
    ≡ record { place = place; kind = kind; body = body }
    ∷ raw_options (place + 1 + bytes_after kind body) 0 (drop (bytes_after kind body) rest)
raw_options-first place kind rest body found fits =
    let after : ℕ → List RawOption = λ skip. raw_options (place + 1) skip rest in
    ap (λ o. raw_then place kind o after) found
    ∙ ap (λ later. record { place = place; kind = kind; body = body } ∷ later)
    (raw_options-skip (place + 1) (bytes_after kind body) rest fits)

-- the same, where the area is cut at the option
pub raw_options-cut : (place kind : ℕ) (area rest body following : List ℕ) → area ≡ kind ∷ rest
    → option_body kind rest ≡ Some body → bytes_after kind body ≤ length rest → following ≡ drop (bytes_after kind body) rest
    → raw_options place 0 area
    ≡ record { place = place; kind = kind; body = body }
    ∷ raw_options (place + 1 + (length rest - length following)) 0 following
raw_options-cut place kind area rest body following is_area found fits is_cut =
    let first = raw_options-first place kind rest body found fits in
    let e : length following ≡ length rest - bytes_after kind body = ap length is_cut ∙ length-drop (bytes_after kind body) rest in
    let n : place + 1 + bytes_after kind body ≡ place + 1 + (length rest - length following) = omega arith in
    ap (raw_options place 0) is_area ∙ first
    ∙ ap (λ p. record { place = place; kind = kind; body = body } ∷ raw_options p 0 (drop (bytes_after kind body) rest)) n
    ∙ ap (λ b. record { place = place; kind = kind; body = body } ∷ raw_options (place + 1 + (length rest - length following)) 0 b) (sym is_cut)
