-- Zeros between options list nothing.
use Rattle.std.proofs.Common.{◌≡◌, ℕ, zero, suc, ◌+◌, false, List, ◌++◌, length, map, replicate, Ok, ap, ◌∙◌, arith, append_assoc, All}
use Rattle.dccp_options.specs.Grammar.{options_of}
use Rattle.dccp_options.specs.Written.{Item, IsWritable, written, entries_at, listed_from}
use Rattle.dccp_options.proofs.ReadBack.{entries-before}

-- zeros in front of bytes move them up
pub listed-zeros : (zeros place : ℕ) (more : List ℕ) → listed_from place (replicate zeros 0 ++ more) ≡ listed_from (place + zeros) more
listed-zeros zero place more = ap (λ (at : ℕ). listed_from at more) (omega arith)
listed-zeros (suc zeros) place more =
    listed-zeros zeros (place + 1) more ∙ ap (λ (at : ℕ). listed_from at more) (omega arith)

pub options_after_zeros : (items : List Item) (zeros : ℕ) (more : List ℕ) → All IsWritable items
    → options_of ((written items ++ replicate zeros 0) ++ more) false
    ≡ map Ok (entries_at 0 items) ++ listed_from (length (written items) + zeros) more
options_after_zeros items zeros more all =
    ap (λ (area : List ℕ). options_of area false) (append_assoc (written items) (replicate zeros 0) more)
    ∙ entries-before 0 items (replicate zeros 0 ++ more) all
    ∙ ap (λ (following : List _). map Ok (entries_at 0 items) ++ following)
    (listed-zeros zeros (0 + length (written items)) more ∙ ap (λ (at : ℕ). listed_from at more) (omega arith))
