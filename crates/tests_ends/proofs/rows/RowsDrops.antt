-- Worked reports of drops, computed from the definitions: what is read of Data Dropped options (RFC 4340, section 11.7).
use Rattle.std.proofs.Common.{◌≡◌, refl, ℕ, ◌-◌, ◌==◌, zero, suc, false, List, [], ◌∷◌, map, length, Option, Some, None, codes, if◌then◌else◌}
use Prim.Native.String.{String}
use Rattle.data_dropped.specs.Drops.{code_at}
use Rattle.data_dropped.specs.Reports.{drop_report}
use Rattle.dccp_options.specs.Grammar.{options_of}
use Rattle.dccp_options.specs.Vectors.{VectorReport}

-- the codes that a report gives this many numbers, from one down
abbrev codes_down : VectorReport → ℕ → ℕ → List (Option ℕ)
codes_down r number zero = []
codes_down r number (suc count) = code_at r.ack r.bytes number ∷ codes_down r (number - 1) count

-- of each a digit, or `-` for none
abbrev spelled : String → List (Option ℕ)
spelled digits = map (λ code. if code == 45 then None else Some (code - 48)) (codes digits)

abbrev told : Option VectorReport → ℕ → Option (List (Option ℕ))
told None count = None
told (Some r) count = Some (codes_down r 20 count)

-- options, where 20 is acknowledged: the codes from 20 down
abbrev Reads : List ℕ → String → Type 0
Reads area digits = told (drop_report 20 (options_of area false)) (length (spelled digits)) ≡ Some (spelled digits)

-- 20 without a drop, then 17 numbers with code 2, in one option and in two; what is beyond has none
one_option_or_two :
    Reads (40 ∷ 5 ∷ 0 ∷ 175 ∷ 160 ∷ []) "-22222222222222222--"
    × Reads (40 ∷ 3 ∷ 0 ∷ 0 ∷ 2 ∷ 40 ∷ 4 ∷ 175 ∷ 160 ∷ []) "-22222222222222222--"
one_option_or_two = (refl, refl)

-- each code in a separate byte, with numbers without a drop between
every_code : Reads (40 ∷ 11 ∷ 128 ∷ 145 ∷ 160 ∷ 176 ∷ 194 ∷ 1 ∷ 208 ∷ 224 ∷ 240 ∷ []) "01123444--567---"
every_code = refl

-- without an option there is no report; one without a byte gives no number a code
no_byte :
    (told (drop_report 20 (options_of (2 ∷ 38 ∷ 3 ∷ 0 ∷ []) false)) 1 ≡ None)
    × Reads (40 ∷ 2 ∷ []) "--"
no_byte = (refl, refl)
