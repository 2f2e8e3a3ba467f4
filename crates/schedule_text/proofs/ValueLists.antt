-- Lists of numbers, as far as they are read.
use Rattle.std.proofs.Common.{◌≡◌, refl, sym, ap, ◌∙◌, ℕ, List, [], ◌∷◌, ◌++◌, append_assoc, Option, Some, None}
use Rattle.std.specs.Prelude.{option_and_then}
use Rattle.std.proofs.lemmas.Bool.Decides.{nat_tests}
use Rattle.schedule_text.specs.Numbers.{sequence_numbers, number_and_rest, numbers_read}
use Rattle.tool_text.specs.Numbers.{number_below}

-- numbers in front of those that are still to be read
abbrev pub preceded : List ℕ → Option (List ℕ) → Option (List ℕ)
preceded front None = None
preceded front (Some numbers) = Some (front ++ numbers)

step_by : (values : List ℕ) (number : ℕ) (rest : Option (List ℕ)) → preceded (values ++ number ∷ []) rest ≡ preceded values (number_and_rest number rest)
step_by values number None = refl
step_by values number (Some numbers) = ap Some (append_assoc values (number ∷ []) numbers)

-- one more is read
pub values_step : (values text : List ℕ) (texts : List (List ℕ)) (number : ℕ) → number_below sequence_numbers text ≡ Some number
    → preceded (values ++ number ∷ []) (numbers_read texts) ≡ preceded values (numbers_read (text ∷ texts))
values_step values text texts number read =
    step_by values number (numbers_read texts)
    ∙ ap (λ (found : Option ℕ). preceded values (option_and_then (λ (n : ℕ). number_and_rest n (numbers_read texts)) found)) (sym read)
