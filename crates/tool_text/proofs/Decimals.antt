-- A number's last digit follows the number that the others are, and each number of an address after its dot.
use Rattle.std.proofs.Common.{arith, ◌≡◌, sym, ap, ◌∙◌, ℕ, ◌+◌, ◌/◌, ◌%◌, ◌<◌, ◌≤◌, List, [], ◌∷◌, ◌++◌, append_assoc}
use Rattle.std.specs.Prelude.{codes, decimal, slice_index}
use Rattle.std.proofs.lemmas.Fmt.{decimal_step}
use Rattle.tool_text.specs.Text.{labelled_number, v4_text}

pub digit_after : (old front all : List ℕ) (number : ℕ) → 10 ≤ number → number < 256 → front ≡ old ++ decimal (number / 10)
    → all ≡ front ++ ((48 + number % 10) ∷ []) → all ≡ old ++ decimal number
digit_after old front all number some small front_is all_is =
    all_is
    ∙ ap (λ (text : List ℕ). text ++ ((48 + number % 10) ∷ [])) front_is
    ∙ append_assoc old (decimal (number / 10)) ((48 + number % 10) ∷ [])
    ∙ ap (λ (text : List ℕ). old ++ text) (sym (decimal_step number some (omega (arith, small))))

dotted : (old piece before after digits : List ℕ) → before ≡ old ++ piece → after ≡ before ++ (codes "." ++ digits)
    → after ≡ old ++ ((piece ++ codes ".") ++ digits)
dotted old piece before after digits before_is after_is =
    after_is
    ∙ ap (λ (text : List ℕ). text ++ (codes "." ++ digits)) before_is
    ∙ append_assoc old piece (codes "." ++ digits)
    ∙ ap (λ (text : List ℕ). old ++ text) (sym (append_assoc piece (codes ".") digits))

pub four_dotted : (old first second third all address : List ℕ) → first ≡ old ++ decimal (slice_index address 0)
    → second ≡ first ++ labelled_number (codes ".") (slice_index address 1) → third ≡ second ++ labelled_number (codes ".") (slice_index address 2)
    → all ≡ third ++ labelled_number (codes ".") (slice_index address 3) → all ≡ old ++ v4_text address
four_dotted old first second third all address one two three four =
    let a = decimal (slice_index address 0) in
    let b = decimal (slice_index address 1) in
    let c = decimal (slice_index address 2) in
    let d = decimal (slice_index address 3) in
    let ab = (a ++ codes ".") ++ b in
    dotted old ((ab ++ codes ".") ++ c) third all d (dotted old ab second third c (dotted old a first second b one two) three) four
