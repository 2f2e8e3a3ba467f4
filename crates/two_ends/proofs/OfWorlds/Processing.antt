-- Which numbers a step processes.
use Rattle.std.proofs.Common.{◌≡◌, ◌∙◌, ℕ, Bool, true, false, List, [], ◌++◌, refl, ap, sym, None}
use Rattle.std.proofs.lemmas.List.{append-nil}
use Rattle.dccp_endpoint.specs.End.{EndState}
use Rattle.two_ends.specs.World.{newly_processed, number_if}

-- nothing is added
pub nothing_more : (processed : List ℕ) → processed ≡ processed ++ []
nothing_more processed = sym (append-nil processed)

no-number : (taken : Bool) → number_if taken None ≡ []
no-number true = refl
no-number false = refl

none-more : (processed : List ℕ) (taken : Bool) → processed ≡ processed ++ number_if taken None
none-more processed taken = sym (append-nil processed) ∙ ap (λ (more : List ℕ). processed ++ more) (sym (no-number taken))

-- a call processes none
pub calls_process_nothing : (processed : List ℕ) (before after : EndState)
    → processed ≡ processed ++ newly_processed before None after
calls_process_nothing processed before after = none-more processed _
