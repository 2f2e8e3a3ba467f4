use Rattle.std.proofs.Common.{inl, inr}
use Rattle.two_ends_progress.proofs.laws.a_number_that_is_not_processed_was_answered_by_a_sync.Goals as goal

pub returns : goal.returns
returns g c = λ start events side known stands heard.
    elim (known stands heard) [
      | inl has ↦ inl has
      | inr was ↦ inr (was.early, (was.index, (was.later, (was.frame, (was.after, (was.is_among, (was.is_there, (was.is_numbered, was.answered))))))))
    ]
