use Rattle.std.proofs.Common.{subst, sym}
use Rattle.feature_machine.specs.Lists.{IsLists}
use Rattle.feature_machine.proofs.Listing.{usual_are_lists}
use Rattle.feature_machine.proofs.lists.Lists.usual.Goals as goal

pub invariant_of-result : goal.invariant_of-result
invariant_of-result c = subst (λ lists. IsLists lists) (sym c.all_usual.ensures) usual_are_lists
