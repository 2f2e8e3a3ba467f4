use Rattle.std.proofs.Common.{◌≡◌, subst, true}
use Rattle.feature_lists.specs.Wishes.{is_wish}
use Rattle.feature_lists.specs.declared.wishes.Wanted.{Wanted}
use Rattle.dccp_endpoint.proofs.Wishes.{number_wish}
use Rattle.dccp_endpoint.proofs.speaking.put_wish.Goals as goal

-- a number is wished for a non-negotiable feature alone, and fits
pub put_value-requires-clause-negotiable : goal.put_value-requires-clause-negotiable
put_value-requires-clause-negotiable c =
    (number_wish c.args.feature c.args.place c.in-Number.number
    (subst (λ (wish : Wanted). is_wish c.args.feature c.args.place wish ≡ true) c.in-Number.is c.requires.wish)).0

pub put_value-requires-clause-fits : goal.put_value-requires-clause-fits
put_value-requires-clause-fits c =
    (number_wish c.args.feature c.args.place c.in-Number.number
    (subst (λ (wish : Wanted). is_wish c.args.feature c.args.place wish ≡ true) c.in-Number.is c.requires.wish)).1
