use Rattle.std.proofs.Common.{sym, ap, ◌∙◌}
use Rattle.dccp_c.specs.Making.{wished_at, wished_list}
use Rattle.dccp_c.proofs.making.wished.Goals as goal

-- the feature is that of its number
pub returns-in-Some : goal.returns-in-Some
returns-in-Some c =
    c.wished_list.ensures
    ∙ ap (wished_list c.args.config c.args.wish.now c.in-Some.feature) c.place_of.ensures
    ∙ ap (wished_at c.args.config c.args.wish.now) (sym c.in-Some.is ∙ c.feature_of.ensures)
