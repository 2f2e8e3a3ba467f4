-- The row that asks at once is due.
use Rattle.std.proofs.Common.{◌∙◌, [], ◌∷◌, subst, sym}
use Rattle.dccp_endpoint.specs.End.{EndState}
use Rattle.dccp_endpoint.specs.Speaking.{AreDue}
use Rattle.dccp_endpoint.proofs.Asking.{preferred_asks}
use Rattle.dccp_endpoint.proofs.connection.Connection.prefer_wish.Goals as goal

pub ask_now-requires-clause-due : goal.ask_now-requires-clause-due
ask_now-requires-clause-due c =
    subst (λ (e : EndState). AreDue e.rows ((c.args.feature, c.args.place) ∷ [])) (sym c.want.ensures.wish)
    (preferred_asks c.args.self.now.rows c.args.feature c.args.place c.args.wish c.want.ensures.sound (sym c.want.ensures.asks ∙ c.if-want.true))
