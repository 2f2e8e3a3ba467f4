use Rattle.std.proofs.Common.{◌∙◌, Bool, List, ap, subst, sym}
use Rattle.feature_machine.specs.Negotiating.{AreRowsOf, every_place}
use Rattle.feature_machine.specs.Turns.{turned}
use Rattle.feature_machine.specs.declared.row.Row.{Row}
use Rattle.feature_machine.specs.declared.stands.Role2.{Role2}
use Rattle.dccp_endpoint.specs.End.{EndState, end_of}
use Rattle.dccp_endpoint.specs.Speaking.{is_confirmed}
use Rattle.dccp_endpoint.specs.Turns.{Key, offerings}
use Rattle.feature_machine.proofs.Turning.{turned-role}
use Rattle.dccp_endpoint.proofs.Lawful.{offerings-lawful}
use Rattle.dccp_endpoint.proofs.Staying.{refit_is, refitted}
use Rattle.dccp_endpoint.proofs.connection.Connection.offer.Goals as goal

pub invariant_of-self : goal.invariant_of-self
invariant_of-self c =
    let role : Role2 = end_of c.self.inside.config.role in
    let test : Key → Bool = is_confirmed c.args.confirms.now in
    refitted _ c.fit.new.marks c.open_offers.new.rows c.self.invariant
    (subst (λ (r : List Row). AreRowsOf role r) (sym c.open_offers.ensures)
    (turned-role role c.self.inside.rows (offerings test every_place) c.self.invariant.rows (offerings-lawful test every_place)))
    c.fit.ensures

pub returns : goal.returns
returns c =
    let test : Key → Bool = is_confirmed c.args.confirms.now in
    refit_is _ _ c.fit.new.marks c.open_offers.new.rows _ c.self.view_is c.fit.ensures
    (c.open_offers.ensures ∙ ap (λ (e : EndState). turned e.rows (offerings test every_place)) c.self.view_is)
