use Rattle.std.proofs.Common.{List, subst, sym}
use Rattle.feature_machine.specs.Negotiating.{AreRowsOf}
use Rattle.feature_machine.specs.declared.row.Row.{Row}
use Rattle.feature_machine.specs.declared.stands.Role2.{Role2}
use Rattle.dccp_endpoint.specs.End.{end_of}
use Rattle.dccp_endpoint.specs.Turns.{sendings}
use Rattle.feature_machine.proofs.Turning.{turned-role}
use Rattle.dccp_endpoint.proofs.Lawful.{sendings-lawful}
use Rattle.dccp_endpoint.proofs.Staying.{refitted}
use Rattle.dccp_endpoint.proofs.connection.Connection.ask.Goals as goal

pub invariant_of-self : goal.invariant_of-self
invariant_of-self c =
    let role : Role2 = end_of c.self.inside.config.role in
    refitted _ c.fit.new.marks c.send_all.new.rows c.self.invariant
    (subst (λ (r : List Row). AreRowsOf role r) (sym c.send_all.ensures.rows)
    (turned-role role c.self.inside.rows (sendings c.next.result c.args.keys.now) c.self.invariant.rows (sendings-lawful c.next.result c.args.keys.now)))
    c.fit.ensures
