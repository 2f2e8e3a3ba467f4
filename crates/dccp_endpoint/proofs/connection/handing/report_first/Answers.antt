-- The vectors fit the area whose options have them.
use Rattle.std.proofs.Common.{[], Option, subst, sym}
use Rattle.dccp_options.specs.Grammar.{options_of}
use Rattle.dccp_packets.specs.Kinds.{is_data}
use Rattle.dccp_endpoint.specs.Incoming.{Incoming}
use Rattle.dccp_endpoint.specs.Silent.{IsFirstOf}
use Rattle.dccp_endpoint.specs.declared.heeding.FirstVector.{FirstVector}
use Rattle.dccp_endpoint.proofs.Handing.{first_fits}
use Rattle.dccp_endpoint.proofs.connection.handing.report_first.Goals as goal

pub from_first-report-requires : goal.from_first-report-requires
from_first-report-requires g c =
    let inside = c.packet.inside in
    first_fits c.in-Some.first inside.options.now (is_data inside.kind) c.packet.invariant.1
    (subst (λ (first : Option FirstVector). IsFirstOf first [] (options_of inside.options.now (is_data inside.kind))) c.in-Some.is
    (subst (λ (a : Incoming). IsFirstOf c.args.first [] a.options) (sym c.packet.view_is) c.requires))
