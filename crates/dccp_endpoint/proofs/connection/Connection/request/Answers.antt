use Rattle.std.proofs.Common.{◌∙◌, [], Option, Result, Ok, true, ap}
use Rattle.dccp_packets.specs.Outgoing.{Outgoing}
use Rattle.dccp_states.specs.declared.phase.Phase.TheVariants as phases
use Rattle.dccp_endpoint.specs.Calling.{requests}
use Rattle.dccp_endpoint.specs.End.{EndState}
use Rattle.dccp_endpoint.specs.Steps.{Step}
use Rattle.dccp_states.specs.declared.calls.OpenFault.{OpenFault}
use Rattle.dccp_endpoint.proofs.connection.Connection.request.Goals as goal

pub returns : goal.returns
returns c =
    let moved : EndState → EndState = λ x. record x { opened = true; phase = phases.Request } in
    let made : EndState → Option Outgoing → Step (Result (Unit {0}) OpenFault) =
    λ after frame. record { after = after; frame = frame; calls = []; answer = Ok (tt {0}) } in
    ap (λ (x : EndState). made x c.send_request.new.out)
    (c.send_request.ensures.after ∙ ap (λ (x : EndState). (requests (moved x) (tt {0})).after) c.self.view_is)
    ∙ ap (λ (frame : Option Outgoing). made (requests (moved c.args.self.now) (tt {0})).after frame)
    (c.send_request.ensures.frame ∙ ap (λ (x : EndState). (requests (moved x) (tt {0})).frame) c.self.view_is)
