-- Why the data are refused, and that none of the causes holds if they are sent.
use Rattle.std.proofs.Common.{◌∙◌, None, Some, sym}
use Rattle.dccp_endpoint.proofs.Unsent.{send-judged}
use Rattle.dccp_endpoint.proofs.endpoint.Endpoint.send.Goals as goal

pub returns-in-Some-clause-not_open : goal.returns-in-Some-clause-not_open
returns-in-Some-clause-not_open g c =
    (send-judged g.C.Congestion.control _ _ c.self.view_is c.args.payload.now (Some c.in-Some.fault) _ c.may_send-may_send.ensures.value
    (sym c.in-Some.is ∙ c.send_fault.ensures)).not_open

pub returns-in-Some-clause-too_long : goal.returns-in-Some-clause-too_long
returns-in-Some-clause-too_long g c =
    (send-judged g.C.Congestion.control _ _ c.self.view_is c.args.payload.now (Some c.in-Some.fault) _ c.may_send-may_send.ensures.value
    (sym c.in-Some.is ∙ c.send_fault.ensures)).too_long

pub returns-in-Some-clause-not_negotiated : goal.returns-in-Some-clause-not_negotiated
returns-in-Some-clause-not_negotiated g c =
    (send-judged g.C.Congestion.control _ _ c.self.view_is c.args.payload.now (Some c.in-Some.fault) _ c.may_send-may_send.ensures.value
    (sym c.in-Some.is ∙ c.send_fault.ensures)).not_negotiated

pub returns-in-Some-clause-window_full : goal.returns-in-Some-clause-window_full
returns-in-Some-clause-window_full g c =
    (send-judged g.C.Congestion.control _ _ c.self.view_is c.args.payload.now (Some c.in-Some.fault) _ c.may_send-may_send.ensures.value
    (sym c.in-Some.is ∙ c.send_fault.ensures)).window_full

pub returns-in-None-clause-not_open : goal.returns-in-None-clause-not_open
returns-in-None-clause-not_open g c =
    (send-judged g.C.Congestion.control _ _ c.self.view_is c.args.payload.now None _ c.may_send-may_send.ensures.value
    (sym c.in-None.is ∙ c.send_fault.ensures)).not_open

pub returns-in-None-clause-too_long : goal.returns-in-None-clause-too_long
returns-in-None-clause-too_long g c =
    (send-judged g.C.Congestion.control _ _ c.self.view_is c.args.payload.now None _ c.may_send-may_send.ensures.value
    (sym c.in-None.is ∙ c.send_fault.ensures)).too_long

pub returns-in-None-clause-not_negotiated : goal.returns-in-None-clause-not_negotiated
returns-in-None-clause-not_negotiated g c =
    (send-judged g.C.Congestion.control _ _ c.self.view_is c.args.payload.now None _ c.may_send-may_send.ensures.value
    (sym c.in-None.is ∙ c.send_fault.ensures)).not_negotiated

pub returns-in-None-clause-window_full : goal.returns-in-None-clause-window_full
returns-in-None-clause-window_full g c =
    (send-judged g.C.Congestion.control _ _ c.self.view_is c.args.payload.now None _ c.may_send-may_send.ensures.value
    (sym c.in-None.is ∙ c.send_fault.ensures)).window_full
