use Rattle.std.proofs.Common.{ap, refl}
use Rattle.dccp_states.specs.declared.calls.Timer.TheVariants as timers
use Rattle.dccp_endpoint.specs.Controlled.{has_in_flight, with_control}
use Rattle.dccp_endpoint.proofs.Idling.{timed}
use Rattle.dccp_endpoint.proofs.endpoint.Endpoint.timer.Goals as goal

pub returns-in-Rto : goal.returns-in-Rto
returns-in-Rto g c =
    rw c.in-Rto.is
    (let told = timed g.C.Congestion.control c.args.self.now _ refl timers.Rto _ c.time_out.ensures in
    record { step = told.step; applies = told.applies; idle = told.idle; sends_nothing = told.sends_nothing })

pub returns-in-Request : goal.returns-in-Request
returns-in-Request g c =
    let control = g.C.Congestion.control in
    let told = timed control _ _ c.self.view_is c.args.timer _
    (ap (with_control control c.self.inside.congestion) (c.timer.ensures (has_in_flight control c.self.inside.congestion))) in
    record { step = told.step; applies = told.applies; idle = told.idle; sends_nothing = told.sends_nothing }
