use Rattle.std.proofs.Common.{◌≡◌, ap, ◌∙◌}
use Rattle.dccp_listener.specs.declared.config.ListenConfig.{ListenConfig}
use Rattle.init_cookies.specs.Openings.{request_bytes}
use Rattle.init_cookies.specs.declared.route.Route.{Route}
use Rattle.dccp_server.specs.Meeting.{request_at, route_to}
use Rattle.server_peers.specs.Requests.{route_of}
use Rattle.dccp_server.specs.Rooms.{RuledRoom}
use Rattle.dccp_server.proofs.Reopening.{opened, opened_for, unopened}
use Rattle.dccp_server.proofs.server.Server.hear_again.Goals as goal

request : (c : goal.After-arrive_hurrying) → c.new-datagram.result ≡ request_at c.args.self.now c.args.peer c.args.opening.now
request c =
    c.new-datagram.ensures
    ∙ c.bytes.ensures.value
    ∙ c.put_request.ensures
    ∙ ap (λ (r : Route). request_bytes r c.args.opening.now)
    (c.route_of.ensures ∙ ap (λ (config : ListenConfig). route_of config c.args.peer) c.config.ensures
    ∙ ap (λ (x : RuledRoom). route_to x c.args.peer) c.self.view_is)

pub returns-clause-opened : goal.returns-clause-opened
returns-clause-opened c =
    opened c.args.now c.args.self.now c.clear.new.self c.arrive_hurrying.new.self c.args.peer c.args.opening.now c.time.result c.iss.result
    c.new-datagram.result c.arrive_hurrying.result.evicted c.arrive_hurrying.result.heard c.arrive_hurrying.ensures.opened c.time.ensures c.clear.ensures
    c.iss.ensures (request c)

pub returns-clause-evicted : goal.returns-clause-evicted
returns-clause-evicted c =
    opened_for c.args.now c.args.self.now c.clear.new.self c.arrive_hurrying.new.self c.args.peer c.args.opening.now c.time.result c.iss.result
    c.new-datagram.result c.arrive_hurrying.result.evicted c.arrive_hurrying.result.heard c.arrive_hurrying.ensures.evicted c.time.ensures c.clear.ensures
    c.iss.ensures (request c)

pub returns-clause-unopened : goal.returns-clause-unopened
returns-clause-unopened c =
    unopened c.args.now c.args.self.now c.clear.new.self c.arrive_hurrying.new.self c.args.peer c.args.opening.now c.time.result c.iss.result
    c.new-datagram.result c.arrive_hurrying.result.evicted c.arrive_hurrying.result.heard c.arrive_hurrying.ensures.unopened c.time.ensures c.clear.ensures
    c.iss.ensures (request c)
