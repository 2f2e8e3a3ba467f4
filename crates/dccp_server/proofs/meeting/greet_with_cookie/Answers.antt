use Rattle.std.proofs.Common.{◌≡◌, false, ap, ◌∙◌, ℕ, List, Option}
use Rattle.dccp_listener.specs.Greeting.{greets}
use Rattle.dccp_listener.specs.declared.config.ListenConfig.{ListenConfig}
use Rattle.dccp_options.specs.Written.{spelled}
use Rattle.dccp_packets.specs.Outgoing.{Outgoing}
use Rattle.dccp_sum.specs.Checksum.{reversed}
use Rattle.init_cookies.specs.Appending.{appended}
use Rattle.init_cookies.specs.Cookies.{cookie_bytes}
use Rattle.init_cookies.specs.Openings.{request_bytes}
use Rattle.init_cookies.specs.declared.route.Route.{Route}
use Rattle.server_peers.specs.Requests.{route_of}
use Rattle.dccp_server.proofs.meeting.greet_with_cookie.Goals as goal

pub returns-clause-sent : goal.returns-clause-sent
returns-clause-sent c =
    let route : c.route_of-route.result ≡ route_of c.args.timed.now.listening.config c.args.peer =
    c.route_of-route.ensures ∙ ap (λ (config : ListenConfig). route_of config c.args.peer) c.config.ensures in
    let request : c.bytes.result.now ≡ request_bytes (route_of c.args.timed.now.listening.config c.args.peer) c.args.opening.now =
    c.bytes.ensures.value ∙ c.put_request.ensures ∙ ap (λ (r : Route). request_bytes r c.args.opening.now) route in
    c.append_cookie.ensures
    ∙ ap (λ (r : Route). appended (reversed r.pseudo) (spelled false 36 (cookie_bytes c.args.keys.now r c.args.opening.now)) c.greet.new.out) route
    ∙ ap
    (λ (frame : Option Outgoing). appended (reversed (route_of c.args.timed.now.listening.config c.args.peer).pseudo)
    (spelled false 36 (cookie_bytes c.args.keys.now (route_of c.args.timed.now.listening.config c.args.peer) c.args.opening.now)) frame)
    (c.in_ok-outcome.ensures.sent ∙ ap (λ (iss : ℕ). (greets c.args.timed.now.listening c.args.peer iss c.bytes.result.now).frame) c.iss.ensures
    ∙ ap (λ (bytes : List ℕ). (greets c.args.timed.now.listening c.args.peer c.args.opening.now.iss bytes).frame) request)

pub returns-clause-told : goal.returns-clause-told
returns-clause-told c =
    let request : c.bytes.result.now ≡ request_bytes (route_of c.args.timed.now.listening.config c.args.peer) c.args.opening.now =
    c.bytes.ensures.value ∙ c.put_request.ensures
    ∙ ap (λ (r : Route). request_bytes r c.args.opening.now)
    (c.route_of-route.ensures ∙ ap (λ (config : ListenConfig). route_of config c.args.peer) c.config.ensures) in
    c.in_ok-outcome.ensures.told ∙ ap (λ (iss : ℕ). (greets c.args.timed.now.listening c.args.peer iss c.bytes.result.now).answer) c.iss.ensures
    ∙ ap (λ (bytes : List ℕ). (greets c.args.timed.now.listening c.args.peer c.args.opening.now.iss bytes).answer) request
