use Rattle.std.proofs.Common.{◌≡◌, true, false, rules}
use Rattle.dccp_uses.specs.Session.{is_listening}
use Rattle.dccp_uses.proofs.Accepting.{accepts_made, accepts_none}
use Rattle.dccp_uses.proofs.listening.accept.Goals as goal

pub returns : goal.returns
returns g c =
    let left : is_listening c.arrived-news.new.self.timed.end.state.phase ≡ false = search rules in
    accepts_made g.N.Network.sends g.C.Congestion.control c.args.now c.args.config c.args.congestion c.args.pace c.args.datagram.now c.args.network.now
    c.arrived-news.new.network c.in_ok-session.session c.arrived-news.new.self c.arrived-news.result c.in_ok-session.ensures c.arrived-news.ensures.does left

pub returns-then-is_listening : goal.returns-then-is_listening
returns-then-is_listening g c =
    let listens : is_listening c.arrived-news.new.self.timed.end.state.phase ≡ true = search rules in
    accepts_none g.N.Network.sends g.C.Congestion.control c.args.now c.args.config c.args.congestion c.args.pace c.args.datagram.now c.args.network.now
    c.arrived-news.new.network c.in_ok-session.session c.arrived-news.new.self c.arrived-news.result c.in_ok-session.ensures c.arrived-news.ensures.does listens
