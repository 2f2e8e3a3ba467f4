use Rattle.std.proofs.Common.{ap, sym, ◌∙◌, Option}
use Rattle.dccp_listener.specs.Peers.{FlowEnd}
use Rattle.dccp_server.specs.Serving.{ServedListener, Spends, Upkeeps, served, served_counted_by, upkeep_at}
use Rattle.dccp_server.proofs.Tying.{place_if, place_there_if, tied_then}
use Rattle.dccp_server.proofs.timed_listener.TimedListener.admits.Goals as goal

pub count-requires : goal.count-requires
count-requires c =
    place_there_if _ c.in-Some.end.now c.self.inside.upkeeps c.args.peer c.in-Some.ensures.value (place_if _ _ c.args.peer c.self.invariant.same_peers)

pub invariant_of-self : goal.invariant_of-self
invariant_of-self c =
    let s : ServedListener = served c.self.inside.listener c.self.inside.pace c.self.inside.upkeeps in
    tied_then c.args.now s _ c.args.peer (Spends c.args.datagram.now)
    (ap (λ (t : Upkeeps). served c.self.inside.listener c.self.inside.pace t) c.count.ensures.counted
    ∙ sym
    (ap (λ (x : Option FlowEnd). served_counted_by c.args.now s c.args.peer c.args.datagram.now (upkeep_at s.pace s.upkeeps c.args.peer) x)
    c.in-Some.ensures.value))
    c.self.invariant
