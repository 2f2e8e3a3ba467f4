use Rattle.std.proofs.Common.{◌≡◌, ap, ◌∙◌, subst, sym, Ok}
use Rattle.dccp_listener.specs.Chain.{Arrives}
use Rattle.dccp_listener.specs.Peers.{ListenerState}
use Rattle.dccp_listener.specs.Runs.{arrival, told_of}
use Rattle.dccp_server.specs.Serving.{Does, IsDone, IsTied, ServedListener, Upkeeps, deed_served, served}
use Rattle.dccp_server.proofs.Doings.{done_as}
use Rattle.dccp_server.proofs.Going.{arrival_goes_on}
use Rattle.server_peers.proofs.Placing.{taken_back}
use Rattle.dccp_server.proofs.Tying.{has_place, tied_then}
use Rattle.dccp_server.proofs.timed_listener.TimedListener.arrive.Goals as goal

pub arrange-requires : goal.arrange-requires
arrange-requires c = has_place _ c.place_for.new.self c.args.peer c.in_ok-had.ensures.there

done : (c : goal.After-arrange) → IsDone c.self.inside.listener c.arrive_decoded.new.self c.args.peer (Arrives c.args.iss c.args.datagram.now) c.arrive_decoded.new.out
    (told_of (Ok c.in-Ok.heard))
done c =
    done_as c.self.inside.listener c.arrive_decoded.new.self (arrival c.args.peer c.args.iss c.args.datagram.now c.arrive_decoded.new.out (Ok c.in-Ok.heard))
    c.arrive_decoded.new.out (told_of (Ok c.in-Ok.heard)) c.in-Ok.ensures.turn c.in-Ok.ensures.computed

-- what is kept goes on with the end
goes : (c : goal.After-arrange) → served c.arrive_decoded.new.self c.self.inside.pace c.arrange.new.upkeeps
    ≡ deed_served c.args.now (served c.self.inside.listener c.self.inside.pace c.self.inside.upkeeps) c.args.peer (Arrives c.args.iss c.args.datagram.now)
goes c =
    arrival_goes_on c.args.now c.self.inside.listener c.self.inside.pace c.self.inside.upkeeps c.arrange.new.upkeeps c.args.peer
    _ c.in_ok-had.had c.place_for.new.self c.arrive_decoded.new.self c.args.iss c.args.datagram.now c.arrive_decoded.new.out (told_of (Ok c.in-Ok.heard))
    c.upkeep_at-upkeep.result c.arrived_so-happening.result c.sight_at-was.result c.is_silent.result c.in_ok-had.ensures.placed (done c)
    c.arrange.ensures c.upkeep_at-upkeep.ensures c.sight_at-was.ensures c.is_silent.ensures c.arrived_so-happening.ensures

pub returns-in-Ok-clause-after : goal.returns-in-Ok-clause-after
returns-in-Ok-clause-after c =
    subst
    (λ (x : ServedListener).
    served c.arrive_decoded.new.self c.self.inside.pace c.arrange.new.upkeeps ≡ deed_served c.args.now x c.args.peer (Arrives c.args.iss c.args.datagram.now))
    c.self.view_is (goes c)

pub invariant_of-self-in-Ok : goal.invariant_of-self-in-Ok
invariant_of-self-in-Ok c = tied_then c.args.now _ _ c.args.peer (Does (Arrives c.args.iss c.args.datagram.now)) (goes c) c.self.invariant

-- the place is taken back
stays : (c : goal.After-take_back) → served c.arrive_decoded.new.self c.self.inside.pace c.take_back.new.self
    ≡ served c.self.inside.listener c.self.inside.pace c.self.inside.upkeeps
stays c =
    ap (λ (l : ListenerState). served l c.self.inside.pace c.take_back.new.self) c.in-Err.ensures.arrived.1
    ∙ ap (λ (t : Upkeeps). served c.self.inside.listener c.self.inside.pace t)
    (c.take_back.ensures ∙ taken_back _ c.in_ok-had.had c.self.inside.upkeeps c.place_for.new.self c.args.peer c.in_ok-had.ensures.placed)

pub returns-in-Err-clause-unchanged : goal.returns-in-Err-clause-unchanged
returns-in-Err-clause-unchanged c = stays c ∙ c.self.view_is

pub invariant_of-self-in-Err : goal.invariant_of-self-in-Err
invariant_of-self-in-Err c = subst IsTied (sym (stays c)) c.self.invariant
