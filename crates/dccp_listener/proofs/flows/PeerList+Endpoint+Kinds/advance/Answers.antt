use Rattle.std.proofs.Common.{ap, sym, subst, ◌≡◌, ◌∙◌, get_or, set, Some}
use Rattle.std.specs.Map.{set_value}
use Rattle.dccp_states.specs.Phases.{is_closed}
use Rattle.dccp_listener.specs.Peers.{FlowEnd, Flows, end_of_peer, is_peer}
use Rattle.dccp_listener.specs.declared.peer.Peer.{Peer}
use Rattle.dccp_listener.proofs.Moving.{moved, others_stay, stays_ordered, unmoved}
use Rattle.dccp_listener.proofs.Searching.{absent, between, found, written}
use Rattle.dccp_listener.proofs.flows.PeerList+Endpoint+Kinds.advance.Given.{Over}
use Rattle.dccp_listener.proofs.flows.PeerList+Endpoint+Kinds.advance.Goals as goal

-- the flow that the place lends
lent : (g : Over) (c : goal.After-is_closed-over g)
    → (c.end.inside.peer, c.end.inside.value.value) ≡ get_or c.self.inside.entries.items c.in-Ok.place (c.end.inside.peer, c.end.inside.value.value)
lent g c = subst (λ (it : Peer × FlowEnd). it ≡ get_or c.self.inside.entries.items c.in-Ok.place it) (sym c.end.view_is) c.index_mut.ensures.value

there : (g : Over) (c : goal.After-is_closed-over g) → end_of_peer c.self.inside.entries.items c.args.peer ≡ Some c.end.inside.value.value
there g c =
    found c.args.peer c.self.inside.entries.items c.in-Ok.place (c.end.inside.peer, c.end.inside.value.value) c.self.invariant
    (rw c.self.view_is c.in-Ok.ensures.bound) (rw c.self.view_is c.in-Ok.ensures.position) (lent g c)

over : (g : Over) (c : goal.After-is_closed-over g) → set c.self.inside.entries.items c.in-Ok.place (c.end.inside.peer, c.give_to-answer.new.end)
    ≡ set_value (is_peer c.args.peer) c.self.inside.entries.items c.give_to-answer.new.end
over g c =
    written c.args.peer c.self.inside.entries.items c.in-Ok.place (c.end.inside.peer, c.end.inside.value.value) c.give_to-answer.new.end c.self.invariant
    (rw c.self.view_is c.in-Ok.ensures.bound) (rw c.self.view_is c.in-Ok.ensures.position) (lent g c)

pub invariant_of-self : goal.invariant_of-self
invariant_of-self g c =
    stays_ordered c.args.peer c.self.inside.entries.items _ c.give_to-answer.new.end c.end.inside.value.value c.self.invariant (there g c) (over g c)

pub returns-in-Ok-clause-moves : goal.returns-in-Ok-clause-moves
returns-in-Ok-clause-moves g c =
    let after = c.give_to-answer.ensures.after ∙ ap (λ (e : FlowEnd). (g.I.FlowInput.step c.args.input.now e).after) c.deref_mut.ensures.value in
    let answered = c.give_to-answer.ensures.answered ∙ ap (λ (e : FlowEnd). (g.I.FlowInput.step c.args.input.now e).answer) c.deref_mut.ensures.value in
    let closed = c.is_closed-over.ensures ∙ ap is_closed c.phase.ensures ∙ ap (λ (e : FlowEnd). is_closed e.state.phase) (c.deref.ensures ∙ after) in
    rw (← c.self.view_is)
    (moved c.args.peer c.self.inside.entries.items _ c.give_to-answer.new.end c.end.inside.value.value c.self.invariant (there g c) (over g c)
    (g.I.FlowInput.step c.args.input.now) _ _ after
    (c.give_to-answer.ensures.sent ∙ ap (λ (e : FlowEnd). (g.I.FlowInput.step c.args.input.now e).frame) c.deref_mut.ensures.value)
    (λ t. Some (answered t, closed t)))

pub returns-in-Ok-clause-others : goal.returns-in-Ok-clause-others
returns-in-Ok-clause-others g c = λ other apart.
    others_stay c.args.peer c.self.inside.entries.items _ c.give_to-answer.new.end c.end.inside.value.value c.self.invariant (there g c) (over g c) other apart
    ∙ ap (λ (flows : Flows). end_of_peer flows other) c.self.view_is

pub returns-in-Err-clause-moves : goal.returns-in-Err-clause-moves
returns-in-Err-clause-moves g c =
    rw (← c.self.view_is)
    (unmoved (g.I.FlowInput.step c.args.input.now) c.args.peer c.self.inside.entries.items c.args.out.now
    (absent c.args.peer c.self.inside.entries.items c.in-Err.field-0
    (between c.args.peer c.self.inside.entries.items c.in-Err.field-0 c.self.invariant (rw c.self.view_is c.in-Err.ensures.position))) c.requires.empty)
