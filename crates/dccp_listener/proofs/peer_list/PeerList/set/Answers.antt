use Rattle.std.proofs.Common.{◌≡◌, ap, sym, subst, ◌∙◌, get_or, set, List, is_some}
use Rattle.std.proofs.lemmas.Bool.{false≢true}
use Rattle.std.specs.Map.{set_value}
use Rattle.dccp_listener.specs.Peers.{is_peer}
use Rattle.dccp_listener.specs.declared.peer.Peer.{Peer}
use Rattle.dccp_listener.proofs.Searching.{absent, between, value_set, written}
use Rattle.dccp_listener.proofs.peer_list.PeerList.set.Given.{Over}
use Rattle.dccp_listener.proofs.peer_list.PeerList.set.Goals as goal

pub unreachable-requires : goal.unreachable-requires
unreachable-requires g c =
    false≢true
    (ap is_some
    (sym
    (absent c.args.peer c.self.inside.entries.items c.in_default.field-0
    (between c.args.peer c.self.inside.entries.items c.in_default.field-0 c.self.invariant (rw c.self.view_is c.in_default.ensures.position))))
    ∙ rw c.self.view_is c.requires)

over : (g : Over) (c : goal.After-self-1 g) → set c.self.inside.entries.items c.in-Ok.place (c.behind-self.inside.peer, c.args.value.now)
    ≡ set_value (is_peer c.args.peer) c.self.inside.entries.items c.args.value.now
over g c =
    written c.args.peer c.self.inside.entries.items c.in-Ok.place (c.behind-self.inside.peer, c.behind-self.inside.value.value) c.args.value.now c.self.invariant
    (rw c.self.view_is c.in-Ok.ensures.bound) (rw c.self.view_is c.in-Ok.ensures.position)
    (subst (λ (it : Peer × g.row.V.Denot). it ≡ get_or c.self.inside.entries.items c.in-Ok.place it) (sym c.behind-self.view_is) c.index_mut.ensures.value)

pub invariant_of-self : goal.invariant_of-self
invariant_of-self g c = (value_set c.args.peer c.self.inside.entries.items _ c.args.value.now c.self.invariant (rw c.self.view_is c.requires) (over g c)).0

pub returns : goal.returns
returns g c = over g c ∙ ap (λ (kept : List (Peer × g.row.V.Denot)). set_value (is_peer c.args.peer) kept c.args.value.now) c.self.view_is
