use Rattle.std.proofs.Common.{ap, sym, ◌∙◌, Some}
use Rattle.dccp_listener.specs.declared.peer.Peer.{Peer}
use Rattle.dccp_listener.proofs.Searching.{absent, between, found}
use Rattle.dccp_listener.proofs.peer_list.PeerList.get.Goals as goal

pub returns-in-Ok : goal.returns-in-Ok
returns-in-Ok g c =
    rw (← c.self.view_is)
    (found c.args.peer c.self.inside.entries.items c.in-Ok.place c.index.result.now c.self.invariant (rw c.self.view_is c.in-Ok.ensures.bound)
    (rw c.self.view_is c.in-Ok.ensures.position) c.index.ensures
    ∙ ap (λ (it : Peer × g.row.V.Denot). Some it.1) (sym c.behind-self.view_is) ∙ ap Some (sym c.deref.ensures))

pub returns-in-Err : goal.returns-in-Err
returns-in-Err g c =
    rw (← c.self.view_is)
    (absent c.args.peer c.self.inside.entries.items c.in-Err.field-0
    (between c.args.peer c.self.inside.entries.items c.in-Err.field-0 c.self.invariant (rw c.self.view_is c.in-Err.ensures.position)))
