use Rattle.std.proofs.Common.{◌≡◌, ap, sym, ◌∙◌, List}
use Rattle.std.specs.Map.{remove_entry}
use Rattle.dccp_listener.specs.Peers.{is_peer}
use Rattle.dccp_listener.specs.declared.peer.Peer.{Peer}
use Rattle.dccp_listener.proofs.Searching.{absent, between, none_taken, taken, value_gone}
use Rattle.dccp_listener.proofs.peer_list.PeerList.remove.Given.{Over}
use Rattle.dccp_listener.proofs.peer_list.PeerList.remove.Goals as goal

out : (g : Over) (c : goal.After-drop-remove g) → c.remove.new.self.items ≡ remove_entry (is_peer c.args.peer) c.self.inside.entries.items
out g c =
    c.remove.ensures.items
    ∙ taken c.args.peer c.self.inside.entries.items c.in-Ok.place c.self.invariant (rw c.self.view_is c.in-Ok.ensures.bound) (rw c.self.view_is c.in-Ok.ensures.position)

pub invariant_of-self : goal.invariant_of-self
invariant_of-self g c = (value_gone c.args.peer c.self.inside.entries.items _ c.self.invariant (out g c)).0

pub returns-in-Ok-clause-entries : goal.returns-in-Ok-clause-entries
returns-in-Ok-clause-entries g c = out g c ∙ ap (λ (kept : List (Peer × g.row.V.Denot)). remove_entry (is_peer c.args.peer) kept) c.self.view_is

pub returns-in_default-clause-entries : goal.returns-in_default-clause-entries
returns-in_default-clause-entries g c =
    rw (← c.self.view_is)
    (sym
    (none_taken c.args.peer c.self.inside.entries.items
    (absent c.args.peer c.self.inside.entries.items c.in_default.field-0
    (between c.args.peer c.self.inside.entries.items c.in_default.field-0 c.self.invariant (rw c.self.view_is c.in_default.ensures.position)))))
