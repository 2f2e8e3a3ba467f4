use Rattle.std.proofs.Common.{◌≡◌, ap, ◌∙◌, List}
use Rattle.std.specs.BTreeMap.{insert_entry}
use Rattle.dccp_listener.specs.Peers.{peer_cmp}
use Rattle.dccp_listener.specs.declared.peer.Peer.{Peer}
use Rattle.dccp_listener.proofs.Searching.{between, not_absent, put_between, value_put}
use Rattle.dccp_listener.proofs.peer_list.PeerList.insert.Given.{Over}
use Rattle.dccp_listener.proofs.peer_list.PeerList.insert.Goals as goal

pub unreachable-requires : goal.unreachable-requires
unreachable-requires g c =
    not_absent c.args.peer c.self.inside.entries.items c.in_default.field-0 c.self.invariant (rw c.self.view_is c.in_default.ensures.bound)
    (rw c.self.view_is c.in_default.ensures.position) (rw c.self.view_is c.requires)

put : (g : Over) (c : goal.In_ok-insert_at g) → c.insert_at.new.entries.items ≡ insert_entry peer_cmp c.self.inside.entries.items c.args.peer c.args.value
put g c =
    c.in_ok-insert_at.ensures.inserted
    ∙ put_between c.args.peer c.self.inside.entries.items c.in-Err.place c.in-Ok.value.value (rw c.self.view_is c.in-Err.ensures.bound)
    (between c.args.peer c.self.inside.entries.items c.in-Err.place c.self.invariant (rw c.self.view_is c.in-Err.ensures.position))
    ∙ ap (λ (v : g.row.V.Denot). insert_entry peer_cmp c.self.inside.entries.items c.args.peer v) c.in-Ok.ensures.ok

pub invariant_of-self-2 : goal.invariant_of-self-2
invariant_of-self-2 g c = (value_put c.args.peer c.self.inside.entries.items _ c.args.value c.self.invariant (put g c)).0

pub returns-clause-entries : goal.returns-clause-entries
returns-clause-entries g c =
    put g c ∙ ap (λ (kept : List (Peer × g.row.V.Denot)). insert_entry peer_cmp kept c.args.peer c.args.value) c.self.view_is
