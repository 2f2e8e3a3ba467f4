use Rattle.std.proofs.Common.{ap, sym, ◌∙◌, Option}
use Rattle.std.specs.BTreeMap.{insert_entry}
use Rattle.dccp_listener.specs.Peers.{FlowEnd, peer_cmp}
use Rattle.server_peers.specs.Lives.{lives_on}
use Rattle.server_peers.specs.Places.{kept_then}
use Rattle.server_peers.specs.declared.life.Life.{Life}
use Rattle.dccp_server.proofs.Tying.{place_there_if}
use Rattle.dccp_server.proofs.lives.go_on.Goals as goal

pub put-requires : goal.put-requires
put-requires c = place_there_if _ c.in-Some.end.now c.args.lives.now c.args.peer c.in-Some.ensures c.requires

pub returns-in-Some : goal.returns-in-Some
returns-in-Some c =
    c.put.ensures ∙ ap (λ (l : Life). insert_entry peer_cmp c.args.lives.now c.args.peer l) c.lives_on-next.ensures
    ∙ sym
    (ap (λ (found : Option FlowEnd). kept_then c.args.lives.now c.args.peer (λ e. lives_on c.args.now e c.args.signs c.args.life.now) found)
    c.in-Some.ensures)
