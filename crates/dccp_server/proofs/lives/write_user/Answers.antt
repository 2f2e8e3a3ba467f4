use Rattle.std.proofs.Common.{◌≡◌, ap, sym, ◌∙◌, Option}
use Rattle.std.specs.BTreeMap.{insert_entry}
use Rattle.dccp_listener.specs.Peers.{FlowEnd, peer_cmp}
use Rattle.server_peers.specs.Lives.{user_written}
use Rattle.server_peers.specs.declared.life.Life.{Life}
use Rattle.dccp_server.proofs.Tying.{place_there_if}
use Rattle.dccp_server.proofs.lives.write_user.Goals as goal

pub put-requires : goal.put-requires
put-requires c = place_there_if _ c.in-Some.field-0.now c.args.lives.now c.args.peer c.in-Some.ensures c.requires

pub returns-in-Some-clause-written : goal.returns-in-Some-clause-written
returns-in-Some-clause-written c =
    c.put.ensures ∙ ap (λ (l : Life). insert_entry peer_cmp c.args.lives.now c.args.peer (record l { user = c.args.user })) c.life_of-life.ensures
    ∙ sym (ap (λ (found : Option FlowEnd). user_written c.args.user c.args.lives.now c.args.peer found) c.in-Some.ensures)
