use Rattle.std.proofs.Common.{ap, sym, ◌∙◌, Option}
use Rattle.std.specs.BTreeMap.{insert_entry}
use Rattle.dccp_listener.specs.Peers.{FlowEnd, peer_cmp}
use Rattle.server_peers.specs.Places.{kept_then}
use Rattle.dccp_server.specs.Upkeeps.{next_upkeep}
use Rattle.dccp_uses.specs.declared.upkeep.Upkeep.{Upkeep}
use Rattle.dccp_server.proofs.Tying.{place_there_if}
use Rattle.dccp_server.proofs.serving.arrange.Goals as goal

pub put-requires : goal.put-requires
put-requires c = place_there_if _ c.in-Some.end.now c.args.upkeeps.now c.args.peer c.in-Some.ensures.value c.requires

pub returns-in-Some : goal.returns-in-Some
returns-in-Some c =
    c.put.ensures ∙ ap (λ (u : Upkeep). insert_entry peer_cmp c.args.upkeeps.now c.args.peer u) c.tell.ensures
    ∙ sym
    (ap (λ (found : Option FlowEnd). kept_then c.args.upkeeps.now c.args.peer
    (next_upkeep c.args.now c.args.pace c.args.upkeep.now c.args.happening.now) found) c.in-Some.ensures.value)
