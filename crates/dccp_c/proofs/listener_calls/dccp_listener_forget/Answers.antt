use Rattle.std.proofs.Common.{rules}
use Rattle.dccp_c.specs.Listening.{holding_in, holding_of, peer_named}
use Rattle.dccp_c.proofs.Hearing.{forgets_so}
use Rattle.dccp_c.proofs.listener_calls.dccp_listener_forget.Goals as goal

pub returns : goal.returns
returns c =
    forgets_so c.args.now (holding_in c.args.listener.now.kept.value) (holding_in c.put.new.self.kept.value) (holding_of c.deref_mut.result.now)
    (holding_of c.let_go.new.serving) (peer_named c.args.peer.now) c.peer_named-peer.result c.has_flow-had.result c.had_code.result (search rules)
    (search rules) c.peer_named-peer.ensures c.let_go.ensures (search rules) c.had_code.ensures
