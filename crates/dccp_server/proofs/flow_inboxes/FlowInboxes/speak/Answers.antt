use Rattle.std.proofs.Common.{rules, ◌≡◌, ◌∙◌, ap, Option}
use Rattle.data_dropped.specs.Inbox.{InboxState}
use Rattle.dccp_listener.specs.Peers.{end_of_peer}
use Rattle.dccp_server.specs.FlowInboxes.{flow_inbox, flow_speaks_by}
use Rattle.dccp_server.proofs.flow_inboxes.FlowInboxes.speak.Goals as goal

-- what the peer's own inbox has to say
pub returns-in-Some-clause-says : goal.returns-in-Some-clause-says
returns-in-Some-clause-says c =
    let same : c.in-Some.intake.now ≡ flow_inbox c.args.self.now c.args.peer = search rules in
    c.speak_at.ensures.says
    ∙ ap (λ (i : Option InboxState). flow_speaks_by i (end_of_peer c.args.server.now.room.served.listening.flows c.args.peer) c.args.out.now) same
