use Rattle.std.proofs.Common.{rules, ◌≡◌, ◌∙◌, ap, sym, Option, Some, None}
use Rattle.data_dropped.specs.Inbox.{InboxState}
use Rattle.data_dropped.specs.Intakes.{IntakeDelivery, settled_in}
use Rattle.dccp_states.specs.declared.outcome.Outcome.TheVariants.{Took}
use Rattle.dccp_server.specs.FlowInboxes.{flow_inbox}
use Rattle.dccp_server.proofs.flow_inboxes.FlowInboxes.take_in.Goals as goal
use Rattle.dccp_server.proofs.flow_inboxes.FlowInboxes.take_in.Goals.{in-Some, in-None}

-- what became of them is what the peer's own inbox makes of them
pub returns-clause-arrival : goal.returns-clause-arrival
returns-clause-arrival c =
    elim c.match-get_mut.branch [
      | in-Some w ↦
          let same : w.in-Some.intake.now ≡ flow_inbox c.args.self.now c.args.peer = search rules in
          w.result-is ∙ ap (λ (d : IntakeDelivery). d.arrival) w.settle.ensures
          ∙ ap (λ (i : Option InboxState). (settled_in i c.args.number c.args.bytes.now (Took (Some c.args.place))).arrival) same
      | in-None w ↦
          let none : flow_inbox c.args.self.now c.args.peer ≡ None = search rules in
          w.result-is ∙ ap (λ (i : Option InboxState). (settled_in i c.args.number c.args.bytes.now (Took (Some c.args.place))).arrival) (sym none)
    ]
