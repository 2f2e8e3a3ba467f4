use Rattle.std.proofs.Common.{◌∙◌, subst, sym}
use Rattle.dccp_endpoint.proofs.Arriving.{arrived_step}
use Rattle.dccp_endpoint.specs.End.{new_end}
use Rattle.dccp_endpoint.specs.Incoming.{parts_of_packet}
use Rattle.dccp_endpoint.specs.Steps.{Step}
use Rattle.dccp_states.specs.declared.outcome.Outcome.{Outcome}
use Rattle.dccp_endpoint.specs.Strangers.{IsStrangerAnswered}
use Rattle.dccp_endpoint.proofs.strangers.answer_stranger.Goals as goal

-- what step 1 lets pass is taken
pub returns-in-Ok : goal.returns-in-Ok
returns-in-Ok c =
    subst (λ (s : Step Outcome). IsStrangerAnswered s c.turn_away.new.out c.turn_away.result)
    (arrived_step (new_end c.args.config.now) c.args.bytes.now (parts_of_packet c.args.packet.now) c.in-Ok.number
    c.requires.read (sym c.check_header.ensures ∙ c.in-Ok.is))
    (c.turn_away.ensures c.args.bytes.now)
