use Rattle.feature_machine.proofs.Soundness.{list_proposal_lawful}
use Rattle.feature_machine.specs.Sound.{IsLawfulProposal}
use Rattle.std.proofs.Common.{subst, sym}
use Rattle.feature_machine.proofs.row.Row.proposal.Goals as goal

-- what the two lists settle on is lawful
pub returns-then-is_server_priority-clause-lawful :
    goal.returns-then-is_server_priority-clause-lawful
returns-then-is_server_priority-clause-lawful c =
    subst (λ k. IsLawfulProposal c.args.self.now k) (sym c.list_proposal.ensures) (list_proposal_lawful c.args.self.now c.args.body.now c.requires)
