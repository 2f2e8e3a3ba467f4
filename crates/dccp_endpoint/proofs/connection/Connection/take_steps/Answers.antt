use Rattle.std.proofs.Common.{◌≡◌, ◌∙◌, subst, sym, true}
use Rattle.dccp_states.specs.declared.phase.Phase.TheVariants as phase
use Rattle.dccp_endpoint.specs.End.{EndState, is_phase_of}
use Rattle.dccp_endpoint.proofs.Phases.{accept_fits}
use Rattle.dccp_endpoint.proofs.connection.Connection.take_steps.Goals as goal

-- who accepts a Request is a server
pub accept_request-requires : goal.accept_request-requires
accept_request-requires c =
    λ accepts.
    subst (λ (e : EndState). is_phase_of phase.Respond e.config.role ≡ true) c.self.view_is
    (accept_fits c.self.inside.phase c.packet.inside.kind c.self.inside.config.role (sym c.gate-entrance.ensures ∙ accepts) c.self.invariant.phase_fits)
