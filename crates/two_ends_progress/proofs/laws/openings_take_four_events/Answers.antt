use Rattle.std.proofs.Common.{◌≡◌, ◌⊎◌, refl, inl, inr, true}
use Rattle.dccp_endpoint.specs.End.{is_connected}
use Rattle.dccp_states.specs.declared.phase.Phase.{Phase}
use Rattle.dccp_states.specs.declared.phase.Phase.TheVariants as phases
use Rattle.two_ends.specs.World.{WorldState, half_of}
use Rattle.world_events.specs.declared.event.Side.{Side}
use Rattle.world_events.specs.declared.event.Side.TheVariants.{Client, Server}
use Rattle.two_ends_progress.proofs.Leading.{passive-at}
use Rattle.two_ends_progress.specs.Opening.{AreConnected, AsksAgain, HasEnded, IsAnswered, IsAsking}
use Rattle.two_ends_progress.proofs.laws.openings_take_four_events.Goals as goal

-- the two phases in which the handshake has got through to an end
connected-so : (phase : Phase) → is_connected phase ≡ true → (phase ≡ phases.PartOpen) ⊎ (phase ≡ phases.Open)
connected-so phases.PartOpen is = inl refl
connected-so phases.Open is = inr refl
connected-so _ is = cc is

through-so : (w : WorldState) → HasEnded w ⊎ AreConnected w
    → ((side : Side) × (((half_of w side).end.phase ≡ phases.Closed) ⊎ ((half_of w side).end.phase ≡ phases.TimeWait)))
    ⊎ ((side : Side) → ((half_of w side).end.phase ≡ phases.PartOpen) ⊎ ((half_of w side).end.phase ≡ phases.Open))
through-so w (inl (inl client)) = inl (Client, client)
through-so w (inl (inr server)) = inl (Server, server)
through-so w (inr both) = inr (λ side. connected-so (half_of w side).end.phase (both side))

pub returns-clause-asking : goal.returns-clause-asking
returns-clause-asking g c = λ w asks hears. IsAsking asks hears

pub returns-clause-again : goal.returns-clause-again
returns-clause-again g c = λ w asks answers takes. AsksAgain asks answers takes

pub returns-clause-answered : goal.returns-clause-answered
returns-clause-answered g c = λ w has waits. IsAnswered has waits

pub returns-clause-few : goal.returns-clause-few
returns-clause-few g c = λ w way. way.few

pub returns-clause-passive : goal.returns-clause-passive
returns-clause-passive g c = λ w way place e there. passive-at way.events place e way.are_passive there

pub returns-clause-through : goal.returns-clause-through
returns-clause-through g c = λ w way. through-so _ way.leads
