use Rattle.std.proofs.Common.{◌⊎◌, inl, inr, [], ◌∷◌}
use Rattle.two_ends.specs.Controlled.{ControlledWorld, plays_from_start}
use Rattle.two_ends_progress.specs.Leading.{AreOpen, HasWay}
use Rattle.two_ends_progress.specs.Opening.{HasEnded}
use Rattle.world_events.specs.declared.event.Event.TheVariants as event
use Rattle.tests_claims.proofs.Going.{an-end-over, few-opened, open-both, passive-way}
use Rattle.tests_claims.proofs.ways.an_opening_takes_thirteen_events.Goals as goal

pub returns : goal.returns
returns g c = λ client server for_client for_server is_client is_server client_fits server_fits paired.
    let w : ControlledWorld g.row.C.Denot = plays_from_start g.C.Congestion.control client server for_client for_server (event.Open ∷ []) in
    let goal_is : ControlledWorld g.row.C.Denot → Type 0 = λ v. HasEnded v.world ⊎ AreOpen v.world in
    let way : HasWay g.C.Congestion.control 13 w goal_is =
    c.openings_end_in_open.ensures client server for_client for_server (event.Open ∷ []) is_client is_server client_fits server_fits paired
    (c.openings_get_through.ensures.started client server for_client for_server is_client is_server)
    (few-opened g.C.Congestion.control client server for_client for_server) in (
      way.events,
      (
        passive-way g.C.Congestion.control 13 w goal_is way,
        elim way.leads [
          | inl ended ↦ inl (an-end-over _ ended)
          | inr opened ↦ inr (open-both _ opened)
        ],
      ),
    )
