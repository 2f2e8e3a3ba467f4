use Rattle.std.proofs.Common.{[], ◌∷◌, sym, subst}
use Rattle.two_ends.specs.Controlled.{ControlledWorld, plays}
use Rattle.two_ends_progress.specs.Leading.{AreOpen, AreOver, HasWay, HaveRoomFor}
use Rattle.world_events.specs.declared.event.Event.TheVariants as event
use Rattle.tests_claims.proofs.Going.{both-open, passive-way}
use Rattle.tests_claims.proofs.ways.a_closing_takes_seven_events.Goals as goal

pub returns : goal.returns
returns g c = λ w reached closer paired opened room.
    let goal_is : ControlledWorld g.row.C.Denot → Type 0 = λ v. AreOver v.world in
    let way : HasWay g.C.Congestion.control 7 (plays g.C.Congestion.control w (event.Close closer ∷ [])) goal_is =
    subst (λ (v : ControlledWorld g.row.C.Denot). HasWay g.C.Congestion.control 7 (plays g.C.Congestion.control v (event.Close closer ∷ [])) goal_is) (sym reached.same)
    (c.closing_ends_both.ensures reached.client reached.server reached.for_client reached.for_server reached.events closer reached.is_client reached.is_server
    reached.client_fits reached.server_fits paired (subst (λ (v : ControlledWorld g.row.C.Denot). AreOpen v.world) reached.same (both-open w.world opened))
    (subst (λ (v : ControlledWorld g.row.C.Denot). HaveRoomFor 8 v.world) reached.same room)) in
    (way.events, (passive-way g.C.Congestion.control 7 (plays g.C.Congestion.control w (event.Close closer ∷ [])) goal_is way, way.leads))
