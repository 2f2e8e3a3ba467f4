use Rattle.std.proofs.Common.{◌⊎◌, inl, inr, sym, subst}
use Rattle.two_ends.specs.Controlled.{ControlledWorld}
use Rattle.feature_lists.specs.declared.features.Place.TheVariants.{Here, There}
use Rattle.two_ends_progress.specs.Leading.{AreOpen, HasWay, HaveRoomFor}
use Rattle.two_ends_progress.specs.Opening.{HasEnded}
use Rattle.two_ends_progress.specs.Settled.{HaveAgreed}
use Rattle.world_events.specs.declared.event.Side.TheVariants.{Client, Server}
use Rattle.tests_claims.proofs.Going.{an-end-over, both-open, passive-way}
use Rattle.tests_claims.proofs.ways.a_negotiation_takes_twenty_four_events.Goals as goal

pub returns : goal.returns
returns g c = λ w reached paired opened room.
    let goal_is : ControlledWorld g.row.C.Denot → Type 0 = λ v. HasEnded v.world ⊎ HaveAgreed v.world in
    let way : HasWay g.C.Congestion.control 24 w goal_is =
    subst (λ (v : ControlledWorld g.row.C.Denot). HasWay g.C.Congestion.control 24 v goal_is) (sym reached.same)
    (c.negotiations_settle.ensures reached.client reached.server reached.for_client reached.for_server reached.events reached.is_client reached.is_server
    reached.client_fits reached.server_fits paired (subst (λ (v : ControlledWorld g.row.C.Denot). AreOpen v.world) reached.same (both-open w.world opened))
    (subst (λ (v : ControlledWorld g.row.C.Denot). HaveRoomFor 24 v.world) reached.same room)) in (
      way.events,
      (
        passive-way g.C.Congestion.control 24 w goal_is way,
        elim way.leads [
          | inl ended ↦ inl (an-end-over _ ended)
          | inr agreed ↦ inr
              (λ feature. (
                agreed.are_settled Client feature Here,
                (
                  agreed.are_settled Server feature There,
                  (
                    agreed.hold_one_value feature Here,
                    (agreed.are_settled Client feature There, (agreed.are_settled Server feature Here, agreed.hold_one_value feature There)),
                  ),
                ),
              ))
        ],
      ),
    )
