use Rattle.std.proofs.Common.{◌≡◌, sym, subst, false}
use Rattle.dccp_endpoint.specs.Calling.{lacks_vectors}
use Rattle.two_ends.specs.Controlled.{ControlledWorld}
use Rattle.two_ends.specs.World.{half_of}
use Rattle.two_ends_progress.specs.GettingThrough.{AreFew, GetsThrough}
use Rattle.two_ends_progress.specs.Leading.{AreOpen, HasWay}
use Rattle.two_ends_progress.specs.Settled.{AreSettled}
use Rattle.tests_claims.proofs.Going.{both-open, handed-over, passive-way}
use Rattle.tests_claims.proofs.ways.data_take_six_events.Goals as goal

pub returns : goal.returns
returns g c = λ w reached side payload paired opened settled few gets short.
    let goal_is : ControlledWorld g.row.C.Denot → Type 0 = λ v. GetsThrough g.C.Congestion.control v side payload in
    let way : HasWay g.C.Congestion.control 6 w goal_is =
    subst (λ (v : ControlledWorld g.row.C.Denot). HasWay g.C.Congestion.control 6 v goal_is) (sym reached.same)
    (c.data_get_through.ensures reached.client reached.server reached.for_client reached.for_server reached.events side payload reached.is_client
    reached.is_server reached.client_fits reached.server_fits paired
    (subst (λ (v : ControlledWorld g.row.C.Denot). AreOpen v.world) reached.same (both-open w.world opened))
    (subst (λ (v : ControlledWorld g.row.C.Denot). AreSettled v.world) reached.same settled) (subst (λ (v : ControlledWorld g.row.C.Denot). AreFew 8 v.world) reached.same few)
    (subst (λ (v : ControlledWorld g.row.C.Denot). lacks_vectors (half_of v.world side).end.rows ≡ false) reached.same gets) short) in
    let through = way.leads in (
      way.events,
      (
        through.sent,
        (
          through.handed,
          (
            through.frame,
            (
              through.place.0,
              (
                passive-way g.C.Congestion.control 6 w goal_is way,
                (
                  through.takes_place,
                  (
                    through.is_taken,
                    (through.arrives, (handed-over through.handed.seen through.place _ through.is_delivered through.up_to_the_end, (through.is_added, through.are_the_data))),
                  ),
                ),
              ),
            ),
          ),
        ),
      ),
    )
