-- The law on negotiations: three rounds settle all rows, and settled rows of a feature hold one value.
use Rattle.std.proofs.Common.{◌≡◌, ◌⊎◌, inl, inr, refl, sym, subst, ℕ, ◌+◌, List, [], ◌∷◌, ◌++◌, arith}
use Rattle.congestion_trait.specs.Control.{Control}
use Rattle.dccp_endpoint.specs.Causes.{EveryStepHasOneEffect}
use Rattle.dccp_endpoint.specs.Drafts.{Fits}
use Rattle.dccp_endpoint.specs.declared.config.Config.{Config}
use Rattle.dccp_states.specs.declared.phase.Role.TheVariants as role
use Rattle.feature_lists.specs.declared.features.Place.TheVariants.{Here, There}
use Rattle.two_ends.proofs.OfWorlds.Consequences.{alike}
use Rattle.two_ends.specs.Controlled.{ControlledWorld, plays, plays_from_start, begins_with}
use Rattle.two_ends.specs.Negotiated.{Agree}
use Rattle.two_ends.specs.Safe.{Safe}
use Rattle.two_ends.specs.World.{WorldState}
use Rattle.world_events.specs.declared.event.Event.{Event}
use Rattle.world_events.specs.declared.event.Side.TheVariants.{Client, Server}
use Rattle.two_ends_progress.specs.Leading.{AreOpen, HasWay, HaveRoomFor}
use Rattle.two_ends_progress.specs.Opening.{HasEnded}
use Rattle.two_ends_progress.specs.Paired.{AreForEachOther}
use Rattle.two_ends_progress.specs.Settled.{AreSettled, HaveAgreed, HoldOneValue}
use Rattle.two_ends_progress.proofs.Closing.{start-under-way}
use Rattle.two_ends_progress.proofs.Leading.{leads-here, leads-within, next}
use Rattle.two_ends_progress.proofs.Rounds.{settle-on}
use Rattle.two_ends_progress.proofs.Stepping.{fewer-under-way}

-- Settled rows hold one value where the ends agree.
pub one-value : (w : WorldState) → Agree w → AreSettled w → HoldOneValue w
one-value w agree settled feature Here =
    alike w agree (record { feature = feature; location = Client }) (settled Client feature Here, settled Server feature There) Client Server
one-value w agree settled feature There =
    alike w agree (record { feature = feature; location = Server }) (settled Client feature There, settled Server feature Here) Client Server

module _ {C : Type 0} (control : Control C) where
  -- a list of events after another
  pub plays-joined : (w : ControlledWorld C) (events more : List Event) → plays control w (events ++ more) ≡ plays control (plays control w events) more
  plays-joined w [] more = refl
  plays-joined w (event ∷ events) more = plays-joined (next control w event) events more

  -- What is settled at the end of a way agrees, since each world that a schedule reaches is safe.
  agreed-so : (start w : ControlledWorld C) (events : List Event) → w ≡ plays control start events
      → ((all : List Event) → Safe control (plays control start all)) → (most : ℕ)
      → HasWay control most w (λ (v : ControlledWorld C). HasEnded v.world ⊎ (AreOpen v.world × AreSettled v.world))
      → HasWay control most w (λ (v : ControlledWorld C). HasEnded v.world ⊎ HaveAgreed v.world)
  agreed-so start w events same safe most way =
      record {
        events = way.events;
        are_passive = way.are_passive;
        few = way.few;
        leads =
            elim way.leads [
              | inl over ↦ inl over
              | inr settled ↦
                  inr (record {
                    are_open = settled.0;
                    are_settled = settled.1;
                    hold_one_value = one-value (plays control w way.events).world safe-there.agree settled.1;
                  })
            ];
      }
    where
      safe-there : Safe control (plays control w way.events)
      safe-there =
          subst (λ (v : ControlledWorld C). Safe control (plays control v way.events)) (sym same)
          (subst (Safe control) (plays-joined start events way.events) (safe (events ++ way.events)))

module _ {C : Type 0} (control : Control C) (effects : EveryStepHasOneEffect) (client server : Config) (for_client for_server : C) (events : List Event)
    (is_client : client.role ≡ role.Client) (is_server : server.role ≡ role.Server) (client_fits : Fits client) (server_fits : Fits server)
    (paired : AreForEachOther client server) where
  abbrev reached : ControlledWorld C
  reached = plays_from_start control client server for_client for_server events

  pub settling-leads : AreOpen reached.world → HaveRoomFor 24 reached.world
      → HasWay control 24 reached (λ (v : ControlledWorld C). HasEnded v.world ⊎ (AreOpen v.world × AreSettled v.world))
  settling-leads opened room =
      let goal : (ControlledWorld C → Type 0) = λ v. HasEnded v.world ⊎ (AreOpen v.world × AreSettled v.world) in
      leads-within control (0 + 24) 24 reached goal (omega arith)
      (settle-on control effects goal (λ v over. inl over) 0 reached
      (fewer-under-way (0 + 24) 24 reached.world (omega arith)
      (start-under-way control effects 24 client server for_client for_server events is_client is_server client_fits server_fits paired room))
      opened (λ v under_way are_open are_settled. leads-here control v goal (inr (are_open, are_settled))))

  pub agreeing-leads : ((all : List Event) → Safe control (plays_from_start control client server for_client for_server all)) → AreOpen reached.world
      → HaveRoomFor 24 reached.world → HasWay control 24 reached (λ (v : ControlledWorld C). HasEnded v.world ⊎ HaveAgreed v.world)
  agreeing-leads safe opened room =
      agreed-so control (begins_with control client server for_client for_server) reached events refl safe 24 (settling-leads opened room)
