-- All negotiations have ended (RFC 4340, section 6; own).
use Rattle.std.specs.Prelude.{◌≡◌}
use Rattle.dccp_endpoint.specs.End.{held_of}
use Rattle.feature_lists.specs.declared.features.Feature.{Feature}
use Rattle.feature_lists.specs.declared.features.Place.{Place}
use Rattle.feature_machine.specs.Negotiating.{opposite}
use Rattle.feature_machine.specs.declared.stands.Stand.TheVariants.{Stable}
use Rattle.two_ends.specs.World.{WorldState, half_of}
use Rattle.world_events.specs.declared.event.Side.{Side}
use Rattle.two_ends_progress.specs.Leading.{AreOpen}

-- each of the eighteen rows of both ends is STABLE
abbrev pub AreSettled : WorldState → Type 0
AreSettled w = (side : Side) (feature : Feature) (place : Place) → (held_of (half_of w side).end feature place).stand ≡ Stable

-- The client holds for its own feature the value that the server holds for its peer's, and the other way round.
abbrev pub HoldOneValue : WorldState → Type 0
HoldOneValue w =
    (feature : Feature) (place : Place) → (held_of w.client.end feature place).value ≡ (held_of w.server.end feature (opposite place)).value

-- Both ends are OPEN, all rows of both are STABLE, and each feature has one value.
pub record HaveAgreed (w : WorldState) : Type 0 where
  pub are_open : AreOpen w
  pub are_settled : AreSettled w
  pub hold_one_value : HoldOneValue w
