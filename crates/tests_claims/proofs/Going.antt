-- Ways as README has them, from the ways of the laws.
use Rattle.std.proofs.Common.{◌≡◌, ◌∙◌, ap, inl, inr, ℕ, ◌+◌, ◌≤◌, List, [], ◌∷◌, ◌++◌, Option, Some, None, length, length-append, arith}
use Rattle.congestion_trait.specs.Control.{Control}
use Rattle.dccp_endpoint.specs.End.{floor_of, new_end}
use Rattle.dccp_endpoint.specs.Inputs.{end_stepped}
use Rattle.dccp_endpoint.specs.Inputs as input
use Rattle.dccp_endpoint.specs.Steps.{Step}
use Rattle.dccp_endpoint.specs.declared.config.Config.{Config}
use Rattle.dccp_packets.specs.Outgoing.{Outgoing}
use Rattle.dccp_states.specs.declared.outcome.Outcome.TheVariants as outcomes
use Rattle.dccp_states.specs.declared.seen.Seen.{Seen}
use Rattle.dccp_states.specs.declared.seen.Seen.TheVariants as seens
use Rattle.two_ends.specs.Controlled.{ControlledWorld, plays_from_start}
use Rattle.two_ends.specs.Delivered.{place_delivered}
use Rattle.two_ends.specs.World.{Half, WorldState, as_sent, half_at_start, moved, newly_processed}
use Rattle.two_ends.specs.declared.frames.SentFrame.{SentFrame}
use Rattle.two_ends_progress.proofs.Leading.{passive-at}
use Rattle.two_ends_progress.specs.GettingThrough.{AreFew}
use Rattle.two_ends_progress.specs.Leading.{AreOpen, HasWay}
use Rattle.two_ends_progress.specs.Opening.{HasEnded}
use Rattle.world_events.specs.declared.event.Event.TheVariants as event
use Rattle.world_events.specs.declared.event.Side.TheVariants.{Client, Server}
use Rattle.tests_claims.specs.Ways.{AreBothOpen, IsAnEndOver, IsPassiveWay}

pub passive-way : {C : Type 0} (control : Control C) (most : ℕ) (w : ControlledWorld C) (goal : ControlledWorld C → Type 0) (way : HasWay control most w goal)
    → IsPassiveWay most way.events
passive-way control most w goal way = record { few = way.few; passive = λ place e there. passive-at way.events place e way.are_passive there }

pub both-open : (w : WorldState) → AreBothOpen w → AreOpen w
both-open w both Client = both.0
both-open w both Server = both.1

pub open-both : (w : WorldState) → AreOpen w → AreBothOpen w
open-both w are = (are Client, are Server)

pub an-end-over : (w : WorldState) → HasEnded w → IsAnEndOver w
an-end-over w (inl client) = (Client, client)
an-end-over w (inr server) = (Server, server)

-- a step sends one frame at most
append-one : (frames : List SentFrame) (processed floor : ℕ) (frame : Option Outgoing)
    → length (frames ++ as_sent processed floor frame) ≤ length frames + 1
append-one frames processed floor None = let size = length-append frames [] in omega (arith, size)
append-one frames processed floor (Some frame) =
    let size = length-append frames (as_sent processed floor (Some frame)) in omega (arith, size)

moved-few : {Answer : Type 0} (half : Half) (arrived : Option ℕ) (step : Step Answer) → length (moved half arrived step).frames ≤ length half.frames + 1
moved-few half arrived step =
    append-one half.frames (length (half.processed ++ newly_processed half.end arrived step.after)) (floor_of step.after) step.frame

-- Once the client has opened, few frames were sent.
pub few-opened : {C : Type 0} (control : Control C) (client server : Config) (for_client for_server : C)
    → AreFew 13 (plays_from_start control client server for_client for_server (event.Open ∷ [])).world
few-opened control client server for_client for_server Client =
    let one = moved-few (half_at_start client) None (end_stepped (new_end client) input.Opens) in omega (arith, one)
few-opened control client server for_client for_server Server = omega arith

-- what is handed over reaches up to the end
pub handed-over : (seen : Seen) (place : ℕ × ℕ) (end : ℕ) → place_delivered seen ≡ Some place → place.1 ≡ end
    → seen ≡ seens.Received (outcomes.Took (Some (place.0, end)))
handed-over (seens.Received (outcomes.Took delivered)) place end is same =
    ap (λ (d : Option (ℕ × ℕ)). seens.Received (outcomes.Took d)) (is ∙ ap (λ (n : ℕ). Some (place.0, n)) same)
handed-over _ place end is same = cc is
