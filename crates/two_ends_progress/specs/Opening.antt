-- What an opening is, and how it may end (RFC 4340, section 8.1; own).
use Rattle.std.specs.Prelude.{◌≡◌, ◌⊎◌, true, None}
use Rattle.dccp_endpoint.specs.End.{is_connected}
use Rattle.dccp_endpoint.specs.Steps.{next_number}
use Rattle.dccp_states.specs.declared.phase.Phase.TheVariants as phases
use Rattle.two_ends.specs.World.{WorldState, half_of}
use Rattle.validity_windows.specs.Verdict.{by_window}
use Rattle.validity_windows.specs.declared.verdict.Verdict.TheVariants as verdicts
use Rattle.world_events.specs.declared.event.Side.{Side}
use Rattle.world_events.specs.declared.event.Side.TheVariants.{Client, Server}
use Rattle.two_ends_progress.specs.Leading.{IsOver}

-- An opening is under way. The client asks, and the server has heard nothing, or is in RESPOND with the client's next
-- number in its window; or the client has the Response, and the server waits for an acknowledgement of it.
pub data IsInHandshake (w : WorldState) : Type 0 where
  IsAsking : w.client.end.phase ≡ phases.Request → w.server.end.phase ≡ phases.Listen → IsInHandshake w
  AsksAgain : w.client.end.phase ≡ phases.Request → w.server.end.phase ≡ phases.Respond
      → by_window w.server.end.marks (next_number w.client.end) None ≡ verdicts.Valid → IsInHandshake w
  IsAnswered : w.client.end.phase ≡ phases.PartOpen → w.server.end.phase ≡ phases.Respond → IsInHandshake w

-- each end has done its part of the handshake: it is in PARTOPEN or OPEN
abbrev pub AreConnected : WorldState → Type 0
AreConnected w = (side : Side) → is_connected (half_of w side).end.phase ≡ true

-- an end is CLOSED or waits in TIMEWAIT
abbrev pub HasEnded : WorldState → Type 0
HasEnded w = IsOver w Client ⊎ IsOver w Server
