-- What two ends without options sent, processed and show in the world after a plain handshake, when each frame is delivered once and in order.
-- It is computed from the definitions and was worked out by hand.
use Rattle.std.proofs.Common.{◌≡◌, refl, ℕ, List, [], ◌∷◌, map, codes}
use Prim.Native.String.{String}
use Rattle.ccid_two.specs.Kinds.{Both, at_first, kinds_control}
use Rattle.dccp_states.specs.declared.phase.Phase.{Phase}
use Rattle.dccp_states.specs.declared.phase.Phase.TheVariants as phase
use Rattle.dccp_states.specs.declared.phase.Role.TheVariants as role
use Rattle.validity_windows.specs.declared.marks.Marks.{Marks}
use Rattle.world_events.specs.declared.event.Event.TheVariants as event
use Rattle.world_events.specs.declared.event.Side.{Side}
use Rattle.world_events.specs.declared.event.Side.TheVariants.{Client, Server}
use Rattle.dccp_endpoint.specs.Calling.{opens}
use Rattle.dccp_endpoint.specs.Controlled.{in_flight_of, window_of}
use Rattle.dccp_endpoint.specs.Drafts.{framed}
use Rattle.dccp_endpoint.specs.End.{EndState, floor_of, marked_of}
use Rattle.dccp_endpoint.specs.Receiving.{receives}
use Rattle.two_ends.specs.Controlled.{ControlledWorld, begins_with, congestion_of, plays}
use Rattle.two_ends.specs.World.{half_of}
use Rattle.two_ends.specs.declared.frames.SentFrame.{SentFrame}
use Rattle.tests_ends.proofs.rows.RowsSeen.{bytes, initial_rows, plain, shown}

-- the world after it
abbrev met : ControlledWorld Both
met =
    plays
    kinds_control
    (begins_with kinds_control (plain role.Client) (plain role.Server) at_first at_first)
    (event.Open ∷ event.Deliver Client 0 ∷ event.Deliver Server 0 ∷ event.Deliver Client 1 ∷ event.Deliver Server 1 ∷ [])

-- a frame's bytes, how many numbers its sender had processed, and its floor
abbrev kept : SentFrame → List ℕ × ℕ × ℕ
kept frame = (frame.bytes, frame.processed, frame.floor)

abbrev frames : Side → List (List ℕ × ℕ × ℕ)
frames side = map kept (half_of met.world side).frames

abbrev frame : String → ℕ → ℕ → List ℕ × ℕ × ℕ
frame digits processed floor = (bytes (codes digits), processed, floor)

abbrev end : Side → EndState
end side = (half_of met.world side).end

-- GSS, GSR, OSR and GAR
abbrev marks : Marks → ℕ × ℕ × ℕ × ℕ
marks m = (m.gss, m.gsr, m.osr, m.gar)

-- the phase, the floor, how many numbers were taken, the window, and what is in flight
abbrev shows : Side → Phase × ℕ × ℕ × ℕ × ℕ
shows side = (
  (end side).phase,
  floor_of (end side),
  marked_of (end side),
  window_of kinds_control (congestion_of met side),
  in_flight_of kinds_control (congestion_of met side),
)

both_ends_of_a_handshake :
    (frames Client
    ≡ frame "9c401389050031ec01000000000003e80000002a" 0 0 ∷ frame "9c4013890600234107000000000003e900000000000007d0" 1 2000 ∷ [])
    × (frames Server
    ≡ frame "13899c400700261403000000000007d000000000000003e80000002a" 1 1000 ∷ frame "13899c400600234007000000000007d100000000000003e9" 2 1000 ∷ [])
    × ((half_of met.world Client).processed ≡ 2000 ∷ 2001 ∷ [])
    × ((half_of met.world Server).processed ≡ 1000 ∷ 1001 ∷ [])
    × (marks (end Client).marks ≡ (1001, 2001, 2001, 1001))
    × (marks (end Server).marks ≡ (2001, 1001, 1001, 2000))
    × (shows Client ≡ (phase.Open, 2000, 2, 4, 0))
    × (shows Server ≡ (phase.Open, 1000, 2, 4, 0))
    × (shown (end Client) ≡ initial_rows)
    × (shown (end Server) ≡ initial_rows)
unfolding receives opens framed
both_ends_of_a_handshake = (refl, refl, refl, refl, refl, refl, refl, refl, refl, refl)
