-- Worked lists of frames that arrive at an end, also frames that no end of this project sends (RFC 4340, section 8.5), computed from the
-- definitions: how many were taken; the phase; GSS, GSR, OSR and GAR; the floor, and how many numbers are marked.
use Rattle.std.proofs.Common.{◌≡◌, refl, ℕ, List, [], ◌∷◌, map, codes}
use Prim.Native.String.{String}
use Rattle.ccid_two.specs.Kinds.{Both, at_first, kinds_control}
use Rattle.dccp_endpoint.specs.Controlled.{End, begins}
use Rattle.dccp_endpoint.specs.Drafts.{framed}
use Rattle.dccp_endpoint.specs.End.{EndState, floor_of, marked_of}
use Rattle.dccp_endpoint.specs.Feeding.{count_of_taken, fed}
use Rattle.dccp_endpoint.specs.Receiving.{receives}
use Rattle.dccp_states.specs.declared.phase.Phase.{Phase}
use Rattle.dccp_states.specs.declared.phase.Phase.TheVariants as phase
use Rattle.dccp_states.specs.declared.phase.Role.TheVariants.{Server}
use Rattle.tests_ends.proofs.rows.RowsSeen.{bytes, client_ack, plain, request}

abbrev server : End Both
server = begins kinds_control (plain Server) at_first

abbrev shows : EndState → Phase × (ℕ × ℕ × ℕ × ℕ) × (ℕ × ℕ)
shows e = (e.phase, (e.marks.gss, e.marks.gsr, e.marks.osr, e.marks.gar), (floor_of e, marked_of e))

abbrev fed_with : List (List ℕ) → ℕ × (Phase × (ℕ × ℕ × ℕ × ℕ) × (ℕ × ℕ))
fed_with frames = (count_of_taken kinds_control server frames, shows (fed kinds_control server frames).state)

abbrev fed_as : List String → ℕ × (Phase × (ℕ × ℕ × ℕ × ℕ) × (ℕ × ℕ))
fed_as frames = fed_with (map (λ digits. bytes (codes digits)) frames)

-- a Request and an Ack open the server; other frames come before and after them
fed_at_a_server :
    (fed_as [] ≡ (0, (phase.Listen, (1999, 0, 0, 2000), (0, 0))))
    × (fed_as (request ∷ client_ack ∷ [])
    ≡ (2, (phase.Open, (2001, 1001, 1001, 2000), (1000, 2))))
    -- What is dropped leaves the end as it was: one byte, a Data Offset past the end, another checksum, another port, and a Sync that acknowledges what was not sent
    × (fed_as (request ∷ "00" ∷ client_ack ∷ [])
    ≡ (2, (phase.Open, (2001, 1001, 1001, 2000), (1000, 2))))
    × (fed_as (request ∷ "9c401389ff00234107000000000003e900000000000007d0" ∷ client_ack ∷ [])
    ≡ (2, (phase.Open, (2001, 1001, 1001, 2000), (1000, 2))))
    × (fed_as (request ∷ "9c4013890600234007000000000003e900000000000007d0" ∷ client_ack ∷ [])
    ≡ (2, (phase.Open, (2001, 1001, 1001, 2000), (1000, 2))))
    × (fed_as (request ∷ "9c4113890600234007000000000003e900000000000007d0" ∷ client_ack ∷ [])
    ≡ (2, (phase.Open, (2001, 1001, 1001, 2000), (1000, 2))))
    × (fed_as (request ∷ "9c4013890600194011000000000003e900000000000007d1" ∷ client_ack ∷ [])
    ≡ (2, (phase.Open, (2001, 1001, 1001, 2000), (1000, 2))))
    -- A Reset past the window is answered by a Sync, which takes a number; one within it ends the connection
    × (fed_as (request ∷ "9c4013890700089e0f0000000000138800000000000007d002000000" ∷ client_ack ∷ [])
    ≡ (2, (phase.Open, (2002, 1001, 1001, 2000), (1000, 2))))
    × (fed_as (request ∷ "9c4013890700183d0f000000000003e900000000000007d002000000" ∷ client_ack ∷ [])
    ≡ (1, (phase.TimeWait, (2000, 1000, 1000, 2000), (1000, 1))))
    -- An option that is not understood, after Mandatory, closes the end before it is marked
    × (fed_as ("9c40138906002dc801000000000003e80000002a01200200" ∷ request ∷ client_ack ∷ [])
    ≡ (0, (phase.Closed, (2000, 1000, 1000, 2000), (1000, 0))))
    -- Each frame twice: the second Request is answered again, and nothing is marked twice
    × (fed_as (request ∷ request ∷ client_ack ∷ client_ack ∷ [])
    ≡ (4, (phase.Open, (2002, 1001, 1001, 2000), (1000, 2))))
unfolding receives framed
fed_at_a_server = (refl, refl, refl, refl, refl, refl, refl, refl, refl, refl, refl)
