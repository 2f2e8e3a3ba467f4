-- Worked nonces, computed from the definitions: what a receiver reports of the packets that came, what a ledger of the nonces that were sent
-- answers, and both in one world. The values are worked out by hand from RFC 4340, sections 11.4 and 12.2, with the own counts of 2,048 numbers
-- and 4,096 nonces.
use Rattle.std.proofs.Common.{◌≡◌, refl, ℕ, ◌+◌, ◌-◌, ◌*◌, ◌≤◌, zero, suc, Bool, true, false, List, [], ◌∷◌, ◌++◌, length, replicate, slice_get, take, Some, None, Result, Ok, Err}
use Rattle.std.specs.Prelude.{◌↔◌}
use Rattle.std.specs.List.{concat}
use Prim.Native.String.{String}
use Rattle.run_list.specs.MarkedSet.{answer_to}
use Rattle.run_list.specs.declared.answers.Marked.{Marked}
use Rattle.run_list.specs.declared.answers.Marked.TheVariants.{New, Again, BelowFloor}
use Rattle.dccp_ecn.specs.Arrivals.{Arrivals, arrivals, arrivals_by, none_arrived, taken_in}
use Rattle.dccp_ecn.specs.EcnVector.{ecn_bytes, ecn_kind, is_ecn_whole}
use Rattle.dccp_ecn.specs.Ledger.{Ledger, ledger, vector_checked, with_nonce_sent}
use Rattle.dccp_ecn.specs.World.{EcnState, EcnStep, HasNoRoom, ecn_begins, happens_by, most_sent, state_after}
use Rattle.dccp_ecn.specs.declared.arrived.Arrived.{Arrived}
use Rattle.dccp_ecn.specs.declared.arrived.Arrived.TheVariants as came
use Rattle.dccp_ecn.specs.declared.event.EcnEvent.{EcnEvent}
use Rattle.dccp_ecn.specs.declared.event.EcnEvent.TheVariants as event
use Rattle.dccp_ecn.specs.declared.event.EcnFault.{EcnFault}
use Rattle.dccp_ecn.specs.declared.event.EcnFault.TheVariants.{NoSuchFrame}
use Rattle.dccp_ecn.specs.declared.event.EcnSeen.{EcnSeen}
use Rattle.dccp_ecn.specs.declared.event.EcnSeen.TheVariants.{Checked, Sent, Took}
use Rattle.dccp_ecn.specs.declared.event.EcnSeen.TheVariants as seen
use Rattle.dccp_ecn.specs.declared.ledger.Check.{Check}
use Rattle.dccp_ecn.specs.declared.ledger.Check.TheVariants.{Fits, Unfit, Unknown}
use Rattle.tests_codec.proofs.rows.RowsSeen.{bytes}

-- a call of a receiver, or what is seen of it by then
data Step : Type 0 where
  -- it begins at this floor
  Start : (floor : ℕ) → Step
  -- it takes this number, which came so
  Take : (number : ℕ) → Arrived → Marked → Step
  -- it takes this many numbers of a step's distance from this one up, which came so
  TakeEach : (first count distance : ℕ) → Arrived → Step
  -- it writes a vector of this type at this number, whole or not
  Write : (ack kind : ℕ) → (written : List ℕ) → (whole : Bool) → Step
  Floor : ℕ → Step

abbrev one : Arrived
one = came.Nonce true

abbrev zero_nonce : Arrived
zero_nonce = came.Nonce false

abbrev taken_each : Arrivals → ℕ → ℕ → ℕ → Arrived → Arrivals
taken_each e zero distance number how = e
taken_each e (suc count) distance number how = taken_each (taken_in e number how) count distance (number + distance) how

-- after a step
abbrev after : Arrivals → Step → Arrivals
after e (Start floor) = none_arrived floor
after e (Take number how answer) = taken_in e number how
after e (TakeEach first count distance how) = taken_each e count distance first how
after e step = e

-- what is there at a step
abbrev there : Arrivals → Step → Step
there e (Start floor) = Start floor
there e (Take number how answer) = Take number how (answer_to e.set number)
there e (TakeEach first count distance how) = TakeEach first count distance how
there e (Write ack kind written whole) = Write ack (ecn_kind e ack) (ecn_bytes e ack) (is_ecn_whole e ack)
there e (Floor floor) = Floor e.set.floor

-- steps, each as it is seen
abbrev played : Arrivals → List Step → List Step
played e [] = []
played e (step ∷ rest) = there e step ∷ played (after e step) rest

-- all is seen as these steps say, from a new receiver on
abbrev Receives : List Step → Type 0
Receives steps = played (none_arrived 0) steps ≡ steps

-- this many numbers that came with nonce 1, each second one down to 0
abbrev falling : ℕ → ℕ → List ℕ
falling zero number = []
falling (suc count) number = number ∷ falling count (number - 2)

abbrev each_second : ℕ → Arrivals
each_second count =
    let numbers = falling count (2 * count - 2) in
    arrivals (record { floor = 0; numbers = numbers }) (arrivals_by (λ number. one) numbers)

-- this byte, 31 runs of 64 numbers that did not come, and one of 63
abbrev lone : ℕ → List ℕ
lone first = first ∷ replicate 31 255 ++ 254 ∷ []

-- 253 bytes: of one number that came and one that did not, in turn
abbrev in_turn : List ℕ
in_turn = concat (replicate 126 (0 ∷ 192 ∷ [])) ++ 0 ∷ []

first_receipts_count : Receives (
    Start 1 ∷ Take 1 one New ∷ Write 1 39 (bytes "00") true ∷ Take 1 one Again ∷ Write 1 39 (bytes "00") true ∷
    Take 1 came.Marked Again ∷ Write 1 39 (bytes "00") true ∷ Take 2 came.Marked New ∷ Take 2 one Again ∷ Write 2 39 (bytes "4000") true ∷
    Take 3 one New ∷ Write 3 38 (bytes "004000") true ∷ Start 1 ∷ Write 1 38 (bytes "c0") true ∷
    Take 1 came.Marked New ∷ Take 1 one Again ∷ Write 1 38 (bytes "40") true ∷ [])
first_receipts_count = refl

-- At the floor, below it, and over the wrap of numbers.
nonces_at_the_floor : Receives (
    Start 5 ∷ Take 5 one New ∷ Take 4 one BelowFloor ∷ Write 5 39 (bytes "00") true ∷ Write 4 38 (bytes "") true ∷ Floor 5 ∷
    Start 281474976710655 ∷ Take 281474976710655 one New ∷ Take 0 came.Marked New ∷ Write 0 39 (bytes "4000") true ∷
    Floor 281474976710655 ∷ [])
nonces_at_the_floor = refl

-- Runs of one state are parted at 64, and nonces count through a run.
runs_of_states : Receives (
    Start 1 ∷ TakeEach 1 64 1 one ∷ Write 64 38 (bytes "3f") true ∷ Take 65 one New ∷ Write 65 39 (bytes "3f00") true ∷
    TakeEach 66 65 1 came.Marked ∷ Write 130 39 (bytes "7f403f00") true ∷
    Take 132 zero_nonce New ∷ Write 132 39 (bytes "00c07f403f00") true ∷ Floor 1 ∷ [])
runs_of_states = refl

-- A number is not mistaken for the one that is 2,048 below it, wherever the floor is.
places_are_emptied : Receives (
    Start 0 ∷ Take 0 one New ∷ Take 2048 came.Marked New ∷ Floor 1 ∷ Write 2048 38 (lone 64) true ∷
    Start 0 ∷ Take 5 one New ∷ Take 2060 one New ∷ Floor 13 ∷ Write 2060 39 (lone 0) true ∷
    Take 1000000 came.Marked New ∷ Floor 997953 ∷ Write 1000000 38 (lone 64) true ∷ Take 2060 one BelowFloor ∷ [])
places_are_emptied = refl

-- Each byte is for one number, and 127 of the 254 numbers that came are reported: only their nonces count.
cut_nonces : played (each_second 254) (Write 506 39 in_turn false ∷ []) ≡ Write 506 39 in_turn false ∷ []
cut_nonces = refl

-- 253 bytes are whole, and one more, of the number 253 that did not come, cuts the last.
full_nonces :
    played (each_second 127) (Write 252 39 in_turn true ∷ Write 253 38 (192 ∷ take 252 in_turn) false ∷ [])
    ≡ Write 252 39 in_turn true ∷ Write 253 38 (192 ∷ take 252 in_turn) false ∷ []
full_nonces = refl

-- a call of a ledger, or what it answers
data Entry : Type 0 where
  -- a packet is sent with this nonce, whose number this is
  Send : (nonce : Bool) (number : ℕ) → Entry
  -- a vector of this number, type and bytes is checked
  Checks : (ack kind : ℕ) → (vector : String) → Check → Entry

abbrev kept_after : Ledger → Entry → Ledger
kept_after l (Send nonce number) = with_nonce_sent l nonce
kept_after l (Checks ack kind vector answer) = l

abbrev answered : Ledger → Entry → Entry
answered l (Send nonce number) = Send nonce l.next
answered l (Checks ack kind vector answer) = Checks ack kind vector (vector_checked l ack kind (bytes vector))

abbrev answers : Ledger → List Entry → List Entry
answers l [] = []
answers l (entry ∷ rest) = answered l entry ∷ answers (kept_after l entry) rest

-- all is answered as these entries say, by a ledger in this state
abbrev Keeps : Ledger → List Entry → Type 0
Keeps l entries = answers l entries ≡ entries

checks_of_vectors : Keeps (ledger 1 []) (
    Checks 1 38 "00" Unknown ∷ Checks 1 38 "c0" Fits ∷
    Send true 1 ∷ Send false 2 ∷ Send true 3 ∷ Checks 3 38 "004000" Fits ∷ Checks 3 39 "004000" Unfit ∷ Checks 3 38 "02" Fits ∷
    Checks 3 39 "4200" Unknown ∷ Checks 3 39 "4001" Fits ∷ Checks 3 38 "82" Fits ∷ Checks 4 38 "00" Unknown ∷
    Checks 4 38 "c000c000" Fits ∷ Checks 1 39 "" Unfit ∷ Checks 1 39 "01" Unknown ∷ [])
checks_of_vectors = refl

-- The last 4,096 nonces are kept, and not one less or more: here after nonce 1 for the number 1, and 0 for 4,095 more.
abbrev full_ledger : Ledger
full_ledger = ledger 4097 (replicate 4095 false ++ true ∷ [])

kept_nonces : Keeps full_ledger (
    Checks 1 39 "00" Fits ∷ Send true 4097 ∷ Checks 1 39 "00" Unknown ∷ Checks 2 38 "00" Fits ∷ Checks 4097 39 "01" Fits ∷ [])
kept_nonces = refl

nonces_at_the_wrap : Keeps (ledger 281474976710655 []) (
    Send true 281474976710655 ∷ Send true 0 ∷ Checks 0 38 "01" Fits ∷ Checks 0 39 "00" Fits ∷ Checks 281474976710655 39 "00" Fits ∷ [])
nonces_at_the_wrap = refl

-- what is seen of an event
abbrev seen_of : Result EcnStep EcnFault → Result EcnSeen EcnFault
seen_of (Ok step) = Ok step.seen
seen_of (Err fault) = Err fault

-- events, each with what is seen of it
abbrev happened : EcnState → List (EcnEvent × Result EcnSeen EcnFault) → List (EcnEvent × Result EcnSeen EcnFault)
happened w [] = []
happened w (happening ∷ rest) =
    (happening.0, seen_of (happens_by w happening.0)) ∷ happened (state_after w (happens_by w happening.0)) rest

-- the state after them
abbrev following : EcnState → List (EcnEvent × Result EcnSeen EcnFault) → EcnState
following w [] = w
following w (happening ∷ rest) = following (state_after w (happens_by w happening.0)) rest

-- all is seen as these events say, and the first report is this one
abbrev Happens : List (EcnEvent × Result EcnSeen EcnFault) → (ack kind : ℕ) → String → Type 0
Happens happenings ack kind vector =
    (happened ecn_begins happenings ≡ happenings)
    × (slice_get (following ecn_begins happenings).reports 0 ≡ Some (record { ack = ack; kind = kind; bytes = bytes vector }))

nonces_checked : Happens (
    (event.Check 0, Err NoSuchFrame) ∷ (event.Send true, Ok Sent) ∷ (event.Send false, Ok Sent) ∷ (event.Send true, Ok Sent) ∷
    (event.Deliver 0, Ok (Took New)) ∷ (event.Mark 1, Ok (Took New)) ∷ (event.Deliver 2, Ok (Took New)) ∷
    (event.Deliver 3, Err NoSuchFrame) ∷ (event.Report, Ok (seen.Reported (Some 0))) ∷ (event.Check 0, Ok (Checked Fits)) ∷
    (event.Forge 0, Ok (Checked Unfit)) ∷ (event.Forge 1, Err NoSuchFrame) ∷ [])
    3 38 "004000"
nonces_checked = (refl, refl)

marked_first : Happens (
    (event.Mark 0, Err NoSuchFrame) ∷ (event.Send true, Ok Sent) ∷ (event.Report, Ok (seen.Reported None)) ∷
    (event.Mark 0, Ok (Took New)) ∷ (event.Deliver 0, Ok (Took Again)) ∷ (event.Report, Ok (seen.Reported (Some 0))) ∷
    (event.Check 0, Ok (Checked Fits)) ∷ [])
    1 38 "40"
marked_first = (refl, refl)

-- A packet that comes late lowers nothing: the report is at the greatest number, here of two packets with nonce 1.
reported_up_to_the_greatest : Happens (
    (event.Send true, Ok Sent) ∷ (event.Send true, Ok Sent) ∷ (event.Deliver 1, Ok (Took New)) ∷ (event.Deliver 0, Ok (Took New)) ∷
    (event.Report, Ok (seen.Reported (Some 0))) ∷ (event.Check 0, Ok (Checked Fits)) ∷ (event.Check 1, Err NoSuchFrame) ∷ [])
    2 38 "01"
reported_up_to_the_greatest = (refl, refl)

-- a world has room for 2^46 packets, and for as many reports
room_of_a_world : (w : EcnState) (nonce : Bool)
    → (most_sent ≡ 70368744177664) × ((70368744177664 ≤ length w.sent) ↔ HasNoRoom w (event.Send nonce))
    × ((70368744177664 ≤ length w.reports) ↔ HasNoRoom w event.Report)
room_of_a_world w nonce = (refl, (λ full. full, λ full. full), (λ full. full, λ full. full))
