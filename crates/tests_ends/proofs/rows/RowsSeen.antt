-- What the worked packets use: bytes spelled by hexadecimal digits, what a step shows, and two ends that offer nothing, during a handshake.
use Rattle.std.specs.Prelude.{ℕ, ◌+◌, ◌-◌, ◌*◌, nat_le, if◌then◌else◌, Bool, true, List, [], ◌∷◌, map, slice_set, Option, Some, codes}
use Prim.Native.String.{String}
use Rattle.dccp_packets.specs.Outgoing.{bytes_sent}
use Rattle.congestion_trait.specs.Calls.{Call}
use Rattle.congestion_trait.specs.Calls as call
use Rattle.dccp_states.specs.declared.phase.Phase.{Phase}
use Rattle.dccp_states.specs.declared.phase.Role.{Role}
use Rattle.dccp_states.specs.declared.phase.Role.TheVariants.{Client, Server}
use Rattle.feature_lists.specs.declared.features.Feature.{Feature}
use Rattle.feature_lists.specs.declared.features.Place.{Place}
use Rattle.feature_lists.specs.declared.wishes.Wanted.{Wanted}
use Rattle.feature_machine.specs.Lists.{index_of, with_offer, with_wish, without_offers}
use Rattle.feature_machine.specs.declared.stands.Stand.{Stand}
use Rattle.feature_machine.specs.declared.stands.Stand.TheVariants.{Stable}
use Rattle.dccp_endpoint.specs.End.{EndState, new_end}
use Rattle.dccp_endpoint.specs.Receiving.{receives}
use Rattle.dccp_endpoint.specs.Calling.{Called, opens, sends_payload}
use Rattle.dccp_endpoint.specs.Steps.{Step}
use Rattle.dccp_endpoint.specs.Usual.{usual}
use Rattle.dccp_states.specs.declared.calls.SendFault.{SendFault}
use Rattle.dccp_endpoint.specs.declared.config.Config.{Config}
use Rattle.dccp_states.specs.declared.outcome.Outcome.{Outcome}

-- the bytes that hexadecimal digits spell
abbrev pub digit : ℕ → ℕ
digit code = if nat_le 97 code then code - 87 else code - 48

abbrev pub bytes : List ℕ → List ℕ
bytes [] = []
bytes (digit_alone ∷ []) = []
bytes (high ∷ low ∷ rest) = (16 * digit high + digit low) ∷ bytes rest

abbrev pub sent : String → Option (List ℕ)
sent digits = Some (bytes (codes digits))

-- a packet arrives
abbrev pub arrives : EndState → String → Step Outcome
arrives e digits = receives e (bytes (codes digits))

-- what is seen of a step: its answer, its frame and the phase after it
abbrev pub seen : {Answer : Type 0} → Step Answer → Answer × Option (List ℕ) × Phase
seen step = (step.answer, bytes_sent step.frame, step.after.phase)

-- what is seen of a call of the congestion control: of a report, the states that it gives these numbers
pub data SeenCall : Type 0 where
  Started : (ccid : ℕ) → SeenCall
  Sent : (number : ℕ) → SeenCall
  Reported : (states : List (Option ℕ)) (ratio : ℕ) → SeenCall
  TimedOut : SeenCall

abbrev pub seen_call : List ℕ → Call → SeenCall
seen_call numbers (call.Starts ccid) = Started ccid
seen_call numbers (call.Sends number) = Sent number
seen_call numbers (call.Reports states ratio) = Reported (map states numbers) ratio
seen_call numbers call.TimesOut = TimedOut

abbrev pub calls_at : {Answer : Type 0} → List ℕ → Step Answer → List SeenCall
calls_at numbers step = map (seen_call numbers) step.calls

-- data are sent; the congestion control lets them
abbrev pub sends : EndState → String → Called SendFault
sends e digits = sends_payload e (bytes (codes digits)) true

-- the packets of a handshake, and of its end from the client's side
abbrev pub request : String
request = "9c401389050031ec01000000000003e80000002a"

abbrev pub response : String
response = "13899c400700261403000000000007d000000000000003e80000002a"

abbrev pub client_ack : String
client_ack = "9c4013890600234107000000000003e900000000000007d0"

abbrev pub server_ack : String
server_ack = "13899c400600234007000000000007d100000000000003e9"

abbrev pub close : String
close = "9c40138906001d3f0d000000000003ea00000000000007d1"

abbrev pub closed : String
closed = "13899c400700193a0f000000000007d200000000000003ea01000000"

-- the Response to the Request that came again
abbrev pub response_again : String
response_again = "13899c400700261303000000000007d100000000000003e80000002a"

-- an end that offers nothing
abbrev pub plain : Role → Config
plain role = record (usual role) { lists = without_offers (usual role).lists }

-- the ends on the way through that handshake
abbrev pub listening : EndState
listening = new_end (plain Server)

abbrev pub requesting : EndState
requesting = (opens (new_end (plain Client))).after

abbrev pub responding : EndState
responding = (arrives listening request).after

abbrev pub open_server : EndState
open_server = (arrives responding client_ack).after

abbrev pub open_client : EndState
open_client = (arrives (arrives requesting response).after server_ack).after

-- what is seen of the rows: the value and stand of each, by features, own ones before the peer's
abbrev pub shown : EndState → List (ℕ × Stand)
shown e = map (λ row. (row.value, row.stand)) e.rows

-- these rows, with another value and are at one
abbrev pub row : Feature → Place → ℕ → Stand → List (ℕ × Stand) → List (ℕ × Stand)
row feature place value stand rows = slice_set rows (index_of feature place) (value, stand)

abbrev pub all_stable : List ℕ → List (ℕ × Stand)
all_stable values = map (λ value. (value, Stable)) values

-- nothing was negotiated: the initial values of CCID, Allow Short Seqnos, Sequence Window, ECN Incapable, Ack Ratio, Send Ack Vector,
-- Send NDP Count, Minimum Checksum Coverage and Check Data Checksum
abbrev pub initial_rows : List (ℕ × Stand)
initial_rows = all_stable (2 ∷ 2 ∷ 0 ∷ 0 ∷ 100 ∷ 100 ∷ 0 ∷ 0 ∷ 2 ∷ 2 ∷ 0 ∷ 0 ∷ 0 ∷ 0 ∷ 0 ∷ 0 ∷ 0 ∷ 0 ∷ [])

-- both ends are ECN incapable and send Ack Vectors
abbrev pub usual_rows : List (ℕ × Stand)
usual_rows = all_stable (2 ∷ 2 ∷ 0 ∷ 0 ∷ 100 ∷ 100 ∷ 1 ∷ 1 ∷ 2 ∷ 2 ∷ 1 ∷ 1 ∷ 0 ∷ 0 ∷ 0 ∷ 0 ∷ 0 ∷ 0 ∷ [])

-- the configuration with another wish for one row, and the one that offers a row
abbrev pub wishing : Config → Feature → Place → Wanted → Config
wishing config feature place wish = record config { lists = with_wish config.lists feature place wish }

abbrev pub offering : Config → Feature → Place → Bool → Config
offering config feature place mandatory = record config { lists = with_offer config.lists feature place mandatory }

-- ends of other configurations on the same way; none of their packets but the first has options
abbrev pub requests_as : Config → EndState
requests_as config = (opens (new_end config)).after

abbrev pub responds_as : Config → EndState
responds_as config = (arrives (new_end config) request).after

abbrev pub open_server_as : Config → EndState
open_server_as config = (arrives (responds_as config) client_ack).after

abbrev pub open_client_as : Config → EndState
open_client_as config = (arrives (arrives (requests_as config) response).after server_ack).after
