-- A walk over the packets of one flow of a capture: which side sent each, and whether its number is later than those before (own; numbers by RFC
-- 4340, section 7).
use Rattle.std.specs.Prelude.{ℕ, ◌^◌, ◌==◌, ◌&&◌, nat_le, nat_lt, Bool, true, false, not, if◌then◌else◌, List, [], Option, Some, None}
use Rattle.bridge_links.specs.Links.{ip_bytes}
use Rattle.capture_reader.specs.Records.{RecordParts}
use Rattle.dccp_packets.specs.Forms.{near}
use Rattle.dccp_packets.specs.Grammar.{packet_type}
use Rattle.dccp_packets.specs.Kinds.{value_of}
use Rattle.dccp_packets.specs.declared.header.Header.{Header}
use Rattle.dccp_packets.specs.declared.header.PacketType.{PacketType}
use Rattle.dccp_packets.specs.declared.header.PacketType.TheVariants as types
use Rattle.packet_show.specs.Flows.{AddressAndPort, Flow, flow_number, flow_of, from_end, same_end, with_flow}
use Rattle.packet_show.specs.Network.{DatagramParts}
use Rattle.seq_circle.specs.Circle.{distance}
use Rattle.world_events.specs.declared.event.Side.{Side}
use Rattle.world_events.specs.declared.event.Side.TheVariants.{Client, Server}
use Rattle.bridge_pictures.specs.declared.walk.FlowEnds.{FlowEnds}
use Rattle.bridge_pictures.specs.declared.walk.FlowStep.{FlowStep}

-- A walk over the packets of one flow: its number, the flows that were seen, its ends once a packet came, and the latest
-- number of each side.
pub record WalkParts : Type 0 where
  pub flow : ℕ
  pub flows : List Flow
  pub ends : Option FlowEnds
  pub client : Option ℕ
  pub server : Option ℕ

-- before the first record
abbrev pub first_walk : ℕ → WalkParts
first_walk flow = record { flow = flow; flows = []; ends = None; client = None; server = None }

-- a number this far ahead is a later one
abbrev pub is_later : ℕ → Bool
is_later ahead = nat_lt 0 ahead && nat_lt ahead (2 ^ 47)

-- a packet of this type comes from a client, as far as its type shows
abbrev pub is_of_client : PacketType → Bool
is_of_client types.Response = false
is_of_client types.CloseReq = false
is_of_client _ = true

-- the ends: the first to send is the client, unless it answers as a server does
abbrev pub ends_by : Option FlowEnds → AddressAndPort → PacketType → FlowEnds
ends_by (Some ends) from kind = ends
ends_by None from kind = record { first = from; is_client = is_of_client kind }

-- two tests came out alike
abbrev pub alike : Bool → Bool → Bool
alike true b = b
alike false b = not b

-- the side that sends from there
abbrev pub side_from : FlowEnds → AddressAndPort → Side
side_from ends from = if alike (same_end from ends.first) ends.is_client then Client else Server

-- a record as it is after `unwrap`, which finds this IP packet in it
abbrev pub record_of_ip : RecordParts → List ℕ → RecordParts
record_of_ip e ip = record e { link = 101; bytes = ip }

-- a record after `unwrap`, from what `unwrap` finds in it
abbrev pub record_after_link : RecordParts → RecordParts
record_after_link e = record_of_ip e (ip_bytes e.link e.bytes)

-- the full number of a packet, and how far it is ahead of its sender's latest one; for a first number, 1
abbrev pub step_of : Option ℕ → Header → ℕ × ℕ
step_of (Some latest) header = (near latest header.number, distance latest (near latest header.number))
step_of None header = (value_of header.number, 1)

-- the latest number of a side
abbrev pub latest_of : WalkParts → Side → Option ℕ
latest_of w Client = w.client
latest_of w Server = w.server

-- the same walk with this latest number of a side
abbrev pub with_latest : WalkParts → Side → ℕ → WalkParts
with_latest w Client number = record w { client = Some number }
with_latest w Server number = record w { server = Some number }

-- the walk with this latest number of a side, if the number is a later one
abbrev pub number_noted : WalkParts → Side → ℕ → ℕ → WalkParts
number_noted w side number ahead = if nat_le (2 ^ 47) ahead then w else with_latest w side number

-- after a packet of the flow, which this side sent
unfoldable pub side_walked : WalkParts → Side → Header → WalkParts
side_walked w from header = number_noted w from (step_of (latest_of w from) header).0 (step_of (latest_of w from) header).1

-- a packet of the flow, which this side sent
unfoldable pub side_step : WalkParts → Side → Header → FlowStep
side_step w from header = record { from = from; ahead = (step_of (latest_of w from) header).1 }

-- the same walk between these ends
abbrev pub between_ends : WalkParts → FlowEnds → WalkParts
between_ends w ends = record w { ends = Some ends }

-- the ends at a packet that came from there
abbrev pub ends_at : WalkParts → AddressAndPort → Header → FlowEnds
ends_at w from header = ends_by w.ends from (packet_type header.kind)

-- after a packet of the flow, which came from there
unfoldable pub sender_walked : WalkParts → AddressAndPort → Header → WalkParts
sender_walked w from header = side_walked (between_ends w (ends_at w from header)) (side_from (ends_at w from header) from) header

-- a packet of the flow, which came from there
unfoldable pub sender_step : WalkParts → AddressAndPort → Header → FlowStep
sender_step w from header = side_step (between_ends w (ends_at w from header)) (side_from (ends_at w from header) from) header

-- the same with one more flow that was seen
abbrev pub flow_seen : WalkParts → Flow → WalkParts
flow_seen w flow = record w { flows = with_flow flow w.flows }

-- the flow of a packet between these addresses
abbrev pub flow_there : DatagramParts → Header → Flow
flow_there there header = flow_of there.pseudo header.from header.to

-- a packet is of the flow that is asked for
abbrev pub is_of_flow : WalkParts → Flow → Bool
is_of_flow w flow = flow_number flow w.flows == w.flow

-- After a packet between these addresses.
unfoldable pub flow_walked : WalkParts → DatagramParts → Header → WalkParts
flow_walked w there header =
    if is_of_flow w (flow_there there header) then sender_walked (flow_seen w (flow_there there header)) (from_end there.pseudo header.from) header
    else flow_seen w (flow_there there header)

-- A packet between these addresses, if it is of the flow that is asked for.
unfoldable pub step_in_flow : WalkParts → DatagramParts → Header → Option FlowStep
step_in_flow w there header =
    if is_of_flow w (flow_there there header) then Some (sender_step (flow_seen w (flow_there there header)) (from_end there.pseudo header.from) header)
    else None
