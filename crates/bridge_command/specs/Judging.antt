-- What a record holds, as `show` finds it in the IP packet that `unwrap` makes of it (own).
use Rattle.std.specs.Prelude.{ℕ, Bool, true, false, List, Option, Some, None, Result, Ok, Err}
use Rattle.dccp_packets.specs.Grammar.{Parts, decoded}
use Rattle.dccp_packets.specs.declared.reading.Malformed.{Malformed}
use Rattle.packet_show.specs.Flows.{Flow, flow_number, flow_of, with_flow}
use Rattle.packet_show.specs.Network.{DatagramParts, carried}
use Rattle.packet_show.specs.declared.flows.Shown.{Shown}
use Rattle.packet_show.specs.declared.flows.Shown.TheVariants.{Line, Skipped}
use Rattle.bridge_command.specs.Skips.{ip_skip}
use Rattle.bridge_command.specs.declared.json.skips.Skip.{Skip}
use Rattle.bridge_command.specs.declared.json.skips.Skip.TheVariants as skip

-- What a record holds: a packet, bytes that are no packet though all of them are there, or nothing that can be read.
pub data RecordReading : Type 0 where
  HoldsPacket : (there : DatagramParts) (packet : Parts) → RecordReading
  HoldsMalformed : (there : DatagramParts) (why : Malformed) → RecordReading
  HoldsNone : (why : Skip) → RecordReading

-- bytes that are no packet, which are there to the IP length or not
abbrev pub judged_fault : DatagramParts → Bool → Malformed → RecordReading
judged_fault there true why = HoldsMalformed there why
judged_fault there false why = HoldsNone skip.CutShort

-- the bytes of DCCP, which may be a packet or not
abbrev pub judged_bytes : DatagramParts → Result Parts Malformed → RecordReading
judged_bytes there (Ok packet) = HoldsPacket there packet
judged_bytes there (Err why) = judged_fault there there.whole why

-- what these bytes are, if any were found in the IP packet
abbrev pub judged_carried : List ℕ → Option DatagramParts → RecordReading
judged_carried ip None = HoldsNone (ip_skip ip)
judged_carried ip (Some there) = judged_bytes there (decoded there.bytes)

-- what an IP packet holds; link type 101 begins with IP
abbrev pub judged_ip : List ℕ → RecordReading
judged_ip ip = judged_carried ip (carried 101 ip)

-- `show` has a line for what is held
abbrev pub shown_of : RecordReading → Shown
shown_of (HoldsPacket there packet) = Line
shown_of (HoldsMalformed there why) = Line
shown_of (HoldsNone why) = Skipped

-- the number of the flow of what is held, after these flows were seen, as `show` has it; only packets have one
abbrev pub flow_number_of : List Flow → RecordReading → ℕ
flow_number_of seen (HoldsPacket there packet) = flow_number (flow_of there.pseudo packet.header.from packet.header.to) seen
flow_number_of seen (HoldsMalformed there why) = 0
flow_number_of seen (HoldsNone why) = 0

-- the flows that were seen after what is held
abbrev pub flows_after : List Flow → RecordReading → List Flow
flows_after seen (HoldsPacket there packet) = with_flow (flow_of there.pseudo packet.header.from packet.header.to) seen
flows_after seen (HoldsMalformed there why) = seen
flows_after seen (HoldsNone why) = seen
