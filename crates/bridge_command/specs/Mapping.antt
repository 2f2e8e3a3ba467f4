-- A packet as the usual end of a side would get it (own; the fields by RFC 4340, section 5).
use Rattle.std.specs.Prelude.{ℕ, ◌+◌, ◌%◌, ◌^◌, ◌||◌, nat_lt, Bool, if◌then◌else◌, List, length, Option, Some, None, Result, Ok, Err}
use Rattle.seq_circle.specs.Circle.{distance, residue}
use Rattle.dccp_packets.specs.Grammar.{Parts, header_length, packet_type, padded, spelling}
use Rattle.dccp_packets.specs.Kinds.{has_ack}
use Rattle.dccp_packets.specs.declared.header.Header.{Header}
use Rattle.dccp_packets.specs.declared.header.Kind.{Kind}
use Rattle.dccp_packets.specs.declared.header.Kind.TheVariants.{Request, Response, Data, Ack, DataAck, CloseReq, Close, Reset, Sync, SyncAck}
use Rattle.dccp_packets.specs.declared.header.Number.{Number}
use Rattle.dccp_packets.specs.declared.header.Number.TheVariants.{Long, Short}
use Rattle.dccp_endpoint.specs.Usual.{usual}
use Rattle.dccp_endpoint.specs.declared.config.Config.{Config}
use Rattle.tool_jobs.specs.Ends.{role_of}
use Rattle.world_events.specs.declared.event.Side.{Side}
use Rattle.bridge_command.specs.declared.frames.mapping.NoFrame.{NoFrame}
use Rattle.bridge_command.specs.declared.frames.mapping.NoFrame.TheVariants as none
use Rattle.bridge_command.specs.declared.frames.mapping.UsualEnd.{UsualEnd}

-- the part of an end's configuration that the packets to it depend on
abbrev pub end_of_config : Config → UsualEnd
end_of_config config = record { own_port = config.own_port; peer_port = config.peer_port; service = config.service; iss = config.iss }

-- that part for the usual end of a side, which `replay` plays
abbrev pub usual_end : Side → UsualEnd
usual_end side = end_of_config (usual (role_of side))

-- an acknowledgement number, as far above the end's initial number as it was above that of the captured end (RFC 4340,
-- section 7.2)
abbrev pub moved_ack : UsualEnd → ℕ → ℕ → ℕ
moved_ack end initial ack = residue (end.iss + distance initial ack)

-- an acknowledgement number in its form, moved this way
abbrev pub moved_number : UsualEnd → ℕ → Number → Number
moved_number end initial (Long ack) = Long (moved_ack end initial ack)
moved_number end initial (Short ack) = Short (moved_ack end initial ack % 2 ^ 24)

-- what only packets of one type carry: the Service Code is the end's, and the acknowledgement number is moved
abbrev pub moved_kind : UsualEnd → ℕ → Kind → Kind
moved_kind end initial (Request service) = Request end.service
moved_kind end initial (Response ack service) = Response (moved_ack end initial ack) end.service
moved_kind end initial Data = Data
moved_kind end initial (Ack ack) = Ack (moved_number end initial ack)
moved_kind end initial (DataAck ack) = DataAck (moved_number end initial ack)
moved_kind end initial (CloseReq ack) = CloseReq (moved_ack end initial ack)
moved_kind end initial (Close ack) = Close (moved_ack end initial ack)
moved_kind end initial (Reset ack code detail) = Reset (moved_ack end initial ack) code detail
moved_kind end initial (Sync ack) = Sync (moved_ack end initial ack)
moved_kind end initial (SyncAck ack) = SyncAck (moved_ack end initial ack)

-- a header: the ports are the end's, and the checksum is still to be set; the sequence number, CCVal and CsCov stay
abbrev pub moved_header : UsualEnd → ℕ → Header → Header
moved_header end initial h = record {
  from = end.peer_port;
  to = end.own_port;
  ccval = h.ccval;
  cscov = h.cscov;
  checksum = 0;
  number = h.number;
  kind = moved_kind end initial h.kind;
}

-- a packet is too long for a frame: its header and options are too long for a Data Offset, or the packet is too long
abbrev pub is_too_long : Header → List ℕ → List ℕ → Bool
is_too_long h options payload = nat_lt 1020 (header_length h + length (padded options)) || nat_lt 2044 (length (spelling h options payload))

-- the frame of a packet with this header, whose options and data stay
abbrev pub frame_with : Header → List ℕ → List ℕ → Result (List ℕ) NoFrame
frame_with h options payload = if is_too_long h options payload then Err none.FrameTooLong else Ok (spelling h options payload)

-- the frame of a captured packet, given the captured end's initial number, or why it has none
abbrev pub moved_frame : UsualEnd → ℕ → Parts → Result (List ℕ) NoFrame
moved_frame end initial packet = frame_with (moved_header end initial packet.header) packet.options packet.payload

-- The frame of a captured packet, or why it has none. If the captured end's initial number is not known, only a packet without an
-- acknowledgement number has a frame.
abbrev pub frame_for : UsualEnd → Option ℕ → Parts → Result (List ℕ) NoFrame
frame_for end (Some initial) packet = moved_frame end initial packet
frame_for end None packet =
    if has_ack (packet_type packet.header.kind) then Err none.NumberUnknown else moved_frame end end.iss packet
