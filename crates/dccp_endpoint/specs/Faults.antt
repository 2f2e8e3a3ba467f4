-- What can be wrong with the options of a packet (RFC 4340, sections 5.8 and 8.5, step 8).
use Rattle.std.specs.Prelude.{Bool, true, false, ◌&&◌}
use Rattle.dccp_options.specs.Kinds as options
use Rattle.dccp_packets.specs.ResetCodes.{number_of_code}
use Rattle.dccp_packets.specs.declared.reset_code.ResetCode.TheVariants as codes
use Rattle.dccp_packets.specs.declared.header.PacketType.{PacketType}
use Rattle.dccp_packets.specs.declared.header.PacketType.TheVariants as types
use Rattle.dccp_states.specs.declared.phase.Phase.{Phase}
use Rattle.dccp_states.specs.declared.phase.Phase.TheVariants as phases
use Rattle.dccp_states.specs.declared.outcome.Fault.{Fault}

-- a fault of Mandatory itself: Option Error with the option's bytes (own)
abbrev pub mandatory_fault : Fault
mandatory_fault = record { code = number_of_code codes.OptionError; first = options.mandatory; second = 0; third = 0 }

-- where options of the negotiation count (own): in RESPOND, PARTOPEN and OPEN on six types, and on the Response in
-- REQUEST
abbrev pub negotiates : Phase → Bool
negotiates phases.Closed = false
negotiates phases.Listen = false
negotiates phases.Request = false
negotiates phases.Respond = true
negotiates phases.PartOpen = true
negotiates phases.Open = true
negotiates phases.CloseReq = false
negotiates phases.Closing = false
negotiates phases.TimeWait = false

-- Data, CloseReq, Close and Reset never negotiate
abbrev pub may_negotiate : PacketType → Bool
may_negotiate types.Request = true
may_negotiate types.Response = true
may_negotiate types.Data = false
may_negotiate types.Ack = true
may_negotiate types.DataAck = true
may_negotiate types.CloseReq = false
may_negotiate types.Close = false
may_negotiate types.Reset = false
may_negotiate types.Sync = true
may_negotiate types.SyncAck = true

-- whether the Changes and Confirms of a packet of this type count in this phase
abbrev pub counts : Phase → PacketType → Bool
counts phases.Request types.Response = true
counts phase kind = negotiates phase && may_negotiate kind
