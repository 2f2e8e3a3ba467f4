-- What a packet's type means in each phase, before its numbers are looked at (RFC 4340, section 8.5, steps 2 to 4).
use Rattle.dccp_packets.specs.declared.header.PacketType.{PacketType}
use Rattle.dccp_packets.specs.declared.header.PacketType.TheVariants as types
use Rattle.dccp_states.specs.declared.phase.Phase.{Phase}
use Rattle.dccp_states.specs.declared.phase.Phase.TheVariants as phases
use Rattle.dccp_states.specs.declared.entrance.Entrance.{Entrance}
use Rattle.dccp_states.specs.declared.entrance.Entrance.TheVariants.{NoConnection, Stray, Accept, InRequest, PacketError, Check}

-- the table: what a type means in a phase
abbrev pub gate : Phase → PacketType → Entrance
-- step 2
gate phases.Closed types.Reset = Stray
gate phases.Closed _ = NoConnection
gate phases.TimeWait types.Reset = Stray
gate phases.TimeWait _ = NoConnection
-- step 3
gate phases.Listen types.Reset = Stray
gate phases.Listen types.Request = Accept
gate phases.Listen _ = NoConnection
-- step 4
gate phases.Request types.Response = InRequest
gate phases.Request types.Reset = InRequest
gate phases.Request _ = PacketError
-- every other phase
gate phases.Respond _ = Check
gate phases.PartOpen _ = Check
gate phases.Open _ = Check
gate phases.CloseReq _ = Check
gate phases.Closing _ = Check
