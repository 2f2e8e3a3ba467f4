-- The packet types that are out of place (RFC 4340, section 8.5, step 7).
use Rattle.std.specs.Prelude.{Bool, true, false, ◌&&◌, ◌||◌}
use Rattle.dccp_packets.specs.declared.header.PacketType.{PacketType}
use Rattle.dccp_packets.specs.declared.header.PacketType.TheVariants as types
use Rattle.dccp_states.specs.declared.phase.Role.{Role}
use Rattle.dccp_states.specs.declared.phase.Role.TheVariants.{Client, Server}
use Rattle.dccp_states.specs.declared.phase.Phase.{Phase}
use Rattle.dccp_states.specs.declared.phase.Phase.TheVariants as phases

-- a server gets CloseReq or Response, or a client gets Request
abbrev pub is_for_the_other_role : Role → PacketType → Bool
is_for_the_other_role Server types.CloseReq = true
is_for_the_other_role Server types.Response = true
is_for_the_other_role Client types.Request = true
is_for_the_other_role _ _ = false

-- the phases from OPEN on, in the RFC's order (section 4.3)
abbrev pub is_open_or_later : Phase → Bool
is_open_or_later phases.Closed = false
is_open_or_later phases.Listen = false
is_open_or_later phases.Request = false
is_open_or_later phases.Respond = false
is_open_or_later phases.PartOpen = false
is_open_or_later phases.Open = true
is_open_or_later phases.CloseReq = true
is_open_or_later phases.Closing = true
is_open_or_later phases.TimeWait = true

-- the types that open a connection
abbrev pub is_opening_type : PacketType → Bool
is_opening_type types.Request = true
is_opening_type types.Response = true
is_opening_type _ = false

-- data comes before the client has acknowledged the Response
abbrev pub is_early_data : Phase → PacketType → Bool
is_early_data phases.Respond types.Data = true
is_early_data _ _ = false

-- from_osr: the packet's number is not before OSR, the first number of the open connection
abbrev pub unexpected : Role → Phase → PacketType → Bool → Bool
unexpected role phase kind from_osr =
    is_for_the_other_role role kind
    || (is_open_or_later phase && is_opening_type kind && from_osr)
    || is_early_data phase kind
