-- What the type and the fields of a packet say about it (RFC 4340, sections 5.1 to 5.6).
use Rattle.std.specs.Prelude.{ℕ, Bool, true, false, Option, Some, None}
use Rattle.dccp_packets.specs.declared.header.PacketType.{PacketType}
use Rattle.dccp_packets.specs.declared.header.PacketType.TheVariants as types
use Rattle.dccp_packets.specs.declared.header.Number.{Number}
use Rattle.dccp_packets.specs.declared.header.Number.TheVariants.{Long, Short}
use Rattle.dccp_packets.specs.declared.header.Kind.{Kind}
use Rattle.dccp_packets.specs.declared.header.Kind.TheVariants.{Request, Response, Data, Ack, DataAck, CloseReq, Close, Reset, Sync, SyncAck}

-- a number as its bits spell it, in either form
abbrev pub value_of : Number → ℕ
value_of (Long n) = n
value_of (Short n) = n

-- the acknowledgement number of a packet that has one (section 5.1)
abbrev pub ack_of : Kind → Option ℕ
ack_of (Request service) = None
ack_of (Response ack service) = Some ack
ack_of Data = None
ack_of (Ack ack) = Some (value_of ack)
ack_of (DataAck ack) = Some (value_of ack)
ack_of (CloseReq ack) = Some ack
ack_of (Close ack) = Some ack
ack_of (Reset ack code detail) = Some ack
ack_of (Sync ack) = Some ack
ack_of (SyncAck ack) = Some ack

-- the types whose packets have an acknowledgement number (section 5.1)
abbrev pub has_ack : PacketType → Bool
has_ack types.Request = false
has_ack types.Response = true
has_ack types.Data = false
has_ack types.Ack = true
has_ack types.DataAck = true
has_ack types.CloseReq = true
has_ack types.Close = true
has_ack types.Reset = true
has_ack types.Sync = true
has_ack types.SyncAck = true

-- the Service Code that a Request or a Response carries (sections 5.2 and 5.3)
abbrev pub service_of : Kind → Option ℕ
service_of (Request service) = Some service
service_of (Response ack service) = Some service
service_of Data = None
service_of (Ack ack) = None
service_of (DataAck ack) = None
service_of (CloseReq ack) = None
service_of (Close ack) = None
service_of (Reset ack code detail) = None
service_of (Sync ack) = None
service_of (SyncAck ack) = None

-- the code of a Reset (section 5.6), and 0 for the other types
abbrev pub reset_code : Kind → ℕ
reset_code (Request service) = 0
reset_code (Response ack service) = 0
reset_code Data = 0
reset_code (Ack ack) = 0
reset_code (DataAck ack) = 0
reset_code (CloseReq ack) = 0
reset_code (Close ack) = 0
reset_code (Reset ack code detail) = code
reset_code (Sync ack) = 0
reset_code (SyncAck ack) = 0

-- the type of application data alone, on which some options are ignored (section 5.8)
abbrev pub is_data : PacketType → Bool
is_data types.Request = false
is_data types.Response = false
is_data types.Data = true
is_data types.Ack = false
is_data types.DataAck = false
is_data types.CloseReq = false
is_data types.Close = false
is_data types.Reset = false
is_data types.Sync = false
is_data types.SyncAck = false
