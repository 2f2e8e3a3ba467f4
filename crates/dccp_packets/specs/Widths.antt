-- Headers cut to the widths of their fields: what writing keeps of a header whose numbers may be too large (own). The widths are those of RFC
-- 4340, section 5.
use Rattle.std.specs.Prelude.{◌≡◌, ◌%◌, ◌^◌, length}
use Rattle.dccp_packets.specs.declared.header.Number.{Number}
use Rattle.dccp_packets.specs.declared.header.Number.TheVariants.{Long, Short}
use Rattle.dccp_packets.specs.declared.header.Kind.{Kind}
use Rattle.dccp_packets.specs.declared.header.Kind.TheVariants.{Request, Response, Data, Ack, DataAck, CloseReq, Close, Reset, Sync, SyncAck}
use Rattle.dccp_packets.specs.declared.header.Header.{Header}

-- the low 48 bits of a number, or the low 24 of a short one
abbrev pub number_in_width : Number → Number
number_in_width (Long n) = Long (n % 2 ^ 48)
number_in_width (Short n) = Short (n % 2 ^ 24)

-- Each field of a type in its width. The bytes of a Reset are unchanged.
abbrev pub kind_in_widths : Kind → Kind
kind_in_widths (Request service) = Request (service % 2 ^ 32)
kind_in_widths (Response ack service) = Response (ack % 2 ^ 48) (service % 2 ^ 32)
kind_in_widths Data = Data
kind_in_widths (Ack ack) = Ack (number_in_width ack)
kind_in_widths (DataAck ack) = DataAck (number_in_width ack)
kind_in_widths (CloseReq ack) = CloseReq (ack % 2 ^ 48)
kind_in_widths (Close ack) = Close (ack % 2 ^ 48)
kind_in_widths (Reset ack code detail) = Reset (ack % 2 ^ 48) code detail
kind_in_widths (Sync ack) = Sync (ack % 2 ^ 48)
kind_in_widths (SyncAck ack) = SyncAck (ack % 2 ^ 48)

-- A header in the widths of its fields. CCVal and CsCov stay as they are, since a valid header has them below 16.
abbrev pub in_widths : Header → Header
in_widths h = record {
  from = h.from % 2 ^ 16;
  to = h.to % 2 ^ 16;
  ccval = h.ccval;
  cscov = h.cscov;
  checksum = h.checksum % 2 ^ 16;
  number = number_in_width h.number;
  kind = kind_in_widths h.kind;
}

-- a Reset has its three bytes Data 1 to 3 (RFC 4340, section 5.6)
abbrev pub HasDetail : Kind → Type 0
HasDetail (Request service) = Unit {0}
HasDetail (Response ack service) = Unit {0}
HasDetail Data = Unit {0}
HasDetail (Ack ack) = Unit {0}
HasDetail (DataAck ack) = Unit {0}
HasDetail (CloseReq ack) = Unit {0}
HasDetail (Close ack) = Unit {0}
HasDetail (Reset ack code detail) = length detail ≡ 3
HasDetail (Sync ack) = Unit {0}
HasDetail (SyncAck ack) = Unit {0}
