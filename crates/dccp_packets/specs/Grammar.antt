-- Packets as lists of bytes (RFC 4340, section 5): the types, the places of the fields, reading and writing.
use Rattle.std.specs.Prelude.{◌≡◌, ℕ, ◌+◌, ◌-◌, ◌*◌, ◌/◌, ◌%◌, ◌^◌, ◌<◌, Bool, true, false, not, ◌&&◌, ◌==◌, nat_lt, if◌then◌else◌, List, [], ◌∷◌, ◌++◌, length, drop, replicate, slice_index, slice_range, Option, Some, None, Result, Ok, Err, ◌≤◌}
use Rattle.byteorder.specs.Endian.{big_number, big_bytes}
use Rattle.dccp_packets.specs.declared.header.PacketType.{PacketType}
use Rattle.dccp_packets.specs.declared.header.PacketType.TheVariants as types
use Rattle.dccp_packets.specs.declared.header.Number.{Number}
use Rattle.dccp_packets.specs.declared.header.Number.TheVariants.{Long, Short}
use Rattle.dccp_packets.specs.declared.header.Kind.{Kind}
use Rattle.dccp_packets.specs.declared.header.Kind.TheVariants.{Request, Response, Data, Ack, DataAck, CloseReq, Close, Reset, Sync, SyncAck}
use Rattle.dccp_packets.specs.declared.header.Header.{Header}
use Rattle.dccp_packets.specs.declared.reading.Malformed.{Malformed}
use Rattle.dccp_packets.specs.declared.reading.Malformed.TheVariants as faults

-- the type of a code; 10 to 15 are reserved (RFC 4340, section 5.1)
abbrev pub type_of : ℕ → Option PacketType
type_of code =
    if code == 0 then Some types.Request
    else if code == 1 then Some types.Response
    else if code == 2 then Some types.Data
    else if code == 3 then Some types.Ack
    else if code == 4 then Some types.DataAck
    else if code == 5 then Some types.CloseReq
    else if code == 6 then Some types.Close
    else if code == 7 then Some types.Reset
    else if code == 8 then Some types.Sync
    else if code == 9 then Some types.SyncAck
    else None

-- the code of a type (RFC 4340, section 5.1)
abbrev pub code_of : PacketType → ℕ
code_of types.Request = 0
code_of types.Response = 1
code_of types.Data = 2
code_of types.Ack = 3
code_of types.DataAck = 4
code_of types.CloseReq = 5
code_of types.Close = 6
code_of types.Reset = 7
code_of types.Sync = 8
code_of types.SyncAck = 9

-- The bytes before the options (RFC 4340, sections 5.1 to 5.7). A type without a short form always has its long one, whatever X is.
abbrev pub fixed_length : Bool → PacketType → ℕ
fixed_length long types.Request = 20
fixed_length long types.Response = 28
fixed_length long types.Data = if long then 16 else 12
fixed_length long types.Ack = if long then 24 else 16
fixed_length long types.DataAck = if long then 24 else 16
fixed_length long types.CloseReq = 24
fixed_length long types.Close = 24
fixed_length long types.Reset = 28
fixed_length long types.Sync = 24
fixed_length long types.SyncAck = 24

-- the forms of numbers that a type may carry: the long one each, the short one three (RFC 4340, section 5.1)
abbrev pub has_form : Bool → PacketType → Bool
has_form long types.Request = long
has_form long types.Response = long
has_form long types.Data = true
has_form long types.Ack = true
has_form long types.DataAck = true
has_form long types.CloseReq = long
has_form long types.Close = long
has_form long types.Reset = long
has_form long types.Sync = long
has_form long types.SyncAck = long

-- the type of a packet with these fields
abbrev pub packet_type : Kind → PacketType
packet_type (Request service) = types.Request
packet_type (Response ack service) = types.Response
packet_type Data = types.Data
packet_type (Ack ack) = types.Ack
packet_type (DataAck ack) = types.DataAck
packet_type (CloseReq ack) = types.CloseReq
packet_type (Close ack) = types.Close
packet_type (Reset ack code detail) = types.Reset
packet_type (Sync ack) = types.Sync
packet_type (SyncAck ack) = types.SyncAck

-- X is 1 for long numbers (RFC 4340, section 5.1)
abbrev pub is_long : Number → Bool
is_long (Long n) = true
is_long (Short n) = false

-- Numbers in the forms that the type may carry: an acknowledgement has the form of the sequence number (RFC 4340,
-- section 5.1).
abbrev pub has_forms : Bool → Kind → Bool
has_forms long (Ack (Long ack)) = long
has_forms long (Ack (Short ack)) = not long
has_forms long (DataAck (Long ack)) = long
has_forms long (DataAck (Short ack)) = not long
has_forms long kind = has_form long (packet_type kind)

-- a header that has a spelling: its four-bit fields fit, and its numbers have a form of the type
abbrev pub is_valid : Header → Bool
is_valid h = nat_lt h.ccval 16 && nat_lt h.cscov 16 && has_forms (is_long h.number) h.kind

-- the widths of the fields, which every header of the program keeps (RFC 4340, section 5)
abbrev pub NumberFits : Number → Type 0
NumberFits (Long n) = n < 2 ^ 48
NumberFits (Short n) = n < 2 ^ 24

-- the same of the fields that only this type carries
abbrev pub KindFits : Kind → Type 0
KindFits (Request service) = service < 2 ^ 32
KindFits (Response ack service) = (ack < 2 ^ 48) × (service < 2 ^ 32)
KindFits Data = Unit {0}
KindFits (Ack ack) = NumberFits ack
KindFits (DataAck ack) = NumberFits ack
KindFits (CloseReq ack) = ack < 2 ^ 48
KindFits (Close ack) = ack < 2 ^ 48
KindFits (Reset ack code detail) = (ack < 2 ^ 48) × (code < 2 ^ 8) × (length detail ≡ 3)
KindFits (Sync ack) = ack < 2 ^ 48
KindFits (SyncAck ack) = ack < 2 ^ 48

-- the same of a whole header
pub record HeaderFits (h : Header) : Type 0 where
  pub from : h.from < 2 ^ 16
  pub to : h.to < 2 ^ 16
  pub checksum : h.checksum < 2 ^ 16
  pub number : NumberFits h.number
  pub kind : KindFits h.kind

-- the number that these many bytes from a place on spell, most significant first
abbrev pub number_at : ℕ → ℕ → List ℕ → ℕ
number_at place count bytes = big_number count (drop place bytes)

-- where the options end; byte 4 counts it in words of 32 bits (RFC 4340, section 5.1)
abbrev pub data_offset_bytes : List ℕ → ℕ
data_offset_bytes bytes = 4 * slice_index bytes 4

-- three reserved bits, four of the type, one of X (RFC 4340, section 5.1)
abbrev pub type_code : List ℕ → ℕ
type_code bytes = slice_index bytes 8 / 2 % 16

-- X is 1: numbers have 48 bits (RFC 4340, section 5.1)
abbrev pub has_long_numbers : List ℕ → Bool
has_long_numbers bytes = slice_index bytes 8 % 2 == 1

-- the sequence number: 48 bits after a reserved byte, or 24 (RFC 4340, section 5.1)
abbrev pub number_in : Bool → List ℕ → Number
number_in long bytes = if long then Long (number_at 10 6 bytes) else Short (number_at 9 3 bytes)

-- the acknowledgement number: 48 bits after two reserved bytes, or 24 after one (RFC 4340, section 5.1)
abbrev pub long_ack : List ℕ → ℕ
long_ack bytes = number_at 18 6 bytes

-- the acknowledgement number of an Ack or a DataAck, in either form
abbrev pub ack_in : Bool → List ℕ → Number
ack_in long bytes = if long then Long (long_ack bytes) else Short (number_at 13 3 bytes)

-- the fields that only this type carries (RFC 4340, sections 5.2 to 5.7)
abbrev pub kind_of : PacketType → Bool → List ℕ → Kind
kind_of types.Request long bytes = Request (number_at 16 4 bytes)
kind_of types.Response long bytes = Response (long_ack bytes) (number_at 24 4 bytes)
kind_of types.Data long bytes = Data
kind_of types.Ack long bytes = Ack (ack_in long bytes)
kind_of types.DataAck long bytes = DataAck (ack_in long bytes)
kind_of types.CloseReq long bytes = CloseReq (long_ack bytes)
kind_of types.Close long bytes = Close (long_ack bytes)
kind_of types.Reset long bytes = Reset (long_ack bytes) (slice_index bytes 24) (slice_range bytes 25 28)
kind_of types.Sync long bytes = Sync (long_ack bytes)
kind_of types.SyncAck long bytes = SyncAck (long_ack bytes)

-- the header that bytes of a type have
abbrev pub header_of : PacketType → Bool → List ℕ → Header
header_of kind long bytes = record {
  from = number_at 0 2 bytes;
  to = number_at 2 2 bytes;
  ccval = slice_index bytes 5 / 16;
  cscov = slice_index bytes 5 % 16;
  checksum = number_at 6 2 bytes;
  number = number_in long bytes;
  kind = kind_of kind long bytes;
}

-- a packet, apart from where its parts are in memory
pub record Parts : Type 0 where
  pub header : Header
  pub options : List ℕ
  pub payload : List ℕ

-- the packet that they are: after the fixed part the options up to the Data Offset, and then the data
abbrev pub parts_of : PacketType → Bool → List ℕ → Parts
parts_of kind long bytes = record {
  header = header_of kind long bytes;
  options = slice_range bytes (fixed_length long kind) (data_offset_bytes bytes);
  payload = drop (data_offset_bytes bytes) bytes;
}

-- a packet whose type is known
abbrev pub decoded_as : PacketType → Bool → List ℕ → Result Parts Malformed
decoded_as kind long bytes =
    if nat_lt (data_offset_bytes bytes) (fixed_length long kind) then Err faults.OffsetSmall
    else if nat_lt (length bytes) (data_offset_bytes bytes) then Err faults.OffsetLarge
    else if not (has_form long kind) then Err faults.ShortNumbers
    else Ok (parts_of kind long bytes)

-- a packet by its type, unless that is reserved
abbrev pub decoded_by : Option PacketType → List ℕ → Result Parts Malformed
decoded_by None bytes = Err faults.ReservedType
decoded_by (Some kind) bytes = decoded_as kind (has_long_numbers bytes) bytes

-- the packet that bytes are, or the first fault (RFC 4340, section 5; the order of the faults is own)
abbrev pub decoded : List ℕ → Result Parts Malformed
decoded bytes =
    if nat_lt (length bytes) 12 then Err faults.Short
    else decoded_by (type_of (type_code bytes)) bytes

-- options filled with zeros up to a word of four bytes (RFC 4340, section 5.8)
abbrev pub padded : List ℕ → List ℕ
padded options = options ++ replicate ((4 - length options % 4) % 4) 0

-- the length of a header's fixed part
abbrev pub header_length : Header → ℕ
header_length h = fixed_length (is_long h.number) (packet_type h.kind)

-- the byte with the type and X, and zero in its reserved bits
abbrev pub type_byte : Header → ℕ
type_byte h = 2 * code_of (packet_type h.kind) + (if is_long h.number then 1 else 0)

-- numbers after their reserved bytes, which are zero
abbrev pub number_bytes : Number → List ℕ
number_bytes (Long n) = 0 ∷ big_bytes 6 n
number_bytes (Short n) = big_bytes 3 n

-- an acknowledgement number of 48 bits after its two reserved bytes
abbrev pub long_ack_bytes : ℕ → List ℕ
long_ack_bytes ack = 0 ∷ 0 ∷ big_bytes 6 ack

-- an acknowledgement number in either form
abbrev pub ack_bytes : Number → List ℕ
ack_bytes (Long ack) = long_ack_bytes ack
ack_bytes (Short ack) = 0 ∷ big_bytes 3 ack

-- what follows the sequence number in the fixed part, one line for each type (RFC 4340, sections 5.2 to 5.7)
abbrev pub kind_bytes : Kind → List ℕ
kind_bytes (Request service) = big_bytes 4 service
kind_bytes (Response ack service) = long_ack_bytes ack ++ big_bytes 4 service
kind_bytes Data = []
kind_bytes (Ack ack) = ack_bytes ack
kind_bytes (DataAck ack) = ack_bytes ack
kind_bytes (CloseReq ack) = long_ack_bytes ack
kind_bytes (Close ack) = long_ack_bytes ack
kind_bytes (Reset ack code detail) = long_ack_bytes ack ++ (code ∷ detail)
kind_bytes (Sync ack) = long_ack_bytes ack
kind_bytes (SyncAck ack) = long_ack_bytes ack

-- the nine bytes before the sequence number
abbrev pub common_bytes : Header → ℕ → List ℕ
common_bytes h words =
    big_bytes 2 h.from ++ (big_bytes 2 h.to ++ (words ∷ (16 * h.ccval + h.cscov) ∷ (big_bytes 2 h.checksum ++ (type_byte h ∷ []))))

-- the fixed part, with the Data Offset in words
abbrev pub header_bytes : Header → ℕ → List ℕ
header_bytes h words = common_bytes h words ++ (number_bytes h.number ++ kind_bytes h.kind)

-- the one spelling of a packet whose reserved bits are zero (RFC 4340, section 5)
abbrev pub spelling : Header → List ℕ → List ℕ → List ℕ
spelling h options payload =
    header_bytes h ((header_length h + length (padded options)) / 4) ++ (padded options ++ payload)

-- the bytes have all of the header's fixed part, of this type in this form
abbrev pub HoldsHeader : Bool → PacketType → List ℕ → Type 0
HoldsHeader long kind bytes = fixed_length long kind ≤ length bytes
