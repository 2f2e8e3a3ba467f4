-- The packets of DCCP as a relation between a header, options, data and bytes, apart from reading and writing (RFC 4340, section 5). Each field
-- is the number that its bits spell, most significant first. Reserved bits may have any value.
use Rattle.std.specs.Prelude.{◌≡◌, ℕ, ◌+◌, ◌*◌, ◌<◌, List, ◌++◌, length, slice_index, slice_range}
use Rattle.dccp_packets.specs.declared.header.Number.{Number}
use Rattle.dccp_packets.specs.declared.header.Number.TheVariants.{Long, Short}
use Rattle.dccp_packets.specs.declared.header.Kind.{Kind}
use Rattle.dccp_packets.specs.declared.header.Kind.TheVariants.{Request, Response, Data, Ack, DataAck, CloseReq, Close, Reset, Sync, SyncAck}
use Rattle.dccp_packets.specs.declared.header.Header.{Header}
use Rattle.dccp_packets.specs.Grammar.{number_at}

-- byte 8 has three reserved bits, the four of the type, and X
abbrev pub HasType : ℕ → ℕ → List ℕ → Type 0
HasType code x bytes = (reserved : ℕ) × (slice_index bytes 8 ≡ 32 * reserved + (2 * code + x))

-- What is in the fixed part, whose length is the last argument: a row for each type and form of numbers. No other
-- forms are packets.
abbrev pub IsRow : Number → Kind → List ℕ → ℕ → Type 0
IsRow (Long n) (Request service) b size = HasType 0 1 b × (size ≡ 20) × (n ≡ number_at 10 6 b) × (service ≡ number_at 16 4 b)
IsRow (Long n) (Response ack service) b size = HasType 1 1 b × (size ≡ 28) × (n ≡ number_at 10 6 b) × (ack ≡ number_at 18 6 b) × (service ≡ number_at 24 4 b)
IsRow (Short n) Data b size = HasType 2 0 b × (size ≡ 12) × (n ≡ number_at 9 3 b)
IsRow (Long n) Data b size = HasType 2 1 b × (size ≡ 16) × (n ≡ number_at 10 6 b)
IsRow (Short n) (Ack (Short ack)) b size = HasType 3 0 b × (size ≡ 16) × (n ≡ number_at 9 3 b) × (ack ≡ number_at 13 3 b)
IsRow (Long n) (Ack (Long ack)) b size = HasType 3 1 b × (size ≡ 24) × (n ≡ number_at 10 6 b) × (ack ≡ number_at 18 6 b)
IsRow (Short n) (DataAck (Short ack)) b size = HasType 4 0 b × (size ≡ 16) × (n ≡ number_at 9 3 b) × (ack ≡ number_at 13 3 b)
IsRow (Long n) (DataAck (Long ack)) b size = HasType 4 1 b × (size ≡ 24) × (n ≡ number_at 10 6 b) × (ack ≡ number_at 18 6 b)
IsRow (Long n) (CloseReq ack) b size = HasType 5 1 b × (size ≡ 24) × (n ≡ number_at 10 6 b) × (ack ≡ number_at 18 6 b)
IsRow (Long n) (Close ack) b size = HasType 6 1 b × (size ≡ 24) × (n ≡ number_at 10 6 b) × (ack ≡ number_at 18 6 b)
IsRow (Long n) (Reset ack code detail) b size = HasType 7 1 b × (size ≡ 28) × (n ≡ number_at 10 6 b) × (ack ≡ number_at 18 6 b) × (code ≡ slice_index b 24) × (detail ≡ slice_range b 25 28)
IsRow (Long n) (Sync ack) b size = HasType 8 1 b × (size ≡ 24) × (n ≡ number_at 10 6 b) × (ack ≡ number_at 18 6 b)
IsRow (Long n) (SyncAck ack) b size = HasType 9 1 b × (size ≡ 24) × (n ≡ number_at 10 6 b) × (ack ≡ number_at 18 6 b)
IsRow (Short n) (Request service) b size = ⊥
IsRow (Short n) (Response ack service) b size = ⊥
IsRow (Short n) (Ack (Long ack)) b size = ⊥
IsRow (Long n) (Ack (Short ack)) b size = ⊥
IsRow (Short n) (DataAck (Long ack)) b size = ⊥
IsRow (Long n) (DataAck (Short ack)) b size = ⊥
IsRow (Short n) (CloseReq ack) b size = ⊥
IsRow (Short n) (Close ack) b size = ⊥
IsRow (Short n) (Reset ack code detail) b size = ⊥
IsRow (Short n) (Sync ack) b size = ⊥
IsRow (Short n) (SyncAck ack) b size = ⊥

-- The fixed part, the options up to the Data Offset, which counts words of four bytes, and the data to the end.
pub record IsPacket (h : Header) (options payload bytes : List ℕ) : Type 0 where
  pub fixed : List ℕ
  pub parts : bytes ≡ fixed ++ (options ++ payload)
  pub offset : 4 * slice_index bytes 4 ≡ length fixed + length options
  pub from : h.from ≡ number_at 0 2 bytes
  pub to : h.to ≡ number_at 2 2 bytes
  pub nibbles : slice_index bytes 5 ≡ 16 * h.ccval + h.cscov
  pub nibble : h.cscov < 16
  pub checksum : h.checksum ≡ number_at 6 2 bytes
  pub row : IsRow h.number h.kind bytes (length fixed)

-- every number of the list is a byte
abbrev pub AreBytes : List ℕ → Type 0
AreBytes bytes = (k : ℕ) → slice_index bytes k < 256

-- The reserved bits are zero: three in byte 8, one byte before a long sequence number, two before a long
-- acknowledgement and one before a short one.
abbrev pub NumberHasZeros : Number → List ℕ → Type 0
NumberHasZeros (Long n) b = slice_index b 9 ≡ 0
NumberHasZeros (Short n) b = Unit {0}

-- the two bytes before a long acknowledgement
abbrev pub LongAckHasZeros : List ℕ → Type 0
LongAckHasZeros b = (slice_index b 16 ≡ 0) × (slice_index b 17 ≡ 0)

-- the bytes before the acknowledgement number, one line for each type
abbrev pub KindHasZeros : Kind → List ℕ → Type 0
KindHasZeros (Request service) b = Unit {0}
KindHasZeros (Response ack service) b = LongAckHasZeros b
KindHasZeros Data b = Unit {0}
KindHasZeros (Ack (Long ack)) b = LongAckHasZeros b
KindHasZeros (Ack (Short ack)) b = slice_index b 12 ≡ 0
KindHasZeros (DataAck (Long ack)) b = LongAckHasZeros b
KindHasZeros (DataAck (Short ack)) b = slice_index b 12 ≡ 0
KindHasZeros (CloseReq ack) b = LongAckHasZeros b
KindHasZeros (Close ack) b = LongAckHasZeros b
KindHasZeros (Reset ack code detail) b = LongAckHasZeros b
KindHasZeros (Sync ack) b = LongAckHasZeros b
KindHasZeros (SyncAck ack) b = LongAckHasZeros b

-- all reserved bits of a packet
pub record HasZeros (h : Header) (bytes : List ℕ) : Type 0 where
  pub types : slice_index bytes 8 < 32
  pub number : NumberHasZeros h.number bytes
  pub kind : KindHasZeros h.kind bytes
