-- What is bytes stays bytes: parts of a packet, and the spelling of one.
use Rattle.std.proofs.Common.{◌≡◌, refl, sym, ap, ◌∙◌, ℕ, zero, suc, ◌+◌, ◌-◌, ◌*◌, ◌/◌, ◌%◌, ◌^◌, ◌<◌, ◌≤◌, nat_lt, arith, Bool, true, false, not, if◌then◌else◌, List, [], ◌∷◌, ◌++◌, length, drop, replicate, slice_index, take, Option, None, Some, Result, Ok, Err}
use Rattle.std.proofs.Math.Dec.{lit<}
use Rattle.std.proofs.lemmas.Bool.{lt-ltb, ltb-true}
use Rattle.std.proofs.lemmas.List.{take-append-drop}
use Rattle.std.proofs.lemmas.List.Folds.{list_all-append}
use Rattle.std.proofs.lemmas.Nat.{mod_below}
use Rattle.std.specs.Int.{byte_at}
use Rattle.std.specs.List.{list_all}
use Rattle.byteorder.specs.Endian.{big_bytes}
use Rattle.hex.specs.Hex.{IsBytes}
use Rattle.tool_text.proofs.Bytes.{and-true, both-true}
use Rattle.dccp_packets.specs.Grammar.{Parts, ack_bytes, code_of, common_bytes, data_offset_bytes, decoded, decoded_as, decoded_by, fixed_length, has_form, has_long_numbers, header_bytes, header_length, is_long, kind_bytes, kind_of, long_ack_bytes, number_bytes, packet_type, padded, parts_of, spelling, type_byte, type_code, type_of}
use Rattle.dccp_packets.specs.declared.header.Header.{Header}
use Rattle.dccp_packets.specs.declared.header.Kind.{Kind}
use Rattle.dccp_packets.specs.declared.header.Kind.TheVariants.{Request, Response, Data, Ack, DataAck, CloseReq, Close, Reset, Sync, SyncAck}
use Rattle.dccp_packets.specs.declared.header.Number.{Number}
use Rattle.dccp_packets.specs.declared.header.Number.TheVariants.{Long, Short}
use Rattle.dccp_packets.specs.declared.header.PacketType.{PacketType}
use Rattle.dccp_packets.specs.declared.header.PacketType.TheVariants as types
use Rattle.dccp_packets.specs.declared.reading.Malformed.{Malformed}
use Rattle.dccp_packets.specs.declared.reading.Malformed.TheVariants as faults
use Rattle.bridge_command.specs.Mapping.{moved_kind}
use Rattle.bridge_command.specs.declared.frames.mapping.UsualEnd.{UsualEnd}

-- what both branches have, the choice has
pub either : {A : Type 0} (P : A → Type 0) (test : Bool) (x y : A) → P x → P y → P (if test then x else y)
either P true x y p q = p
either P false x y p q = q

-- Lists

abbrev pub is_byte : ℕ → Bool
is_byte number = nat_lt number 256

abbrev pub AreBytes : List ℕ → Type 0
AreBytes bytes = list_all is_byte bytes ≡ true

pub first-byte : (byte : ℕ) (bytes : List ℕ) → AreBytes (byte ∷ bytes) → byte < 256
first-byte byte bytes are = ltb-true byte 256 (both-true (is_byte byte) (list_all is_byte bytes) are).0

pub other-bytes : (byte : ℕ) (bytes : List ℕ) → AreBytes (byte ∷ bytes) → AreBytes bytes
other-bytes byte bytes are = (both-true (is_byte byte) (list_all is_byte bytes) are).1

pub bytes-cons : (byte : ℕ) (bytes : List ℕ) → byte < 256 → AreBytes bytes → AreBytes (byte ∷ bytes)
bytes-cons byte bytes small are = and-true (is_byte byte) (list_all is_byte bytes) (lt-ltb byte 256 small) are

pub all-bytes : (bytes : List ℕ) → IsBytes bytes → AreBytes bytes
all-bytes [] are = refl
all-bytes (byte ∷ bytes) are = bytes-cons byte bytes (are 0) (all-bytes bytes (λ i. are (suc i)))

pub each-byte : (bytes : List ℕ) → AreBytes bytes → IsBytes bytes
each-byte [] are i = omega arith
each-byte (byte ∷ bytes) are zero = first-byte byte bytes are
each-byte (byte ∷ bytes) are (suc i) = each-byte bytes (other-bytes byte bytes are) i

pub bytes-append : (front following : List ℕ) → AreBytes front → AreBytes following → AreBytes (front ++ following)
bytes-append front following first second = list_all-append is_byte front following ∙ and-true (list_all is_byte front) (list_all is_byte following) first second

-- both parts of bytes that are cut
halves : (count : ℕ) (bytes : List ℕ) → AreBytes bytes → AreBytes (take count bytes) × AreBytes (drop count bytes)
halves count bytes are =
    both-true (list_all is_byte (take count bytes)) (list_all is_byte (drop count bytes))
    (sym (list_all-append is_byte (take count bytes) (drop count bytes)) ∙ ap (list_all is_byte) (take-append-drop count bytes) ∙ are)

pub bytes-drop : (count : ℕ) (bytes : List ℕ) → AreBytes bytes → AreBytes (drop count bytes)
bytes-drop count bytes are = (halves count bytes are).1

-- some bytes from a place on
pub bytes-part : (count place : ℕ) (bytes : List ℕ) → AreBytes bytes → AreBytes (take count (drop place bytes))
bytes-part count place bytes are = (halves count (drop place bytes) (bytes-drop place bytes are)).0

zeros-are : (count : ℕ) → AreBytes (replicate count 0)
zeros-are zero = refl
zeros-are (suc count) = bytes-cons 0 (replicate count 0) (omega arith) (zeros-are count)

byte-small : (place number : ℕ) → byte_at place number < 256
byte-small zero number = mod_below number 256 (lit< tt)
byte-small (suc place) number = mod_below (number / 256 ^ suc place) 256 (lit< tt)

pub number-are : (count number : ℕ) → AreBytes (big_bytes count number)
number-are zero number = refl
number-are (suc count) number = bytes-cons (byte_at count number) (big_bytes count number) (byte-small count number) (number-are count number)

-- Headers

-- of what a type alone carries, these fields are in bytes as they are
abbrev pub HasByteFields : Kind → Type 0
HasByteFields (Request service) = Unit {0}
HasByteFields (Response ack service) = Unit {0}
HasByteFields Data = Unit {0}
HasByteFields (Ack ack) = Unit {0}
HasByteFields (DataAck ack) = Unit {0}
HasByteFields (CloseReq ack) = Unit {0}
HasByteFields (Close ack) = Unit {0}
HasByteFields (Reset ack code detail) = (code < 256) × AreBytes detail
HasByteFields (Sync ack) = Unit {0}
HasByteFields (SyncAck ack) = Unit {0}

number-bytes : (n : Number) → AreBytes (number_bytes n)
number-bytes (Long n) = bytes-cons 0 (big_bytes 6 n) (omega arith) (number-are 6 n)
number-bytes (Short n) = number-are 3 n

long-ack-bytes : (ack : ℕ) → AreBytes (long_ack_bytes ack)
long-ack-bytes ack = bytes-cons 0 (0 ∷ big_bytes 6 ack) (omega arith) (bytes-cons 0 (big_bytes 6 ack) (omega arith) (number-are 6 ack))

ack-bytes : (ack : Number) → AreBytes (ack_bytes ack)
ack-bytes (Long ack) = long-ack-bytes ack
ack-bytes (Short ack) = bytes-cons 0 (big_bytes 3 ack) (omega arith) (number-are 3 ack)

kind-bytes : (kind : Kind) → HasByteFields kind → AreBytes (kind_bytes kind)
kind-bytes (Request service) are = number-are 4 service
kind-bytes (Response ack service) are = bytes-append (long_ack_bytes ack) (big_bytes 4 service) (long-ack-bytes ack) (number-are 4 service)
kind-bytes Data are = refl
kind-bytes (Ack ack) are = ack-bytes ack
kind-bytes (DataAck ack) are = ack-bytes ack
kind-bytes (CloseReq ack) are = long-ack-bytes ack
kind-bytes (Close ack) are = long-ack-bytes ack
kind-bytes (Reset ack code detail) are = bytes-append (long_ack_bytes ack) (code ∷ detail) (long-ack-bytes ack) (bytes-cons code detail are.0 are.1)
kind-bytes (Sync ack) are = long-ack-bytes ack
kind-bytes (SyncAck ack) are = long-ack-bytes ack

code-small : (kind : PacketType) → code_of kind < 10
code-small types.Request = omega arith
code-small _ = omega arith

bit-small : (long : Bool) → (if long then 1 else 0) < 2
bit-small true = omega arith
bit-small false = omega arith

joined-small : (code bit : ℕ) → code < 10 → bit < 2 → 2 * code + bit < 256
joined-small code bit low one = omega (arith, low, one)

type-small : (h : Header) → type_byte h < 256
type-small h =
    joined-small (code_of (packet_type h.kind)) (if is_long h.number then 1 else 0) (code-small (packet_type h.kind)) (bit-small (is_long h.number))

nibbles-small : (high low : ℕ) → high < 16 → low < 16 → 16 * high + low < 256
nibbles-small high low first second = omega (arith, first, second)

words-small : (n : ℕ) → n ≤ 1020 → n / 4 < 256
words-small n few = omega (arith, few)

common-are : (h : Header) (words : ℕ) → words < 256 → h.ccval < 16 → h.cscov < 16 → AreBytes (common_bytes h words)
common-are h words few ccval cscov =
    let nibbles : ℕ = 16 * h.ccval + h.cscov in
    let sums : List ℕ = big_bytes 2 h.checksum ++ (type_byte h ∷ []) in
    bytes-append (big_bytes 2 h.from) (big_bytes 2 h.to ++ (words ∷ nibbles ∷ sums)) (number-are 2 h.from)
    (bytes-append (big_bytes 2 h.to) (words ∷ nibbles ∷ sums) (number-are 2 h.to)
    (bytes-cons words (nibbles ∷ sums) few
    (bytes-cons nibbles sums (nibbles-small h.ccval h.cscov ccval cscov)
    (bytes-append (big_bytes 2 h.checksum) (type_byte h ∷ []) (number-are 2 h.checksum) (bytes-cons (type_byte h) [] (type-small h) refl)))))

-- the spelling of a packet is bytes where its options and data are
pub spelled-are : (h : Header) (options payload : List ℕ) → header_length h + length (padded options) ≤ 1020 → h.ccval < 16 → h.cscov < 16
    → HasByteFields h.kind → AreBytes options → AreBytes payload → AreBytes (spelling h options payload)
spelled-are h options payload room ccval cscov fields first second =
    let words : ℕ = (header_length h + length (padded options)) / 4 in
    let count : ℕ = (4 - length options % 4) % 4 in
    let few : words < 256 = words-small (header_length h + length (padded options)) room in
    bytes-append (header_bytes h words) (padded options ++ payload)
    (bytes-append (common_bytes h words) (number_bytes h.number ++ kind_bytes h.kind) (common-are h words few ccval cscov)
    (bytes-append (number_bytes h.number) (kind_bytes h.kind) (number-bytes h.number) (kind-bytes h.kind fields)))
    (bytes-append (padded options) payload (bytes-append options (replicate count 0) first (zeros-are count)) second)

pub eight-bytes : (h : Header) (options payload : List ℕ) → 8 ≤ length (spelling h options payload)
eight-bytes h options payload = omega arith

-- a moved header keeps these fields
pub moved-fields : (end : UsualEnd) (initial : ℕ) (kind : Kind) → HasByteFields kind → HasByteFields (moved_kind end initial kind)
moved-fields end initial (Reset ack code detail) are = are
moved-fields end initial _ are = tt

-- Packets

-- a packet whose parts are bytes, and its small fields four bits
pub record IsOfBytes (packet : Parts) : Type 0 where
  pub ccval : packet.header.ccval < 16
  pub cscov : packet.header.cscov < 16
  pub kind : HasByteFields packet.header.kind
  pub options : AreBytes packet.options
  pub payload : AreBytes packet.payload

-- what was decoded is such a packet, if it is one
abbrev pub DecodesToBytes : Result Parts Malformed → Type 0
DecodesToBytes (Ok packet) = IsOfBytes packet
DecodesToBytes (Err why) = Unit {0}

kind-fields : (kind : PacketType) (long : Bool) (bytes : List ℕ) → AreBytes bytes → HasByteFields (kind_of kind long bytes)
kind-fields types.Reset long bytes are = (each-byte bytes are 24, bytes-part (28 - 25) 25 bytes are)
kind-fields _ long bytes are = tt

pub high-nibble : (byte : ℕ) → byte < 256 → byte / 16 < 16
high-nibble byte small = omega (arith, small)

pub low-nibble : (byte : ℕ) → byte % 16 < 16
low-nibble byte = omega arith

parts-are : (kind : PacketType) (long : Bool) (bytes : List ℕ) → AreBytes bytes → IsOfBytes (parts_of kind long bytes)
parts-are kind long bytes are = record {
  ccval = high-nibble (slice_index bytes 5) (each-byte bytes are 5);
  cscov = low-nibble (slice_index bytes 5);
  kind = kind-fields kind long bytes are;
  options = bytes-part (data_offset_bytes bytes - fixed_length long kind) (fixed_length long kind) bytes are;
  payload = bytes-drop (data_offset_bytes bytes) bytes are;
}

as-are : (kind : PacketType) (long : Bool) (bytes : List ℕ) → AreBytes bytes → DecodesToBytes (decoded_as kind long bytes)
as-are kind long bytes are =
    let formed : Result Parts Malformed = if not (has_form long kind) then Err faults.ShortNumbers else Ok (parts_of kind long bytes) in
    let inside : Result Parts Malformed = if nat_lt (length bytes) (data_offset_bytes bytes) then Err faults.OffsetLarge else formed in
    either DecodesToBytes (nat_lt (data_offset_bytes bytes) (fixed_length long kind)) (Err faults.OffsetSmall) inside tt
    (either DecodesToBytes (nat_lt (length bytes) (data_offset_bytes bytes)) (Err faults.OffsetLarge) formed tt
    (either DecodesToBytes (not (has_form long kind)) (Err faults.ShortNumbers) (Ok (parts_of kind long bytes)) tt (parts-are kind long bytes are)))

by-are : (kind : Option PacketType) (bytes : List ℕ) → AreBytes bytes → DecodesToBytes (decoded_by kind bytes)
by-are None bytes are = tt
by-are (Some kind) bytes are = as-are kind (has_long_numbers bytes) bytes are

-- what bytes decode to is of bytes
pub decoded-are : (bytes : List ℕ) → AreBytes bytes → DecodesToBytes (decoded bytes)
decoded-are bytes are =
    either DecodesToBytes (nat_lt (length bytes) 12) (Err faults.Short) (decoded_by (type_of (type_code bytes)) bytes) tt
    (by-are (type_of (type_code bytes)) bytes are)
