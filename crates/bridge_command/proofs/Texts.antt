-- A line of `show` is text with its newline, where the packet's options and its addresses are bytes.
use Rattle.std.proofs.Common.{◌≡◌, refl, sym, ap, ◌∙◌, ℕ, zero, suc, ◌+◌, ◌-◌, ◌/◌, ◌%◌, ◌<◌, ◌==◌, ◌&&◌, nat_le, nat_lt, arith, Bool, true, false, filter, not, if◌then◌else◌, List, [], ◌∷◌, ◌++◌, length, drop, slice_index, take, append_assoc, decimal, Option, None, Some, Result, Ok, Err}
use Rattle.std.proofs.lemmas.Bool.Decides.{nat_tests}
use Rattle.std.proofs.lemmas.List.{take-append-drop}
use Rattle.std.proofs.lemmas.List.Folds.{list_all-append}
use Rattle.std.proofs.lemmas.List.Sums.{AllPass-from_list_all}
use Rattle.std.specs.Fmt.{digit_glyph, digits, digits_onto}
use Rattle.std.specs.List.{list_all}
use Rattle.std.specs.Prelude.{codes}
use Rattle.hex.specs.Hex.{encode_lower, encode_with, lower_digits}
use Rattle.tool_text.specs.Text.{hex_or_dash, v4_text}
use Rattle.tool_text.proofs.Bytes.{and-true, both-true}
use Rattle.tool_text.specs.Lines.{is_text}
use Rattle.capture_reader.specs.Records.{RecordParts}
use Rattle.dccp_options.specs.Grammar.{Entry, Listed, Mandatory, Padding, Part, RawOption, bytes_after, counted_body, counted_options, entry_then, is_ignored_on_data, is_one_byte, marked_entries, option_body, options_of, part_of, raw_options, raw_then}
use Rattle.dccp_options.specs.Kinds as kinds
use Rattle.dccp_options.specs.declared.option.OptFault.{OptFault}
use Rattle.dccp_packets.specs.Grammar.{Parts, packet_type}
use Rattle.dccp_packets.specs.Kinds.{is_data}
use Rattle.dccp_packets.specs.declared.header.Header.{Header}
use Rattle.dccp_packets.specs.declared.header.Kind.{Kind}
use Rattle.dccp_packets.specs.declared.header.Kind.TheVariants.{Request, Response, Data, Ack, DataAck, CloseReq, Close, Reset, Sync, SyncAck}
use Rattle.dccp_packets.specs.declared.header.Number.{Number}
use Rattle.dccp_packets.specs.declared.header.Number.TheVariants.{Long, Short}
use Rattle.dccp_packets.specs.declared.header.PacketType.{PacketType}
use Rattle.dccp_packets.specs.declared.header.PacketType.TheVariants as types
use Rattle.dccp_sum.specs.Checksum.{checked}
use Rattle.dccp_sum.specs.declared.packet_sum.SumFault.{SumFault}
use Rattle.dccp_sum.specs.declared.packet_sum.SumFault.TheVariants.{CoverageTooLarge, Wrong}
use Rattle.dccp_sum.specs.declared.pseudo_header.Pseudo.{Pseudo}
use Rattle.dccp_sum.specs.declared.pseudo_header.Pseudo.TheVariants.{V4, V6}
use Rattle.packet_show.specs.Lines.{header_text, packet_line, receiver_text, rest_text, sender_text, stamp_text, sum_text}
use Rattle.packet_show.specs.Names.{option_form, option_name, sum_name, type_name}
use Rattle.packet_show.specs.Network.{DatagramParts}
use Rattle.packet_show.specs.Text.{ack_text, code_text, feature_text, fraction_text, from_text, group_text, groups_text, item_text, kind_text, mark_text, number_text, numbered_text, option_by_form, option_text, options_text, service_text, to_text, v6_text, width_of, without_zeros, zeros_before}
use Rattle.bridge_command.proofs.FrameBytes.{AreBytes, bytes-cons, bytes-drop, bytes-part, each-byte, either, first-byte, high-nibble, is_byte, low-nibble, other-bytes}

abbrev pub IsText : List ℕ → Type 0
IsText text = list_all is_text text ≡ true

text-cons : (byte : ℕ) (text : List ℕ) → is_text byte ≡ true → IsText text → IsText (byte ∷ text)
text-cons byte text first others = and-true (is_text byte) (list_all is_text text) first others

pub text-append : (front following : List ℕ) → IsText front → IsText following → IsText (front ++ following)
text-append front following first second = list_all-append is_text front following ∙ and-true (list_all is_text front) (list_all is_text following) first second

-- text that is cut is text
pub text-cut : (count : ℕ) (text : List ℕ) → IsText text → IsText (take count text)
text-cut count text are =
    (both-true (list_all is_text (take count text)) (list_all is_text (drop count text))
    (sym (list_all-append is_text (take count text) (drop count text)) ∙ ap (list_all is_text) (take-append-drop count text) ∙ are)).0

-- Numbers, of any size

digit-text : (d : ℕ) → d < 10 → is_text (48 + d) ≡ true
digit-text d small = grind (arith, nat_tests)

letter-text : (d : ℕ) → d < 10 → is_text (87 + d) ≡ true
letter-text d small = grind (arith, nat_tests)

glyph-text : (d : ℕ) → d < 10 → is_text (digit_glyph false d) ≡ true
glyph-text d small = either (λ (c : ℕ). is_text c ≡ true) (nat_lt d 10) (48 + d) (87 + d) (digit-text d small) (letter-text d small)

last-digit : (n : ℕ) → n % 10 < 10
last-digit n = omega arith

onto-text : (count n : ℕ) (text : List ℕ) → IsText text → IsText (digits_onto count 10 false n text)
onto-text zero n text are = are
onto-text (suc count) n text are =
    let digit : ℕ = digit_glyph false (n % 10) in
    let more : IsText (digit ∷ text) = text-cons digit text (glyph-text (n % 10) (last-digit n)) are in
    either IsText (n / 10 == 0) (digit ∷ text) (digits_onto count 10 false (n / 10) (digit ∷ text)) more (onto-text count (n / 10) (digit ∷ text) more)

decimal-text : (n : ℕ) → IsText (decimal n)
unfolding digits
decimal-text n = onto-text 64 n [] refl

-- two texts with a word between them
worded : (front word following : List ℕ) → IsText front → IsText word → IsText following → IsText (front ++ word ++ following)
worded front word following first is second = text-append (front ++ word) following (text-append front word first is) second

-- the same where the second is a number
numbers : (front word : List ℕ) (n : ℕ) → IsText front → IsText word → IsText (front ++ word ++ decimal n)
numbers front word n first is = worded front word (decimal n) first is (decimal-text n)

-- Hexadecimal digits

nibble-text : (d : ℕ) → d < 16 → is_text (slice_index lower_digits d) ≡ true
nibble-text d small = AllPass-from_list_all is_text lower_digits refl d 0 small

hex-text : (bytes : List ℕ) → AreBytes bytes → IsText (encode_lower bytes)
unfolding encode_with
hex-text [] are = refl
hex-text (byte ∷ bytes) are =
    let low : ℕ = slice_index lower_digits (byte % 16) in
    text-cons (slice_index lower_digits (byte / 16)) (low ∷ encode_lower bytes) (nibble-text (byte / 16) (high-nibble byte (first-byte byte bytes are)))
    (text-cons low (encode_lower bytes) (nibble-text (byte % 16) (low-nibble byte)) (hex-text bytes (other-bytes byte bytes are)))

dash-text : (bytes : List ℕ) → AreBytes bytes → IsText (hex_or_dash bytes)
dash-text [] are = refl
dash-text (byte ∷ bytes) are = hex-text (byte ∷ bytes) are

-- Addresses

pub v4-text : (a : List ℕ) → IsText (v4_text a)
v4-text a =
    let two : List ℕ = decimal (slice_index a 0) ++ codes "." ++ decimal (slice_index a 1) in
    let three : List ℕ = two ++ codes "." ++ decimal (slice_index a 2) in
    numbers three (codes ".") (slice_index a 3)
    (numbers two (codes ".") (slice_index a 2)
    (numbers (decimal (slice_index a 0)) (codes ".") (slice_index a 1) (decimal-text (slice_index a 0)) refl) refl) refl

zeros-text : (text : List ℕ) → IsText text → IsText (without_zeros text)
zeros-text [] are = refl
zeros-text (digit ∷ []) are = are
zeros-text (digit ∷ next ∷ rest) are =
    let others : IsText (next ∷ rest) = (both-true (is_text digit) (list_all is_text (next ∷ rest)) are).1 in
    either IsText (digit == 48) (without_zeros (next ∷ rest)) (digit ∷ next ∷ rest) (zeros-text (next ∷ rest) others) are

group-text : (high low : ℕ) → high < 256 → low < 256 → IsText (group_text high low)
group-text high low first second =
    zeros-text (encode_lower (high ∷ low ∷ [])) (hex-text (high ∷ low ∷ []) (bytes-cons high (low ∷ []) first (bytes-cons low [] second refl)))

groups-text : (a : List ℕ) → AreBytes a → IsText (groups_text a)
groups-text (high ∷ low ∷ rest) are =
    let others : AreBytes (low ∷ rest) = other-bytes high (low ∷ rest) are in
    text-append (group_text high low) (groups_text rest) (group-text high low (first-byte high (low ∷ rest) are) (first-byte low rest others))
    (groups-text rest (other-bytes low rest others))
groups-text (_ ∷ []) are = refl
groups-text [] are = refl

pub v6-text : (a : List ℕ) → AreBytes a → IsText (v6_text a)
v6-text a are =
    text-append (group_text (slice_index a 0) (slice_index a 1)) (groups_text (drop 2 a))
    (group-text (slice_index a 0) (slice_index a 1) (each-byte a are 0) (each-byte a are 1)) (groups-text (drop 2 a) (bytes-drop 2 a are))

-- addresses of IPv6 are bytes
abbrev pub HasByteAddresses : Pseudo → Type 0
HasByteAddresses (V4 from to) = Unit {0}
HasByteAddresses (V6 from to) = AreBytes from × AreBytes to

from-text : (pseudo : Pseudo) → HasByteAddresses pseudo → IsText (from_text pseudo)
from-text (V4 from to) are = v4-text from
from-text (V6 from to) are = v6-text from are.0

to-text : (pseudo : Pseudo) → HasByteAddresses pseudo → IsText (to_text pseudo)
to-text (V4 from to) are = v4-text to
to-text (V6 from to) are = v6-text to are.1

-- Headers

pub type-text : (kind : PacketType) → IsText (type_name kind)
type-text types.Request = refl
type-text _ = refl

number-text : (n : Number) → IsText (number_text n)
number-text (Long n) = decimal-text n
number-text (Short n) = decimal-text n

code-text : (code : ℕ) (detail : List ℕ) → IsText (code_text code detail)
code-text code detail =
    let first : List ℕ = codes " code " ++ decimal code in
    let second : List ℕ = first ++ codes " " ++ decimal (slice_index detail 0) in
    let third : List ℕ = second ++ codes " " ++ decimal (slice_index detail 1) in
    numbers third (codes " ") (slice_index detail 2)
    (numbers second (codes " ") (slice_index detail 1) (numbers first (codes " ") (slice_index detail 0) (decimal-text code) refl) refl) refl

kind-text : (kind : Kind) → IsText (kind_text kind)
kind-text (Request service) = decimal-text service
kind-text (Response ack service) = text-append (ack_text (Long ack)) (service_text service) (decimal-text ack) (decimal-text service)
kind-text Data = refl
kind-text (Ack ack) = number-text ack
kind-text (DataAck ack) = number-text ack
kind-text (CloseReq ack) = decimal-text ack
kind-text (Close ack) = decimal-text ack
kind-text (Reset ack code detail) = text-append (ack_text (Long ack)) (code_text code detail) (decimal-text ack) (code-text code detail)
kind-text (Sync ack) = decimal-text ack
kind-text (SyncAck ack) = decimal-text ack

header-text : (header : Header) → IsText (header_text header)
header-text header =
    let front : List ℕ = codes " " ++ type_name (packet_type header.kind) in
    text-append (front ++ codes " seq " ++ number_text header.number) (kind_text header.kind)
    (worded front (codes " seq ") (number_text header.number) (type-text (packet_type header.kind)) refl (number-text header.number))
    (kind-text header.kind)

fraction-text : (nanos : Bool) (fraction : ℕ) → IsText (fraction_text nanos fraction)
fraction-text nanos fraction =
    text-append (zeros_before (width_of nanos) (decimal fraction)) (decimal fraction)
    (text-cut (width_of nanos - length (decimal fraction)) (codes "000000000") refl) (decimal-text fraction)

stamp-text : (entry : RecordParts) → IsText (stamp_text entry)
stamp-text entry =
    worded (decimal entry.number ++ codes " " ++ decimal entry.seconds) (codes ".") (fraction_text entry.nanos entry.fraction)
    (numbers (decimal entry.number) (codes " ") entry.seconds (decimal-text entry.number) refl) refl (fraction-text entry.nanos entry.fraction)

sender-text : (there : DatagramParts) (port flow : ℕ) → HasByteAddresses there.pseudo → IsText (sender_text there port flow)
sender-text there port flow are =
    let front : List ℕ = codes " flow " ++ decimal flow in
    numbers (front ++ codes " " ++ from_text there.pseudo) (codes " ") port
    (worded front (codes " ") (from_text there.pseudo) (decimal-text flow) refl (from-text there.pseudo are)) refl

receiver-text : (there : DatagramParts) (port : ℕ) → HasByteAddresses there.pseudo → IsText (receiver_text there port)
receiver-text there port are = numbers (codes " > " ++ to_text there.pseudo) (codes " ") port (to-text there.pseudo are) refl

-- Options

-- a table's choice: the name after the first test that is passed, or the last
abbrev chosen : List (Bool × List ℕ) → List ℕ → List ℕ
chosen [] last = last
chosen (row ∷ rows) last = if row.0 then row.1 else chosen rows last

chosen-text : (rows : List (Bool × List ℕ)) (last : List ℕ) → list_all (λ (row : Bool × List ℕ). list_all is_text row.1) rows ≡ true → IsText last
    → IsText (chosen rows last)
chosen-text [] last are is = is
chosen-text (row ∷ rows) last are is =
    let both = both-true (list_all is_text row.1) (list_all (λ (row : Bool × List ℕ). list_all is_text row.1) rows) are in
    either IsText row.0 row.1 (chosen rows last) both.0 (chosen-text rows last both.1 is)

name-text : (kind : ℕ) → IsText (option_name kind)
name-text kind =
    chosen-text
    ((kind == kinds.slow_receiver, codes "slow-receiver")
    ∷ (kind == kinds.change_l, codes "change-l")
    ∷ (kind == kinds.confirm_l, codes "confirm-l")
    ∷ (kind == kinds.change_r, codes "change-r")
    ∷ (kind == kinds.confirm_r, codes "confirm-r")
    ∷ (kind == kinds.init_cookie, codes "init-cookie")
    ∷ (kind == kinds.ndp_count, codes "ndp-count")
    ∷ (kind == kinds.ack_vector_0, codes "ack-vector-0")
    ∷ (kind == kinds.ack_vector_1, codes "ack-vector-1")
    ∷ (kind == kinds.data_dropped, codes "data-dropped")
    ∷ (kind == kinds.timestamp, codes "timestamp")
    ∷ (kind == kinds.timestamp_echo, codes "timestamp-echo")
    ∷ (kind == kinds.elapsed_time, codes "elapsed-time")
    ∷ (kind == kinds.data_checksum, codes "data-checksum")
    ∷ (kinds.is_ccid_specific kind, codes "ccid")
    ∷ [])
    (codes "option") refl refl

numbered : (name : List ℕ) (kind : ℕ) (body : List ℕ) → IsText name → AreBytes body → IsText (numbered_text name kind body)
numbered name kind body is are =
    worded (name ++ codes " " ++ decimal kind) (codes " ") (hex_or_dash body) (numbers name (codes " ") kind is refl) refl (dash-text body are)

feature-text : (kind : ℕ) (body : List ℕ) → AreBytes body → IsText (feature_text kind body)
feature-text kind [] are = numbered (codes "option") kind [] refl refl
feature-text kind (feature ∷ rest) are = numbered (option_name kind) feature rest (name-text kind) (other-bytes feature rest are)

-- the forms are told by types that have them
pub form-text : (kind : ℕ) (body : List ℕ) → AreBytes body → IsText (option_text kind body)
form-text kind body are =
    let has_feature : Bool = nat_le kinds.change_l kind && nat_le kind kinds.confirm_r in
    let has_data : Bool = nat_le kinds.init_cookie kind && nat_le kind kinds.data_checksum in
    either (λ form. IsText (option_by_form form kind body)) (kind == kinds.slow_receiver) (option_form 2)
    (if has_feature then option_form 32 else if has_data then option_form 36 else option_form 3) (name-text kind)
    (either (λ form. IsText (option_by_form form kind body)) has_feature (option_form 32) (if has_data then option_form 36 else option_form 3)
    (feature-text kind body are)
    (either (λ form. IsText (option_by_form form kind body)) has_data (option_form 36) (option_form 3)
    (worded (option_name kind) (codes " ") (hex_or_dash body) (name-text kind) refl (dash-text body are))
    (numbered (option_name kind) kind body (name-text kind) are)))

pub mark-text : (mandatory : Bool) → IsText (mark_text mandatory)
mark-text true = refl
mark-text false = refl

listed-text : (entry : Entry) → AreBytes entry.body → IsText (item_text (Ok entry))
listed-text entry are =
    let option : List ℕ = option_text entry.kind entry.body in
    text-append (codes " [" ++ (mark_text entry.mandatory ++ option)) (codes "]")
    (text-append (mark_text entry.mandatory) option (mark-text entry.mandatory) (form-text entry.kind entry.body are)) refl

-- an option's data are bytes
abbrev has_bytes : RawOption → Bool
has_bytes raw = list_all is_byte raw.body

abbrev HaveBytes : List RawOption → Type 0
HaveBytes raws = list_all has_bytes raws ≡ true

abbrev MaybeBytes : Option (List ℕ) → Type 0
MaybeBytes None = Unit {0}
MaybeBytes (Some body) = AreBytes body

counted-bytes : (bytes : List ℕ) → AreBytes bytes → MaybeBytes (counted_body bytes)
counted-bytes [] are = tt
counted-bytes (count ∷ rest) are =
    either MaybeBytes (nat_le 2 count && nat_le (count - 2) (length rest)) (Some (take (count - 2) rest)) None
    (bytes-part (count - 2) 0 rest (other-bytes count rest are)) tt

body-bytes : (kind : ℕ) (bytes : List ℕ) → AreBytes bytes → MaybeBytes (option_body kind bytes)
body-bytes kind bytes are = either MaybeBytes (is_one_byte kind) (Some []) (counted_body bytes) refl (counted-bytes bytes are)

then-bytes : (place kind : ℕ) (body : Option (List ℕ)) (following : ℕ → List RawOption) → MaybeBytes body → ((skip : ℕ) → HaveBytes (following skip))
    → HaveBytes (raw_then place kind body following)
then-bytes place kind None following are rest = refl
then-bytes place kind (Some body) following are rest =
    and-true (list_all is_byte body) (list_all has_bytes (following (bytes_after kind body))) are (rest (bytes_after kind body))

raw-bytes : (place skip : ℕ) (area : List ℕ) → AreBytes area → HaveBytes (raw_options place skip area)
raw-bytes place skip [] are = refl
raw-bytes place (suc skip) (byte ∷ rest) are = raw-bytes (place + 1) skip rest (other-bytes byte rest are)
raw-bytes place zero (kind ∷ rest) are =
    let others : AreBytes rest = other-bytes kind rest are in
    then-bytes place kind (option_body kind rest) (λ skip. raw_options (place + 1) skip rest) (body-bytes kind rest others)
    (λ skip. raw-bytes (place + 1) skip rest others)

filtered-bytes : (test : RawOption → Bool) (raws : List RawOption) → HaveBytes raws → HaveBytes (filter test raws)
filtered-bytes test [] are = refl
filtered-bytes test (raw ∷ raws) are =
    let both = both-true (has_bytes raw) (list_all has_bytes raws) are in
    let others : HaveBytes (filter test raws) = filtered-bytes test raws both.1 in
    either HaveBytes (test raw) (raw ∷ filter test raws) (filter test raws)
    (and-true (has_bytes raw) (list_all has_bytes (filter test raws)) both.0 others) others

counting-bytes : (on_data : Bool) (raws : List RawOption) → HaveBytes raws → HaveBytes (counted_options on_data raws)
counting-bytes false raws are = are
counting-bytes true raws are = filtered-bytes (λ raw. not (is_ignored_on_data raw.kind)) raws are

then-text : (part : Part) (marked : Bool) (raw : RawOption) (following : Bool → List (Result Entry OptFault)) → has_bytes raw ≡ true
    → ((next : Bool) → IsText (options_text (following next))) → IsText (options_text (entry_then part marked raw following))
then-text Padding marked raw following are rest = rest false
then-text Mandatory false raw following are rest = rest true
then-text Mandatory true raw following are rest = refl
then-text Listed marked raw following are rest =
    let entry : Entry = record { place = raw.place; mandatory = marked; kind = raw.kind; body = raw.body } in
    text-append (item_text (Ok entry)) (options_text (following false)) (listed-text entry are) (rest false)

entries-text : (marked : Bool) (raws : List RawOption) → HaveBytes raws → IsText (options_text (marked_entries marked raws))
entries-text false [] are = refl
entries-text true [] are = refl
entries-text marked (raw ∷ rest) are =
    let both = both-true (has_bytes raw) (list_all has_bytes rest) are in
    then-text (part_of raw.kind) marked raw (λ next. marked_entries next rest) both.0 (λ next. entries-text next rest both.1)

area-text : (area : List ℕ) (on_data : Bool) → AreBytes area → IsText (options_text (options_of area on_data))
area-text area on_data are =
    entries-text false (counted_options on_data (raw_options 0 0 area)) (counting-bytes on_data (raw_options 0 0 area) (raw-bytes 0 0 area are))

-- Lines

pub verdict-text : (verdict : Result (Unit {0}) SumFault) → IsText (sum_name verdict)
verdict-text (Ok done) = refl
verdict-text (Err Wrong) = refl
verdict-text (Err CoverageTooLarge) = refl

sum-text : (there : DatagramParts) → IsText (sum_text there)
sum-text there =
    either IsText there.whole (sum_name (checked there.pseudo there.bytes)) (codes "unknown") (verdict-text (checked there.pseudo there.bytes)) refl

-- text, and a newline after it
pub record IsTextLine (line : List ℕ) : Type 0 where
  pub front : List ℕ
  pub same : line ≡ front ++ codes "\n"
  pub text : IsText front

in-front : (piece line : List ℕ) → IsText piece → IsTextLine line → IsTextLine (piece ++ line)
in-front piece line are is = record {
  front = piece ++ is.front;
  same = ap (λ (following : List ℕ). piece ++ following) is.same ∙ sym (append_assoc piece is.front (codes "\n"));
  text = text-append piece is.front are is.text;
}

rest-line : (there : DatagramParts) (packet : Parts) → AreBytes packet.options → IsTextLine (rest_text there packet)
rest-line there packet are =
    let on_data : Bool = is_data (packet_type packet.header.kind) in
    let options : List ℕ = options_text (options_of packet.options on_data) in
    let size : List ℕ = decimal (length packet.payload) in
    record {
      front = options ++ codes " data " ++ size ++ sum_text there;
      same = refl;
      text = text-append (options ++ codes " data " ++ size) (sum_text there)
          (numbers options (codes " data ") (length packet.payload) (area-text packet.options on_data are) refl) (sum-text there);
    }

pub packet-line : (entry : RecordParts) (there : DatagramParts) (packet : Parts) (flow : ℕ) → HasByteAddresses there.pseudo → AreBytes packet.options
    → IsTextLine (packet_line entry there packet flow)
packet-line entry there packet flow addresses options =
    let header : Header = packet.header in
    let sender : List ℕ = stamp_text entry ++ sender_text there header.from flow in
    let receiver : List ℕ = sender ++ receiver_text there header.to in
    in-front (receiver ++ header_text header) (rest_text there packet)
    (text-append receiver (header_text header)
    (text-append sender (receiver_text there header.to)
    (text-append (stamp_text entry) (sender_text there header.from flow) (stamp-text entry) (sender-text there header.from flow addresses))
    (receiver-text there header.to addresses))
    (header-text header))
    (rest-line there packet options)
