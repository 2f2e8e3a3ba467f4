-- Both lines of each packet that `frames` finds in bytes are read back.
use Rattle.std.proofs.Common.{◌≡◌, refl, ap, ◌∙◌, subst, ℕ, zero, suc, ◌+◌, ◌-◌, ◌≤◌, ◌==◌, nat_lt, Bool, true, false, if◌then◌else◌, List, [], ◌∷◌, ◌++◌, length, drop, take, All, Option, None, Some, Result, Ok, Err}
use Rattle.std.proofs.lemmas.List.Elements.{All-cons, All-nil}
use Rattle.std.specs.Prelude.{codes}
use Rattle.byteorder.specs.Endian.{big_bytes}
use Rattle.hex.specs.Hex.{IsBytes}
use Rattle.schedule_text.specs.Frames.{read_frame}
use Rattle.dccp_packets.specs.Grammar.{Parts, decoded, number_at, packet_type}
use Rattle.dccp_packets.specs.Kinds.{has_ack}
use Rattle.dccp_packets.specs.declared.header.Header.{Header}
use Rattle.dccp_packets.specs.declared.reading.Malformed.{Malformed}
use Rattle.capture_reader.specs.Records.{RecordParts}
use Rattle.packet_show.specs.Flows.{AddressAndPort, Flow, flow_number, flow_of, from_end, with_flow}
use Rattle.bridge_pictures.specs.Walk.{record_after_link, side_from}
use Rattle.packet_show.specs.Network.{DatagramParts, after_v4, after_v6, in_ip, in_v4, in_v6, is_v4, is_v6, v4_header, v4_total, v6_payload}
use Rattle.bridge_records.specs.Pieces.{Goes, Judgement, Piece, PieceNext, PieceWork, PieceWrong, Stops, PiecesResult, by_next_piece, most_piece_bytes, next_piece, pieces_from, taken_by}
use Rattle.bridge_records.specs.declared.pieces.fault.PieceFault.TheVariants as why
use Rattle.bridge_records.specs.Reading.{FileState, bytes_held, file_judged, next_length}
use Rattle.bridge_records.specs.Recording.{RecordStep, RecordsState, by_judged, first_reading, numbered_entry, records_work}
use Rattle.bridge_records.specs.declared.content.Content.{Content}
use Rattle.bridge_records.specs.declared.content.Content.TheVariants as found
use Rattle.bridge_links.specs.Links.{bytes_at_start, captured_ip, ip_bytes, ip_start}
use Rattle.bridge_links.specs.Extensions.{holds_dccp, is_extended, plain_by, plain_ip, upper_of, without_extensions}
use Rattle.bridge_links.specs.declared.extensions.Upper.{Upper}
use Rattle.dccp_io.specs.Counts.{one_more}
use Rattle.world_events.specs.declared.event.Side.{Side}
use Rattle.bridge_command.specs.Framing.{FlowPacket, IsReadBack, by_carried, by_decoded, by_direction, by_number, by_sender, first_framing, flow_packet, frame_said, framed_record, frames_pieces, frames_work, goes_to, known_by, passed_over}
use Rattle.bridge_command.specs.FrameLines.{comment_line, packet_frame_words}
use Rattle.bridge_command.specs.Mapping.{frame_for, moved_frame, moved_header}
use Rattle.bridge_command.specs.declared.frames.framing.FlowSearch.{FlowSearch}
use Rattle.bridge_command.specs.declared.frames.framing.KnownFlow.{KnownFlow}
use Rattle.bridge_command.specs.declared.frames.mapping.NoFrame.{NoFrame}
use Rattle.bridge_command.specs.declared.frames.mapping.NoFrame.TheVariants as none
use Rattle.bridge_command.specs.declared.frames.mapping.UsualEnd.{UsualEnd}
use Rattle.bridge_command.proofs.FrameBytes.{AreBytes, DecodesToBytes, IsOfBytes, all-bytes, bytes-append, bytes-drop, bytes-part, decoded-are, each-byte, eight-bytes, either, moved-fields, number-are, other-bytes, spelled-are}
use Rattle.bridge_command.proofs.FrameReadingBack.{comment-ends, comment-read, is-frame, none-read, sealed-read}
use Rattle.bridge_command.proofs.Texts.{HasByteAddresses, packet-line}

-- Frames

-- the words of a frame, or why there is none, are read as what they say
abbrev IsFrameRead : Result (List ℕ) NoFrame → Type 0
IsFrameRead frame = read_frame (packet_frame_words frame) ≡ Ok (frame_said frame)

words-read : (end : UsualEnd) (initial : ℕ) (packet : Parts) → IsOfBytes packet → (frame : Result (List ℕ) NoFrame) → moved_frame end initial packet ≡ frame
    → IsFrameRead frame
words-read end initial packet are (Ok bytes) is =
    let h : Header = moved_header end initial packet.header in
    let frame = is-frame h packet.options packet.payload bytes is in
    let spelled = spelled-are h packet.options packet.payload frame.header are.ccval are.cscov
    (moved-fields end initial packet.header.kind are.kind) are.options are.payload in
    sealed-read bytes (each-byte bytes (subst AreBytes frame.same spelled))
    (subst (λ (b : List ℕ). 8 ≤ length b) frame.same (eight-bytes h packet.options packet.payload))
    (subst (λ (b : List ℕ). length b ≤ 2044) frame.same frame.whole)
words-read end initial packet are (Err reason) is = none-read reason

moved-read : (end : UsualEnd) (initial : ℕ) (packet : Parts) → IsOfBytes packet → IsFrameRead (moved_frame end initial packet)
moved-read end initial packet are = words-read end initial packet are (moved_frame end initial packet) refl

frame-read : (end : UsualEnd) (initial : Option ℕ) (packet : Parts) → IsOfBytes packet → IsFrameRead (frame_for end initial packet)
frame-read end (Some initial) packet are = moved-read end initial packet are
frame-read end None packet are =
    either IsFrameRead (has_ack (packet_type packet.header.kind)) (Err none.NumberUnknown) (moved_frame end end.iss packet)
    (none-read none.NumberUnknown) (moved-read end end.iss packet are)

-- a packet of bytes has lines that are read back
packet-reads : (s : FlowSearch) (known : KnownFlow) (entry : RecordParts) (there : DatagramParts) (packet : Parts) → HasByteAddresses there.pseudo → IsOfBytes packet
    → IsReadBack (flow_packet s known entry there packet)
packet-reads s known entry there packet addresses are =
    let line = packet-line entry there packet s.flow addresses are.options in
    record {
      comment = take 4096 (codes "# " ++ line.front);
      is_line = ap comment_line line.same ∙ comment-ends line.front;
      nothing = comment-read line.front line.text;
      frame = frame-read s.end known.initial packet are;
    }

-- Records

-- what is done, if anything is, is such a packet
abbrev IsDoneBack : Option FlowPacket → Type 0
IsDoneBack None = Unit {0}
IsDoneBack (Some packet) = IsReadBack packet

abbrev IsPassedBack : RecordStep FlowPacket FlowSearch → Type 0
IsPassedBack passed = IsDoneBack passed.deed

direction-reads : (s : FlowSearch) (known : KnownFlow) (entry : RecordParts) (there : DatagramParts) (packet : Parts) (goes : Bool) → HasByteAddresses there.pseudo
    → IsOfBytes packet
    → IsPassedBack (by_direction s known entry there packet goes)
direction-reads s known entry there packet true addresses are = packet-reads s known entry there packet addresses are
direction-reads s known entry there packet false addresses are = tt

number-reads : (s : FlowSearch) (number : ℕ) (entry : RecordParts) (there : DatagramParts) (packet : Parts) → HasByteAddresses there.pseudo → IsOfBytes packet
    → IsPassedBack (by_number s number entry there packet)
unfolding by_sender
number-reads s number entry there packet addresses are =
    let from : AddressAndPort = from_end there.pseudo packet.header.from in
    let known : KnownFlow = known_by s.known from (packet_type packet.header.kind) in
    either IsPassedBack (number == s.flow) (by_sender s entry there packet from) (passed_over s)
    (direction-reads s known entry there packet (goes_to s.side (side_from known.ends from)) addresses are) tt

decoded-reads : (s : FlowSearch) (entry : RecordParts) (there : DatagramParts) (packet : Result Parts Malformed) → HasByteAddresses there.pseudo
    → DecodesToBytes packet
    → IsPassedBack (by_decoded s entry there packet)
decoded-reads s entry there (Ok packet) addresses are =
    let flow : Flow = flow_of there.pseudo packet.header.from packet.header.to in
    number-reads (record s { flows = with_flow flow s.flows }) (flow_number flow s.flows) entry there packet addresses are
decoded-reads s entry there (Err reason) addresses are = tt

-- the bytes of a datagram and its addresses are bytes
record IsByteDatagram (there : DatagramParts) : Type 0 where
  bytes : AreBytes there.bytes
  addresses : HasByteAddresses there.pseudo

abbrev IsByteCarried : Option DatagramParts → Type 0
IsByteCarried None = Unit {0}
IsByteCarried (Some there) = IsByteDatagram there

v4-carried : (bytes : List ℕ) → AreBytes bytes → IsByteCarried (in_v4 bytes)
v4-carried bytes are =
    let there : IsByteDatagram (after_v4 bytes) =
    record { bytes = bytes-part (v4_total bytes - v4_header bytes) (v4_header bytes) bytes are; addresses = tt } in
    either IsByteCarried (is_v4 bytes) (Some (after_v4 bytes)) None there tt

v6-carried : (bytes : List ℕ) → AreBytes bytes → IsByteCarried (in_v6 bytes)
v6-carried bytes are =
    let there : IsByteDatagram (after_v6 bytes) =
    record { bytes = bytes-part (v6_payload bytes) 40 bytes are; addresses = (bytes-part 16 8 bytes are, bytes-part 16 24 bytes are) } in
    either IsByteCarried (is_v6 bytes) (Some (after_v6 bytes)) None there tt

ip-carried : (bytes : List ℕ) → AreBytes bytes → IsByteCarried (in_ip bytes)
ip-carried bytes are = either IsByteCarried (is_v4 bytes) (in_v4 bytes) (in_v6 bytes) (v4-carried bytes are) (v6-carried bytes are)

carried-reads : (s : FlowSearch) (entry : RecordParts) (there : Option DatagramParts) → IsByteCarried there → IsPassedBack (by_carried s entry there)
carried-reads s entry None are = tt
carried-reads s entry (Some there) are = decoded-reads s entry there (decoded there.bytes) are.addresses (decoded-are there.bytes are.bytes)

start-are : (start : Option ℕ) (bytes : List ℕ) → AreBytes bytes → AreBytes (bytes_at_start start bytes)
start-are (Some start) bytes are = bytes-drop start bytes are
start-are None bytes are = refl

-- an IP packet of bytes, without its extension headers
without-are : (upper : Upper) (ip : List ℕ) → AreBytes ip → AreBytes (without_extensions upper ip)
unfolding without_extensions
without-are upper ip are =
    let size : ℕ = number_at 4 2 ip - (upper.place - 40) in
    let two : List ℕ = take 4 ip ++ big_bytes 2 size in
    let three : List ℕ = two ++ (33 ∷ []) in
    let four : List ℕ = three ++ take 17 (drop 7 ip) in
    let five : List ℕ = four ++ take 16 (drop upper.to ip) in
    bytes-append five (drop upper.place ip)
    (bytes-append four (take 16 (drop upper.to ip))
    (bytes-append three (take 17 (drop 7 ip))
    (bytes-append two (33 ∷ []) (bytes-append (take 4 ip) (big_bytes 2 size) (bytes-part 4 0 ip are) (number-are 2 size)) refl)
    (bytes-part 17 7 ip are))
    (bytes-part 16 upper.to ip are))
    (bytes-drop upper.place ip are)

plain-by-are : (upper : Option Upper) (ip : List ℕ) → AreBytes ip → AreBytes (plain_by upper ip)
plain-by-are None ip are = are
plain-by-are (Some upper) ip are = either AreBytes (holds_dccp upper ip) (without_extensions upper ip) ip (without-are upper ip are) are

plain-are : (ip : List ℕ) → AreBytes ip → AreBytes (plain_ip ip)
plain-are ip are = either AreBytes (is_extended ip) (plain_by (upper_of ip) ip) ip (plain-by-are (upper_of ip) ip are) are

-- a record of bytes, after its link's header
record-reads : (s : FlowSearch) (entry : RecordParts) → AreBytes entry.bytes → IsPassedBack (framed_record s (record_after_link entry))
unfolding framed_record
record-reads s entry are =
    carried-reads s (record_after_link entry) (in_ip (ip_bytes entry.link entry.bytes))
    (ip-carried (ip_bytes entry.link entry.bytes)
    (plain-are (captured_ip entry.link entry.bytes) (start-are (ip_start entry.link entry.bytes) entry.bytes are)))

-- Pieces

abbrev Reading : Type 0
Reading = RecordsState FlowSearch

abbrev job : PieceWork FlowPacket Reading
job = records_work frames_work

abbrev IsJudgedBack : Judgement FlowPacket Reading → Type 0
IsJudgedBack (Goes deed next) = IsDoneBack deed
IsJudgedBack (Stops reason) = Unit {0}

judged-reads : (s : Reading) (piece : List ℕ) (judged : Judgement Content FileState) → AreBytes piece → IsJudgedBack (by_judged frames_work s piece judged)
judged-reads s piece (Stops reason) are = tt
judged-reads s piece (Goes None next) are = tt
judged-reads s piece (Goes (Some (found.Begins nanos)) next) are = tt
judged-reads s piece (Goes (Some (found.Holds link head start)) next) are =
    record-reads s.job (numbered_entry (one_more s.records) s.nanos link head (bytes_held head start piece)) (bytes-part head.captured start piece are)

next-reads : (s : Reading) (given : ℕ) (byte : ℕ) (bytes : List ℕ) → AreBytes (byte ∷ bytes)
    → IsJudgedBack (by_next_piece job s (next_piece job s given (byte ∷ bytes)))
next-reads s given byte bytes are =
    let wanted : ℕ = next_length s.file.place in
    let piece : List ℕ = take wanted (byte ∷ bytes) in
    let whole : PieceNext = if nat_lt (length (byte ∷ bytes)) wanted then PieceWrong why.CutShort else Piece piece in
    let judged : IsJudgedBack (by_judged frames_work s piece (file_judged s.file piece)) =
    judged-reads s piece (file_judged s.file piece) (bytes-part wanted 0 (byte ∷ bytes) are) in
    either (λ (next : PieceNext). IsJudgedBack (by_next_piece job s next)) (nat_lt most_piece_bytes (given + wanted)) (PieceWrong why.TooLarge) whole tt
    (either (λ (next : PieceNext). IsJudgedBack (by_next_piece job s next)) (nat_lt (length (byte ∷ bytes)) wanted) (PieceWrong why.CutShort)
    (Piece piece) tt judged)

taken-reads : (s : Reading) (given : ℕ) (judged : Judgement FlowPacket Reading) (rest : Reading → PiecesResult FlowPacket Reading) → IsJudgedBack judged
    → ((next : Reading) → All IsReadBack (rest next).deeds) → All IsReadBack (taken_by s given judged rest).deeds
taken-reads s given (Goes None next) rest back more = more next
taken-reads s given (Goes (Some packet) next) rest back more = All-cons IsReadBack packet (rest next).deeds back (more next)
taken-reads s given (Stops reason) rest back more = All-nil IsReadBack

pieces-read : (skip : ℕ) (s : Reading) (given : ℕ) (bytes : List ℕ) → AreBytes bytes → All IsReadBack (pieces_from job skip s given bytes).deeds
pieces-read skip s given [] are = All-nil IsReadBack
pieces-read (suc skip) s given (byte ∷ bytes) are = pieces-read skip s given bytes (other-bytes byte bytes are)
pieces-read zero s given (byte ∷ bytes) are =
    let wanted : ℕ = next_length s.file.place in
    taken-reads s given (by_next_piece job s (next_piece job s given (byte ∷ bytes)))
    (λ next. pieces_from job (wanted - 1) next (given + wanted) bytes) (next-reads s given byte bytes are)
    (λ next. pieces-read (wanted - 1) next (given + wanted) bytes (other-bytes byte bytes are))

pub packets-read : (flow : ℕ) (side : Side) (input : List ℕ) → IsBytes input → All IsReadBack (frames_pieces flow side input).deeds
packets-read flow side input are = pieces-read 0 (first_reading (first_framing flow side)) 0 input (all-bytes input are)
