-- No number in the object of a record or of a fault is a float.
use Rattle.std.proofs.Common.{◌≡◌, refl, Bool, true, false, not, nat_le, nat_lt, ◌&&◌, ◌||◌, ◌==◌, if◌then◌else◌, List, [], ◌∷◌, length, drop, take, map, slice_index, codes, ℕ, Option, Some, None, Result, Ok, Err, nat_cmp, Ordering, Less, Equal, Greater}
use Rattle.std.specs.Ordering.{match_ordering}
use Rattle.std.specs.Cmp.Lexicographic.{slice_cmp}
use Rattle.hex.specs.Hex.{encode_lower}
use Rattle.serde_json.specs.Data.{Data as Json, Members, array, boolean, member, no_members, number, object, put, string, unsigned}
use Rattle.serde_json.specs.View.{items_of}
use Rattle.serde_json.specs.Written.{has_float, items_have_float, members_have_float}
use Rattle.dccp_options.specs.Grammar.{Entry, options_of}
use Rattle.dccp_options.specs.Kinds as kinds
use Rattle.dccp_options.specs.declared.option.OptFault.{OptFault}
use Rattle.dccp_packets.specs.Grammar.{Parts, is_long, packet_type}
use Rattle.dccp_packets.specs.Kinds.{is_data, value_of}
use Rattle.dccp_packets.specs.declared.header.Header.{Header}
use Rattle.dccp_packets.specs.declared.header.Kind.{Kind}
use Rattle.dccp_packets.specs.declared.header.Kind.TheVariants.{Request, Response, Data, Ack, DataAck, CloseReq, Close, Reset, Sync, SyncAck}
use Rattle.dccp_packets.specs.declared.header.Number.{Number}
use Rattle.dccp_packets.specs.declared.header.Number.TheVariants.{Long}
use Rattle.capture_reader.specs.Records.{RecordParts}
use Rattle.packet_show.specs.Names.{option_name, type_name}
use Rattle.packet_show.specs.Network.{DatagramParts}
use Rattle.tool_text.specs.Names.{malformed_name}
use Rattle.bridge_records.specs.declared.pieces.fault.PieceFault.{PieceFault}
use Rattle.bridge_links.specs.Links.{ip_bytes}
use Rattle.bridge_command.specs.Judging.{HoldsMalformed, HoldsNone, HoldsPacket, RecordReading, judged_ip}
use Rattle.bridge_command.specs.Members.{with_list_named, with_number_named, with_text_named, with_truth_named}
use Rattle.bridge_command.specs.Objects.{destination_text, ecn_of, hops_of, nanoseconds_of, record_members, source_text, verdict_name, with_ack, with_code, with_header_fields, with_ip, with_judged, with_kind, with_options, with_packet_fields, with_payload, with_ports, with_rest, with_service, with_stamp}
use Rattle.bridge_command.specs.OptionObjects.{byte_values, drop_block, drop_blocks, feature_values, number_after, number_name, option_members, option_values, vector_run, vector_runs, with_bytes, with_drops, with_echo, with_feature, with_fields, with_number_or_bytes, with_vector}
use Rattle.bridge_command.specs.Skips.{skip_name}
use Rattle.bridge_command.specs.Telling.{fault_members}

neither : (a b : Bool) → a ≡ false → b ≡ false → (a || b) ≡ false
neither false b one other = other
neither true b one other = cc one

first : (a b : Bool) → (a || b) ≡ false → a ≡ false
first false b none = refl
first true b none = cc none

second : (a b : Bool) → (a || b) ≡ false → b ≡ false
second false b none = none
second true b none = cc none

pub plain_put : (k : List ℕ) (d : Json) (ms : Members) → has_float d ≡ false → members_have_float ms ≡ false
    → members_have_float (put k d ms) ≡ false
plain_put k d no_members plain rest = neither (has_float d) false plain refl
plain_put k d (member l e ms) plain rest = by (slice_cmp nat_cmp k l) (plain_put k d ms plain (second (has_float e) (members_have_float ms) rest)) where
  by : (o : Ordering) → members_have_float (put k d ms) ≡ false
      → members_have_float (match_ordering o (member k d (member l e ms)) (member l d ms) (member l e (put k d ms))) ≡ false
  by Less later = neither (has_float d) (members_have_float (member l e ms)) plain rest
  by Equal later = neither (has_float d) (members_have_float ms) plain (second (has_float e) (members_have_float ms) rest)
  by Greater later = neither (has_float e) (members_have_float (put k d ms)) (first (has_float e) (members_have_float ms) rest) later

-- none of the members is a float, nor holds one
abbrev IsPlain : Members → Type 0
IsPlain ms = members_have_float ms ≡ false

-- no list does
abbrev ArePlain : List Json → Type 0
ArePlain items = items_have_float (items_of items) ≡ false

-- what is put keeps that
record Keeps (f : Members → Members) : Type 0 where
  kept : (ms : Members) → IsPlain ms → IsPlain (f ms)

-- one after the other
after : {f g : Members → Members} → Keeps f → Keeps g → Keeps (λ ms. g (f ms))
after {f} {g} one other = record { kept = λ ms plain. other.kept (f ms) (one.kept ms plain) }

-- nothing is put
nothing : Keeps (λ ms. ms)
nothing = record { kept = λ ms plain. plain }

numbered : (name : List ℕ) (n : ℕ) → Keeps (with_number_named name n)
numbered name n = record { kept = λ ms plain. plain_put name (number (unsigned n)) ms refl plain }

worded : (name text : List ℕ) → Keeps (with_text_named name text)
worded name text = record { kept = λ ms plain. plain_put name (string text) ms refl plain }

truth : (name : List ℕ) (is : Bool) → Keeps (with_truth_named name is)
truth name is = record { kept = λ ms plain. plain_put name (boolean is) ms refl plain }

listing : (name : List ℕ) (items : List Json) → ArePlain items → Keeps (with_list_named name items)
listing name items are = record { kept = λ ms plain. plain_put name (array (items_of items)) ms are plain }

-- either of two
chosen : (test : Bool) {f g : Members → Members} → Keeps f → Keeps g → Keeps (λ ms. if test then f ms else g ms)
chosen true one other = record { kept = λ ms plain. one.kept ms plain }
chosen false one other = record { kept = λ ms plain. other.kept ms plain }

-- objects that are plain, in a list
objects-plain : (f : ℕ → Members) → ((byte : ℕ) → IsPlain (f byte)) → (bytes : List ℕ) → ArePlain (map (λ byte. object (f byte)) bytes)
objects-plain f are [] = refl
objects-plain f are (byte ∷ bytes) =
    neither (members_have_float (f byte)) (items_have_float (items_of (map (λ b. object (f b)) bytes))) (are byte) (objects-plain f are bytes)

-- Options

bytes-plain : (bytes : List ℕ) → ArePlain (byte_values bytes)
bytes-plain [] = refl
bytes-plain (byte ∷ bytes) = bytes-plain bytes

either-list : (test : Bool) (a b : List Json) → ArePlain a → ArePlain b → ArePlain (if test then a else b)
either-list true a b one other = one
either-list false a b one other = other

values-plain : (feature : ℕ) (values : List ℕ) → ArePlain (feature_values feature values)
values-plain feature values =
    either-list ((feature == 3 || feature == 5) && nat_le 1 (length values)) (number (unsigned (number_after 0 values)) ∷ []) (byte_values values) refl
    (bytes-plain values)

bytes-kept : (bytes : List ℕ) → Keeps (with_bytes bytes)
bytes-kept [] = nothing
bytes-kept (byte ∷ bytes) = worded (codes "bytes") (encode_lower (byte ∷ bytes))

feature-kept : (body : List ℕ) → Keeps (with_feature body)
feature-kept [] = nothing
feature-kept (feature ∷ values) =
    after (numbered (codes "feature") feature) (listing (codes "values") (feature_values feature values) (values-plain feature values))

run-plain : (byte : ℕ) → IsPlain (vector_run byte)
run-plain byte = refl

vector-kept : (nonce : ℕ) (body : List ℕ) → Keeps (with_vector nonce body)
vector-kept nonce body = after (numbered (codes "nonce") nonce) (listing (codes "runs") (vector_runs body) (objects-plain vector_run run-plain body))

block-by : (byte : ℕ) (whole : Bool) → nat_lt byte 128 ≡ whole → IsPlain (drop_block byte)
block-by byte true is = rw is refl
block-by byte false is = rw is refl

block-plain : (byte : ℕ) → IsPlain (drop_block byte)
block-plain byte = block-by byte (nat_lt byte 128) refl

drops-kept : (body : List ℕ) → Keeps (with_drops body)
drops-kept body = listing (codes "blocks") (drop_blocks body) (objects-plain drop_block block-plain body)

echo-kept : (body : List ℕ) → Keeps (with_echo body)
echo-kept body = after (numbered (codes "timestamp") (number_after 0 (take 4 body))) (numbered (codes "elapsed") (number_after 0 (drop 4 body)))

number-kept : (name : Option (List ℕ)) (body : List ℕ) → Keeps (with_number_or_bytes name body)
number-kept (Some name) body = numbered name (number_after 0 body)
number-kept None body = bytes-kept body

fields-kept : (kind : ℕ) (body : List ℕ) → Keeps (with_fields kind body)
unfolding with_fields
fields-kept kind body =
    chosen (nat_le kinds.change_l kind && nat_le kind kinds.confirm_r) (feature-kept body)
    (chosen (kind == kinds.ack_vector_0) (vector-kept 0 body)
    (chosen (kind == kinds.ack_vector_1) (vector-kept 1 body)
    (chosen (kind == kinds.data_dropped) (drops-kept body)
    (chosen (kind == kinds.timestamp_echo && (length body == 6 || length body == 8)) (echo-kept body)
    (number-kept (number_name kind (length body)) body)))))

option-plain : (item : Result Entry OptFault) → IsPlain (option_members item)
unfolding option_members
option-plain (Ok o) =
    (after (after (numbered (codes "type") o.kind) (after (worded (codes "name") (option_name o.kind)) (truth (codes "mandatory") o.mandatory)))
    (fields-kept o.kind o.body)).kept no_members refl
option-plain (Err _) = refl

options-plain : (items : List (Result Entry OptFault)) → ArePlain (option_values items)
options-plain [] = refl
options-plain (item ∷ items) =
    neither (members_have_float (option_members item)) (items_have_float (items_of (option_values items))) (option-plain item) (options-plain items)

-- Records

stamp-kept : (e : RecordParts) → Keeps (with_stamp e)
stamp-kept e =
    after (numbered (codes "record") e.number) (after (numbered (codes "seconds") e.seconds)
    (after (numbered (codes "nanoseconds") (nanoseconds_of e.nanos e.fraction)) (after (numbered (codes "link") e.link)
    (after (numbered (codes "length") e.original) (numbered (codes "captured") (length e.bytes))))))

ip-kept : (there : DatagramParts) (ip : List ℕ) → Keeps (with_ip there ip)
ip-kept there ip =
    after (numbered (codes "ttl") (hops_of there.pseudo ip)) (after (numbered (codes "ecn") (ecn_of there.pseudo ip))
    (after (worded (codes "source") (source_text there.pseudo)) (worded (codes "destination") (destination_text there.pseudo))))

ports-kept : (header : Header) → Keeps (with_ports header)
ports-kept header = after (numbered (codes "source_port") header.from) (numbered (codes "destination_port") header.to)

header-kept : (header : Header) → Keeps (with_header_fields header)
header-kept header =
    after (worded (codes "type") (type_name (packet_type header.kind))) (after (numbered (codes "sequence") (value_of header.number))
    (after (truth (codes "short") (not (is_long header.number))) (after (numbered (codes "ccval") header.ccval)
    (after (numbered (codes "cscov") header.cscov) (numbered (codes "checksum") header.checksum)))))

code-kept : (code : ℕ) (detail : List ℕ) → Keeps (with_code code detail)
code-kept code detail =
    after (numbered (codes "reset_code") code) (after (numbered (codes "data_1") (slice_index detail 0))
    (after (numbered (codes "data_2") (slice_index detail 1)) (numbered (codes "data_3") (slice_index detail 2))))

ack-kept : (ack : Number) → Keeps (with_ack ack)
ack-kept ack = numbered (codes "acknowledgement") (value_of ack)

service-kept : (service : ℕ) → Keeps (with_service service)
service-kept service = numbered (codes "service_code") service

kind-kept : (kind : Kind) → Keeps (with_kind kind)
kind-kept (Request service) = service-kept service
kind-kept (Response ack service) = after (ack-kept (Long ack)) (service-kept service)
kind-kept Data = nothing
kind-kept (Ack ack) = ack-kept ack
kind-kept (DataAck ack) = ack-kept ack
kind-kept (CloseReq ack) = ack-kept (Long ack)
kind-kept (Close ack) = ack-kept (Long ack)
kind-kept (Reset ack code detail) = after (ack-kept (Long ack)) (code-kept code detail)
kind-kept (Sync ack) = ack-kept (Long ack)
kind-kept (SyncAck ack) = ack-kept (Long ack)

options-kept : (packet : Parts) → Keeps (with_options packet)
options-kept packet =
    let items : List (Result Entry OptFault) = options_of packet.options (is_data (packet_type packet.header.kind)) in
    listing (codes "options") (option_values items) (options-plain items)

rest-kept : (there : DatagramParts) (packet : Parts) → Keeps (with_rest there packet)
rest-kept there packet = after (numbered (codes "data") (length packet.payload)) (worded (codes "verdict") (verdict_name there))

payload-kept : (payload : Bool) (bytes : List ℕ) → Keeps (with_payload payload bytes)
payload-kept true bytes = worded (codes "payload") (encode_lower bytes)
payload-kept false bytes = nothing

packet-kept : (payload : Bool) (there : DatagramParts) (packet : Parts) → Keeps (with_packet_fields payload there packet)
packet-kept payload there packet =
    after (ports-kept packet.header) (after (header-kept packet.header) (after (kind-kept packet.header.kind)
    (after (options-kept packet) (after (rest-kept there packet) (payload-kept payload packet.payload)))))

judged-kept : (payload : Bool) (flow : ℕ) (ip : List ℕ) (judged : RecordReading) → Keeps (with_judged payload flow ip judged)
judged-kept payload flow ip (HoldsPacket there packet) =
    after (ip-kept there ip) (after (numbered (codes "flow") flow) (packet-kept payload there packet))
judged-kept payload flow ip (HoldsMalformed there why) = after (ip-kept there ip) (worded (codes "malformed") (malformed_name why))
judged-kept payload flow ip (HoldsNone why) = worded (codes "skipped") (skip_name why)

pub plain_record : (payload : Bool) (flow : ℕ) (e : RecordParts) → members_have_float (record_members payload flow e) ≡ false
unfolding record_members
plain_record payload flow e =
    (after (stamp-kept e) (judged-kept payload flow (ip_bytes e.link e.bytes) (judged_ip (ip_bytes e.link e.bytes)))).kept no_members refl

pub plain_fault : (records : ℕ) (fault : PieceFault) → members_have_float (fault_members records fault) ≡ false
unfolding fault_members
plain_fault records fault = refl
