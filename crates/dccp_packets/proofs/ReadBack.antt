-- What is spelled is read again: each field in its width, so a header whose numbers fit as it was.
use Rattle.std.proofs.Common.{◌≡◌, ℕ, ◌+◌, ◌-◌, ◌*◌, ◌/◌, ◌%◌, ◌≤◌, ◌^◌, Bool, true, false, IsTrue, nat_lt, if◌then◌else◌, List, ◌∷◌, ◌++◌, length, drop, take, slice_range, ◌&&◌, Some, Ok, refl, sym, ap, ◌∙◌, arith, ◌==◌, mod-eq_of_lt}
use Rattle.std.proofs.lemmas.List.{length-append, drop-drop, take_at, drop_at}
use Rattle.std.proofs.lemmas.Bool.{false≢true, and_parts, ltb-true}
use Rattle.byteorder.specs.Endian.{big_bytes}
use Rattle.byteorder.specs.Numbers.{big_from-bytes}
use Rattle.dccp_packets.specs.declared.header.PacketType.{PacketType}
use Rattle.dccp_packets.specs.declared.header.PacketType.TheVariants as types
use Rattle.dccp_packets.specs.declared.header.Number.{Number}
use Rattle.dccp_packets.specs.declared.header.Number.TheVariants.{Long, Short}
use Rattle.dccp_packets.specs.declared.header.Kind.{Kind}
use Rattle.dccp_packets.specs.declared.header.Kind.TheVariants.{Request, Response, Data, Ack, DataAck, CloseReq, Close, Reset, Sync, SyncAck}
use Rattle.dccp_packets.specs.declared.header.Header.{Header}
use Rattle.dccp_packets.specs.Grammar.{NumberFits, KindFits, HeaderFits, type_of, code_of, is_long, has_form, has_forms, is_valid, packet_type, header_length, number_at, data_offset_bytes, number_in, kind_of, header_of, decoded, number_bytes, kind_bytes, common_bytes, header_bytes, padded, spelling}
use Rattle.dccp_packets.specs.Kinds.{ack_of}
use Rattle.dccp_packets.specs.Widths.{number_in_width, kind_in_widths, in_widths, HasDetail}
use Rattle.dccp_packets.proofs.Pieces.{same_response, same_reset, same_header, same_parts, decoded_ok}
use Rattle.dccp_packets.proofs.Lengths.{forms_of_valid, detail_of_fits, length-header_bytes, shortest, offset_in_words}

-- the sequence number, after the common bytes
number_again : (number : Number) (kind_part : List ℕ) (h : Header) (words : ℕ) (rest : List ℕ)
    → number_in (is_long number) (common_bytes h words ++ ((number_bytes number ++ kind_part) ++ rest)) ≡ number_in_width number
number_again (Long n) kind_part h words rest = ap Long (big_from-bytes 6 n (kind_part ++ rest))
number_again (Short n) kind_part h words rest = ap Short (big_from-bytes 3 n (kind_part ++ rest))

-- what the type alone carries, after the common bytes and the sequence number
kind_again : (number : Number) (kind : Kind) → HasDetail kind → has_forms (is_long number) kind ≡ true → (h : Header) (words : ℕ) (rest : List ℕ)
    → kind_of (packet_type kind) (is_long number) (common_bytes h words ++ ((number_bytes number ++ kind_bytes kind) ++ rest)) ≡ kind_in_widths kind
kind_again (Long n) (Request service) detailed form h words rest = ap Request (big_from-bytes 4 service rest)
kind_again (Long n) (Response ack service) detailed form h words rest =
    same_response (big_from-bytes 6 ack (big_bytes 4 service ++ rest)) (big_from-bytes 4 service rest)
kind_again (Long n) Data detailed form h words rest = refl
kind_again (Long n) (Ack (Long ack)) detailed form h words rest = ap (λ x. Ack (Long x)) (big_from-bytes 6 ack rest)
kind_again (Long n) (DataAck (Long ack)) detailed form h words rest = ap (λ x. DataAck (Long x)) (big_from-bytes 6 ack rest)
kind_again (Long n) (CloseReq ack) detailed form h words rest = ap CloseReq (big_from-bytes 6 ack rest)
kind_again (Long n) (Close ack) detailed form h words rest = ap Close (big_from-bytes 6 ack rest)
kind_again (Long n) (Reset ack code detail) detailed form h words rest =
    same_reset (big_from-bytes 6 ack (code ∷ (detail ++ rest))) refl (take_at detail rest 3 detailed)
kind_again (Long n) (Sync ack) detailed form h words rest = ap Sync (big_from-bytes 6 ack rest)
kind_again (Long n) (SyncAck ack) detailed form h words rest = ap SyncAck (big_from-bytes 6 ack rest)
kind_again (Short n) Data detailed form h words rest = refl
kind_again (Short n) (Ack (Short ack)) detailed form h words rest = ap (λ x. Ack (Short x)) (big_from-bytes 3 ack rest)
kind_again (Short n) (DataAck (Short ack)) detailed form h words rest = ap (λ x. DataAck (Short x)) (big_from-bytes 3 ack rest)
kind_again (Long n) _ detailed form h words rest = absurd (false≢true form)
kind_again (Short n) _ detailed form h words rest = absurd (false≢true form)

-- the type, above X
type_again : (kind : PacketType) (long : Bool) → type_of ((2 * code_of kind + (if long then 1 else 0)) / 2 % 16) ≡ Some kind
type_again types.Request true = refl
type_again types.Request false = refl
type_again _ true = refl
type_again _ false = refl

-- X
x_again : (code : ℕ) (long : Bool) → ((2 * code + (if long then 1 else 0)) % 2 == 1) ≡ long
x_again code true = let odd : (2 * code + 1) % 2 ≡ 1 = omega arith in ap (λ n. n == 1) odd
x_again code false = let even : (2 * code + 0) % 2 ≡ 0 = omega arith in ap (λ n. n == 1) even

-- a type that may not carry short numbers is not valid with them
form_again : (long : Bool) (kind : Kind) → has_forms long kind ≡ true → has_form long (packet_type kind) ≡ true
form_again long Data form = refl
form_again long (Ack ack) form = refl
form_again long (DataAck ack) form = refl
form_again long _ form = form

-- the fields of a header, from the front of its spelling
header_again : (h : Header) (words : ℕ) (rest : List ℕ) → HasDetail h.kind → IsTrue (is_valid h)
    → header_of (packet_type h.kind) (is_long h.number) (header_bytes h words ++ rest) ≡ in_widths h
header_again h words rest detailed valid =
    let small = and_parts (nat_lt h.ccval 16) (nat_lt h.cscov 16)
    (and_parts (nat_lt h.ccval 16 && nat_lt h.cscov 16) (has_forms (is_long h.number) h.kind) valid).0 in
    let low = ltb-true h.ccval 16 small.0 in
    let cover = ltb-true h.cscov 16 small.1 in
    let bytes = header_bytes h words ++ rest in
    let from : number_at 0 2 bytes ≡ h.from % 2 ^ 16 = big_from-bytes 2 h.from (drop 2 bytes) in
    let to : number_at 2 2 bytes ≡ h.to % 2 ^ 16 = big_from-bytes 2 h.to (drop 4 bytes) in
    let ccval : (16 * h.ccval + h.cscov) / 16 ≡ h.ccval = omega (arith, low, cover) in
    let cscov : (16 * h.ccval + h.cscov) % 16 ≡ h.cscov = omega (arith, low, cover) in
    let checksum : number_at 6 2 bytes ≡ h.checksum % 2 ^ 16 = big_from-bytes 2 h.checksum (drop 8 bytes) in
    let number : number_in (is_long h.number) bytes ≡ number_in_width h.number =
    number_again h.number (kind_bytes h.kind) h words rest in
    let kind : kind_of (packet_type h.kind) (is_long h.number) bytes ≡ kind_in_widths h.kind =
    kind_again h.number h.kind detailed (forms_of_valid h valid) h words rest in
    same_header from to ccval cscov checksum number kind

-- what is spelled is read, each field in its width
pub reads_in_widths : (h : Header) (o d : List ℕ) → HasDetail h.kind → IsTrue (is_valid h) → header_length h + length (padded o) ≤ 1020
    → decoded (spelling h o d) ≡ Ok (record { header = in_widths h; options = padded o; payload = d })
reads_in_widths h o d detailed valid room =
    let fixed = header_length h in
    let filled = length (padded o) in
    let words = (fixed + filled) / 4 in
    let bytes = spelling h o d in
    let enough = shortest (is_long h.number) (packet_type h.kind) in
    let offset : data_offset_bytes bytes ≡ fixed + filled = offset_in_words h o in
    let front = length-header_bytes h words detailed valid in
    let all : length bytes ≡ length (header_bytes h words) + length (padded o ++ d) = length-append (header_bytes h words) (padded o ++ d) in
    let following = length-append (padded o) d in
    let after : drop fixed bytes ≡ padded o ++ d = drop_at (header_bytes h words) (padded o ++ d) fixed front in
    let header = header_again h words (padded o ++ d) detailed valid in
    let options : slice_range bytes fixed (data_offset_bytes bytes) ≡ padded o =
    ap (λ n. take (n - fixed) (drop fixed bytes)) offset ∙ ap (take (fixed + filled - fixed)) after
    ∙ take_at (padded o) d (fixed + filled - fixed) (omega arith) in
    let payload : drop (data_offset_bytes bytes) bytes ≡ d =
    ap (λ n. drop n bytes) offset ∙ sym (drop-drop filled fixed bytes) ∙ ap (drop filled) after ∙ drop_at (padded o) d filled refl in
    decoded_ok (packet_type h.kind) (is_long h.number) bytes
    (omega (arith, all, front, enough))
    (type_again (packet_type h.kind) (is_long h.number))
    (x_again (code_of (packet_type h.kind)) (is_long h.number))
    (omega (arith, offset))
    (omega (arith, offset, all, front, following))
    (form_again (is_long h.number) h.kind (forms_of_valid h valid))
    ∙ ap Ok (same_parts header options payload)

-- numbers that fit are not cut
number-kept : (number : Number) → NumberFits number → number_in_width number ≡ number
number-kept (Long n) fits = ap Long (mod-eq_of_lt fits)
number-kept (Short n) fits = ap Short (mod-eq_of_lt fits)

kind-kept : (kind : Kind) → KindFits kind → kind_in_widths kind ≡ kind
kind-kept (Request service) fits = ap Request (mod-eq_of_lt fits)
kind-kept (Response ack service) fits = same_response (mod-eq_of_lt fits.0) (mod-eq_of_lt fits.1)
kind-kept Data fits = refl
kind-kept (Ack ack) fits = ap Ack (number-kept ack fits)
kind-kept (DataAck ack) fits = ap DataAck (number-kept ack fits)
kind-kept (CloseReq ack) fits = ap CloseReq (mod-eq_of_lt fits)
kind-kept (Close ack) fits = ap Close (mod-eq_of_lt fits)
kind-kept (Reset ack code detail) fits = same_reset (mod-eq_of_lt fits.0) refl refl
kind-kept (Sync ack) fits = ap Sync (mod-eq_of_lt fits)
kind-kept (SyncAck ack) fits = ap SyncAck (mod-eq_of_lt fits)

-- nor is the acknowledgement number of a type whose fields fit
pub ack_kept : (kind : Kind) → KindFits kind → ack_of kind ≡ ack_of (kind_in_widths kind)
ack_kept kind fits = ap ack_of (sym (kind-kept kind fits))

-- a header whose fields fit is itself in the widths
pub header-kept : (h : Header) → HeaderFits h → in_widths h ≡ h
header-kept h fits =
    same_header (mod-eq_of_lt fits.from) (mod-eq_of_lt fits.to) refl refl (mod-eq_of_lt fits.checksum) (number-kept h.number fits.number)
    (kind-kept h.kind fits.kind)

pub reads_back : (h : Header) (o d : List ℕ) → HeaderFits h → IsTrue (is_valid h) → header_length h + length (padded o) ≤ 1020
    → decoded (spelling h o d) ≡ Ok (record { header = h; options = padded o; payload = d })
reads_back h o d fits valid room =
    reads_in_widths h o d (detail_of_fits h.kind fits.kind) valid room ∙ ap Ok (same_parts (header-kept h fits) refl refl)
