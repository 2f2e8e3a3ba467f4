-- The lengths of what packets are spelled with.
use Rattle.std.proofs.Common.{◌≡◌, ℕ, ◌+◌, ◌-◌, ◌*◌, ◌/◌, ◌%◌, ◌≤◌, Bool, true, false, IsTrue, List, ◌++◌, length, replicate, refl, arith, nat_lt, ◌&&◌}
use Rattle.std.proofs.lemmas.List.{length-append, length-replicate}
use Rattle.std.proofs.lemmas.Bool.{false≢true, and_parts}
use Rattle.dccp_packets.specs.declared.header.PacketType.{PacketType}
use Rattle.dccp_packets.specs.declared.header.PacketType.TheVariants as types
use Rattle.dccp_packets.specs.declared.header.Number.{Number}
use Rattle.dccp_packets.specs.declared.header.Number.TheVariants.{Long, Short}
use Rattle.dccp_packets.specs.declared.header.Kind.{Kind}
use Rattle.dccp_packets.specs.declared.header.Kind.TheVariants.{Request, Response, Data, Ack, DataAck, CloseReq, Close, Reset, Sync, SyncAck}
use Rattle.dccp_packets.specs.declared.header.Header.{Header}
use Rattle.dccp_packets.specs.Grammar.{KindFits, is_long, has_forms, is_valid, packet_type, fixed_length, header_length, number_bytes, kind_bytes, header_bytes, padded}
use Rattle.dccp_packets.specs.Widths.{HasDetail}

-- the numbers of a valid header have a form of its type
pub forms_of_valid : (h : Header) → IsTrue (is_valid h) → has_forms (is_long h.number) h.kind ≡ true
forms_of_valid h valid = (and_parts (nat_lt h.ccval 16 && nat_lt h.cscov 16) (has_forms (is_long h.number) h.kind) valid).1

-- a Reset that fits has its detail
pub detail_of_fits : (kind : Kind) → KindFits kind → HasDetail kind
detail_of_fits (Reset ack code detail) fits = fits.2
detail_of_fits _ fits = tt

-- what follows the nine common bytes
length-numbers : (number : Number) (kind : Kind) → HasDetail kind → has_forms (is_long number) kind ≡ true
    → 9 + length (number_bytes number ++ kind_bytes kind) ≡ fixed_length (is_long number) (packet_type kind)
length-numbers (Long n) (Ack (Short ack)) detailed form = absurd (false≢true form)
length-numbers (Long n) (DataAck (Short ack)) detailed form = absurd (false≢true form)
length-numbers (Long n) (Reset ack code detail) detailed form = let three : length detail ≡ 3 = detailed in omega (arith, three)
length-numbers (Short n) Data detailed form = refl
length-numbers (Short n) (Ack (Short ack)) detailed form = refl
length-numbers (Short n) (DataAck (Short ack)) detailed form = refl
length-numbers (Long n) _ detailed form = refl
length-numbers (Short n) _ detailed form = absurd (false≢true form)

-- a header is spelled with as many bytes as its type and form have
pub length-header_bytes : (h : Header) (words : ℕ) → HasDetail h.kind → IsTrue (is_valid h) → length (header_bytes h words) ≡ header_length h
length-header_bytes h words detailed valid =
    let numbers = length-numbers h.number h.kind detailed (forms_of_valid h valid) in omega (arith, numbers)

-- options are filled up to whole words
pub padded_words : (options : List ℕ) → length (padded options) % 4 ≡ 0
padded_words options =
    let whole = length-append options (replicate ((4 - length options % 4) % 4) 0) in
    let zeros = length-replicate {A = ℕ} ((4 - length options % 4) % 4) 0 in
    omega (arith, whole, zeros)

-- and so is the fixed part
pub fixed_words : (long : Bool) (kind : PacketType) → fixed_length long kind % 4 ≡ 0
fixed_words long types.Request = refl
fixed_words long types.Response = refl
fixed_words true types.Data = refl
fixed_words false types.Data = refl
fixed_words true types.Ack = refl
fixed_words false types.Ack = refl
fixed_words true types.DataAck = refl
fixed_words false types.DataAck = refl
fixed_words long types.CloseReq = refl
fixed_words long types.Close = refl
fixed_words long types.Reset = refl
fixed_words long types.Sync = refl
fixed_words long types.SyncAck = refl

-- no fixed part is shorter than the generic header with a short number
pub shortest : (long : Bool) (kind : PacketType) → 12 ≤ fixed_length long kind
shortest long types.Request = omega arith
shortest long types.Response = omega arith
shortest true types.Data = omega arith
shortest false types.Data = omega arith
shortest true types.Ack = omega arith
shortest false types.Ack = omega arith
shortest true types.DataAck = omega arith
shortest false types.DataAck = omega arith
shortest long types.CloseReq = omega arith
shortest long types.Close = omega arith
shortest long types.Reset = omega arith
shortest long types.Sync = omega arith
shortest long types.SyncAck = omega arith

-- so the Data Offset in words tells where the options end
pub offset_in_words : (h : Header) (options : List ℕ) → 4 * ((header_length h + length (padded options)) / 4) ≡ header_length h + length (padded options)
offset_in_words h options =
    let fixed = fixed_words (is_long h.number) (packet_type h.kind) in
    let filled = padded_words options in
    omega (arith, fixed, filled)
