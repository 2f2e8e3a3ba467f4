-- Reading and the table say the same.
use Rattle.std.proofs.Common.{◌≡◌, ℕ, zero, suc, ◌+◌, ◌-◌, ◌/◌, ◌%◌, ◌<◌, ◌≤◌, Bool, true, false, not, cond, nat_lt, if◌then◌else◌, List, ◌++◌, length, drop, take, slice_index, slice_range, Option, Some, None, Result, Ok, Err, is_ok, is_some, subst, refl, sym, ap, ◌∙◌, arith, ◌==◌}
use Rattle.std.proofs.lemmas.List.{length-append, length-take-le, length-drop, drop-drop, take-append-drop, take_at, drop_at}
use Rattle.std.proofs.lemmas.Bool.{false≢true, ltb-false, not-false, eqb-true, eqb-false, ne_eqb}
use Rattle.dccp_packets.specs.declared.header.PacketType.{PacketType}
use Rattle.dccp_packets.specs.declared.header.PacketType.TheVariants as types
use Rattle.dccp_packets.specs.declared.header.Number.{Number}
use Rattle.dccp_packets.specs.declared.header.Number.TheVariants.{Long, Short}
use Rattle.dccp_packets.specs.declared.header.Kind.{Kind}
use Rattle.dccp_packets.specs.declared.header.Kind.TheVariants.{Request, Response, Data, Ack, DataAck, CloseReq, Close, Reset, Sync, SyncAck}
use Rattle.dccp_packets.specs.declared.header.Header.{Header}
use Rattle.dccp_packets.specs.declared.reading.Malformed.{Malformed}
use Rattle.dccp_packets.specs.declared.reading.Malformed.TheVariants as faults
use Rattle.dccp_packets.specs.Grammar.{Parts, type_of, code_of, is_long, has_form, packet_type, fixed_length, number_at, data_offset_bytes, type_code, has_long_numbers, number_in, kind_of, parts_of, decoded_as, decoded_by, decoded}
use Rattle.dccp_packets.specs.Table.{HasType, IsRow, IsPacket}
use Rattle.dccp_packets.proofs.Pieces.{same_response, same_reset, same_header, same_parts, decoded_ok}
use Rattle.dccp_packets.proofs.Lengths.{shortest}

-- what reading makes of a row
pub record Reads (number : Number) (kind : Kind) (bytes : List ℕ) (size : ℕ) : Type 0 where
  pub typed : type_of (type_code bytes) ≡ Some (packet_type kind)
  pub x : has_long_numbers bytes ≡ is_long number
  pub size_is : size ≡ fixed_length (is_long number) (packet_type kind)
  pub form : has_form (is_long number) (packet_type kind) ≡ true
  pub number_is : number_in (is_long number) bytes ≡ number
  pub kind_is : kind_of (packet_type kind) (is_long number) bytes ≡ kind

code_read : (code x : ℕ) (bytes : List ℕ) → code < 16 → x < 2 → HasType code x bytes → type_code bytes ≡ code
code_read code x bytes small bit has = let byte = has.1 in omega (arith, byte)

x_read : (code x : ℕ) (bytes : List ℕ) → x < 2 → HasType code x bytes → slice_index bytes 8 % 2 ≡ x
x_read code x bytes bit has = let byte = has.1 in omega (arith, byte)

long_row : (code n : ℕ) (kind : Kind) (b : List ℕ) (size : ℕ) → code < 16 → type_of code ≡ Some (packet_type kind) → has_form true (packet_type kind) ≡ true
    → HasType code 1 b → size ≡ fixed_length true (packet_type kind) → n ≡ number_at 10 6 b → kind_of (packet_type kind) true b ≡ kind
    → Reads (Long n) kind b size
long_row code n kind b size small known form has size_is number kind_is = record {
  typed = ap type_of (code_read code 1 b small (omega arith) has) ∙ known;
  x = ap (λ k. k == 1) (x_read code 1 b (omega arith) has);
  size_is = size_is;
  form = form;
  number_is = ap Long (sym number);
  kind_is = kind_is;
}

short_row : (code n : ℕ) (kind : Kind) (b : List ℕ) (size : ℕ) → code < 16 → type_of code ≡ Some (packet_type kind) → has_form false (packet_type kind) ≡ true
    → HasType code 0 b → size ≡ fixed_length false (packet_type kind) → n ≡ number_at 9 3 b → kind_of (packet_type kind) false b ≡ kind
    → Reads (Short n) kind b size
short_row code n kind b size small known form has size_is number kind_is = record {
  typed = ap type_of (code_read code 0 b small (omega arith) has) ∙ known;
  x = ap (λ k. k == 1) (x_read code 0 b (omega arith) has);
  size_is = size_is;
  form = form;
  number_is = ap Short (sym number);
  kind_is = kind_is;
}

pub row_read : (number : Number) (kind : Kind) (b : List ℕ) (size : ℕ) → IsRow number kind b size → Reads number kind b size
row_read (Long n) (Request service) b size row = long_row 0 n (Request service) b size (omega arith) refl refl row.0 row.1 row.2 (ap Request (sym row.3))
row_read (Long n) (Response ack service) b size row =
    long_row 1 n (Response ack service) b size (omega arith) refl refl row.0 row.1 row.2 (same_response (sym row.3) (sym row.4))
row_read (Short n) Data b size row = short_row 2 n Data b size (omega arith) refl refl row.0 row.1 row.2 refl
row_read (Long n) Data b size row = long_row 2 n Data b size (omega arith) refl refl row.0 row.1 row.2 refl
row_read (Short n) (Ack (Short ack)) b size row =
    short_row 3 n (Ack (Short ack)) b size (omega arith) refl refl row.0 row.1 row.2 (ap (λ a. Ack (Short a)) (sym row.3))
row_read (Long n) (Ack (Long ack)) b size row =
    long_row 3 n (Ack (Long ack)) b size (omega arith) refl refl row.0 row.1 row.2 (ap (λ a. Ack (Long a)) (sym row.3))
row_read (Short n) (DataAck (Short ack)) b size row =
    short_row 4 n (DataAck (Short ack)) b size (omega arith) refl refl row.0 row.1 row.2 (ap (λ a. DataAck (Short a)) (sym row.3))
row_read (Long n) (DataAck (Long ack)) b size row =
    long_row 4 n (DataAck (Long ack)) b size (omega arith) refl refl row.0 row.1 row.2 (ap (λ a. DataAck (Long a)) (sym row.3))
row_read (Long n) (CloseReq ack) b size row = long_row 5 n (CloseReq ack) b size (omega arith) refl refl row.0 row.1 row.2 (ap CloseReq (sym row.3))
row_read (Long n) (Close ack) b size row = long_row 6 n (Close ack) b size (omega arith) refl refl row.0 row.1 row.2 (ap Close (sym row.3))
row_read (Long n) (Reset ack code detail) b size row =
    long_row 7 n (Reset ack code detail) b size (omega arith) refl refl row.0 row.1 row.2 (same_reset (sym row.3) (sym row.4) (sym row.5))
row_read (Long n) (Sync ack) b size row = long_row 8 n (Sync ack) b size (omega arith) refl refl row.0 row.1 row.2 (ap Sync (sym row.3))
row_read (Long n) (SyncAck ack) b size row = long_row 9 n (SyncAck ack) b size (omega arith) refl refl row.0 row.1 row.2 (ap SyncAck (sym row.3))
row_read (Long n) _ b size row = absurd row
row_read (Short n) _ b size row = absurd row

-- what is in the table is read
pub table_read : (h : Header) (o d bytes : List ℕ) → IsPacket h o d bytes → decoded bytes ≡ Ok (record { header = h; options = o; payload = d })
table_read h o d bytes packet =
    let row = row_read h.number h.kind bytes (length packet.fixed) packet.row in
    let kind = packet_type h.kind in
    let long = is_long h.number in
    let size = fixed_length long kind in
    let enough = shortest long kind in
    let fixed : length packet.fixed ≡ size = row.size_is in
    let offset = packet.offset in
    let all : length bytes ≡ length packet.fixed + length (o ++ d) = ap length packet.parts ∙ length-append packet.fixed (o ++ d) in
    let following = length-append o d in
    let after : drop size bytes ≡ o ++ d = ap (drop size) packet.parts ∙ drop_at packet.fixed (o ++ d) size fixed in
    let nibbles = packet.nibbles in
    let nibble = packet.nibble in
    let ccval : slice_index bytes 5 / 16 ≡ h.ccval = omega (arith, nibbles, nibble) in
    let cscov : slice_index bytes 5 % 16 ≡ h.cscov = omega (arith, nibbles, nibble) in
    let header = same_header (sym packet.from) (sym packet.to) ccval cscov (sym packet.checksum) row.number_is row.kind_is in
    let options : slice_range bytes size (data_offset_bytes bytes) ≡ o =
    ap (take (data_offset_bytes bytes - size)) after ∙ take_at o d (data_offset_bytes bytes - size) (omega (arith, offset, fixed)) in
    let payload : drop (data_offset_bytes bytes) bytes ≡ d =
    ap (λ n. drop n bytes) (offset ∙ ap (λ n. n + length o) fixed) ∙ sym (drop-drop (length o) size bytes) ∙ ap (drop (length o)) after
    ∙ drop_at o d (length o) refl in
    decoded_ok kind long bytes (omega (arith, all, fixed, enough)) row.typed row.x (omega (arith, offset, fixed))
    (omega (arith, offset, fixed, all, following)) row.form
    ∙ ap Ok (same_parts header options payload)

-- a fault is no packet
err_not_ok : (e : Malformed) {p : Parts} → Err e ≡ Ok p → ⊥
err_not_ok e h = false≢true (ap is_ok h)

-- a test for a fault that was passed
past : (b : Bool) (e : Malformed) {r : Result Parts Malformed} {p : Parts} → cond b (Err e) r ≡ Ok p → (b ≡ false) × (r ≡ Ok p)
past true e h = absurd (err_not_ok e h)
past false e h = (refl, h)

known_type : (t : Option PacketType) (bytes : List ℕ) {p : Parts} → decoded_by t bytes ≡ Ok p
    → (kind : PacketType) × (t ≡ Some kind) × (decoded_as kind (has_long_numbers bytes) bytes ≡ Ok p)
known_type None bytes h = absurd (err_not_ok faults.ReservedType h)
known_type (Some kind) bytes h = (kind, refl, h)

-- what reading has found where it answers a packet
record Found (kind : PacketType) (bytes : List ℕ) (p : Parts) : Type 0 where
  typed : type_of (type_code bytes) ≡ Some kind
  above : fixed_length (has_long_numbers bytes) kind ≤ data_offset_bytes bytes
  within : data_offset_bytes bytes ≤ length bytes
  form : has_form (has_long_numbers bytes) kind ≡ true
  parts_are : parts_of kind (has_long_numbers bytes) bytes ≡ p

abbrev ok : Parts → Result Parts Malformed
ok p = Ok p

parts_or : Parts → Result Parts Malformed → Parts
parts_or p (Ok q) = q
parts_or p (Err e) = p

ok_same : {p q : Parts} → ok p ≡ ok q → p ≡ q
unfolding parts_or
ok_same {p} {q} h = ap (parts_or p) h

found : (bytes : List ℕ) (p : Parts) → decoded bytes ≡ Ok p → (kind : PacketType) × Found kind bytes p
found bytes p h =
    let long = has_long_numbers bytes in
    let typed = known_type (type_of (type_code bytes)) bytes (past (nat_lt (length bytes) 12) faults.Short h).1 in
    let kind = typed.0 in
    let small = past (nat_lt (data_offset_bytes bytes) (fixed_length long kind)) faults.OffsetSmall typed.2 in
    let large = past (nat_lt (length bytes) (data_offset_bytes bytes)) faults.OffsetLarge small.1 in
    let form = past (not (has_form long kind)) faults.ShortNumbers large.1 in (
      kind,
      record {
        typed = typed.1;
        above = ltb-false (data_offset_bytes bytes) (fixed_length long kind) small.0;
        within = ltb-false (length bytes) (data_offset_bytes bytes) large.0;
        form = not-false (has_form long kind) form.0;
        parts_are = ok_same form.1;
      },
    )

-- the reserved codes
differs : (code k : ℕ) → k < code → (code == k) ≡ false
differs code k h = ne_eqb code k (λ same. omega (arith, same, h))

pub type_none : (code : ℕ) → 10 ≤ code → type_of code ≡ None
type_none code h =
    let e0 = differs code 0 (omega arith) in
    let e1 = differs code 1 (omega arith) in
    let e2 = differs code 2 (omega arith) in
    let e3 = differs code 3 (omega arith) in
    let e4 = differs code 4 (omega arith) in
    let e5 = differs code 5 (omega arith) in
    let e6 = differs code 6 (omega arith) in
    let e7 = differs code 7 (omega arith) in
    let e8 = differs code 8 (omega arith) in
    let e9 = differs code 9 (omega arith) in
    rw (e0, e1, e2, e3, e4, e5, e6, e7, e8, e9) refl

-- the code of a type that was found
abbrev code_at : Option PacketType → ℕ
code_at None = 10
code_at (Some kind) = code_of kind

code_found : (code : ℕ) (kind : PacketType) → type_of code ≡ Some kind → code ≡ code_of kind
code_found (suc (suc (suc (suc (suc (suc (suc (suc (suc (suc n)))))))))) kind h =
    absurd (false≢true (ap is_some (sym (type_none (suc (suc (suc (suc (suc (suc (suc (suc (suc (suc n)))))))))) (omega arith)) ∙ h)))
code_found _ kind h = ap code_at h

x_at : (x : Bool) (n : ℕ) → (n == 1) ≡ x → n < 2 → n ≡ (if x then 1 else 0)
x_at true n h small = eqb-true n 1 h
x_at false n h small = let other = eqb-false n 1 h in omega (arith, other)

x_found : (n : ℕ) → n % 2 ≡ (if (n % 2 == 1) then 1 else 0)
x_found n = x_at (n % 2 == 1) (n % 2) refl (omega arith)

-- the byte of type and X, with its reserved bits
type_found : (kind : PacketType) (bytes : List ℕ) → type_of (type_code bytes) ≡ Some kind
    → HasType (code_of kind) (if has_long_numbers bytes then 1 else 0) bytes
type_found kind bytes h =
    let code = code_found (type_code bytes) kind h in
    let x = x_found (slice_index bytes 8) in
    (slice_index bytes 8 / 32, omega (arith, code, x))

row_found : (kind : PacketType) (long : Bool) (b : List ℕ) → HasType (code_of kind) (if long then 1 else 0) b → has_form long kind ≡ true
    → IsRow (number_in long b) (kind_of kind long b) b (fixed_length long kind)
row_found types.Response true b has form = (has, refl, refl, refl, refl)
row_found types.Data true b has form = (has, refl, refl)
row_found types.Data false b has form = (has, refl, refl)
row_found types.Ack false b has form = (has, refl, refl, refl)
row_found types.DataAck false b has form = (has, refl, refl, refl)
row_found types.Reset true b has form = (has, refl, refl, refl, refl, refl)
row_found _ true b has form = (has, refl, refl, refl)
row_found _ false b has form = absurd (false≢true form)

-- what is read is in the table
read_packet : (kind : PacketType) (bytes : List ℕ) → type_of (type_code bytes) ≡ Some kind
    → fixed_length (has_long_numbers bytes) kind ≤ data_offset_bytes bytes
    → data_offset_bytes bytes ≤ length bytes → has_form (has_long_numbers bytes) kind ≡ true
    → let p = parts_of kind (has_long_numbers bytes) bytes in IsPacket p.header p.options p.payload bytes
read_packet kind bytes typed above within form =
    let long = has_long_numbers bytes in
    let size = fixed_length long kind in
    let offset = data_offset_bytes bytes in
    let front : length (take size bytes) ≡ size = length-take-le size bytes (omega (arith, above, within)) in
    let left = length-drop size bytes in
    let area : length (take (offset - size) (drop size bytes)) ≡ offset - size =
    length-take-le (offset - size) (drop size bytes) (omega (arith, left, within)) in
    let sum : size + (offset - size) ≡ offset = omega (arith, above) in
    let following : drop (offset - size) (drop size bytes) ≡ drop offset bytes = drop-drop (offset - size) size bytes ∙ ap (λ n. drop n bytes) sum in
    let split : drop size bytes ≡ take (offset - size) (drop size bytes) ++ drop offset bytes =
    sym (take-append-drop (offset - size) (drop size bytes)) ∙ ap (λ xs. take (offset - size) (drop size bytes) ++ xs) following in
    record {
      fixed = take size bytes;
      parts = sym (take-append-drop size bytes) ∙ ap (λ xs. take size bytes ++ xs) split;
      offset = omega (arith, front, area, sum);
      from = refl;
      to = refl;
      nibbles = omega arith;
      nibble = omega arith;
      checksum = refl;
      row = subst (λ n. IsRow (number_in long bytes) (kind_of kind long bytes) bytes n) (sym front)
          (row_found kind long bytes (type_found kind bytes typed) form);
    }

pub read_table : (h : Header) (o d bytes : List ℕ) → decoded bytes ≡ Ok (record { header = h; options = o; payload = d }) → IsPacket h o d bytes
read_table h o d bytes read =
    let f = found bytes (record { header = h; options = o; payload = d }) read in
    subst (λ p. IsPacket p.header p.options p.payload bytes) f.1.parts_are (read_packet f.0 bytes f.1.typed f.1.above f.1.within f.1.form)
