-- A packet whose reserved bits are zero has one spelling.
use Rattle.std.proofs.Common.{◌≡◌, ℕ, zero, suc, ◌+◌, ◌-◌, ◌*◌, ◌/◌, ◌%◌, ◌^◌, ◌<◌, ◌≤◌, if◌then◌else◌, List, [], ◌∷◌, ◌++◌, length, drop, take, replicate, slice_index, refl, sym, ap, ◌∙◌, subst, arith}
use Rattle.std.proofs.Math.Nat.{mul-add-div_right, mul-add-mod_self_right, mod-eq_of_lt, pow-succ', one-le-pow, div-one}
use Rattle.std.proofs.lemmas.Nat.{div-mul-add, pow-add}
use Rattle.std.proofs.lemmas.List.{append_assoc, append-nil, length-append, length-drop, drop-drop, take-append-drop, drop_at, drop_more, get_or-drop}
use Rattle.std.specs.Int.{byte_at, bytes_high_first}
use Rattle.byteorder.specs.Endian.{big_bytes, big_from}
use Rattle.byteorder.specs.Numbers.{big_from-cons, big_from-lt}
use Rattle.dccp_packets.specs.declared.header.Number.{Number}
use Rattle.dccp_packets.specs.declared.header.Number.TheVariants.{Long, Short}
use Rattle.dccp_packets.specs.declared.header.Kind.{Kind}
use Rattle.dccp_packets.specs.declared.header.Kind.TheVariants.{Request, Response, Data, Ack, DataAck, CloseReq, Close, Reset, Sync, SyncAck}
use Rattle.dccp_packets.specs.declared.header.Header.{Header}
use Rattle.dccp_packets.specs.Grammar.{code_of, is_long, packet_type, type_byte, ack_bytes, number_at, number_bytes, kind_bytes, long_ack_bytes, common_bytes, header_bytes, header_length, padded, spelling}
use Rattle.dccp_packets.specs.Table.{HasType, IsRow, IsPacket, AreBytes, NumberHasZeros, LongAckHasZeros, KindHasZeros, HasZeros}
use Rattle.dccp_packets.proofs.Lengths.{shortest, fixed_words}
use Rattle.dccp_packets.proofs.TableLemmas.{row_read}

-- a byte of a number, by its place
byte_at-pow : (k x : ℕ) → byte_at k x ≡ x / 256 ^ k % 256
byte_at-pow zero x = ap (λ y. y % 256) (sym (div-one x))
byte_at-pow (suc k) x = refl

reorder : (a p q : ℕ) → a * (p * (256 * q)) ≡ (a * q * 256) * p
reorder a p q = omega arith

-- what is above a byte's place changes it not
byte_kept : (k m a r : ℕ) → k < m → byte_at k (a * 256 ^ m + r) ≡ byte_at k r
byte_kept k m a r below =
    let j = m - suc k in
    let place : m ≡ k + suc j = omega (arith, below) in
    let split : 256 ^ m ≡ 256 ^ k * (256 * 256 ^ j) = ap (λ n. 256 ^ n) place ∙ (pow-add 256 k (suc j) ∙ ap (λ n. 256 ^ k * n) (pow-succ' 256 j)) in
    let moved : a * 256 ^ m + r ≡ (a * 256 ^ j * 256) * 256 ^ k + r = ap (λ n. a * n + r) split ∙ ap (λ n. n + r) (reorder a (256 ^ k) (256 ^ j)) in
    let positive : zero < 256 ^ k = let one = one-le-pow k 256 (omega arith) in omega (arith, one) in
    byte_at-pow k (a * 256 ^ m + r)
    ∙ ap (λ n. n / 256 ^ k % 256) moved
    ∙ ap (λ n. n % 256) (mul-add-div_right positive (a * 256 ^ j * 256) r)
    ∙ mul-add-mod_self_right (a * 256 ^ j) 256 (r / 256 ^ k)
    ∙ sym (byte_at-pow k r)

bytes_kept : (n m a r : ℕ) → n ≤ m → bytes_high_first n (a * 256 ^ m + r) ≡ bytes_high_first n r
bytes_kept zero m a r within = refl
bytes_kept (suc k) m a r within =
    let first = byte_kept k m a r (omega (arith, within)) in
    let rest = bytes_kept k m a r (omega (arith, within)) in
    ap (λ b. b ∷ bytes_high_first k (a * 256 ^ m + r)) first ∙ ap (λ bs. byte_at k r ∷ bs) rest

-- a list begins with the bytes of the number that is there
front_again : (n : ℕ) (xs : List ℕ) → n ≤ length xs → AreBytes xs → xs ≡ big_bytes n (big_from 0 n xs) ++ drop n xs
front_again zero xs enough bytes = refl
front_again (suc n) [] enough bytes = absurd (omega (arith, enough))
front_again (suc n) (x ∷ xs) enough bytes =
    let low = big_from 0 n xs in
    let later : AreBytes xs = λ k. bytes (suc k) in
    let rest = front_again n xs (omega (arith, enough)) later in
    let moved : big_from 0 (suc n) (x ∷ xs) ≡ x * 256 ^ n + low = ap (λ y. x * 256 ^ n + y) (big_from-cons 0 n x xs) in
    let first : byte_at n (x * 256 ^ n + low) ≡ x =
    byte_at-pow n (x * 256 ^ n + low) ∙ ap (λ y. y % 256) (div-mul-add x (256 ^ n) low (big_from-lt 0 n xs later)) ∙ mod-eq_of_lt (bytes 0) in
    let whole : big_bytes (suc n) (big_from 0 (suc n) (x ∷ xs)) ≡ x ∷ big_bytes n low =
    ap (λ y. big_bytes (suc n) y) moved ∙ (ap (λ y. y ∷ big_bytes n (x * 256 ^ n + low)) first ∙ ap (λ ys. x ∷ ys) (bytes_kept n n x low (omega arith))) in
    ap (λ ys. x ∷ ys) rest ∙ sym (ap (λ ys. ys ++ drop n xs) whole)

-- the same from a place on, where the number is known
part_again : (place n x : ℕ) (xs : List ℕ) → place + n ≤ length xs → AreBytes xs → x ≡ number_at place n xs
    → drop place xs ≡ big_bytes n x ++ drop (place + n) xs
part_again place n x xs within bytes known =
    let left = length-drop place xs in
    let moved : AreBytes (drop place xs) = λ k. subst (λ b. b < 256) (sym (get_or-drop place xs k 0)) (bytes (place + k)) in
    front_again n (drop place xs) (omega (arith, left, within)) moved
    ∙ ap (λ ys. big_bytes n (number_at place n xs) ++ ys) (drop-drop n place xs)
    ∙ ap (λ y. big_bytes n y ++ drop (place + n) xs) (sym known)

byte_again : (place x : ℕ) (xs : List ℕ) → place < length xs → x ≡ slice_index xs place → drop place xs ≡ x ∷ drop (place + 1) xs
byte_again place x xs within known = drop_more xs place 0 within ∙ ap (λ y. y ∷ drop (place + 1) xs) (sym known)

-- the nine common bytes
common_again : (h : Header) (bytes : List ℕ) → 12 ≤ length bytes → AreBytes bytes → h.from ≡ number_at 0 2 bytes → h.to ≡ number_at 2 2 bytes
    → slice_index bytes 5 ≡ 16 * h.ccval + h.cscov → h.checksum ≡ number_at 6 2 bytes → slice_index bytes 8 ≡ type_byte h
    → bytes ≡ common_bytes h (slice_index bytes 4) ++ drop 9 bytes
common_again h bytes enough small from to nibbles checksum typed =
    let at_0 = part_again 0 2 h.from bytes (omega (arith, enough)) small from in
    let at_2 = part_again 2 2 h.to bytes (omega (arith, enough)) small to in
    let at_4 = byte_again 4 (slice_index bytes 4) bytes (omega (arith, enough)) refl in
    let at_5 = byte_again 5 (16 * h.ccval + h.cscov) bytes (omega (arith, enough)) (sym nibbles) in
    let at_6 = part_again 6 2 h.checksum bytes (omega (arith, enough)) small checksum in
    let at_8 = byte_again 8 (type_byte h) bytes (omega (arith, enough)) (sym typed) in
    at_0 ∙ ap (λ xs. big_bytes 2 h.from ++ xs) (at_2 ∙ ap (λ xs. big_bytes 2 h.to ++ xs) (at_4 ∙ ap (λ xs. slice_index bytes 4 ∷ xs)
    (at_5 ∙ ap (λ xs. (16 * h.ccval + h.cscov) ∷ xs) (at_6 ∙ ap (λ xs. big_bytes 2 h.checksum ++ xs) at_8))))

-- the byte of type and X without reserved bits
zero_type : (code x : ℕ) (bytes : List ℕ) → slice_index bytes 8 < 32 → HasType code x bytes → slice_index bytes 8 ≡ 2 * code + x
zero_type code x bytes small has = let byte = has.1 in omega (arith, byte, small)

long_number : (n : ℕ) (b : List ℕ) → 16 ≤ length b → AreBytes b → slice_index b 9 ≡ 0 → n ≡ number_at 10 6 b → drop 9 b ≡ number_bytes (Long n) ++ drop 16 b
long_number n b enough bytes none known =
    byte_again 9 0 b (omega (arith, enough)) (sym none) ∙ ap (λ xs. 0 ∷ xs) (part_again 10 6 n b (omega (arith, enough)) bytes known)

short_number : (n : ℕ) (b : List ℕ) → 12 ≤ length b → AreBytes b → n ≡ number_at 9 3 b → drop 9 b ≡ number_bytes (Short n) ++ drop 12 b
short_number n b enough bytes known = part_again 9 3 n b (omega (arith, enough)) bytes known

long_ack : (ack : ℕ) (b : List ℕ) → 24 ≤ length b → AreBytes b → LongAckHasZeros b → ack ≡ number_at 18 6 b → drop 16 b ≡ long_ack_bytes ack ++ drop 24 b
long_ack ack b enough bytes none known =
    byte_again 16 0 b (omega (arith, enough)) (sym none.0)
    ∙ ap (λ xs. 0 ∷ xs) (byte_again 17 0 b (omega (arith, enough)) (sym none.1) ∙ ap (λ xs. 0 ∷ xs) (part_again 18 6 ack b (omega (arith, enough)) bytes known))

short_ack : (ack : ℕ) (b : List ℕ) → 16 ≤ length b → AreBytes b → slice_index b 12 ≡ 0 → ack ≡ number_at 13 3 b → drop 12 b ≡ ack_bytes (Short ack) ++ drop 16 b
short_ack ack b enough bytes none known =
    byte_again 12 0 b (omega (arith, enough)) (sym none) ∙ ap (λ xs. 0 ∷ xs) (part_again 13 3 ack b (omega (arith, enough)) bytes known)

-- a part after another
joined : {whole rest : List ℕ} (front next last : List ℕ) → whole ≡ front ++ rest → rest ≡ next ++ last → whole ≡ (front ++ next) ++ last
joined front next last first second = first ∙ (ap (λ xs. front ++ xs) second ∙ sym (append_assoc front next last))

-- what a row has after the common bytes
record Again (number : Number) (kind : Kind) (b : List ℕ) (size : ℕ) : Type 0 where
  typed : slice_index b 8 ≡ 2 * code_of (packet_type kind) + (if is_long number then 1 else 0)
  following : drop 9 b ≡ (number_bytes number ++ kind_bytes kind) ++ drop size b

-- for the types that have an acknowledgement alone after a long number
ack_again : (code n ack : ℕ) (kind : Kind) (b : List ℕ) (size : ℕ) → code ≡ code_of (packet_type kind) → kind_bytes kind ≡ long_ack_bytes ack → size ≤ length b
    → AreBytes b
    → slice_index b 8 < 32 → slice_index b 9 ≡ 0 → LongAckHasZeros b → HasType code 1 b → size ≡ 24 → n ≡ number_at 10 6 b → ack ≡ number_at 18 6 b
    → Again (Long n) kind b size
ack_again code n ack kind b size coded written within bytes small none zeros has size_is number known =
    let first = long_number n b (omega (arith, within, size_is)) bytes none number in
    let next = long_ack ack b (omega (arith, within, size_is)) bytes zeros known in
    record {
      typed = zero_type code 1 b small has ∙ ap (λ c. 2 * c + 1) coded;
      following = joined (number_bytes (Long n)) (long_ack_bytes ack) (drop size b) first (next ∙ ap (λ k. long_ack_bytes ack ++ drop k b) (sym size_is))
          ∙ ap (λ xs. (number_bytes (Long n) ++ xs) ++ drop size b) (sym written);
    }

row_again : (number : Number) (kind : Kind) (b : List ℕ) (size : ℕ) → IsRow number kind b size → size ≤ length b → AreBytes b → slice_index b 8 < 32
    → NumberHasZeros number b → KindHasZeros kind b → Again number kind b size
row_again (Long n) (Request service) b size row within bytes small none zeros =
    let bound : 20 ≤ length b = let s = row.1 in omega (arith, within, s) in
    let first = long_number n b (omega (arith, bound)) bytes none row.2 in
    let next = part_again 16 4 service b (omega (arith, bound)) bytes row.3 in
    record {
      typed = zero_type 0 1 b small row.0;
      following = joined (number_bytes (Long n)) (big_bytes 4 service) (drop size b) first (next ∙ ap (λ k. big_bytes 4 service ++ drop k b) (sym row.1));
    }
row_again (Long n) (Response ack service) b size row within bytes small none zeros =
    let bound : 28 ≤ length b = let s = row.1 in omega (arith, within, s) in
    let first = long_number n b (omega (arith, bound)) bytes none row.2 in
    let next = long_ack ack b (omega (arith, bound)) bytes zeros row.3 in
    let last = part_again 24 4 service b (omega (arith, bound)) bytes row.4 in
    record {
      typed = zero_type 1 1 b small row.0;
      following = joined (number_bytes (Long n)) (long_ack_bytes ack ++ big_bytes 4 service) (drop size b) first
          (joined (long_ack_bytes ack) (big_bytes 4 service) (drop size b) next (last ∙ ap (λ k. big_bytes 4 service ++ drop k b) (sym row.1)));
    }
row_again (Long n) Data b size row within bytes small none zeros =
    let first = let s = row.1 in long_number n b (omega (arith, within, s)) bytes none row.2 in
    record {
      typed = zero_type 2 1 b small row.0;
      following = joined (number_bytes (Long n)) [] (drop size b) first (ap (λ k. drop k b) (sym row.1));
    }
row_again (Short n) Data b size row within bytes small none zeros =
    let first = let s = row.1 in short_number n b (omega (arith, within, s)) bytes row.2 in
    record {
      typed = zero_type 2 0 b small row.0;
      following = joined (number_bytes (Short n)) [] (drop size b) first (ap (λ k. drop k b) (sym row.1));
    }
row_again (Long n) (Ack (Long ack)) b size row within bytes small none zeros =
    ack_again 3 n ack (Ack (Long ack)) b size refl refl within bytes small none zeros row.0 row.1 row.2 row.3
row_again (Short n) (Ack (Short ack)) b size row within bytes small none zeros =
    let bound : 16 ≤ length b = let s = row.1 in omega (arith, within, s) in
    let first = short_number n b (omega (arith, bound)) bytes row.2 in
    let next = short_ack ack b bound bytes zeros row.3 in
    record {
      typed = zero_type 3 0 b small row.0;
      following = joined (number_bytes (Short n)) (ack_bytes (Short ack)) (drop size b) first (next ∙ ap (λ k. ack_bytes (Short ack) ++ drop k b) (sym row.1));
    }
row_again (Long n) (DataAck (Long ack)) b size row within bytes small none zeros =
    ack_again 4 n ack (DataAck (Long ack)) b size refl refl within bytes small none zeros row.0 row.1 row.2 row.3
row_again (Short n) (DataAck (Short ack)) b size row within bytes small none zeros =
    let bound : 16 ≤ length b = let s = row.1 in omega (arith, within, s) in
    let first = short_number n b (omega (arith, bound)) bytes row.2 in
    let next = short_ack ack b bound bytes zeros row.3 in
    record {
      typed = zero_type 4 0 b small row.0;
      following = joined (number_bytes (Short n)) (ack_bytes (Short ack)) (drop size b) first (next ∙ ap (λ k. ack_bytes (Short ack) ++ drop k b) (sym row.1));
    }
row_again (Long n) (CloseReq ack) b size row within bytes small none zeros =
    ack_again 5 n ack (CloseReq ack) b size refl refl within bytes small none zeros row.0 row.1 row.2 row.3
row_again (Long n) (Close ack) b size row within bytes small none zeros =
    ack_again 6 n ack (Close ack) b size refl refl within bytes small none zeros row.0 row.1 row.2 row.3
row_again (Long n) (Sync ack) b size row within bytes small none zeros =
    ack_again 8 n ack (Sync ack) b size refl refl within bytes small none zeros row.0 row.1 row.2 row.3
row_again (Long n) (SyncAck ack) b size row within bytes small none zeros =
    ack_again 9 n ack (SyncAck ack) b size refl refl within bytes small none zeros row.0 row.1 row.2 row.3
row_again (Long n) (Reset ack code detail) b size row within bytes small none zeros =
    let bound : 28 ≤ length b = let s = row.1 in omega (arith, within, s) in
    let first = long_number n b (omega (arith, bound)) bytes none row.2 in
    let next = long_ack ack b (omega (arith, bound)) bytes zeros row.3 in
    let coded = byte_again 24 code b (omega (arith, bound)) row.4 in
    let detailed : drop 25 b ≡ detail ++ drop 28 b =
    sym (take-append-drop 3 (drop 25 b)) ∙ (ap (λ xs. take 3 (drop 25 b) ++ xs) (drop-drop 3 25 b) ∙ ap (λ xs. xs ++ drop 28 b) (sym row.5)) in
    record {
      typed = zero_type 7 1 b small row.0;
      following = joined (number_bytes (Long n)) (long_ack_bytes ack ++ (code ∷ detail)) (drop size b) first
          (joined (long_ack_bytes ack) (code ∷ detail) (drop size b) next
          (coded ∙ (ap (λ xs. code ∷ xs) detailed ∙ ap (λ k. code ∷ (detail ++ drop k b)) (sym row.1))));
    }
row_again (Long n) _ b size row within bytes small none zeros = absurd row
row_again (Short n) _ b size row within bytes small none zeros = absurd row

pub one_spelling : (h : Header) (o d bytes : List ℕ) → IsPacket h o d bytes → AreBytes bytes → HasZeros h bytes → bytes ≡ spelling h o d
one_spelling h o d bytes packet small zeros =
    let size = length packet.fixed in
    let word = slice_index bytes 4 in
    let read = row_read h.number h.kind bytes size packet.row in
    let sized : size ≡ header_length h = read.size_is in
    let enough = shortest (is_long h.number) (packet_type h.kind) in
    let words = fixed_words (is_long h.number) (packet_type h.kind) in
    let all : length bytes ≡ size + length (o ++ d) = ap length packet.parts ∙ length-append packet.fixed (o ++ d) in
    let again = row_again h.number h.kind bytes size packet.row (omega (arith, all)) small zeros.types zeros.number zeros.kind in
    let common = common_again h bytes (omega (arith, all, sized, enough)) small packet.from packet.to packet.nibbles packet.checksum again.typed in
    let after : drop size bytes ≡ o ++ d = ap (drop size) packet.parts ∙ drop_at packet.fixed (o ++ d) size refl in
    let offset = packet.offset in
    let none : (4 - length o % 4) % 4 ≡ 0 = omega (arith, offset, sized, words) in
    let filled : padded o ≡ o = ap (λ n. o ++ replicate n 0) none ∙ append-nil o in
    let long = ap length filled in
    let counted : word ≡ (header_length h + length (padded o)) / 4 = omega (arith, offset, sized, long) in
    common
    ∙ (ap (λ xs. common_bytes h word ++ xs)
    (again.following ∙ ap (λ xs. (number_bytes h.number ++ kind_bytes h.kind) ++ xs) (after ∙ ap (λ xs. xs ++ d) (sym filled)))
    ∙ ap (λ w. header_bytes h w ++ (padded o ++ d)) counted)
