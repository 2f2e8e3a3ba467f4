-- The coding of Data Dropped is lawful for codes of three bits.
use Rattle.std.proofs.Common.{◌≡◌, ℕ, ◌+◌, ◌-◌, ◌*◌, ◌/◌, ◌%◌, ◌<◌, ◌≤◌, true, false, nat_lt, Option, Some, None, refl, ap, arith}
use Rattle.std.proofs.lemmas.Bool.{eqb-true, eq-eqb, false≢true, lt-ltb, le-ltb}
use Rattle.ack_vectors.proofs.Coded.{IsLawful}
use Rattle.data_dropped.specs.Drops.{code_in, drop_byte, drop_coding, most_numbers, numbers_in, same_code}

-- none, or a code of three bits
abbrev pub IsCode : Option ℕ → Type 0
IsCode None = Unit {0}
IsCode (Some code) = code < 8

alike : (one other : Option ℕ) → same_code one other ≡ true → one ≡ other
alike None None same = refl
alike None (Some other) same = absurd (false≢true same)
alike (Some one) None same = absurd (false≢true same)
alike (Some one) (Some other) same = ap Some (eqb-true one other same)

itself : (code : Option ℕ) → same_code code code ≡ true
itself None = refl
itself (Some code) = eq-eqb code code refl

some : (code : Option ℕ) → 0 < most_numbers code
some None = omega arith
some (Some code) = omega arith

reads_code : (code : Option ℕ) (count : ℕ) → IsCode code → 1 ≤ count → count ≤ most_numbers code → code_in (drop_byte code count) ≡ code
reads_code None count can low high =
    let normal : nat_lt (count - 1) 128 ≡ true = lt-ltb (count - 1) 128 (omega arith) in rw normal refl
reads_code (Some code) count can low high =
    let block : nat_lt (128 + 16 * (code % 8) + (count - 1)) 128 ≡ false = le-ltb (128 + 16 * (code % 8) + (count - 1)) 128 (omega arith) in
    let read : (128 + 16 * (code % 8) + (count - 1)) / 16 % 8 ≡ code = omega arith in
    rw block (ap Some read)

reads_numbers : (code : Option ℕ) (count : ℕ) → IsCode code → 1 ≤ count → count ≤ most_numbers code → numbers_in (drop_byte code count) ≡ count
reads_numbers None count can low high =
    let normal : nat_lt (count - 1) 128 ≡ true = lt-ltb (count - 1) 128 (omega arith) in
    let read : count - 1 + 1 ≡ count = omega arith in
    rw normal read
reads_numbers (Some code) count can low high =
    let block : nat_lt (128 + 16 * (code % 8) + (count - 1)) 128 ≡ false = le-ltb (128 + 16 * (code % 8) + (count - 1)) 128 (omega arith) in
    let read : (128 + 16 * (code % 8) + (count - 1)) % 16 + 1 ≡ count = omega arith in
    rw block read

pub drop_lawful : IsLawful (Option ℕ) drop_coding IsCode
drop_lawful = record { alike = alike; itself = itself; some = some; reads_state = reads_code; reads_count = reads_numbers }
