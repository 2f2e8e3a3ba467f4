-- A report of drops is read back.
use Rattle.std.proofs.Common.{◌≡◌, ℕ, zero, suc, ◌+◌, ◌^◌, ◌<◌, ◌≤◌, ◌==◌, Bool, true, false, IsTrue, nat_lt, List, [], ◌∷◌, ◌++◌, length, drop, slice_get, Option, Some, None, if◌then◌else◌, ap, sym, ◌∙◌, inl, inr, arith, All, length-append}
use Rattle.std.proofs.lemmas.Bool.{cases_lt, leb-true, lt-ltb, le-ltb}
use Rattle.std.proofs.lemmas.List.{length-take, take-append-drop, take_all}
use Rattle.std.proofs.lemmas.List.Elements.{All-cons, All-head, All-nil, All-tail}
use Rattle.std.proofs.lemmas.Option.{slice_get_past}
use Rattle.seq_circle.specs.Circle.{distance, down}
use Rattle.ack_vectors.specs.Coding.{coded_bytes, states_down, states_of}
use Rattle.ack_vectors.proofs.Coded.{states-coded_bytes, states_of-append}
use Rattle.ack_vectors.proofs.ReadBack.{slice_get-front}
use Rattle.data_dropped.specs.Drops.{HaveCodes, all_drop_bytes, before_codes, code_at, code_at_place, code_table, codes_reported, drop_bytes, drop_code, drop_coding, last_code, numbers_reached, tells_all, up_to_last_code}
use Rattle.data_dropped.specs.declared.drops.DropEntry.{DropEntry}
use Rattle.data_dropped.proofs.Lawful.{IsCode, drop_lawful}
use Rattle.data_dropped.proofs.LastCode.{code_up_to_last, none-count}
use Rattle.data_dropped.proofs.Table.{code_in_table, length-table, table-none}

-- codes that were noted have three bits
code-if : (b : Bool) (code : ℕ) (found : Option ℕ) → code < 8 → IsCode found → IsCode (if b then Some code else found)
code-if true code found fits before = fits
code-if false code found fits before = before

code-from : (n : ℕ) (found : Option ℕ) (drops : List DropEntry) → IsCode found → HaveCodes drops → IsCode (last_code (λ (d : DropEntry). d.number == n) (λ (d : DropEntry). d.code) found drops)
code-from n found [] before have = before
code-from n found (d ∷ drops) before have =
    let fits : d.code < 8 = All-head (λ (e : DropEntry). e.code < 8) d drops have in
    code-from n (if d.number == n then Some d.code else found) drops (code-if (d.number == n) d.code found fits before)
    (All-tail (λ (e : DropEntry). e.code < 8) d drops have)

codes-down : (state : ℕ → Option ℕ) (count n : ℕ) → ((m : ℕ) → IsCode (state m)) → All IsCode (states_down state count n)
codes-down state zero n are = All-nil IsCode
codes-down state (suc count) n are =
    All-cons IsCode (state n) (states_down state count (down n 1)) (are n) (codes-down state count (down n 1) are)

codes-before : (code : Option ℕ) (codes : List (Option ℕ)) → IsCode code → All IsCode codes → All IsCode (before_codes code codes)
codes-before None [] is all = All-nil IsCode
codes-before None (other ∷ codes) is all = All-cons IsCode None (other ∷ codes) is all
codes-before (Some code) codes is all = All-cons IsCode (Some code) codes is all

codes-up_to_last : (codes : List (Option ℕ)) → All IsCode codes → All IsCode (up_to_last_code codes)
codes-up_to_last [] all = All-nil IsCode
codes-up_to_last (code ∷ codes) all =
    codes-before code (up_to_last_code codes) (All-head IsCode code codes all) (codes-up_to_last codes (All-tail IsCode code codes all))

codes-table : (drops : List DropEntry) (ack : ℕ) → HaveCodes drops → All IsCode (code_table drops ack)
unfolding code_table
codes-table drops ack have = codes-down (drop_code drops) 2048 ack (λ (m : ℕ). code-from m None drops tt have)

-- the bytes give the codes of the report
pub reads_codes : (drops : List DropEntry) (ack : ℕ) → HaveCodes drops → states_of drop_coding (all_drop_bytes drops ack) ≡ codes_reported drops ack
reads_codes drops ack have =
    states-coded_bytes drop_coding IsCode drop_lawful (codes_reported drops ack) (codes-up_to_last (code_table drops ack) (codes-table drops ack have))

-- what is told, and what was cut off
told_and_cut : (drops : List DropEntry) (ack : ℕ) → HaveCodes drops
    → codes_reported drops ack ≡ states_of drop_coding (drop_bytes drops ack) ++ states_of drop_coding (drop 253 (all_drop_bytes drops ack))
told_and_cut drops ack have =
    sym (reads_codes drops ack have) ∙ ap (λ (bytes : List ℕ). states_of drop_coding bytes) (sym (take-append-drop 253 (all_drop_bytes drops ack)))
    ∙ states_of-append drop_coding (drop_bytes drops ack) (drop 253 (all_drop_bytes drops ack))

length-before : (code : Option ℕ) (codes : List (Option ℕ)) → length (before_codes code codes) ≤ suc (length codes)
length-before None [] = omega arith
length-before None (other ∷ codes) = omega arith
length-before (Some code) codes = omega arith

length-up_to_last : (codes : List (Option ℕ)) → length (up_to_last_code codes) ≤ length codes
length-up_to_last [] = omega arith
length-up_to_last (code ∷ codes) = omega (arith, length-before code (up_to_last_code codes), length-up_to_last codes)

pub reaches_at_most : (drops : List DropEntry) (ack : ℕ) → HaveCodes drops → numbers_reached drops ack ≤ 2048
reaches_at_most drops ack have =
    let front : List (Option ℕ) = states_of drop_coding (drop_bytes drops ack) in
    let following : List (Option ℕ) = states_of drop_coding (drop 253 (all_drop_bytes drops ack)) in
    let parts : length (front ++ following) ≡ length front + length following = length-append front following in
    let told : length (codes_reported drops ack) ≡ length (front ++ following) = ap length (told_and_cut drops ack have) in
    let few : length (codes_reported drops ack) ≤ length (code_table drops ack) = length-up_to_last (code_table drops ack) in
    let table : length (code_table drops ack) ≡ 2048 = length-table drops ack in
    omega (arith, parts, told, few, table)

-- at a place that the report reaches
code_reported : (drops : List DropEntry) (ack n : ℕ) → ack < 2 ^ 48 → n < 2 ^ 48 → distance n ack < 2048
    → code_at_place (slice_get (codes_reported drops ack) (distance n ack)) ≡ drop_code drops n
code_reported drops ack n fits_ack fits near =
    code_up_to_last (code_table drops ack) (distance n ack) ∙ ap code_at_place (code_in_table drops ack n fits_ack fits near)

pub codes_read_back : (drops : List DropEntry) (ack n : ℕ) → HaveCodes drops → ack < 2 ^ 48 → n < 2 ^ 48
    → code_at ack (drop_bytes drops ack) n ≡ (if nat_lt (distance n ack) (numbers_reached drops ack) then drop_code drops n else None)
codes_read_back drops ack n have fits_ack fits =
    elim (cases_lt (distance n ack) (numbers_reached drops ack)) [
      | inl within ↦
          let front : List (Option ℕ) = states_of drop_coding (drop_bytes drops ack) in
          let following : List (Option ℕ) = states_of drop_coding (drop 253 (all_drop_bytes drops ack)) in
          let near : distance n ack < 2048 = omega (arith, reaches_at_most drops ack have) in
          rw (lt-ltb (distance n ack) (numbers_reached drops ack) within)
          (ap code_at_place (sym (slice_get-front front following (distance n ack) within)
          ∙ ap (λ (codes : List (Option ℕ)). slice_get codes (distance n ack)) (sym (told_and_cut drops ack have)))
          ∙ code_reported drops ack n fits_ack fits near)
      | inr past ↦
          rw (le-ltb (distance n ack) (numbers_reached drops ack) past)
          (ap code_at_place (slice_get_past (states_of drop_coding (drop_bytes drops ack)) (distance n ack) past))
    ]

only_if : (b : Bool) (found : Option ℕ) (code : ℕ) → (if b then found else None) ≡ Some code → found ≡ Some code
only_if true found code is = is
only_if false found code is = absurd cc

pub only_codes_read : (drops : List DropEntry) (ack n code : ℕ) → HaveCodes drops → ack < 2 ^ 48 → n < 2 ^ 48
    → code_at ack (drop_bytes drops ack) n ≡ Some code → drop_code drops n ≡ Some code
only_codes_read drops ack n code have fits_ack fits is =
    only_if (nat_lt (distance n ack) (numbers_reached drops ack)) (drop_code drops n) code (sym (codes_read_back drops ack n have fits_ack fits) ∙ is)

-- a report from which nothing was cut off
pub all_codes_read : (drops : List DropEntry) (ack n : ℕ) → HaveCodes drops → ack < 2 ^ 48 → n < 2 ^ 48 → IsTrue (tells_all drops ack) → distance n ack < 2048
    → code_at ack (drop_bytes drops ack) n ≡ drop_code drops n
all_codes_read drops ack n have fits_ack fits whole near =
    let few : length (all_drop_bytes drops ack) ≤ 253 = leb-true (length (all_drop_bytes drops ack)) 253 whole in
    ap (λ (bytes : List ℕ). code_at ack bytes n) (take_all 253 (all_drop_bytes drops ack) few)
    ∙ ap (λ (codes : List (Option ℕ)). code_at_place (slice_get codes (distance n ack))) (reads_codes drops ack have)
    ∙ code_reported drops ack n fits_ack fits near

pub report_fits : (drops : List DropEntry) (ack : ℕ) → length (drop_bytes drops ack) ≤ 253
report_fits drops ack = omega (arith, length-take 253 (all_drop_bytes drops ack))

-- without a drop there is nothing to report
pub nothing_told : (drops : List DropEntry) (ack : ℕ) → drops ≡ [] → all_drop_bytes drops ack ≡ []
nothing_told drops ack none =
    ap (λ (codes : List (Option ℕ)). coded_bytes drop_coding (up_to_last_code codes)) (ap (λ (ds : List DropEntry). code_table ds ack) none ∙ table-none ack)
    ∙ ap (λ (codes : List (Option ℕ)). coded_bytes drop_coding codes) (none-count 2048)
