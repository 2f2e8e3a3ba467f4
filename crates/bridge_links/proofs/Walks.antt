-- One turn of the walks over headers, parts and labels.
use Rattle.std.proofs.Common.{arith, if◌then◌else◌, ◌≡◌, refl, ap, ◌∙◌, sym, ℕ, zero, suc, ◌+◌, ◌-◌, ◌%◌, ◌<◌, ◌≤◌, ◌&&◌, ◌==◌, nat_le, nat_lt, Bool, true, false, List, length, slice_index, Option, Some, None}
use Rattle.std.proofs.lemmas.Bool.{le-leb, le-ltb, lt-leb, lt-ltb, ne_eqb}
use Rattle.capture_reader.specs.Format.{ordered_number_at}
use Rattle.capture_reader.specs.declared.format.Order.{Order}
use Rattle.bridge_links.specs.Extensions.{destination_after, extension_size, is_extension, upper_at, upper_from}
use Rattle.bridge_links.specs.Labels.{ip_under_labels}
use Rattle.bridge_links.specs.Logs.{part_size, payload_from}
use Rattle.bridge_links.specs.Starts.{ip_at_either}

-- one that was not captured is not skipped
short-by : (left kind place to : ℕ) (bytes : List ℕ) (is : Bool) → nat_le (place + 8) (length bytes) ≡ false
    → (if is && nat_le (place + 8) (length bytes)
    then upper_from left (slice_index bytes place) (place + extension_size place bytes) (destination_after kind place to bytes) bytes
    else upper_at kind place to bytes) ≡ upper_at kind place to bytes
short-by left kind place to bytes true short = rw short refl
short-by left kind place to bytes false short = refl

-- no header is skipped
pub upper_none : (left kind place to : ℕ) (bytes : List ℕ) → left ≡ 0 → upper_from left kind place to bytes ≡ upper_at kind place to bytes
unfolding upper_from
upper_none zero kind place to bytes none = refl
upper_none (suc left) kind place to bytes none = absurd (omega (arith, none))

pub upper_stop : (left kind place to : ℕ) (bytes : List ℕ) → is_extension kind ≡ false → upper_from left kind place to bytes ≡ upper_at kind place to bytes
unfolding upper_from
upper_stop zero kind place to bytes other = refl
upper_stop (suc left) kind place to bytes other =
    ap (λ (is : Bool). if is && nat_le (place + 8) (length bytes)
    then upper_from left (slice_index bytes place) (place + extension_size place bytes) (destination_after kind place to bytes) bytes
    else upper_at kind place to bytes) other

pub upper_short : (left kind place to : ℕ) (bytes : List ℕ) → length bytes < place + 8 → upper_from left kind place to bytes ≡ upper_at kind place to bytes
unfolding upper_from
upper_short zero kind place to bytes short = refl
upper_short (suc left) kind place to bytes short =
    short-by left kind place to bytes (is_extension kind) (lt-leb (place + 8) (length bytes) short)

-- one is
pub upper_step : (left kind place to : ℕ) (bytes : List ℕ) → 0 < left → is_extension kind ≡ true → place + 8 ≤ length bytes
    → upper_from left kind place to bytes
    ≡ upper_from (left - 1) (slice_index bytes place) (place + extension_size place bytes) (destination_after kind place to bytes) bytes
unfolding upper_from
upper_step zero kind place to bytes some goes long = absurd (omega (arith, some))
upper_step (suc left) kind place to bytes some goes long =
    let there = le-leb (place + 8) (length bytes) long in
    let one : left ≡ suc left - 1 = omega arith in
    rw (goes, there)
    (ap (λ (n : ℕ). upper_from n (slice_index bytes place) (place + extension_size place bytes) (destination_after kind place to bytes) bytes) one)

-- no part is left
pub payload_none : (left : ℕ) (order : Order) (place : ℕ) (bytes : List ℕ) → left ≡ 0 → payload_from left order place bytes ≡ None
unfolding payload_from
payload_none zero order place bytes none = refl
payload_none (suc left) order place bytes none = absurd (omega (arith, none))

pub payload_short : (left : ℕ) (order : Order) (place : ℕ) (bytes : List ℕ) → length bytes < place + 4 → payload_from left order place bytes ≡ None
unfolding payload_from
payload_short zero order place bytes short = refl
payload_short (suc left) order place bytes short = let is = lt-ltb (length bytes) (place + 4) short in rw is refl

-- the packet is found
pub payload_here : (left : ℕ) (order : Order) (place : ℕ) (bytes : List ℕ) → 0 < left → place + 4 ≤ length bytes
    → ordered_number_at order (place + 2) 2 bytes ≡ 9 → payload_from left order place bytes ≡ Some (place + 4)
unfolding payload_from
payload_here zero order place bytes some long here = absurd (omega (arith, some))
payload_here (suc left) order place bytes some long here =
    let there = le-ltb (length bytes) (place + 4) long in
    let is : (ordered_number_at order (place + 2) 2 bytes == 9) ≡ true = ap (λ (n : ℕ). n == 9) here in
    rw (there, is) refl

-- it is looked for after another part
pub payload_step : (left : ℕ) (order : Order) (place : ℕ) (bytes : List ℕ) → 0 < left → place + 4 ≤ length bytes
    → (ordered_number_at order (place + 2) 2 bytes ≡ 9 → ⊥)
    → payload_from left order place bytes ≡ payload_from (left - 1) order (place + part_size order place bytes) bytes
unfolding payload_from
payload_step zero order place bytes some long other = absurd (omega (arith, some))
payload_step (suc left) order place bytes some long other =
    let there = le-ltb (length bytes) (place + 4) long in
    let is = ne_eqb (ordered_number_at order (place + 2) 2 bytes) 9 other in
    let one : left ≡ suc left - 1 = omega arith in
    rw (there, is) (ap (λ (n : ℕ). payload_from n order (place + part_size order place bytes) bytes) one)

-- no label is left
pub labels_none : (left place : ℕ) (bytes : List ℕ) → left ≡ 0 → ip_under_labels left place bytes ≡ None
unfolding ip_under_labels
labels_none zero place bytes none = refl
labels_none (suc left) place bytes none = absurd (omega (arith, none))

pub labels_short : (left place : ℕ) (bytes : List ℕ) → length bytes < place + 4 → ip_under_labels left place bytes ≡ None
unfolding ip_under_labels
labels_short zero place bytes short = refl
labels_short (suc left) place bytes short = let is = lt-ltb (length bytes) (place + 4) short in rw is refl

-- IP follows the last
pub labels_last : (left place : ℕ) (bytes : List ℕ) → 0 < left → place + 4 ≤ length bytes → slice_index bytes (place + 2) % 2 ≡ 1
    → ip_under_labels left place bytes ≡ ip_at_either (place + 4) bytes
unfolding ip_under_labels
labels_last zero place bytes some long last = absurd (omega (arith, some))
labels_last (suc left) place bytes some long last =
    let there = le-ltb (length bytes) (place + 4) long in
    let is : (slice_index bytes (place + 2) % 2 == 1) ≡ true = ap (λ (n : ℕ). n == 1) last in
    rw (there, is) refl

-- another label follows
pub labels_step : (left place : ℕ) (bytes : List ℕ) → 0 < left → place + 4 ≤ length bytes → (slice_index bytes (place + 2) % 2 ≡ 1 → ⊥)
    → ip_under_labels left place bytes ≡ ip_under_labels (left - 1) (place + 4) bytes
unfolding ip_under_labels
labels_step zero place bytes some long other = absurd (omega (arith, some))
labels_step (suc left) place bytes some long other =
    let there = le-ltb (length bytes) (place + 4) long in
    let is = ne_eqb (slice_index bytes (place + 2) % 2) 1 other in
    let one : left ≡ suc left - 1 = omega arith in
    rw (there, is) (ap (λ (n : ℕ). ip_under_labels n (place + 4) bytes) one)
