-- A report leaves entries after what it reaches, which are all Out, as they are.
use Rattle.std.proofs.Common.{◌≡◌, ℕ, zero, suc, ◌+◌, ◌-◌, ◌*◌, ◌^◌, ◌≤◌, ◌<◌, Bool, true, false, not, ◌&&◌, ◌||◌, cond, nat_lt, if◌then◌else◌, List, [], ◌∷◌, ◌++◌, map, replicate, Option, Some, None, length, take, drop, slice_get, drop-drop, length-append, length-drop, refl, sym, ap, ◌∙◌, subst, arith}
use Rattle.std.specs.List.{list_all, AllByRecursion}
use Rattle.std.specs.Option.{option_to_list}
use Rattle.circular_buffer.specs.Buffer.{keep_last}
use Rattle.std.proofs.lemmas.Bool.Decides.{nat_tests}
use Rattle.std.proofs.lemmas.Bool.{and_parts}
use Rattle.std.proofs.lemmas.List.{take-append-drop, length-replicate, drop-append-le, drop-map}
use Rattle.std.proofs.lemmas.List.Sums.{sum_by-cons}
use Rattle.std.proofs.lemmas.Option.{slice_get_past}
use Rattle.seq_circle.specs.Circle.{distance}
use Rattle.dccp_options.specs.Vectors.{is_received, is_unmarked, is_marked, state_at, states, state_of, run_length}
use Rattle.congestion_trait.specs.declared.flight.FlightEntry.{FlightEntry}
use Rattle.congestion_trait.specs.declared.flight.Standing.{Standing}
use Rattle.congestion_trait.specs.declared.flight.Standing.TheVariants.{Out, Reported, Lost}
use Rattle.congestion_trait.specs.Flight.{States, pipe_of, reported_count, after_report, acked_count, is_congested, is_out, is_reported, is_past, entry_reported, lost_if, is_passed}
use Rattle.seq_circle.proofs.Near.{all_low, near_drop}
use Rattle.congestion_trait.proofs.Settled.{untouched_from_reported, report_from, acked_from, congested_from}
use Rattle.congestion_trait.specs.Walk.{AllReported, AllOut, is_unheard, AllUnheard, numbers, IsAlong}
use Rattle.seq_circle.specs.Near.{AreNear}

abbrev at : ℕ → Standing → FlightEntry
at number standing = record { number = number; standing = standing }

-- an entry of this standing is Out, and is not said to be received
abbrev Unheard : Standing → Bool → Type 0
Unheard standing received = (is_out standing && not received) ≡ true

out_of : (standing : Standing) (received : Bool) → Unheard standing received → is_out standing ≡ true
out_of Out received h = refl
out_of Reported received h = cc
out_of Lost received h = cc

stays : (standing : Standing) (received : Bool) (number : ℕ) → Unheard standing received
    → lost_if false (cond received (record (at number standing) { standing = Reported }) (at number standing)) ≡ at number standing
stays Out true number h = cc
stays Out false number h = refl
stays Reported received number h = cc
stays Lost received number h = cc

unreported : (standing : Standing) (received : Bool) (number : ℕ) → Unheard standing received
    → is_reported (cond received (record (at number standing) { standing = Reported }) (at number standing)).standing ≡ false
unreported Out true number h = cc
unreported Out false number h = refl
unreported Reported received number h = cc
unreported Lost received number h = cc

not_acked : (standing : Standing) (unmarked marked : Bool) → Unheard standing (unmarked || marked) → (not (is_reported standing) && unmarked) ≡ false
not_acked Out true marked h = cc
not_acked Out false marked h = refl
not_acked Reported unmarked marked h = cc
not_acked Lost unmarked marked h = cc

no_news : (standing : Standing) (past unmarked marked : Bool) (number : ℕ) → Unheard standing (unmarked || marked)
    → (past && (not (is_reported standing) && marked
    || is_out (cond (unmarked || marked) (record (at number standing) { standing = Reported }) (at number standing)).standing && false)) ≡ false
no_news standing false unmarked marked number h = refl
no_news Out true true marked number h = cc
no_news Out true false true number h = cc
no_news Out true false false number h = refl
no_news Reported true unmarked marked number h = cc
no_news Lost true unmarked marked number h = cc

none_reported : (told : States) (entries : List FlightEntry) → AllUnheard told entries → reported_count (map (entry_reported told) entries) ≡ 0
none_reported told [] all = refl
none_reported told (entry ∷ later) all =
    let parts = and_parts (is_unheard told entry) (list_all (λ e. is_unheard told e) later) all in
    let first = sum_by-cons (λ (e : FlightEntry). cond (is_reported e.standing) 1 0) (entry_reported told entry) (map (entry_reported told) later) in
    let none : cond (is_reported (entry_reported told entry).standing) 1 0 ≡ 0 =
    ap {B = ℕ} (λ b. cond b 1 0) (unreported entry.standing (is_received (told entry.number)) entry.number parts.0) in
    omega (arith, first, none, none_reported told later parts.1)

not_passed : (told : States) (entries : List FlightEntry) → AllUnheard told entries → is_passed (map (entry_reported told) entries) ≡ false
not_passed told entries all = rw (none_reported told entries all) refl

pub report_unheard : (told : States) (entries : List FlightEntry) → AllUnheard told entries → after_report told entries ≡ entries
report_unheard told [] all = refl
report_unheard told (entry ∷ later) all =
    let parts = and_parts (is_unheard told entry) (list_all (λ e. is_unheard told e) later) all in
    let received = is_received (told entry.number) in
    ap (λ b. lost_if b (entry_reported told entry) ∷ after_report told later) (not_passed told later parts.1)
    ∙ ap (λ e. e ∷ after_report told later) (stays entry.standing received entry.number parts.0)
    ∙ ap (λ l. entry ∷ l) (report_unheard told later parts.1)

acked_unheard : (told : States) (entries : List FlightEntry) → AllUnheard told entries → acked_count told entries ≡ 0
acked_unheard told [] all = refl
acked_unheard told (entry ∷ later) all =
    let parts = and_parts (is_unheard told entry) (list_all (λ e. is_unheard told e) later) all in
    let first = sum_by-cons (λ (e : FlightEntry). cond (not (is_reported e.standing) && is_unmarked (told e.number)) 1 0) entry later in
    let none : cond (not (is_reported entry.standing) && is_unmarked (told entry.number)) 1 0 ≡ 0 =
    ap {B = ℕ} (λ b. cond b 1 0) (not_acked entry.standing (is_unmarked (told entry.number)) (is_marked (told entry.number)) parts.0) in
    omega (arith, first, none, acked_unheard told later parts.1)

congested_unheard : (told : States) (mark : Option ℕ) (entries : List FlightEntry) → AllUnheard told entries → is_congested told mark entries ≡ false
congested_unheard told mark [] all = refl
congested_unheard told mark (entry ∷ later) all =
    let parts = and_parts (is_unheard told entry) (list_all (λ e. is_unheard told e) later) all in
    let past = is_past mark entry.number in
    let state = told entry.number in
    ap (λ b. past && (not (is_reported entry.standing) && is_marked state || is_out (entry_reported told entry).standing && b)
    || is_congested told mark later) (not_passed told later parts.1)
    ∙ ap (λ b. b || is_congested told mark later) (no_news entry.standing past (is_unmarked state) (is_marked state) entry.number parts.0)
    ∙ congested_unheard told mark later parts.1

pipe_unheard : (told : States) (entries : List FlightEntry) → AllUnheard told entries → pipe_of entries ≡ length entries
pipe_unheard told [] all = refl
pipe_unheard told (entry ∷ later) all =
    let parts = and_parts (is_unheard told entry) (list_all (λ e. is_unheard told e) later) all in
    let first = sum_by-cons (λ (e : FlightEntry). cond (is_out e.standing) 1 0) entry later in
    let one : cond (is_out entry.standing) 1 0 ≡ 1 =
    ap {B = ℕ} (λ b. cond b 1 0) (out_of entry.standing (is_received (told entry.number)) parts.0) in
    omega (arith, first, one, pipe_unheard told later parts.1)

-- before the newest entry that the report may reach
pub begins_from : (told : States) (mark : Option ℕ) (old : List FlightEntry) (heard unheard : ℕ) → AllUnheard told (drop heard old) → unheard ≡ length old - heard
    → IsAlong told mark old heard old record { acked = 0; congested = false; reported = 0; out = unheard; seen = unheard; heard = heard }
begins_from told mark old heard unheard all is =
    let same = report_unheard told (drop heard old) all in
    let count : unheard ≡ pipe_of (drop heard old) = is ∙ sym (length-drop heard old) ∙ sym (pipe_unheard told (drop heard old) all) in
    record {
      entries = sym (take-append-drop heard old) ∙ ap (λ l. take heard old ++ l) (sym same);
      acked = sym (acked_unheard told (drop heard old) all);
      congested = sym (congested_unheard told mark (drop heard old) all);
      reported = sym (none_reported told (drop heard old) all);
      out = count ∙ ap pipe_of (sym same);
      seen = count;
    }

-- if the report says of none after a front of Reported entries that it was received, it changes none and is no news
pub none_reached : (told : States) (mark : Option ℕ) (entries : List FlightEntry) (settled : ℕ) → AllReported (take settled entries)
    → AllUnheard told (drop settled entries)
    → (after_report told entries ≡ entries) × (acked_count told entries ≡ 0) × (is_congested told mark entries ≡ false)
none_reached told mark entries settled front all =
    let same = untouched_from_reported told (take settled entries) front in (
      sym (report_from told mark entries settled same)
          ∙ ap (λ l. take settled entries ++ l) (report_unheard told (drop settled entries) all)
          ∙ take-append-drop settled entries,
      sym (acked_from told mark entries settled same) ∙ acked_unheard told (drop settled entries) all,
      sym (congested_from told mark entries settled same) ∙ congested_unheard told mark (drop settled entries) all,
    )

-- where none is left, the report says nothing of any
pub none_unheard : (told : States) (n : ℕ) (entries : List FlightEntry) → slice_get entries n ≡ None → AllUnheard told (drop n entries)
none_unheard told zero [] none = refl
none_unheard told zero (entry ∷ later) none = cc
none_unheard told (suc n) [] none = refl
none_unheard told (suc n) (entry ∷ later) none = none_unheard told n later none

drop-after_report : (told : States) (n : ℕ) (entries : List FlightEntry) → drop n (after_report told entries) ≡ after_report told (drop n entries)
drop-after_report told zero entries = refl
drop-after_report told (suc n) [] = refl
drop-after_report told (suc n) (entry ∷ later) = drop-after_report told n later

out_unheard : (told : States) (entries : List FlightEntry) → AllUnheard told entries → AllOut entries
out_unheard told [] all = refl
out_unheard told (entry ∷ later) all =
    let parts = and_parts (is_unheard told entry) (list_all (λ e. is_unheard told e) later) all in
    ap (λ b. b && list_all (λ e. is_out e.standing) later) (out_of entry.standing (is_received (told entry.number)) parts.0)
    ∙ out_unheard told later parts.1

-- what a report does not reach is Out after it
pub out_after : (told : States) (n : ℕ) (entries : List FlightEntry) → AllUnheard told (drop n entries) → AllOut (drop n (after_report told entries))
out_after told n entries all =
    subst AllOut (sym (drop-after_report told n entries ∙ report_unheard told (drop n entries) all)) (out_unheard told (drop n entries) all)

out_drop : (n : ℕ) (entries : List FlightEntry) → AllOut entries → AllOut (drop n entries)
out_drop zero entries all = all
out_drop (suc n) [] all = refl
out_drop (suc n) (entry ∷ later) all =
    out_drop n later (and_parts (is_out entry.standing) (list_all (λ e. is_out e.standing) later) all).1

-- from a later place on all are Out too
pub out_from : (n m : ℕ) (entries : List FlightEntry) → n ≤ m → AllOut (drop n entries) → AllOut (drop m entries)
out_from n m entries later all =
    let rest = out_drop (m - n) (drop n entries) all in
    let same : n + (m - n) ≡ m = omega arith in
    subst (λ k. AllOut (drop k entries)) same (subst AllOut (drop-drop (m - n) n entries) rest)

out_push : (xs : List FlightEntry) (entry : FlightEntry) → AllOut xs → is_out entry.standing ≡ true → AllOut (xs ++ entry ∷ [])
out_push [] entry all is = ap (λ r. r && true) is
out_push (x ∷ xs) entry all is =
    let parts = and_parts (is_out x.standing) (list_all (λ e. is_out e.standing) xs) all in
    ap (λ b. b && list_all (λ e. is_out e.standing) (xs ++ entry ∷ [])) parts.0 ∙ out_push xs entry parts.1 is

length-states : (bytes : List ℕ) → length (states bytes) ≤ 64 * length bytes
length-states [] = omega arith
length-states (byte ∷ rest) =
    let whole = length-append (replicate (run_length byte) (state_of byte)) (states rest) in
    let run = length-replicate (run_length byte) (state_of byte) in
    omega (arith, whole, run, length-states rest)

not_reached : (ack n : ℕ) (bytes : List ℕ) → length bytes ≤ 1008 → 64512 ≤ distance n ack → state_at ack bytes n ≡ None
not_reached ack n bytes few far =
    slice_get_past (states bytes) (distance n ack) (omega (arith, length-states bytes))

following : (ack x y span : ℕ) → x < 2 ^ 48 → y < 2 ^ 48 → distance x y ≤ span → span + 64512 ≤ distance x ack → 64512 ≤ distance y ack
following ack x y span first second close far = omega arith

unheard_at : (told : States) (entry : FlightEntry) → is_out entry.standing ≡ true → told entry.number ≡ None → is_unheard told entry ≡ true
unheard_at told entry out none = ap (λ b. b && not (is_received (told entry.number))) out ∙ ap (λ s. not (is_received s)) none

all_unheard : (told : States) (P : ℕ → Type 0) → ((n : ℕ) → P n → told n ≡ None) → (entries : List FlightEntry) → AllOut entries
    → AllByRecursion P (numbers entries) → AllUnheard told entries
all_unheard told P none [] out all = refl
all_unheard told P none (entry ∷ later) out all =
    let parts = and_parts (is_out entry.standing) (list_all (λ e. is_out e.standing) later) out in
    ap (λ b. b && list_all (λ e. is_unheard told e) later) (unheard_at told entry parts.0 (none entry.number all.0))
    ∙ all_unheard told P none later parts.1 all.1

both : (P Q : ℕ → Type 0) (xs : List ℕ) → AllByRecursion P xs → AllByRecursion Q xs → AllByRecursion (λ x. P x × Q x) xs
both P Q [] one other = tt
both P Q (x ∷ xs) one other = ((one.0, other.0), both P Q xs one.1 other.1)

-- the entries from one on are near it, and it lies after all that the report reaches
all_after : (ack : ℕ) (bytes : List ℕ) (span : ℕ) (x : FlightEntry) (later : List FlightEntry) → length bytes ≤ 1008 → AllOut (x ∷ later)
    → AreNear span (numbers (x ∷ later)) → span + 64512 ≤ distance x.number ack → AllUnheard (state_at ack bytes) (x ∷ later)
all_after ack bytes span x later few out near far =
    let low = all_low span (numbers (x ∷ later)) near in
    let close : AllByRecursion (λ n. distance x.number n ≤ span) (numbers (x ∷ later)) = (omega (arith, near.0), near.1) in
    all_unheard (state_at ack bytes) (λ n. (n < 2 ^ 48) × (distance x.number n ≤ span))
    (λ n at. not_reached ack n bytes few (following ack x.number n span near.0 at.0 at.1 far)) (x ∷ later) out
    (both (λ n. n < 2 ^ 48) (λ n. distance x.number n ≤ span) (numbers (x ∷ later)) low close)

read_first : (i : ℕ) (old : List FlightEntry) (x : FlightEntry) → slice_get old i ≡ Some x → (later : List FlightEntry) × (drop i old ≡ x ∷ later)
read_first zero [] x read = cc
read_first zero (y ∷ later) x read = (later, cc)
read_first (suc i) [] x read = cc
read_first (suc i) (y ∷ later) x read = read_first i later x read

-- where an entry lies after all that the report reaches, so do those from it on
pub unheard_after : (ack : ℕ) (bytes : List ℕ) (span i : ℕ) (old : List FlightEntry) (x : FlightEntry) → length bytes ≤ 1008 → slice_get old i ≡ Some x
    → AllOut (drop i old) → (span < 2 ^ 48 → AreNear span (numbers old))
    → span + 64512 ≤ distance x.number ack → AllUnheard (state_at ack bytes) (drop i old)
unheard_after ack bytes span i old x few read out near far =
    let first = read_first i old x read in
    let small : span < 2 ^ 48 = omega (arith, far) in
    let dropped : drop i (numbers old) ≡ numbers (drop i old) = drop-map (λ (e : FlightEntry). e.number) i old in
    let rest : AreNear span (numbers (drop i old)) = subst (AreNear span) dropped (near_drop span i (numbers old) (near small)) in
    subst (λ l. AllUnheard (state_at ack bytes) l) (sym first.1)
    (all_after ack bytes span x first.0 few (subst AllOut first.1 out) (subst (λ l. AreNear span (numbers l)) first.1 rest) far)

one_left : (x : FlightEntry) (xs : List FlightEntry) (entry : FlightEntry) (heard : ℕ) → heard ≤ length (x ∷ xs) → is_out entry.standing ≡ true
    → AllOut (drop heard (x ∷ xs)) → AllOut (drop (heard - 1) (xs ++ entry ∷ []))
one_left x xs entry zero within out all =
    out_push xs entry (and_parts (is_out x.standing) (list_all (λ e. is_out e.standing) xs) all).1 out
one_left x xs entry (suc k) within out all =
    let less : suc k - 1 ≡ k = omega arith in
    let same = drop-append-le k xs (entry ∷ []) (omega arith) in
    rw (less, same) (out_push (drop k xs) entry all out)

out_sent_by : (items : List FlightEntry) (entry : FlightEntry) (heard : ℕ) (full : Bool) → nat_lt (length items) 2048 ≡ full → length items ≤ 2048
    → heard ≤ length items → is_out entry.standing ≡ true → AllOut (drop heard items)
    → AllOut (drop (heard - length (option_to_list (if full then None else slice_get (items ++ entry ∷ []) 0))) (keep_last 2048 (items ++ entry ∷ [])))
out_sent_by items entry heard true test few within out all =
    let size = length-append items (entry ∷ []) in
    let none : length (items ++ entry ∷ []) - 2048 ≡ 0 = grind (arith, nat_tests) in
    let same = drop-append-le heard items (entry ∷ []) within in
    let less : heard - 0 ≡ heard = omega arith in
    rw (none, less, same) (out_push (drop heard items) entry all out)
out_sent_by [] entry heard false test few within out all = cc
out_sent_by (x ∷ xs) entry heard false test few within out all =
    let size = length-append xs (entry ∷ []) in
    let long : 2048 ≤ length (x ∷ xs) = grind (arith, nat_tests) in
    let one : length (x ∷ xs ++ entry ∷ []) - 2048 ≡ 1 = omega arith in
    rw one (one_left x xs entry heard within out all)

-- what was sent is Out after what was heard of
pub out_sent : (items : List FlightEntry) (entry : FlightEntry) (heard : ℕ) (driven_out : Option FlightEntry)
    → driven_out ≡ (if nat_lt (length items) 2048 then None else slice_get (items ++ entry ∷ []) 0) → length items ≤ 2048
    → heard ≤ length items → is_out entry.standing ≡ true → AllOut (drop heard items)
    → AllOut (drop (heard - length (option_to_list driven_out)) (keep_last 2048 (items ++ entry ∷ [])))
out_sent items entry heard driven_out is few within out all =
    rw is (out_sent_by items entry heard (nat_lt (length items) 2048) refl few within out all)
