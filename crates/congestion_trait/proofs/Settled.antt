-- A report leaves a front of entries that it does not touch as it is, and counts nothing there.
use Rattle.std.proofs.Common.{◌≡◌, ℕ, zero, suc, ◌+◌, ◌-◌, ◌≤◌, nat_lt, if◌then◌else◌, Bool, true, false, not, ◌&&◌, ◌||◌, cond, List, [], ◌∷◌, ◌++◌, map, Option, Some, None, length, take, drop, slice_get, refl, sym, ap, ◌∙◌, subst, arith}
use Rattle.std.specs.List.{list_all}
use Rattle.std.specs.Option.{option_to_list}
use Rattle.circular_buffer.specs.Buffer.{keep_last}
use Rattle.std.proofs.lemmas.Bool.Decides.{nat_tests}
use Rattle.std.proofs.lemmas.Bool.{and_parts}
use Rattle.std.proofs.lemmas.List.{take_at, take-append-drop, length-take-le, take_more, take-append-le, length-append}
use Rattle.std.proofs.lemmas.List.Sums.{sum_by-cons}
use Rattle.std.proofs.lemmas.Option.{get_or_from_slice_get, slice_get_within}
use Rattle.congestion_trait.specs.declared.flight.FlightEntry.{FlightEntry}
use Rattle.congestion_trait.specs.declared.flight.Standing.{Standing}
use Rattle.congestion_trait.specs.declared.flight.Standing.TheVariants.{Out, Reported, Lost}
use Rattle.dccp_options.specs.Vectors.{is_received, is_unmarked, is_marked}
use Rattle.congestion_trait.specs.Flight.{States, pipe_of, after_report, acked_count, is_congested, is_out, is_reported, is_past, entry_reported, lost_if, is_passed, is_newly_acked}
use Rattle.congestion_trait.specs.Walk.{AllReported, is_untouched, AllUntouched}

abbrev at : ℕ → Standing → FlightEntry
at number standing = record { number = number; standing = standing }

-- an entry of this standing is left alone by a report, whether it says received or not
abbrev Untouched : Standing → Bool → Type 0
Untouched standing received = (is_reported standing || not (is_out standing) && not received) ≡ true

stays : (standing : Standing) (received passed : Bool) (number : ℕ) → Untouched standing received
    → lost_if passed (cond received (record (at number standing) { standing = Reported }) (at number standing)) ≡ at number standing
stays Out received passed number h = cc
stays Reported true passed number h = refl
stays Reported false passed number h = refl
stays Lost true passed number h = cc
stays Lost false passed number h = refl

not_acked : (standing : Standing) (unmarked marked : Bool) → Untouched standing (unmarked || marked) → (not (is_reported standing) && unmarked) ≡ false
not_acked Out unmarked marked h = cc
not_acked Reported unmarked marked h = refl
not_acked Lost true marked h = cc
not_acked Lost false marked h = refl

not_out : (standing : Standing) (received : Bool) → Untouched standing received → is_out standing ≡ false
not_out Out received h = cc
not_out Reported received h = refl
not_out Lost received h = refl

no_news : (standing : Standing) (past unmarked marked passed : Bool) (number : ℕ) → Untouched standing (unmarked || marked)
    → (past && (not (is_reported standing) && marked
    || is_out (cond (unmarked || marked) (record (at number standing) { standing = Reported }) (at number standing)).standing && passed)) ≡ false
no_news standing false unmarked marked passed number h = refl
no_news Out true unmarked marked passed number h = cc
no_news Reported true true marked passed number h = refl
no_news Reported true false true passed number h = refl
no_news Reported true false false passed number h = refl
no_news Lost true true marked passed number h = cc
no_news Lost true false true passed number h = cc
no_news Lost true false false passed number h = refl

reported_is_untouched : (standing : Standing) (received : Bool) → is_reported standing ≡ true → Untouched standing received
reported_is_untouched standing received h = ap (λ r. r || not (is_out standing) && not received) h

pub untouched_from_reported : (told : States) (front : List FlightEntry) → AllReported front → AllUntouched told front
untouched_from_reported told [] all = refl
untouched_from_reported told (entry ∷ front) all =
    let parts = and_parts (is_reported entry.standing) (list_all (λ e. is_reported e.standing) front) all in
    ap (λ b. b && list_all (λ e. is_untouched told e) front) (reported_is_untouched entry.standing (is_received (told entry.number)) parts.0)
    ∙ untouched_from_reported told front parts.1

pub report-front : (told : States) (front rest : List FlightEntry) → AllUntouched told front → after_report told (front ++ rest) ≡ front ++ after_report told rest
report-front told [] rest all = refl
report-front told (entry ∷ front) rest all =
    let parts = and_parts (is_untouched told entry) (list_all (λ e. is_untouched told e) front) all in
    let later = map (entry_reported told) (front ++ rest) in
    let same : lost_if (is_passed later) (entry_reported told entry) ≡ entry =
    stays entry.standing (is_received (told entry.number)) (is_passed later) entry.number parts.0 in
    ap (λ e. e ∷ after_report told (front ++ rest)) same ∙ ap (λ l. entry ∷ l) (report-front told front rest parts.1)

pub acked_count-front : (told : States) (front rest : List FlightEntry) → AllUntouched told front → acked_count told (front ++ rest) ≡ acked_count told rest
acked_count-front told [] rest all = refl
acked_count-front told (entry ∷ front) rest all =
    let parts = and_parts (is_untouched told entry) (list_all (λ e. is_untouched told e) front) all in
    let first = sum_by-cons (λ (e : FlightEntry). cond (is_newly_acked told e) 1 0) entry (front ++ rest) in
    let none : cond (is_newly_acked told entry) 1 0 ≡ 0 =
    ap {B = ℕ} (λ b. cond b 1 0) (not_acked entry.standing (is_unmarked (told entry.number)) (is_marked (told entry.number)) parts.0) in
    omega (arith, first, none, acked_count-front told front rest parts.1)

pub pipe_of-front : (told : States) (front rest : List FlightEntry) → AllUntouched told front → pipe_of (front ++ rest) ≡ pipe_of rest
pipe_of-front told [] rest all = refl
pipe_of-front told (entry ∷ front) rest all =
    let parts = and_parts (is_untouched told entry) (list_all (λ e. is_untouched told e) front) all in
    let first = sum_by-cons (λ (e : FlightEntry). cond (is_out e.standing) 1 0) entry (front ++ rest) in
    let none : cond (is_out entry.standing) 1 0 ≡ 0 = ap {B = ℕ} (λ b. cond b 1 0) (not_out entry.standing (is_received (told entry.number)) parts.0) in
    omega (arith, first, none, pipe_of-front told front rest parts.1)

pub is_congested-front : (told : States) (mark : Option ℕ) (front rest : List FlightEntry) → AllUntouched told front
    → is_congested told mark (front ++ rest) ≡ is_congested told mark rest
is_congested-front told mark [] rest all = refl
is_congested-front told mark (entry ∷ front) rest all =
    let parts = and_parts (is_untouched told entry) (list_all (λ e. is_untouched told e) front) all in
    let passed = is_passed (map (entry_reported told) (front ++ rest)) in
    let none = no_news entry.standing (is_past mark entry.number) (is_unmarked (told entry.number))
    (is_marked (told entry.number)) passed entry.number parts.0 in
    ap (λ b. b || is_congested told mark (front ++ rest)) none ∙ is_congested-front told mark front rest parts.1

module _ (told : States) (mark : Option ℕ) (entries : List FlightEntry) (settled : ℕ) (front : AllUntouched told (take settled entries)) where
  pub report_from : take settled entries ++ after_report told (drop settled entries) ≡ after_report told entries
  report_from = sym (report-front told (take settled entries) (drop settled entries) front) ∙ ap (λ l. after_report told l) (take-append-drop settled entries)

  pub acked_from : acked_count told (drop settled entries) ≡ acked_count told entries
  acked_from = sym (acked_count-front told (take settled entries) (drop settled entries) front)
      ∙ ap (λ l. acked_count told l) (take-append-drop settled entries)

  pub congested_from : is_congested told mark (drop settled entries) ≡ is_congested told mark entries
  congested_from = sym (is_congested-front told mark (take settled entries) (drop settled entries) front)
      ∙ ap (λ l. is_congested told mark l) (take-append-drop settled entries)

  pub pipe_from : pipe_of (after_report told (drop settled entries)) ≡ pipe_of (after_report told entries)
  pipe_from = sym (pipe_of-front told (take settled entries) (after_report told (drop settled entries)) front) ∙ ap pipe_of report_from

  pub front_stays : settled ≤ length entries → take settled (after_report told entries) ≡ take settled entries
  front_stays within =
      ap (λ l. take settled l) (sym report_from)
      ∙ take_at (take settled entries) (after_report told (drop settled entries)) settled (length-take-le settled entries within)

-- one more entry at the front is Reported
all-push : (xs : List FlightEntry) (entry : FlightEntry) → AllReported xs → is_reported entry.standing ≡ true → AllReported (xs ++ entry ∷ [])
all-push [] entry all is = ap (λ r. r && true) is
all-push (x ∷ xs) entry all is =
    let parts = and_parts (is_reported x.standing) (list_all (λ e. is_reported e.standing) xs) all in
    ap (λ b. b && list_all (λ e. is_reported e.standing) (xs ++ entry ∷ [])) parts.0 ∙ all-push xs entry parts.1 is

pub front_more : (xs : List FlightEntry) (i : ℕ) (entry : FlightEntry) → slice_get xs i ≡ Some entry → AllReported (take i xs) → is_reported entry.standing ≡ true
    → AllReported (take (i + 1) xs)
front_more xs i entry read all is =
    let within = slice_get_within xs i entry read in
    let here = get_or_from_slice_get xs i entry entry read in
    let longer : take (i + 1) xs ≡ take i xs ++ entry ∷ [] = take_more xs i entry within ∙ ap (λ e. take i xs ++ e ∷ []) here in
    subst AllReported (sym longer) (all-push (take i xs) entry all is)

one_left : (x : FlightEntry) (xs : List FlightEntry) (entry : FlightEntry) (settled : ℕ) → settled ≤ length (x ∷ xs) → AllReported (take settled (x ∷ xs))
    → AllReported (take (settled - 1) (xs ++ entry ∷ []))
one_left x xs entry zero within all = refl
one_left x xs entry (suc k) within all =
    let parts = and_parts (is_reported x.standing) (list_all (λ e. is_reported e.standing) (take k xs)) all in
    let less : suc k - 1 ≡ k = omega arith in
    let same = take-append-le k xs (entry ∷ []) (omega arith) in
    rw (less, same) parts.1

front_sent_by : (items : List FlightEntry) (entry : FlightEntry) (settled : ℕ) (full : Bool) → nat_lt (length items) 2048 ≡ full → length items ≤ 2048
    → settled ≤ length items → AllReported (take settled items)
    → AllReported (take (settled - length (option_to_list (if full then None else slice_get (items ++ entry ∷ []) 0))) (keep_last 2048 (items ++ entry ∷ [])))
front_sent_by items entry settled true test few within all =
    let size = length-append items (entry ∷ []) in
    let none : length (items ++ entry ∷ []) - 2048 ≡ 0 = grind (arith, nat_tests) in
    let same = take-append-le settled items (entry ∷ []) within in
    let less : settled - 0 ≡ settled = omega arith in
    rw (none, less, same) all
front_sent_by [] entry settled false test few within all = cc
front_sent_by (x ∷ xs) entry settled false test few within all =
    let size = length-append xs (entry ∷ []) in
    let long : 2048 ≤ length (x ∷ xs) = grind (arith, nat_tests) in
    let one : length (x ∷ xs ++ entry ∷ []) - 2048 ≡ 1 = omega arith in
    rw one (one_left x xs entry settled within all)

-- what was sent leaves the front Reported, except for the entry that it drives out
pub front_sent : (items : List FlightEntry) (entry : FlightEntry) (settled : ℕ) (driven_out : Option FlightEntry)
    → driven_out ≡ (if nat_lt (length items) 2048 then None else slice_get (items ++ entry ∷ []) 0) → length items ≤ 2048
    → settled ≤ length items → AllReported (take settled items)
    → AllReported (take (settled - length (option_to_list driven_out)) (keep_last 2048 (items ++ entry ∷ [])))
front_sent items entry settled driven_out is few within all =
    rw is (front_sent_by items entry settled (nat_lt (length items) 2048) refl few within all)
