-- Numbers with at most this many steps between them, and how a report's end below one of them covers all before it.
use Rattle.std.proofs.Common.{◌≡◌, ℕ, ◌+◌, ◌-◌, ◌^◌, ◌≤◌, ◌<◌, Bool, true, false, not, ◌&&◌, ◌||◌, cond, List, [], ◌∷◌, ◌++◌, map, Option, Some, None, IsNone, IfNone, length, take, drop, slice_get, refl, sym, ap, ◌∙◌, subst, arith}
use Rattle.std.specs.List.{list_all, AllByRecursion}
use Rattle.std.proofs.lemmas.List.{take-append-drop, drop-map}
use Rattle.std.proofs.lemmas.List.Sums.{sum_by-cons, sum_by-append}
use mathlib.Core.List.{map-append}
use Rattle.seq_circle.specs.Circle.{distance}
use Rattle.seq_circle.specs.Near.{AreNear}
use Rattle.seq_circle.proofs.Near.{all_low, near_drop}
use Rattle.dccp_options.specs.Vectors.{is_received, state_at, states}
use Rattle.congestion_trait.specs.declared.flight.FlightEntry.{FlightEntry}
use Rattle.congestion_trait.specs.declared.flight.Standing.{Standing}
use Rattle.congestion_trait.specs.declared.flight.Standing.TheVariants.{Out, Reported, Lost}
use Rattle.congestion_trait.specs.Flight.{States, pipe_of, sent, after_report, is_out, is_reported, entry_reported, lost_if, is_passed}
use Rattle.congestion_trait.specs.Walk.{is_untouched, AllUntouched, numbers}

-- of the entries before and after one, that one too
all_at : (P : ℕ → Type 0) (front : List FlightEntry) (x : FlightEntry) (rest : List FlightEntry) → AllByRecursion P (numbers (front ++ x ∷ rest)) → P x.number
all_at P [] x rest all = all.0
all_at P (y ∷ ys) x rest all = all_at P ys x rest all.1

-- what is sent is near where the list with it was
pub near_sent : (span number : ℕ) (entries : List FlightEntry) → AreNear span (numbers entries ++ number ∷ []) → AreNear span (numbers (sent entries number))
near_sent span number entries near =
    let entry : FlightEntry = record { number = number; standing = Out } in
    let all : numbers (entries ++ entry ∷ []) ≡ numbers entries ++ number ∷ [] = map-append (λ (e : FlightEntry). e.number) entries (entry ∷ []) in
    let n = length (entries ++ entry ∷ []) - 2048 in
    let kept : drop n (numbers (entries ++ entry ∷ [])) ≡ numbers (sent entries number) = drop-map (λ (e : FlightEntry). e.number) n (entries ++ entry ∷ []) in
    subst (AreNear span) kept (near_drop span n (numbers (entries ++ entry ∷ [])) (subst (AreNear span) (sym all) near))

same_lost : (lost : Bool) (x : FlightEntry) → (cond lost (record x { standing = Lost }) x).number ≡ x.number
same_lost true x = refl
same_lost false x = refl

same_number : (received passed : Bool) (x : FlightEntry)
    → (lost_if passed (cond received (record x { standing = Reported }) x)).number ≡ x.number
same_number true passed x = refl
same_number false passed x = same_lost (is_out x.standing && passed) x

-- a report changes no number
pub numbers_after_report : (told : States) (entries : List FlightEntry) → numbers (after_report told entries) ≡ numbers entries
numbers_after_report told [] = refl
numbers_after_report told (x ∷ later) =
    ap (λ n. n ∷ numbers (after_report told later)) (same_number (is_received (told x.number)) (is_passed (map (entry_reported told) later)) x)
    ∙ ap (λ l. x.number ∷ l) (numbers_after_report told later)

no_one : (b : Bool) (n : ℕ) → cond b 1 0 + n ≡ 0 → b ≡ false
no_one true n none = absurd (omega arith)
no_one false n none = refl

untouched : (standing : Standing) (received : Bool) → is_out standing ≡ false → received ≡ false
    → (is_reported standing || not (is_out standing) && not received) ≡ true
untouched Out received out none = cc
untouched Reported received out none = refl
untouched Lost received out none = ap not none

-- where no entry in front is Out, and the report has no state for a number at most this many steps before x's, it touches none of them
untouched_before : (told : States) (span : ℕ) (front : List FlightEntry) (x : FlightEntry) (rest : List FlightEntry) → AreNear span (numbers (front ++ x ∷ rest))
    → pipe_of front ≡ 0 → ((number : ℕ) → number < 2 ^ 48 → distance number x.number ≤ span → told number ≡ None) → AllUntouched told front
untouched_before told span [] x rest near none ends = refl
untouched_before told span (y ∷ front) x rest near none ends =
    let first = sum_by-cons (λ (e : FlightEntry). cond (is_out e.standing) 1 0) y front in
    let out : is_out y.standing ≡ false = no_one (is_out y.standing) (pipe_of front) (sym first ∙ none) in
    let others : pipe_of front ≡ 0 = omega arith in
    let close : distance y.number x.number ≤ span = all_at (λ o. distance y.number o ≤ span) front x rest near.1 in
    let state = ends y.number near.0 close in
    let here = untouched y.standing (is_received (told y.number)) out (ap is_received state) in
    ap (λ b. b && list_all (λ e. is_untouched told e) front) here ∙ untouched_before told span front x rest near.2 others ends

far : (ack x y span : ℕ) → x < 2 ^ 48 → y < 2 ^ 48 → distance y x ≤ span → distance x ack + span < 2 ^ 48 → distance x ack ≤ distance y ack
far ack x y span first second close room = omega arith

-- a report that gives x's number no state gives none to a number at most this many steps before it
ends_at : (ack : ℕ) (bytes : List ℕ) (span x : ℕ) → x < 2 ^ 48 → distance x ack + span < 2 ^ 48
    → ((place : ℕ) → distance x ack ≤ place → slice_get (states bytes) place ≡ None)
    → (number : ℕ) → number < 2 ^ 48 → distance number x ≤ span → state_at ack bytes number ≡ None
ends_at ack bytes span x low room none number fits close = none (distance number ack) (far ack x number span low fits close room)

pub untouched_below : (ack : ℕ) (bytes : List ℕ) (span i : ℕ) (old rest : List FlightEntry) (x : FlightEntry) → drop i old ≡ x ∷ rest
    → AreNear span (numbers old) → pipe_of (drop i old) ≡ pipe_of old
    → distance x.number ack + span < 2 ^ 48
    → ((place : ℕ) → distance x.number ack ≤ place → slice_get (states bytes) place ≡ None)
    → AllUntouched (state_at ack bytes) (take i old)
untouched_below ack bytes span i old rest x cut near seen room none =
    let whole : take i old ++ x ∷ rest ≡ old = ap (λ l. take i old ++ l) (sym cut) ∙ take-append-drop i old in
    let near_whole : AreNear span (numbers (take i old ++ x ∷ rest)) = subst (λ l. AreNear span (numbers l)) (sym whole) near in
    let low : x.number < 2 ^ 48 = all_at (λ n. n < 2 ^ 48) (take i old) x rest (all_low span (numbers (take i old ++ x ∷ rest)) near_whole) in
    let sum : pipe_of (take i old ++ drop i old) ≡ pipe_of (take i old) + pipe_of (drop i old) =
    sum_by-append (λ (e : FlightEntry). cond (is_out e.standing) 1 0) (take i old) (drop i old) in
    let all : pipe_of (take i old ++ drop i old) ≡ pipe_of old = ap pipe_of (take-append-drop i old) in
    untouched_before (state_at ack bytes) span (take i old) x rest near_whole (omega arith) (ends_at ack bytes span x.number low room none)

pub if_none : {P : Type 0} (state : Option ℕ) → IsNone state → IfNone state P → P
if_none None is holds = holds
if_none (Some state) is holds = cc
