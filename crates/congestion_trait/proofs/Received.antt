-- A report that finds entries Out, and says that they were received, makes them Reported.
use Rattle.std.proofs.Common.{◌≡◌, ℕ, ◌+◌, ◌-◌, ◌≤◌, ◌<◌, ◌⊎◌, inl, inr, Bool, true, false, ◌&&◌, ◌||◌, List, ◌∷◌, Option, Some, length, drop, slice_get, slice_set, refl, sym, ap, ◌∙◌, subst, arith}
use Rattle.std.specs.List.{list_all}
use Rattle.std.proofs.Math.Nat.{eq-or-lt_of_le}
use Rattle.std.proofs.lemmas.Bool.{and_parts}
use Rattle.std.proofs.lemmas.List.{drop_more}
use Rattle.std.proofs.lemmas.Option.{get_or_from_slice_get, slice_get_read, slice_get_within}
use Rattle.congestion_trait.specs.declared.flight.FlightEntry.{FlightEntry}
use Rattle.congestion_trait.specs.declared.flight.Standing.{Standing}
use Rattle.congestion_trait.specs.declared.flight.Standing.TheVariants.{Out, Reported, Lost}
use Rattle.congestion_trait.specs.Flight.{States, is_out, is_past}
use Rattle.congestion_trait.specs.Walk.{AllOut, AllUnheard, AreReceived, IsAlong, received_walk}
use Rattle.congestion_trait.proofs.Settling.{IsStep, read_old, turn}
use Rattle.congestion_trait.proofs.Unheard.{begins_from, out_from}

abbrev at : ℕ → Standing → FlightEntry
at number standing = record { number = number; standing = standing }

-- entries that are Out from a place on are so at each
pub out_at : (from i : ℕ) (entries : List FlightEntry) (x : FlightEntry) → from ≤ i → AllOut (drop from entries) → slice_get entries i ≡ Some x
    → is_out x.standing ≡ true
out_at from i entries x low all read =
    let within = slice_get_within entries i x read in
    let here : drop i entries ≡ x ∷ drop (i + 1) entries =
    drop_more entries i x within ∙ ap (λ e. e ∷ drop (i + 1) entries) (get_or_from_slice_get entries i x x read) in
    (and_parts (is_out x.standing) (list_all (λ e. is_out e.standing) (drop (i + 1) entries)) (subst AllOut here (out_from from i entries low all))).0

pub received_none : (told : States) (from : ℕ) (entries : List FlightEntry) → AreReceived told from from entries
received_none told from entries = λ place entry low high given. absurd (omega arith)

received_at : (told : States) (from i : ℕ) (entries : List FlightEntry) (x : FlightEntry) → AreReceived told from i entries → slice_get entries i ≡ Some x
    → is_out x.standing ≡ true → told x.number ≡ Some 0 → (place : ℕ) (entry : FlightEntry) → from ≤ place → (place ≡ i) ⊎ (place < i)
    → slice_get entries place ≡ Some entry → (is_out entry.standing ≡ true) × (told entry.number ≡ Some 0)
received_at told from i entries x all read out received place entry low (inl same) given =
    let is : x ≡ entry = cc in (subst (λ e. is_out e.standing ≡ true) is out, subst (λ e. told e.number ≡ Some 0) is received)
received_at told from i entries x all read out received place entry low (inr before) given = all place entry low before given

-- one entry more was received
pub received_more : (told : States) (from i : ℕ) (entries : List FlightEntry) (x : FlightEntry) → AreReceived told from i entries
    → slice_get entries i ≡ Some x → is_out x.standing ≡ true → told x.number ≡ Some 0 → AreReceived told from (i + 1) entries
received_more told from i entries x all read out received = λ place entry low high given.
    received_at told from i entries x all read out received place entry low (eq-or-lt_of_le (omega arith)) given

-- what was received without a mark shows no congestion
no_congestion : (past : Bool) → false ≡ (past && false || false)
no_congestion past = elim past as (λ p. false ≡ (p && false || false)) [ true ↦ refl | false ↦ refl ]

-- one entry more, which was Out
one_more : (mark : Option ℕ) (number : ℕ) (standing : Standing) (unheard acked next heard : ℕ) → is_out standing ≡ true → next ≡ acked + 1
    → IsStep (Some 0) mark (at number standing) (received_walk unheard acked heard) (received_walk unheard next heard) Reported
one_more mark number Out unheard acked next heard out one = record {
  stands = refl;
  acked = one;
  congested = no_congestion (is_past mark number);
  reported = one;
  out = omega arith;
  seen = omega (arith, one);
}
one_more mark number Reported unheard acked next heard out one = cc
one_more mark number Lost unheard acked next heard out one = cc

-- an entry is received, and those after it were
pub turn_received : (told : States) (mark : Option ℕ) (old now : List FlightEntry) (from heard n i : ℕ) (x : FlightEntry) (unheard : ℕ)
    → n ≡ i + 1 → n ≤ heard → heard ≤ length old → from ≤ i → AreReceived told from heard old → slice_get now i ≡ Some x
    → IsAlong told mark old n now (received_walk unheard (heard - n) heard)
    → IsAlong told mark old i (slice_set now i (record x { standing = Reported })) (received_walk unheard (heard - i) heard)
turn_received told mark old now from heard n i x unheard one high within low all read along =
    let walk = received_walk unheard (heard - n) heard in
    let same = read_old told mark old now n i x walk one (omega arith) along read in
    let is = all i x low (omega arith) (slice_get_read old (length old) i x refl (omega arith) (sym same)) in
    let step = one_more mark x.number x.standing unheard (heard - n) (heard - i) heard is.0 (omega arith) in
    turn told mark (Some 0) old now n i x walk (received_walk unheard (heard - i) heard) Reported one (omega arith) along read (sym is.1) step

-- before any was
pub begins_received : (told : States) (mark : Option ℕ) (old : List FlightEntry) (heard : ℕ) → AllUnheard told (drop heard old)
    → IsAlong told mark old heard old (received_walk (length old - heard) (heard - heard) heard)
begins_received told mark old heard all =
    let none : heard - heard ≡ 0 = omega arith in
    let same : length old - heard + 0 ≡ length old - heard = omega arith in
    rw none (rw same (begins_from told mark old heard (length old - heard) all refl))
