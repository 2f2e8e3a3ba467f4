-- Which numbers stand how in a flight list after a report, and how the pipe falls.
use Rattle.std.proofs.Common.{◌≡◌, ℕ, zero, suc, ◌+◌, ◌<◌, Bool, true, false, ◌&&◌, ◌||◌, cond, List, [], ◌∷◌, map, length, get_or, refl, sym, ap, ◌∙◌, subst, inl, inr, ◌⊎◌, ⊎_elim, IsTrue, arith}
use Rattle.std.proofs.lemmas.List.Sums.{sum_by-cons}
use Rattle.congestion_trait.specs.declared.flight.FlightEntry.{FlightEntry}
use Rattle.congestion_trait.specs.declared.flight.Standing.{Standing}
use Rattle.congestion_trait.specs.declared.flight.Standing.TheVariants.{Out, Reported, Lost}
use Rattle.dccp_options.specs.Vectors.{is_received}
use Rattle.congestion_trait.specs.Flight.{States, pipe_of, after_report, is_out, entry_reported, lost_if, is_passed, Has, HasEntry, leaving_count}
use Rattle.congestion_trait.proofs.Settling.{settled-is}

-- an entry that is not Lost in the end was not changed into Lost
unlost : (test : Bool) (entry after : FlightEntry) → (after.standing ≡ Lost → ⊥) → cond test (record entry { standing = Lost }) entry ≡ after → entry ≡ after
unlost true entry after other is = absurd (other (sym (ap (λ (e : FlightEntry). e.standing) is)))
unlost false entry after other is = is

head_reported : (received passed : Bool) (entry : FlightEntry) (number : ℕ)
    → lost_if passed (cond received (record entry { standing = Reported }) entry) ≡ record { number = number; standing = Reported }
    → (entry ≡ record { number = number; standing = Reported }) ⊎ ((received ≡ true) × (entry.number ≡ number))
head_reported true passed entry number is = inr (refl, ap (λ (e : FlightEntry). e.number) is)
head_reported false passed entry number is = inl (unlost (is_out entry.standing && passed) entry _ (λ h. cc) is)

head_out : (received passed : Bool) (entry : FlightEntry) (number : ℕ)
    → lost_if passed (cond received (record entry { standing = Reported }) entry) ≡ record { number = number; standing = Out }
    → entry ≡ record { number = number; standing = Out }
head_out true passed entry number is = let standings : Reported ≡ Out = ap (λ (e : FlightEntry). e.standing) is in cc
head_out false passed entry number is = unlost (is_out entry.standing && passed) entry _ (λ h. cc) is

has_later : (entry : FlightEntry) (later : List FlightEntry) (number : ℕ) (standing : Standing) → Has later number standing → Has (entry ∷ later) number standing
has_later entry later number standing h = (suc h.0, omega (arith, h.1), h.2)

reported_at : (told : States) (entries : List FlightEntry) (number k : ℕ) → k < length (after_report told entries)
    → get_or (after_report told entries) k (record { number = number; standing = Reported }) ≡ record { number = number; standing = Reported }
    → Has entries number Reported ⊎ IsTrue (is_received (told number))
reported_at told [] number k within is = absurd (omega arith)
reported_at told (entry ∷ later) number zero within is =
    ⊎_elim (λ same. inl (0, omega arith, same))
    (λ received. inr (subst (λ n. is_received (told n) ≡ true) received.1 received.0))
    (head_reported (is_received (told entry.number)) (is_passed (map (entry_reported told) later)) entry number is)
reported_at told (entry ∷ later) number (suc k) within is =
    ⊎_elim (λ h. inl (has_later entry later number Reported h)) (λ r. inr r) (reported_at told later number k (omega arith) is)

-- a report makes Reported what it gives state 0 or 1
pub reported_before_or_received : (told : States) (entries : List FlightEntry) (number : ℕ)
    → Has (after_report told entries) number Reported → Has entries number Reported ⊎ IsTrue (is_received (told number))
reported_before_or_received told entries number h = reported_at told entries number h.0 h.1 h.2

out_at : (told : States) (entries : List FlightEntry) (number k : ℕ) → k < length (after_report told entries)
    → get_or (after_report told entries) k (record { number = number; standing = Out }) ≡ record { number = number; standing = Out }
    → Has entries number Out
out_at told [] number k within is = absurd (omega arith)
out_at told (entry ∷ later) number zero within is =
    (0, omega arith, head_out (is_received (told entry.number)) (is_passed (map (entry_reported told) later)) entry number is)
out_at told (entry ∷ later) number (suc k) within is = has_later entry later number Out (out_at told later number k (omega arith) is)

-- a report makes nothing Out
pub out_before : (told : States) (entries : List FlightEntry) (number : ℕ) → Has (after_report told entries) number Out → Has entries number Out
out_before told entries number h = out_at told entries number h.0 h.1 h.2

-- a report changes no number
pub same_number : (received passed : Bool) (entry : FlightEntry)
    → (lost_if passed (cond received (record entry { standing = Reported }) entry)).number ≡ entry.number
same_number true passed entry = refl
same_number false passed entry =
    elim (is_out entry.standing && passed) as (λ b. (cond b (record entry { standing = Lost }) entry).number ≡ entry.number) [ true ↦ refl | false ↦ refl ]

listed_later : (entry : FlightEntry) (later : List FlightEntry) (number : ℕ) → HasEntry later number → HasEntry (entry ∷ later) number
listed_later entry later number h = (h.0, has_later entry later number h.0 h.1)

listed_at : (told : States) (entries : List FlightEntry) (number : ℕ) (standing : Standing) (k : ℕ) → k < length (after_report told entries)
    → get_or (after_report told entries) k (record { number = number; standing = standing }) ≡ record { number = number; standing = standing }
    → HasEntry entries number
listed_at told [] number standing k within is = absurd (omega arith)
listed_at told (entry ∷ later) number standing zero within is =
    let numbers = sym (same_number (is_received (told entry.number)) (is_passed (map (entry_reported told) later)) entry) ∙ ap (λ (e : FlightEntry). e.number) is in
    (entry.standing, (0, omega arith, ap {B = FlightEntry} (λ n. record { number = n; standing = entry.standing }) numbers))
listed_at told (entry ∷ later) number standing (suc k) within is =
    listed_later entry later number (listed_at told later number standing k (omega arith) is)

-- a report adds no number
pub listed_before : (told : States) (entries : List FlightEntry) (number : ℕ) → HasEntry (after_report told entries) number → HasEntry entries number
listed_before told entries number h = listed_at told entries number h.0 h.1.0 h.1.1 h.1.2

-- one entry's part of the pipe
pipe_at : (received passed : Bool) (standing : Standing)
    → cond (is_out (cond received Reported (cond (is_out standing && passed) Lost standing))) 1 0 + cond (is_out standing && (received || passed)) 1 0
    ≡ cond (is_out standing) 1 0
pipe_at true passed Out = refl
pipe_at true passed Reported = refl
pipe_at true passed Lost = refl
pipe_at false true Out = refl
pipe_at false false Out = refl
pipe_at false passed Reported = refl
pipe_at false passed Lost = refl

-- the pipe falls by the entries that leave it
pub pipe_of-after_report : (told : States) (entries : List FlightEntry) → pipe_of (after_report told entries) + leaving_count told entries ≡ pipe_of entries
pipe_of-after_report told [] = refl
pipe_of-after_report told (entry ∷ later) =
    let received = is_received (told entry.number) in
    let passed = is_passed (map (entry_reported told) later) in
    let after = lost_if passed (entry_reported told entry) in
    let before = sum_by-cons (λ (e : FlightEntry). cond (is_out e.standing) 1 0) entry later in
    let now = sum_by-cons (λ (e : FlightEntry). cond (is_out e.standing) 1 0) after (after_report told later) in
    let stands = ap {B = ℕ} (λ (e : FlightEntry). cond (is_out e.standing) 1 0) (settled-is received passed entry) in
    let one = pipe_at received passed entry.standing in
    let rest = pipe_of-after_report told later in
    omega (arith, before, now, stands, one, rest)
