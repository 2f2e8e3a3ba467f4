-- The numbers that are Reported, as a list.
use Rattle.std.proofs.Common.{◌≡◌, ℕ, zero, suc, List, [], ◌∷◌, ap, ◌↔◌, arith}
use Rattle.std.specs.List.{Contains}
use Rattle.congestion_trait.specs.declared.flight.FlightEntry.{FlightEntry}
use Rattle.congestion_trait.specs.declared.flight.Standing.{Standing}
use Rattle.congestion_trait.specs.declared.flight.Standing.TheVariants.{Out, Reported, Lost}
use Rattle.congestion_trait.specs.Flight.{Has, numbers_reported}

number_later : (x : ℕ) (rest : List ℕ) (number : ℕ) → Contains rest number → Contains (x ∷ rest) number
number_later x rest number h = (suc h.0, omega (arith, h.1), h.2)

entry_later : (entry : FlightEntry) (later : List FlightEntry) (number : ℕ) → Has later number Reported → Has (entry ∷ later) number Reported
entry_later entry later number h = (suc h.0, omega (arith, h.1), h.2)

module _ (number : ℕ) (later : List FlightEntry) where
  -- one entry more, by its standing
  from_numbers : (n : ℕ) (standing : Standing)
      → (Contains (numbers_reported later) number → Has later number Reported)
      → Contains (numbers_reported (record { number = n; standing = standing } ∷ later)) number
      → Has (record { number = n; standing = standing } ∷ later) number Reported
  from_numbers n Out rest h = entry_later _ later number (rest h)
  from_numbers n Lost rest h = entry_later _ later number (rest h)
  from_numbers n Reported rest (zero, within, is) = (0, omega arith, ap {B = FlightEntry} (λ m. record { number = m; standing = Reported }) is)
  from_numbers n Reported rest (suc k, within, is) = entry_later _ later number (rest (k, omega (arith, within), is))

  to_numbers : (n : ℕ) (standing : Standing)
      → (Has later number Reported → Contains (numbers_reported later) number)
      → Has (record { number = n; standing = standing } ∷ later) number Reported
      → Contains (numbers_reported (record { number = n; standing = standing } ∷ later)) number
  to_numbers n Out rest (zero, within, is) = let standings : Out ≡ Reported = ap (λ (e : FlightEntry). e.standing) is in cc
  to_numbers n Lost rest (zero, within, is) = let standings : Lost ≡ Reported = ap (λ (e : FlightEntry). e.standing) is in cc
  to_numbers n Reported rest (zero, within, is) = (0, omega arith, ap (λ (e : FlightEntry). e.number) is)
  to_numbers n Out rest (suc k, within, is) = rest (k, omega (arith, within), is)
  to_numbers n Lost rest (suc k, within, is) = rest (k, omega (arith, within), is)
  to_numbers n Reported rest (suc k, within, is) = number_later n (numbers_reported later) number (rest (k, omega (arith, within), is))

in_numbers : (entries : List FlightEntry) (number : ℕ) → Has entries number Reported → Contains (numbers_reported entries) number
in_numbers [] number h = absurd (omega (arith, h.1))
in_numbers (entry ∷ later) number h = to_numbers number later entry.number entry.standing (λ rest. in_numbers later number rest) h

in_entries : (entries : List FlightEntry) (number : ℕ) → Contains (numbers_reported entries) number → Has entries number Reported
in_entries [] number h = absurd (omega (arith, h.1))
in_entries (entry ∷ later) number h = from_numbers number later entry.number entry.standing (λ rest. in_entries later number rest) h

pub numbers_reported-exact : (entries : List FlightEntry) (number : ℕ) → Contains (numbers_reported entries) number ↔ Has entries number Reported
numbers_reported-exact entries number = (λ h. in_entries entries number h, λ h. in_numbers entries number h)
