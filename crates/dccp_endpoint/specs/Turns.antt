-- What happens to the rows of the negotiation in one step, in order (RFC 4340, section 6).
--
-- Offers are made for a Request that is due or a packet that was taken, and Changes go out again for the timer negotiate. So a packet that is
-- not heard turns no row, which crates above need not prove again.
use Rattle.std.specs.Prelude.{ℕ, Bool, List, map}
use Rattle.feature_lists.specs.declared.features.Feature.{Feature}
use Rattle.feature_lists.specs.declared.features.Place.{Place}
use Rattle.feature_machine.specs.Rows.{RowEvent, Offers, Sends}
use Rattle.feature_machine.specs.Turns.{Turn, turn}

-- a row, by its feature and place
abbrev pub Key : Type 0
Key = Feature × Place

-- an event at this row
abbrev pub turn_of : Key → RowEvent → Turn
turn_of k event = turn k.0 k.1 event

-- the Changes of these rows go out under this number
abbrev pub sendings : ℕ → List Key → List Turn
sendings number keys = map (λ k. turn_of k (Sends number)) keys

-- the offers of these rows are made; a Confirm for some of them goes out on the same packet
abbrev pub offerings : (Key → Bool) → List Key → List Turn
offerings is_confirmed keys = map (λ k. turn_of k (Offers (is_confirmed k))) keys
