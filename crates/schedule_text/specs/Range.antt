-- What one line has room for (own).
use Rattle.std.specs.Prelude.{◌≡◌, ℕ, ◌<◌, ◌≤◌, ◌^◌, true, List, length, All, IsOk}
use Rattle.hex.specs.Hex.{IsBytes}
use Rattle.feature_lists.specs.Wishes.{is_ours, wish_of}
use Rattle.world_events.specs.declared.event.Event.{Event}
use Rattle.world_events.specs.declared.event.Event.TheVariants as event
use Rattle.schedule_text.specs.declared.line.Line.{Line}
use Rattle.schedule_text.specs.declared.line.Line.TheVariants as line

-- one to nine values below 2^48
pub record AreValues (values : List ℕ) : Type 0 where
  pub some : 1 ≤ length values
  pub few : length values ≤ 9
  pub below : All (λ value. value < 2 ^ 48) values

-- as many bytes as one line has room for
pub record FitsOneLine (payload : List ℕ) : Type 0 where
  pub few : length payload ≤ 2042
  pub bytes : IsBytes payload

-- a version of schedules
abbrev pub IsVersion : ℕ → Type 0
IsVersion number = (1 ≤ number) × (number ≤ 2)

-- an event whose index, data or values a line can have
abbrev pub IsPrintable : Event → Type 0
IsPrintable event.Open = Unit {0}
IsPrintable (event.Deliver from index) = index < 2 ^ 47
IsPrintable (event.Send side payload) = FitsOneLine payload
IsPrintable (event.SendEarly side payload) = ⊥
IsPrintable (event.Prefer side feature place values) = AreValues values
IsPrintable (event.Timer side timer) = Unit {0}
IsPrintable (event.Close side) = Unit {0}
IsPrintable (event.Abort side) = Unit {0}

-- a configured list or an offer is one that an end may have
abbrev pub IsSayable : Line → Type 0
IsSayable line.Nothing = ⊥
IsSayable (line.Version number) = IsVersion number
IsSayable line.Plain = Unit {0}
IsSayable (line.Iss side number) = number < 2 ^ 48
IsSayable (line.Set side place feature values) = AreValues values × IsOk (wish_of feature place values)
IsSayable (line.Offer side place feature mandatory) = is_ours feature place ≡ true
IsSayable (line.Event event) = IsPrintable event
