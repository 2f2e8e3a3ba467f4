-- A newest packet, the row that hears of it, and what the end's frame in the same step says to it (own).
use Rattle.std.specs.Prelude.{◌≡◌, ℕ, ◌≤◌, ◌<◌, Option, None, Some, List, [], ◌∷◌, length, IsTrue}
use Rattle.feature_lists.specs.declared.features.Feature.{Feature}
use Rattle.feature_machine.specs.declared.row.Row.{Row}
use Rattle.feature_machine.specs.Rows as machine
use Rattle.feature_machine.specs.Sound.{IsSoundRow}
use Rattle.feature_machine.specs.Turns.{row_turned}
use Rattle.feature_machine.specs.Rows.{RowEvent}
use Rattle.two_ends.specs.FeatureView.{FeatureNews, FeatureSide, carried_at, with_frame}
use Rattle.two_ends.specs.FeatureView.FeatureNews.{Nothing}
use Rattle.seq_circle.specs.Counts.{count_of, IsNumber}
use Rattle.two_ends.specs.FeatureRows.{IsBegun, RowMoves, change_in, confirm_in, is_valid_change, is_whole_confirm, side_of}
use Rattle.feature_machine.specs.Negotiating.{opposite}

-- What the row hears of the peer's frame with this count: nothing, whatever the frame carries; or the frame's Change,
-- which is valid; or its Confirm, which is whole and acknowledges a frame of this end.
abbrev pub IsHeardOf : ℕ → Row → List FeatureNews → ℕ → List RowEvent → Type 0
IsHeardOf iss row there count [] = count ≤ length there
IsHeardOf iss row there count (machine.Change body mandatory ∷ []) =
    (carried_at there count ≡ change_in row.feature body) × IsTrue (is_valid_change row.feature (opposite row.place) body)
IsHeardOf iss row there count (machine.Confirm body (Some ack) ∷ []) =
    IsNumber iss ack × (carried_at there count ≡ confirm_in row.feature (count_of iss ack) body) × IsTrue (is_whole_confirm row.feature body)
IsHeardOf iss row there count (machine.Confirm body None ∷ []) = ⊥
IsHeardOf iss row there count (machine.Prefers wish ∷ []) = ⊥
IsHeardOf iss row there count (machine.Offers confirmed ∷ []) = ⊥
IsHeardOf iss row there count (machine.Sends number ∷ []) = ⊥
IsHeardOf iss row there count (first ∷ (second ∷ rest)) = ⊥

-- what a frame carries for the feature: the Confirm that is due, or nothing if none is
abbrev pub carried_reply : Feature → ℕ → Option (List ℕ) → FeatureNews
carried_reply feature count None = Nothing
carried_reply feature count (Some body) = confirm_in feature count body

-- the frames, and one more with the Confirm that is due, if one is
abbrev pub with_reply : Feature → ℕ → Option (List ℕ) → List FeatureNews → List FeatureNews
with_reply feature count None frames = frames
with_reply feature count (Some body) frames = with_frame frames (confirm_in feature count body)

-- a newest packet with all that a row's move in its step depends on: the end's first number, the greatest count that it took before and the
-- packet's own, the row and its end's frames, the peer's frames, and what the row hears
pub record RowPacket : Type 0 where
  pub iss : ℕ
  pub greatest : ℕ
  pub count : ℕ
  pub row : Row
  pub frames : List FeatureNews
  pub there : List FeatureNews
  pub events : List RowEvent

-- the packet is newer than all before it, the row is sound and has begun, and hears of the packet
pub record IsRowPacket (packet : RowPacket) : Type 0 where
  pub newer : packet.greatest < packet.count
  pub sound : IsSoundRow packet.row
  pub begun : IsBegun packet.iss packet.row
  pub heard : IsHeardOf packet.iss packet.row packet.there packet.count packet.events

-- the row once it has heard all
abbrev pub row_after : RowPacket → Row
row_after packet = row_turned packet.row packet.events

-- the step of the packet has moved the row's side to this one
abbrev pub LeadsTo : RowPacket → FeatureSide → Type 0
LeadsTo packet after = RowMoves packet.row packet.there (side_of packet.iss packet.row packet.greatest packet.frames) after
