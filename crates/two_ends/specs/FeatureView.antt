-- One feature at one of the two ends, seen as a pair of sides: what the frames of each carry for it, and what each row
-- holds (own; the options and the names are RFC 4340's, section 6). A frame goes by its count: a side's first numbered
-- frame has count 1, and 0 is none.
use Rattle.std.specs.Prelude.{ℕ, Bool, true, false, Option, None, Some, List, [], ◌∷◌, ◌++◌, slice_index_or}
use Rattle.std.specs.Option.{option_or}
use Rattle.std.specs.List.{list_any, list_all}
use Rattle.feature_machine.specs.declared.stands.Stand.{Stand}

-- What one frame carries for the feature. A wish is a preference list; the value of a feature that is not negotiable is
-- a wish of one entry, and its Confirm has an empty one. A Confirm has the count of the peer's frame that it
-- acknowledges.
pub data FeatureNews : Type 0 where
  Nothing : FeatureNews
  Change : (wish : List ℕ) → FeatureNews
  Confirm : (acknowledged value : ℕ) (wish : List ℕ) → FeatureNews

-- one side of the pair: what it sent and took, and its row
pub record FeatureSide : Type 0 where
  -- what its numbered frames carry, oldest first
  pub frames : List FeatureNews
  -- the count of the peer's frame with the greatest number that it took (GSR)
  pub greatest : ℕ
  -- the count of its frame with the first Change of the row's last opening (FGSS); it stays when the row settles
  pub opened : ℕ
  pub stand : Stand
  -- the wish that the row last sent, or its configured one before that
  pub active : List ℕ
  pub value : ℕ

-- what the frame with this count carries
abbrev pub carried_at : List FeatureNews → ℕ → FeatureNews
carried_at frames count = slice_index_or (Nothing ∷ frames) count Nothing

-- one frame more
abbrev pub with_frame : List FeatureNews → FeatureNews → List FeatureNews
with_frame frames frame = frames ++ frame ∷ []

-- the frame carries a Change
abbrev pub carries_change : FeatureNews → Bool
carries_change Nothing = false
carries_change (Change wish) = true
carries_change (Confirm acknowledged value wish) = false

-- the wish that a Change carries
abbrev pub change_of : FeatureNews → Option (List ℕ)
change_of Nothing = None
change_of (Change wish) = Some wish
change_of (Confirm acknowledged value wish) = None

-- the wish that a Change or a Confirm carries
abbrev pub wish_carried : FeatureNews → Option (List ℕ)
wish_carried Nothing = None
wish_carried (Change wish) = Some wish
wish_carried (Confirm acknowledged value wish) = Some wish

-- some frame carries a Change
abbrev pub has_change : List FeatureNews → Bool
has_change frames = list_any carries_change frames

-- the wish in the last frame with a Change
abbrev pub last_change : List FeatureNews → Option (List ℕ)
last_change [] = None
last_change (frame ∷ frames) = option_or (last_change frames) (change_of frame)

-- The wish in the last frame with a Change or a Confirm. A Confirm without a list counts as an empty wish, so one invariant serves both kinds of
-- features. If every Confirm has its list, this is the last list that was sent (`whole_confirms_have_lists`).
abbrev pub last_wish : List FeatureNews → Option (List ℕ)
last_wish [] = None
last_wish (frame ∷ frames) = option_or (last_wish frames) (wish_carried frame)

-- a frame's Confirm, if it has one, has a list
abbrev pub is_listed : FeatureNews → Bool
is_listed Nothing = true
is_listed (Change wish) = true
is_listed (Confirm acknowledged value []) = false
is_listed (Confirm acknowledged value (entry ∷ entries)) = true

-- every Confirm of these frames has a list
abbrev pub are_listed : List FeatureNews → Bool
are_listed frames = list_all is_listed frames

-- the list of a Change, or of a Confirm that has one
abbrev pub list_of : FeatureNews → Option (List ℕ)
list_of Nothing = None
list_of (Change wish) = Some wish
list_of (Confirm acknowledged value []) = None
list_of (Confirm acknowledged value (entry ∷ entries)) = Some (entry ∷ entries)

-- the list in the last frame that carries a Change, or a Confirm with a list
abbrev pub last_list : List FeatureNews → Option (List ℕ)
last_list [] = None
last_list (frame ∷ frames) = option_or (last_list frames) (list_of frame)
