-- What one frame more changes of what a side's frames carry. The only place that looks into `carried_at`.
use Rattle.std.proofs.Common.{◌≡◌, ℕ, zero, suc, ◌<◌, ◌≤◌, Bool, true, false, ◌||◌, ◌⊎◌, inl, List, [], ◌∷◌, length, get_or, refl, ap, sym, ◌∙◌, arith}
use Rattle.std.specs.Prelude.{Option, Some, None, is_some}
use Rattle.std.specs.Option.{option_or}
use Rattle.std.proofs.lemmas.Grind.{common_steps}
use Rattle.std.proofs.lemmas.List.Folds.{list_any-append}
use Rattle.two_ends.specs.FeatureView.{FeatureNews, carried_at, with_frame, wish_carried, change_of, carries_change, has_change, last_wish, last_change}
use Rattle.two_ends.specs.FeatureView.FeatureNews.{Nothing}

apart : (a b : ℕ) → (a < b) ⊎ (b ≤ a)
apart a b = grind arith

-- a count that names no frame carries nothing
pub frame_in : (frames : List FeatureNews) (count : ℕ) → (carried_at frames count ≡ Nothing) ⊎ ((1 ≤ count) × (count ≤ length frames))
frame_in frames count = grind (arith, common_steps, apart)

-- the frames before, the new one, and none
pub frame_cases : (frames : List FeatureNews) (frame : FeatureNews) (count : ℕ)
    → ((carried_at (with_frame frames frame) count ≡ carried_at frames count) × (count ≤ length frames))
    ⊎ (((carried_at (with_frame frames frame) count ≡ frame) × (count ≡ suc (length frames)))
    ⊎ ((carried_at (with_frame frames frame) count ≡ Nothing) × (length frames < count)))
frame_cases frames frame count = grind (arith, common_steps, apart)

pub frame_new : (frames : List FeatureNews) (frame : FeatureNews) (count : ℕ) → count ≡ suc (length frames)
    → carried_at (with_frame frames frame) count ≡ frame
frame_new frames frame count is = grind (arith, common_steps)

option_or_none : (first : Option (List ℕ)) → option_or first None ≡ first
option_or_none None = refl
option_or_none (Some wish) = refl

option_or-option_or : (first second third : Option (List ℕ))
    → option_or (option_or first second) third ≡ option_or first (option_or second third)
option_or-option_or None second third = refl
option_or-option_or (Some wish) second third = refl

pub last_wish-with_frame : (frames : List FeatureNews) (frame : FeatureNews)
    → last_wish (with_frame frames frame) ≡ option_or (wish_carried frame) (last_wish frames)
last_wish-with_frame [] frame = sym (option_or_none (wish_carried frame))
last_wish-with_frame (first ∷ frames) frame =
    ap (λ later. option_or later (wish_carried first)) (last_wish-with_frame frames frame)
    ∙ option_or-option_or (wish_carried frame) (last_wish frames) (wish_carried first)

pub last_change-with_frame : (frames : List FeatureNews) (frame : FeatureNews)
    → last_change (with_frame frames frame) ≡ option_or (change_of frame) (last_change frames)
last_change-with_frame [] frame = sym (option_or_none (change_of frame))
last_change-with_frame (first ∷ frames) frame =
    ap (λ later. option_or later (change_of first)) (last_change-with_frame frames frame)
    ∙ option_or-option_or (change_of frame) (last_change frames) (change_of first)

pub has_change-with_frame : (frames : List FeatureNews) (frame : FeatureNews)
    → has_change (with_frame frames frame) ≡ (has_change frames || carries_change frame)
has_change-with_frame frames frame = grind (arith, list_any-append)

-- a frame with a wish is seen in the last wish
pub wish_seen : (frames : List FeatureNews) (count : ℕ)
    → (wish_carried (carried_at frames count) ≡ None) ⊎ (is_some (last_wish frames) ≡ true)
wish_seen [] zero = inl refl
wish_seen [] (suc count) = inl refl
wish_seen (frame ∷ frames) zero = inl refl
wish_seen (frame ∷ frames) (suc zero) = here (last_wish frames) (wish_carried frame)
  where
    here : (later own : Option (List ℕ)) → (own ≡ None) ⊎ (is_some (option_or later own) ≡ true)
    here later own = grind arith
wish_seen (frame ∷ frames) (suc (suc count)) =
    there (wish_carried (get_or frames count Nothing)) (last_wish frames) (wish_carried frame) (wish_seen frames (suc count))
  where
    there : (one later own : Option (List ℕ)) → (one ≡ None) ⊎ (is_some later ≡ true)
        → (one ≡ None) ⊎ (is_some (option_or later own) ≡ true)
    there one later own seen = grind arith

-- a frame with a Change is seen
pub change_seen : (frames : List FeatureNews) (count : ℕ)
    → (carries_change (carried_at frames count) ≡ false) ⊎ (has_change frames ≡ true)
change_seen [] zero = inl refl
change_seen [] (suc count) = inl refl
change_seen (frame ∷ frames) zero = inl refl
change_seen (frame ∷ frames) (suc zero) = here (has_change frames) (carries_change frame)
  where
    here : (later own : Bool) → (own ≡ false) ⊎ ((own || later) ≡ true)
    here later own = grind arith
change_seen (frame ∷ frames) (suc (suc count)) =
    there (carries_change (get_or frames count Nothing)) (has_change frames) (carries_change frame) (change_seen frames (suc count))
  where
    there : (one later own : Bool) → (one ≡ false) ⊎ (later ≡ true) → (one ≡ false) ⊎ ((own || later) ≡ true)
    there one later own seen = grind arith
