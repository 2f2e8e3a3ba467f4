-- Where Confirms have lists, the last wish sent is the last list.
use Rattle.std.proofs.Common.{◌≡◌, ℕ, true, ◌&&◌, List, [], ◌∷◌, refl, sym, ap, ◌∙◌, arith}
use Rattle.std.specs.Prelude.{◌↔◌}
use Rattle.std.specs.Option.{option_or}
use Rattle.std.proofs.lemmas.Bool.{and_parts}
use Rattle.feature_lists.specs.Features.{described}
use Rattle.feature_lists.specs.declared.features.Feature.{Feature}
use Rattle.two_ends.specs.FeatureView.{FeatureNews, with_frame, wish_carried, last_wish, is_listed, are_listed, list_of, last_list}
use Rattle.two_ends.specs.FeatureView.FeatureNews.{Nothing, Change, Confirm}
use Rattle.two_ends.specs.FeatureRows.{is_whole_confirm, is_whole_by, confirm_in, confirmed_by}

list_is_wish : (frame : FeatureNews) → is_listed frame ≡ true → list_of frame ≡ wish_carried frame
list_is_wish (Confirm acknowledged value []) listed = absurd (cc listed)
list_is_wish _ listed = refl

pub lists_are_wishes : (frames : List FeatureNews) → are_listed frames ≡ true → last_list frames ≡ last_wish frames
lists_are_wishes [] listed = refl
lists_are_wishes (frame ∷ frames) listed =
    let parts = and_parts (is_listed frame) (are_listed frames) listed in
    ap (λ later. option_or later (list_of frame)) (lists_are_wishes frames parts.1)
    ∙ ap (λ own. option_or (last_wish frames) own) (list_is_wish frame parts.0)

-- one frame more
listed_more : (frames : List FeatureNews) (frame : FeatureNews) → are_listed (with_frame frames frame) ≡ (are_listed frames && is_listed frame)
listed_more [] frame = grind arith
listed_more (first ∷ frames) frame = ap (λ rest. is_listed first && rest) (listed_more frames frame) ∙ grind arith

pub listed_with_frame : (frames : List FeatureNews) (frame : FeatureNews)
    → (are_listed (with_frame frames frame) ≡ true) ↔ ((are_listed frames ≡ true) × (is_listed frame ≡ true))
listed_with_frame frames frame = (
  λ all. and_parts (are_listed frames) (is_listed frame) (sym (listed_more frames frame) ∙ all),
  λ both. let one = both.0 in let other = both.1 in listed_more frames frame ∙ grind arith,
)

pub confirm_listed : (feature : Feature) (count : ℕ) (body : List ℕ) → (described feature).is_server_priority ≡ true
    → is_whole_confirm feature body ≡ true → is_listed (confirm_in feature count body) ≡ true
confirm_listed feature count body priority whole = rw priority (by_body body (rw priority at whole))
  where
    by_body : (body : List ℕ) → is_whole_by true body ≡ true
        → is_listed (confirmed_by true (described feature).width count body) ≡ true
    by_body [] whole = absurd (cc whole)
    by_body (value ∷ []) whole = absurd (cc whole)
    by_body (value ∷ (first ∷ list)) whole = refl
