-- What a side's log carries for a row shows the same wishes and values as its packets say.
use Rattle.std.proofs.Common.{◌≡◌, refl, ap, sym, ◌∙◌, ℕ, zero, suc, ◌==◌, ◌||◌, Bool, true, false, List, [], ◌∷◌, length, map, Option, Some, None, slice_get, arith}
use Rattle.std.specs.List.{list_any}
use Rattle.std.specs.Option.{option_map, option_or}
use Rattle.std.proofs.lemmas.Bool.{and_parts}
use Rattle.byteorder.specs.Endian.{big_number}
use Rattle.dccp_endpoint.specs.Turns.{Key}
use Rattle.two_ends.specs.FeatureRows.{confirmed_by, is_valid_by, is_whole_by, proposed_by}
use Rattle.two_ends.specs.FeatureView as view
use Rattle.two_ends.specs.FeatureView.{FeatureNews, carried_at, change_of, has_change, last_change, last_wish, wish_carried}
use Rattle.two_ends.specs.FeatureView.FeatureNews.{Nothing, Change as Carries}
use Rattle.feature_lists.specs.Features.{described, is_permitted}
use Rattle.feature_lists.specs.declared.features.Feature.{Feature}
use Rattle.feature_lists.specs.declared.features.Place.{Place}
use Rattle.feature_lists.specs.declared.features.Place.TheVariants.{Here, There}
use Rattle.feature_machine.specs.Rows.{RowEvent, Change, Confirm}
use Rattle.two_ends.specs.Lists.{last_some, some_or}
use Rattle.two_ends.specs.Negotiated.{confirmed_list, list_said, says_change, value_said}
use Rattle.two_ends.proofs.OfFeatures.Carrying.{saying_of, says}
use Rattle.two_ends.proofs.OfWorlds.Logged.{Logged}
use Rattle.two_ends.proofs.OfFeatures.Viewing.{IsWellSaid, carried_by, carried_of, said_by}

-- a value as a wish of one entry
abbrev pub only : ℕ → List ℕ
only value = value ∷ []

-- Of a server-priority feature the wish is the list.
proposed-list : (b : Bool) (width : ℕ) (body : List ℕ) → b ≡ true → wish_carried (Carries (proposed_by b width body)) ≡ Some body
proposed-list true width body is = refl
proposed-list false width body is = cc is

confirmed-list : (b : Bool) (width count : ℕ) (body : List ℕ) → b ≡ true → is_whole_by b body ≡ true
    → wish_carried (confirmed_by b width count body) ≡ confirmed_list body
confirmed-list true width count [] is whole = cc whole
confirmed-list true width count (value ∷ []) is whole = cc whole
confirmed-list true width count (value ∷ (first ∷ rest)) is whole = refl
confirmed-list false width count body is whole = cc is

-- the wish that is carried is the list that is said
pub wish-told : (iss : ℕ) (k : Key) (events : List RowEvent) → (described k.0).is_server_priority ≡ true → IsWellSaid iss k events
    → wish_carried (carried_by iss k.0 events) ≡ list_said (saying_of events)
wish-told iss k [] priority well = refl
wish-told iss k (Change body mandatory ∷ []) priority well = proposed-list (described k.0).is_server_priority (described k.0).width body priority
wish-told iss k (Confirm body (Some ack) ∷ []) priority well =
    confirmed-list (described k.0).is_server_priority (described k.0).width _ body priority well.1
wish-told iss k (_ ∷ []) priority well = absurd well
wish-told iss k (_ ∷ (second ∷ rest)) priority well = absurd well

same-width : (a b : ℕ) → (a == b) ≡ true → b ≡ a
same-width a b same = grind arith

-- Of any other a valid Change has the one value, in just its bytes, and a Confirm has none.
proposed-value : (b : Bool) (feature : Feature) (place : Place) (body : List ℕ) → b ≡ false → is_valid_by b feature place body ≡ true
    → change_of (Carries (proposed_by b (described feature).width body)) ≡ Some (only (big_number (length body) body))
proposed-value true feature place body is valid = cc is
proposed-value false feature Here body is valid =
    let parts = and_parts (length body == (described feature).width) (is_permitted feature Here (big_number (described feature).width body)) valid in
    ap (λ width. Some (only (big_number width body))) (same-width (length body) (described feature).width parts.0)
proposed-value false feature There body is valid = cc valid

confirmed-value : (b : Bool) (width count : ℕ) (body : List ℕ) → change_of (confirmed_by b width count body) ≡ None
confirmed-value true width count [] = refl
confirmed-value true width count (value ∷ rest) = refl
confirmed-value false width count body = refl

-- the value that is carried is the one that is said
pub value-told : (iss : ℕ) (k : Key) (events : List RowEvent) → (described k.0).is_server_priority ≡ false → IsWellSaid iss k events
    → change_of (carried_by iss k.0 events) ≡ option_map only (value_said (saying_of events))
value-told iss k [] priority well = refl
value-told iss k (Change body mandatory ∷ []) priority well = proposed-value (described k.0).is_server_priority k.0 k.1 body priority well
value-told iss k (Confirm body (Some ack) ∷ []) priority well =
    confirmed-value (described k.0).is_server_priority (described k.0).width _ body
value-told iss k (_ ∷ []) priority well = absurd well
value-told iss k (_ ∷ (second ∷ rest)) priority well = absurd well

-- A Change is a Change.
confirmed-no_change : (b : Bool) (width count : ℕ) (body : List ℕ) → view.carries_change (confirmed_by b width count body) ≡ false
confirmed-no_change true width count [] = refl
confirmed-no_change true width count (value ∷ rest) = refl
confirmed-no_change false width count body = refl

change-told : (iss : ℕ) (k : Key) (events : List RowEvent) → IsWellSaid iss k events
    → view.carries_change (carried_by iss k.0 events) ≡ says_change (saying_of events)
change-told iss k [] well = refl
change-told iss k (Change body mandatory ∷ []) well = refl
change-told iss k (Confirm body (Some ack) ∷ []) well = confirmed-no_change (described k.0).is_server_priority (described k.0).width _ body
change-told iss k (_ ∷ []) well = absurd well
change-told iss k (_ ∷ (second ∷ rest)) well = absurd well

or-as : {B : Type 0} (later own : Option B) → option_or later own ≡ some_or later own
or-as None own = refl
or-as (Some b) own = refl

or-mapped : (later own : Option ℕ) → option_or (option_map only later) (option_map only own) ≡ option_map only (some_or later own)
or-mapped None own = refl
or-mapped (Some b) own = refl

-- each packet of a log says valid things of a row of its sender
abbrev pub AreWell : ℕ → Key → List Logged → Type 0
AreWell iss k log = (place : ℕ) (l : Logged) → slice_get log place ≡ Some l → IsWellSaid iss k (said_by k l)

module _ (iss : ℕ) (k : Key) where
  pub last-wish : (described k.0).is_server_priority ≡ true → (log : List Logged) → AreWell iss k log
      → last_some (λ l. list_said (says k l)) log ≡ last_wish (map (carried_of iss k) log)
  last-wish priority [] well = refl
  last-wish priority (l ∷ log) well =
      ap (λ later. some_or later (list_said (says k l))) (last-wish priority log (λ place. well (suc place)))
      ∙ ap (some_or (last_wish (map (carried_of iss k) log))) (sym (wish-told iss k _ priority (well 0 l refl)))
      ∙ sym (or-as (last_wish (map (carried_of iss k) log)) _)

  pub last-value : (described k.0).is_server_priority ≡ false → (log : List Logged) → AreWell iss k log
      → last_change (map (carried_of iss k) log) ≡ option_map only (last_some (λ l. value_said (says k l)) log)
  last-value priority [] well = refl
  last-value priority (l ∷ log) well =
      ap (λ later. option_or later (change_of (carried_of iss k l))) (last-value priority log (λ place. well (suc place)))
      ∙ ap (option_or (option_map only (last_some (λ l. value_said (says k l)) log))) (value-told iss k _ priority (well 0 l refl))
      ∙ or-mapped (last_some (λ l. value_said (says k l)) log) (value_said (says k l))

  pub any-change : (log : List Logged) → AreWell iss k log
      → list_any (λ l. says_change (says k l)) log ≡ has_change (map (carried_of iss k) log)
  any-change [] well = refl
  any-change (l ∷ log) well =
      ap (λ later. says_change (says k l) || later) (any-change log (λ place. well (suc place)))
      ∙ ap (λ own. own || has_change (map (carried_of iss k) log)) (sym (change-told iss k _ (well 0 l refl)))

-- the logged packet that carries what a count shows
pub record IsShown (carries : Logged → FeatureNews) (shows : FeatureNews → Option (List ℕ)) (log : List Logged) (wish : List ℕ) : Type 0 where
  pub place : ℕ
  pub logged : Logged
  pub is_there : slice_get log place ≡ Some logged
  pub is_shown : shows (carries logged) ≡ Some wish

shown-later : (carries : Logged → FeatureNews) (shows : FeatureNews → Option (List ℕ)) (first : Logged) (log : List Logged) (wish : List ℕ)
    → IsShown carries shows log wish → IsShown carries shows (first ∷ log) wish
shown-later carries shows first log wish s = record { place = suc s.place; logged = s.logged; is_there = s.is_there; is_shown = s.is_shown }

-- what is carried at a count is shown
pub shown-at : (carries : Logged → FeatureNews) (shows : FeatureNews → Option (List ℕ)) (log : List Logged) (count : ℕ) (wish : List ℕ) → shows Nothing ≡ None
    → shows (carried_at (map carries log) count) ≡ Some wish → IsShown carries shows log wish
shown-at carries shows log zero wish none shown = absurd (cc (sym none ∙ shown))
shown-at carries shows [] (suc count) wish none shown = absurd (cc (sym none ∙ shown))
shown-at carries shows (l ∷ log) (suc zero) wish none shown = record { place = 0; logged = l; is_there = refl; is_shown = shown }
shown-at carries shows (l ∷ log) (suc (suc count)) wish none shown =
    shown-later carries shows l log wish (shown-at carries shows log (suc count) wish none shown)
