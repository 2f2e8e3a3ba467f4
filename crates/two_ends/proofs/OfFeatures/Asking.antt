-- What no frame asks for stays, and the last lists that were sent are the active ones.
use Rattle.std.proofs.Common.{◌≡◌, refl, ap, sym, ◌∙◌, ℕ, ◌||◌, Bool, true, false, List, Option, Some, None, inl, inr}
use Rattle.std.proofs.lemmas.Bool.{or_parts}
use Rattle.two_ends.proofs.OfFeatures.FeatureFacts.{Kept}
use Rattle.two_ends.proofs.OfFeatures.FeatureFrames.{change_seen}
use Rattle.two_ends.proofs.OfFeatures.FeatureSteps.{reached_keeps}
use Rattle.two_ends.proofs.OfFeatures.FeatureValues.{reached_given}
use Rattle.two_ends.specs.FeatureAgreement.{IsGiven}
use Rattle.two_ends.specs.FeatureAgreement.IsGiven.{Initial, Ruled}
use Rattle.two_ends.specs.FeatureMoves.{Pair, HaveReached, Rule}
use Rattle.two_ends.specs.FeatureRows.{entries_of, pair_by, pair_of}
use Rattle.two_ends.specs.FeatureView.{FeatureNews, FeatureSide, carried_at, carries_change, has_change, wish_carried}
use Rattle.two_ends.specs.FeatureView.FeatureNews.{Nothing, Change, Confirm}
use Rattle.feature_lists.specs.Features.{described, initial_of}
use Rattle.feature_lists.specs.declared.features.Feature.{Feature}
use Rattle.feature_lists.specs.declared.features.Place.{Place}
use Rattle.feature_lists.specs.declared.wishes.Wanted.{Wanted}
use Rattle.feature_machine.specs.Sound.{is_pending}
use Rattle.feature_machine.specs.declared.stands.Role2.{Role2}
use Rattle.feature_machine.specs.declared.stands.Role2.TheVariants as end
use Rattle.feature_machine.specs.declared.stands.Stand.{Stand}
use Rattle.feature_machine.specs.declared.stands.Stand.TheVariants.{Stable, Changing, Unstable}
use Rattle.world_events.specs.Actors.{other}
use Rattle.world_events.specs.declared.event.Side.{Side}
use Rattle.world_events.specs.declared.event.Side.TheVariants.{Client, Server}
use Rattle.two_ends.specs.Asked.{row_for}
use Rattle.two_ends.specs.Negotiated.{IsServerPriority, last_list_sent, pair_was_negotiated, side_changed}
use Rattle.two_ends.specs.Pairs.{FeatureAt, held_at}
use Rattle.two_ends.specs.World.{WorldState}
use Rattle.two_ends.proofs.OfWorlds.Acting.{config_of, party_of}
use Rattle.two_ends.proofs.OfFeatures.Agreeing.{AreReached, IsSpoken, changed-is, end_at, list-is, view_at}
use Rattle.two_ends.proofs.OfWorlds.Logged.{Logged}

-- where neither side has sent a Change, neither has sent a Confirm
no-wish : (rule : Rule) (side peer : FeatureSide) → Kept rule side peer → has_change side.frames ≡ false → has_change peer.frames ≡ false → (count : ℕ)
    (wish : List ℕ) → wish_carried (carried_at side.frames count) ≡ Some wish → ⊥
no-wish rule side peer kept none others count wish is = by (carried_at side.frames count) refl is where
  seen : (frames : List FeatureNews) (at : ℕ) → has_change frames ≡ false → carries_change (carried_at frames at) ≡ true → ⊥
  seen frames at quiet carries =
      elim (change_seen frames at) [
        | inl silent ↦ cc (silent, carries)
        | inr some ↦ cc (quiet, some)
      ]

  by : (c : FeatureNews) → carried_at side.frames count ≡ c → wish_carried c ≡ Some wish → ⊥
  by Nothing at told = cc told
  by (Change own) at told = seen side.frames count none (ap carries_change at)
  by (Confirm acknowledged value list) at told =
      seen peer.frames acknowledged others (ap carries_change (kept.out.confirms_change count acknowledged value list at))

untouched : (pair : Pair) (server client : FeatureSide) → HaveReached pair server client → has_change server.frames ≡ false → has_change client.frames ≡ false
    → (server.value ≡ pair.initial) × (client.value ≡ pair.initial)
untouched pair server client reached none others =
    let given = reached_given pair server client reached in
    (by server.value given.servers, by client.value given.clients)
  where
    by : (value : ℕ) → IsGiven pair.initial pair.rule server.frames client.frames value → value ≡ pair.initial
    by value (Initial is) = is
    by value (Ruled count counterpart wish theirs here there is) =
        absurd (no-wish pair.rule server client (reached_keeps pair server client reached) none others count wish here)

initial-is : (feature : Feature) (location : Role2) → (pair_of feature location).initial ≡ initial_of feature
initial-is feature location = by (described feature).is_server_priority location where
  by : (b : Bool) (at : Role2) → (pair_by b (initial_of feature) at).initial ≡ initial_of feature
  by true at = refl
  by false end.Server = refl
  by false end.Client = refl

-- a row in STABLE has no wish that waits
pub none-pending : (feature : Feature) (place : Place) (stand : Stand) (pending : Option Wanted) → stand ≡ Stable
    → is_pending feature place stand pending ≡ true → pending ≡ None
none-pending feature place stand None stable is = refl
none-pending feature place Stable (Some wish) stable is = cc is
none-pending feature place Changing (Some wish) stable is = cc is
none-pending feature place Unstable (Some wish) stable is = cc stable

module _ (w : WorldState) (logs : Side → List Logged)
    (spoken : (side : Side) → IsSpoken (party_of w logs side) (config_of (party_of w logs (other side))).iss) (pair : FeatureAt)
    (r : AreReached w logs pair) where
  abbrev server : FeatureSide
  server = view_at w logs r.servers pair Server

  abbrev client : FeatureSide
  client = view_at w logs r.clients pair Client

  both-initial : pair_was_negotiated w pair ≡ false → (server.value ≡ initial_of pair.feature) × (client.value ≡ initial_of pair.feature)
  both-initial none =
      let parts = or_parts (side_changed w pair Client) (side_changed w pair Server) none in
      let values =
      untouched (pair_of pair.feature (end_at pair.location)) server client r.reached (sym (changed-is w logs spoken pair Server r.servers) ∙ parts.1)
      (sym (changed-is w logs spoken pair Client r.clients) ∙ parts.0) in
      let same = initial-is pair.feature (end_at pair.location) in
      (values.0 ∙ same, values.1 ∙ same)

  -- What no frame asks for has its initial value.
  pub unasked : (side : Side) → pair_was_negotiated w pair ≡ false → (held_at w pair side).value ≡ initial_of pair.feature
  unasked Client none = (both-initial none).1
  unasked Server none = (both-initial none).0

  -- The last list is the active one.
  pub active-sent : (side : Side) → IsServerPriority pair → (list : List ℕ) → last_list_sent w pair side ≡ Some list
      → list ≡ entries_of (row_for w pair side).active
  active-sent Server priority list last =
      (reached_keeps (pair_of pair.feature (end_at pair.location)) server client r.reached).own.last_active list
      (sym (list-is w logs spoken pair Server r.servers priority) ∙ last)
  active-sent Client priority list last =
      (reached_keeps (pair_of pair.feature (end_at pair.location)) server client r.reached).peers.last_active list
      (sym (list-is w logs spoken pair Client r.clients priority) ∙ last)
