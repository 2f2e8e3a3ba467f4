-- A feature that is not negotiable: the remote row never opens, so the location's frames carry no Confirm, and its wishes
-- are single values.
use Rattle.std.proofs.Common.{◌≡◌, ℕ, ◌<◌, true, inl, List, [], ◌∷◌, refl, ap, ◌∙◌, arith}
use Rattle.std.specs.Prelude.{Some, unwrap_or, IsTrue}
use Rattle.two_ends.specs.FeatureView.{FeatureNews, FeatureSide, carried_at, last_wish, last_change, wish_carried}
use Rattle.feature_machine.specs.declared.stands.Stand.TheVariants.{Stable}
use Rattle.two_ends.specs.FeatureView.FeatureNews.{Nothing, Change, Confirm}
use Rattle.two_ends.specs.FeatureMoves.{Rule, swapped, passing_side, settled_side, answering_side, waiting, opening, sending_side, new_side, Move, HaveReached, own_value, one_value, no_wish, at_server, at_client}
use Rattle.two_ends.specs.FeatureMoves.Move.{Passes, Settles, Answers, Waits, Opens, Sends, Sends_again}
use Rattle.two_ends.specs.FeatureMoves.HaveReached.{Starts, Server_moves, Client_moves}
use Rattle.two_ends.specs.FeatureAgreement.{was_negotiated, IsGiven, SidesAreGiven, AgreeByLocation, IsToldValue, GivenByLocation}
use Rattle.two_ends.specs.FeatureAgreement.IsGiven.{Initial, Ruled}
use Rattle.two_ends.specs.FeatureAgreement.IsToldValue.{Untold, Told}
use Rattle.two_ends.proofs.OfFeatures.FeatureFacts.{Kept, changed}
use Rattle.two_ends.proofs.OfFeatures.FeatureFrames.{frame_in, frame_cases, wish_seen, change_seen, last_wish-with_frame, last_change-with_frame}
use Rattle.two_ends.proofs.OfFeatures.FeatureSteps.{turned, reached_keeps}
use Rattle.two_ends.proofs.OfFeatures.FeatureValues.{reached_given, both_turned}

pub record Located (location remote : FeatureSide) : Type 0 where
  pub remote_unopened : remote.opened ≡ 0
  pub active_single : 0 < location.opened → one_value location.active ≡ true
  pub changes_single : (count : ℕ) (wish : List ℕ) → carried_at location.frames count ≡ Change wish → one_value wish ≡ true
  pub last_is_change : last_change location.frames ≡ last_wish location.frames

located_start : (initial : ℕ) (owns peers : List ℕ) → Located (new_side initial owns) (new_side initial peers)
located_start initial owns peers = grind (arith, frame_in)

-- the facts speak of the location's frames, active wish and opening alone
same_location : (location remote after : FeatureSide) → after.frames ≡ location.frames → after.active ≡ location.active
    → after.opened ≡ location.opened → Located location remote → Located after remote
same_location location remote after frames active opened facts = grind arith

same_remote : (location remote after : FeatureSide) → after.opened ≡ remote.opened → Located location remote → Located location after
same_remote location remote after opened facts = grind arith

-- no Change comes from the remote row, so none is answered
unanswered : (rule : Rule) (location remote : FeatureSide) (count : ℕ) (wish : List ℕ) → carried_at remote.frames count ≡ Change wish
    → Kept rule location remote → Located location remote → ⊥
unanswered rule location remote count wish carried kept facts = grind (arith, change_seen remote.frames count)

located_opens : (location remote : FeatureSide) (wish : List ℕ) → one_value wish ≡ true → Located location remote
    → Located (opening location wish) remote
located_opens location remote wish single facts = grind (arith, frame_in, frame_cases, last_wish-with_frame, last_change-with_frame)

located_sends : (location remote : FeatureSide) → Located location remote → Located (sending_side location Nothing) remote
located_sends location remote facts = grind (arith, frame_in, frame_cases, last_wish-with_frame, last_change-with_frame)

located_again : (rule : Rule) (location remote : FeatureSide) → (location.stand ≡ Stable → ⊥) → Kept rule location remote
    → Located location remote → Located (sending_side location (Change location.active)) remote
located_again rule location remote busy kept facts =
    grind (arith, frame_in, frame_cases, last_wish-with_frame, last_change-with_frame)

location_moves : (rule : Rule) (remote location after : FeatureSide) → Move rule one_value remote.frames location after
    → Kept rule location remote → Located location remote → Located after remote
location_moves rule remote location _ (Passes count newer sent_there) kept facts =
    same_location location remote (passing_side location count) refl refl refl facts
location_moves rule remote location _ (Settles count acknowledged value wish newer carried changing answers ruled) kept facts =
    same_location location remote (settled_side location count value) refl refl refl facts
location_moves rule remote location _ (Answers count wish newer carried) kept facts =
    absurd (unanswered rule location remote count wish carried kept facts)
location_moves rule remote location _ (Waits busy) kept facts =
    same_location location remote (waiting location) refl refl refl facts
location_moves rule remote location _ (Opens wish may) kept facts = located_opens location remote wish may facts
location_moves rule remote location _ Sends kept facts = located_sends location remote facts
location_moves rule remote location _ (Sends_again busy) kept facts = located_again rule location remote busy kept facts

remote_moves : (rule : Rule) (location remote after : FeatureSide) → Move rule no_wish location.frames remote after
    → Located location remote → Located location after
remote_moves rule location remote _ (Passes count newer sent_there) facts =
    same_remote location remote (passing_side remote count) refl facts
remote_moves rule location remote _ (Settles count acknowledged value wish newer carried changing answers ruled) facts =
    same_remote location remote (settled_side remote count value) refl facts
remote_moves rule location remote _ (Answers count wish newer carried) facts =
    same_remote location remote (answering_side remote count (unwrap_or (rule remote.active wish) remote.value)) refl facts
remote_moves rule location remote _ (Waits busy) facts = same_remote location remote (waiting remote) refl facts
remote_moves rule location remote _ (Opens wish may) facts = absurd (grind arith)
remote_moves rule location remote _ Sends facts = same_remote location remote (sending_side remote Nothing) refl facts
remote_moves rule location remote _ (Sends_again busy) facts =
    same_remote location remote (sending_side remote (Change remote.active)) refl facts

pub server_located : (initial : ℕ) (server client : FeatureSide) → HaveReached (at_server initial) server client → Located server client
server_located initial _ _ (Starts servers clients) = located_start initial servers clients
server_located initial _ _ (Server_moves server client after reached move) =
    location_moves own_value client server after move (reached_keeps (at_server initial) server client reached)
    (server_located initial server client reached)
server_located initial _ _ (Client_moves server client after reached move) =
    remote_moves (swapped own_value) server client after move (server_located initial server client reached)

pub client_kept : (initial : ℕ) (server client : FeatureSide) → HaveReached (at_client initial) server client → Kept own_value client server
client_kept initial server client reached = turned (swapped own_value) server client (reached_keeps (at_client initial) server client reached)

pub client_located : (initial : ℕ) (server client : FeatureSide) → HaveReached (at_client initial) server client → Located client server
client_located initial _ _ (Starts servers clients) = located_start initial clients servers
client_located initial _ _ (Server_moves server client after reached move) =
    remote_moves (swapped own_value) client server after move (client_located initial server client reached)
client_located initial _ _ (Client_moves server client after reached move) =
    location_moves own_value server client after move (client_kept initial server client reached)
    (client_located initial server client reached)

-- what the rule says of a single value, with any other wish
pub single_value : (wish other : List ℕ) (value : ℕ) → one_value wish ≡ true → unwrap_or (own_value wish other) value ≡ value
    → wish ≡ value ∷ []
single_value [] other value single is = grind arith
single_value (first ∷ []) other value single is = ap (λ entry. entry ∷ []) is
single_value (first ∷ (second ∷ rest)) other value single is = grind arith

single_ruled : (wish other : List ℕ) (value : ℕ) → one_value wish ≡ true → own_value wish other ≡ Some value → wish ≡ value ∷ []
single_ruled wish other value single is = single_value wish other value single (ap (λ found. unwrap_or found value) is)

module _ (location remote : FeatureSide) (kept : Kept own_value location remote) (facts : Located location remote) where
  negotiated_opened : IsTrue (was_negotiated location remote) → 0 < location.opened
  negotiated_opened negotiated = grind arith

  last_active : 0 < location.opened → last_change location.frames ≡ Some location.active
  last_active opened = grind (arith, wish_seen location.frames location.opened)

  active_value : location.stand ≡ Stable → remote.stand ≡ Stable → 0 < location.opened → location.active ≡ location.value ∷ []
  active_value stable remotes_stable opened =
      single_value location.active remote.active location.value (facts.active_single opened)
      (kept.settled.ruled stable remotes_stable (inl opened))

  located_agree : AgreeByLocation location remote
  located_agree = record {
    equal = λ stable. kept.settled.equal stable.0 stable.1;
    last_sent = λ stable negotiated.
        last_active (negotiated_opened negotiated)
        ∙ ap (λ wish. Some wish) (active_value stable.0 stable.1 (negotiated_opened negotiated));
  }

  -- a frame of the location with a wish is a Change
  wish_changes : (count : ℕ) (wish : List ℕ) → wish_carried (carried_at location.frames count) ≡ Some wish
      → carried_at location.frames count ≡ Change wish
  wish_changes count wish carried = by_kind (carried_at location.frames count) refl carried
    where
      by_kind : (frame : FeatureNews) → carried_at location.frames count ≡ frame → wish_carried frame ≡ Some wish → frame ≡ Change wish
      by_kind Nothing is has = grind arith
      by_kind (Change own) is has = grind arith
      by_kind (Confirm acknowledged value own) is has =
          absurd (unanswered own_value location remote acknowledged (changed (carried_at remote.frames acknowledged))
          (kept.out.confirms_change count acknowledged value own is) kept facts)

  told : (initial value : ℕ) → IsGiven initial own_value location.frames remote.frames value → IsToldValue initial location.frames value
  told initial value (Initial is) = Untold is
  told initial value (Ruled count counterpart wish other here there is) =
      let carried : carried_at location.frames count ≡ Change wish = wish_changes count wish here in
      Told count (carried ∙ ap (λ list. Change list) (single_ruled wish other value (facts.changes_single count wish carried) is))

  located_given : (initial : ℕ) → SidesAreGiven initial own_value location remote → GivenByLocation initial location remote
  located_given initial given =
      record { locations = told initial location.value given.servers; remotes = told initial remote.value given.clients }

module _ (initial : ℕ) (server client : FeatureSide) where
  pub server_agree : HaveReached (at_server initial) server client → AgreeByLocation server client
  server_agree reached =
      located_agree server client (reached_keeps (at_server initial) server client reached) (server_located initial server client reached)

  pub server_given : HaveReached (at_server initial) server client → GivenByLocation initial server client
  server_given reached =
      located_given server client (reached_keeps (at_server initial) server client reached)
      (server_located initial server client reached) initial (reached_given (at_server initial) server client reached)

  pub client_agree : HaveReached (at_client initial) server client → AgreeByLocation client server
  client_agree reached =
      located_agree client server (client_kept initial server client reached) (client_located initial server client reached)

  pub client_given : HaveReached (at_client initial) server client → GivenByLocation initial client server
  client_given reached =
      located_given client server (client_kept initial server client reached) (client_located initial server client reached) initial
      (both_turned initial (swapped own_value) server client (reached_given (at_client initial) server client reached))
