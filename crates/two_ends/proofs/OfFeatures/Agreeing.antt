-- Where the packets of both sides say valid things and the sides' views are reached, the ends agree, and their values were given to them.
use Rattle.std.proofs.Common.{◌≡◌, refl, ap, sym, ◌∙◌, subst, ℕ, ◌||◌, Bool, true, false, List, Option, Some, None}
use Rattle.std.proofs.Math.Bool.{or_comm}
use Rattle.std.specs.Prelude.{IsTrue, is_some}
use Rattle.std.specs.Option.{option_map}
use Rattle.dccp_endpoint.specs.Turns.{Key}
use Rattle.dccp_endpoint.specs.declared.config.Config.{Config}
use Rattle.two_ends.specs.FeatureAgreement as agreement
use Rattle.two_ends.specs.FeatureAgreement.{IsGiven, IsToldValue}
use Rattle.two_ends.specs.FeatureAgreement.IsGiven.{Initial as AsBefore, Ruled}
use Rattle.two_ends.specs.FeatureAgreement.IsToldValue.{Untold, Told as ToldIn}
use Rattle.two_ends.specs.EachFeature.{agree_by, given_by}
use Rattle.two_ends.specs.FeatureMoves.{HaveReached}
use Rattle.two_ends.specs.FeatureRows.{pair_of}
use Rattle.two_ends.specs.FeatureView as view
use Rattle.two_ends.specs.FeatureView.{carried_at, change_of, has_change, last_change, last_wish, wish_carried}
use Rattle.two_ends.specs.FeatureView.FeatureNews.{Change}
use Rattle.two_ends.proofs.OfFeatures.ByFeature.{reached_agrees, reached_is_given}
use Rattle.feature_lists.specs.Features.{described, initial_of}
use Rattle.feature_lists.specs.Lists.{reconciled}
use Rattle.feature_machine.specs.declared.stands.Role2.{Role2}
use Rattle.feature_machine.specs.declared.stands.Role2.TheVariants as end
use Rattle.world_events.specs.declared.event.Side.{Side}
use Rattle.world_events.specs.declared.event.Side.TheVariants.{Client, Server}
use Rattle.two_ends.specs.Negotiated.{Agree, AgreeOn, Given, HasSent, HasTold, IsNotNegotiable, IsServerPriority, IsSettled, Origin, Initial, Reconciled, Told, says_change, last_list_sent, last_value, list_said, side_changed, value_said, pair_was_negotiated}
use Rattle.two_ends.specs.Pairs.{FeatureAt, held_at, place_at}
use Rattle.two_ends.specs.World.{WorldState}
use Rattle.world_events.specs.Actors.{other}
use Rattle.two_ends.proofs.OfWorlds.Acting.{Party, config_of, party_of}
use Rattle.two_ends.proofs.OfFeatures.Carrying.{any-logged, frame-at, frame-says, last-logged, says}
use Rattle.two_ends.proofs.OfWorlds.Logged.{AreLogged, Logged}
use Rattle.two_ends.proofs.OfFeatures.Telling.{AreWell, any-change, last-value, last-wish, only, shown-at, value-told, wish-told}
use Rattle.two_ends.proofs.OfFeatures.Viewing.{carried_of, view_of}

-- the row of a side for a pair
abbrev pub key_of : FeatureAt → Side → Key
key_of pair side = (pair.feature, place_at side pair.location)

-- whose end a side is
abbrev pub end_at : Side → Role2
end_at Client = end.Client
end_at Server = end.Server

-- The frames of a side are logged, and its packets say valid things to the peer, whose first number this is.
pub record IsSpoken (x : Party) (peer_iss : ℕ) : Type 0 where
  pub logged : AreLogged (config_of x) (config_of x).iss x.half.frames x.log
  pub well : (k : Key) → AreWell peer_iss k x.log

-- a side of the world as a side of the pair
abbrev pub view_at : WorldState → (Side → List Logged) → (greatest : ℕ) → FeatureAt → Side → view.FeatureSide
view_at w logs greatest pair side = view_of (party_of w logs side) (config_of (party_of w logs (other side))).iss greatest (key_of pair side)

-- The views of both sides are reached, the server's first, where each has taken so many of the other's frames.
pub record AreReached (w : WorldState) (logs : Side → List Logged) (pair : FeatureAt) : Type 0 where
  pub servers : ℕ
  pub clients : ℕ
  pub reached : HaveReached (pair_of pair.feature (end_at pair.location)) (view_at w logs servers pair Server) (view_at w logs clients pair Client)

only-is : (o : Option ℕ) (value : ℕ) → Some (only value) ≡ option_map only o → o ≡ Some value
only-is None value is = cc is
only-is (Some other) value is = let same : other ≡ value = cc is in ap Some same

module _ (w : WorldState) (logs : Side → List Logged)
    (spoken : (side : Side) → IsSpoken (party_of w logs side) (config_of (party_of w logs (other side))).iss) where
  abbrev config : Side → Config
  config side = config_of (party_of w logs side)

  abbrev peer_iss : Side → ℕ
  peer_iss side = (config_of (party_of w logs (other side))).iss

  -- what the frames say last is what the view has last
  pub list-is : (pair : FeatureAt) (side : Side) (greatest : ℕ) → IsServerPriority pair
      → last_list_sent w pair side ≡ last_wish (view_at w logs greatest pair side).frames
  list-is pair side greatest priority =
      last-logged (config side) (key_of pair side) list_said refl (spoken side).logged
      ∙ last-wish (peer_iss side) (key_of pair side) priority (logs side) ((spoken side).well (key_of pair side))

  value-is : (pair : FeatureAt) (greatest : ℕ) → IsNotNegotiable pair
      → last_change (view_at w logs greatest pair pair.location).frames ≡ option_map only (last_value w pair)
  value-is pair greatest other =
      last-value (peer_iss pair.location) (key_of pair pair.location) other (logs pair.location) ((spoken pair.location).well (key_of pair pair.location))
      ∙ ap (option_map only) (sym (last-logged (config pair.location) (key_of pair pair.location) value_said refl (spoken pair.location).logged))

  pub changed-is : (pair : FeatureAt) (side : Side) (greatest : ℕ) → side_changed w pair side ≡ has_change (view_at w logs greatest pair side).frames
  changed-is pair side greatest =
      any-logged (config side) (key_of pair side) says_change refl (spoken side).logged
      ∙ any-change (peer_iss side) (key_of pair side) (logs side) ((spoken side).well (key_of pair side))

  -- what the view has at some count is in a frame
  pub list-sent : (pair : FeatureAt) (side : Side) (greatest count : ℕ) (list : List ℕ) → IsServerPriority pair
      → wish_carried (carried_at (view_at w logs greatest pair side).frames count) ≡ Some list → HasSent w pair side list
  list-sent pair side greatest count list priority shown =
      let at = shown-at (carried_of (peer_iss side) (key_of pair side)) wish_carried (logs side) count list refl shown in
      let sent = frame-at (config side) at.place at.logged (spoken side).logged at.is_there in
      record {
        index = sent.index;
        frame = sent.frame;
        is_there = sent.is_there;
        is_said =
            ap list_said (frame-says (config side) (key_of pair side) sent.number sent.frame at.logged sent.is_logged)
            ∙ sym (wish-told (peer_iss side) (key_of pair side) _ priority ((spoken side).well (key_of pair side) at.place at.logged at.is_there))
            ∙ at.is_shown;
      }

  value-sent : (pair : FeatureAt) (greatest count value : ℕ) → IsNotNegotiable pair
      → carried_at (view_at w logs greatest pair pair.location).frames count ≡ Change (only value) → HasTold w pair value
  value-sent pair greatest count value other carried =
      let side = pair.location in
      let at = shown-at (carried_of (peer_iss side) (key_of pair side)) change_of (logs side) count (only value) refl (ap change_of carried) in
      let sent = frame-at (config side) at.place at.logged (spoken side).logged at.is_there in
      record {
        index = sent.index;
        frame = sent.frame;
        is_there = sent.is_there;
        is_said =
            ap value_said (frame-says (config side) (key_of pair side) sent.number sent.frame at.logged sent.is_logged)
            ∙ only-is (value_said (says (key_of pair side) at.logged)) value
            (sym at.is_shown ∙ value-told (peer_iss side) (key_of pair side) _ other ((spoken side).well (key_of pair side) at.place at.logged at.is_there));
      }

  module _ (pair : FeatureAt) (r : AreReached w logs pair) where
    abbrev servers : view.FeatureSide
    servers = view_at w logs r.servers pair Server

    abbrev clients : view.FeatureSide
    clients = view_at w logs r.clients pair Client

    negotiated-is : pair_was_negotiated w pair ≡ (has_change clients.frames || has_change servers.frames)
    negotiated-is =
        ap (λ own. own || side_changed w pair Server) (changed-is pair Client r.clients)
        ∙ ap (λ own. has_change clients.frames || own) (changed-is pair Server r.servers)

    both-negotiated : IsTrue (pair_was_negotiated w pair) → IsTrue (agreement.was_negotiated servers clients)
    both-negotiated is = or_comm (has_change servers.frames) (has_change clients.frames) ∙ sym negotiated-is ∙ is

    listed-agree : IsServerPriority pair → IsSettled w pair → agreement.SidesAgree reconciled servers clients → AgreeOn w pair
    listed-agree priority settled a =
        let stable : agreement.AreStable servers clients = (settled.1, settled.0) in
        record {
          equal = sym (a.equal stable);
          both_sent =
              λ same negotiated. (
                ap is_some (list-is pair Client r.clients priority) ∙ (a.both_sent stable (both-negotiated negotiated)).1,
                ap is_some (list-is pair Server r.servers priority) ∙ (a.both_sent stable (both-negotiated negotiated)).0,
              );
          is_reconciled =
              λ same server_list client_list value servers_last clients_last is.
              a.reconciled stable server_list client_list (sym (list-is pair Server r.servers priority) ∙ servers_last)
              (sym (list-is pair Client r.clients priority) ∙ clients_last) value is;
          is_last_sent = λ other negotiated. absurd (cc (sym priority ∙ other));
        }

    -- the value in the location's last Change
    last-sent : (greatest value : ℕ) → IsNotNegotiable pair → last_change (view_at w logs greatest pair pair.location).frames ≡ Some (only value)
        → last_value w pair ≡ Some value
    last-sent greatest value other is = only-is (last_value w pair) value (sym is ∙ value-is pair greatest other)

    located-agree : IsNotNegotiable pair → (held_at w pair Client).value ≡ (held_at w pair Server).value
        → (IsTrue (pair_was_negotiated w pair) → last_value w pair ≡ Some (held_at w pair pair.location).value) → AgreeOn w pair
    located-agree other equal last =
        record {
          equal = equal;
          both_sent = λ priority negotiated. absurd (cc (sym priority ∙ other));
          is_reconciled = λ priority server_list client_list value servers_last clients_last is. absurd (cc (sym priority ∙ other));
          is_last_sent = λ same negotiated. last negotiated;
        }

    -- the last Change of the side where the feature is located
    last-of : IsNotNegotiable pair → (location : Side) → pair.location ≡ location → (greatest : ℕ)
        → last_change (view_at w logs greatest pair location).frames ≡ Some (only (held_at w pair location).value)
        → last_value w pair ≡ Some (held_at w pair pair.location).value
    last-of other location at greatest =
        subst (λ (s : Side). last_change (view_at w logs greatest pair s).frames ≡ Some (only (held_at w pair s).value)
        → last_value w pair ≡ Some (held_at w pair pair.location).value) at (last-sent greatest (held_at w pair pair.location).value other)

    located-by : IsNotNegotiable pair → IsSettled w pair → (location : Side) → pair.location ≡ location
        → agree_by false (end_at location) servers clients → AgreeOn w pair
    located-by other settled Server at a =
        located-agree other (sym (a.equal (settled.1, settled.0)))
        (λ negotiated. last-of other Server at r.servers (a.last_sent (settled.1, settled.0) (both-negotiated negotiated)))
    located-by other settled Client at a =
        located-agree other (a.equal settled) (λ negotiated. last-of other Client at r.clients (a.last_sent settled (sym negotiated-is ∙ negotiated)))

    agree-by : (b : Bool) → (described pair.feature).is_server_priority ≡ b → IsSettled w pair
        → agree_by b (end_at pair.location) servers clients → AgreeOn w pair
    agree-by true is settled a = listed-agree is settled a
    agree-by false is settled a = located-by is settled pair.location refl a

    agree-on : IsSettled w pair → AgreeOn w pair
    agree-on settled =
        agree-by (described pair.feature).is_server_priority refl settled
        (reached_agrees pair.feature (end_at pair.location) servers clients r.reached)

    listed-given : IsServerPriority pair → (value : ℕ) → IsGiven (initial_of pair.feature) reconciled servers.frames clients.frames value
        → Origin w pair value
    listed-given priority value (AsBefore is) = Initial is
    listed-given priority value (Ruled count counterpart server_list client_list here there is) =
        Reconciled server_list client_list priority (list-sent pair Server r.servers count server_list priority here)
        (list-sent pair Client r.clients counterpart client_list priority there) is

    told-given : IsNotNegotiable pair → (greatest value : ℕ)
        → IsToldValue (initial_of pair.feature) (view_at w logs greatest pair pair.location).frames value → Origin w pair value
    told-given other greatest value (Untold is) = Initial is
    told-given other greatest value (ToldIn count carried) = Told other (value-sent pair greatest count value other carried)

    told-by : IsNotNegotiable pair → (location : Side) → pair.location ≡ location → (greatest value : ℕ)
        → IsToldValue (initial_of pair.feature) (view_at w logs greatest pair location).frames value → Origin w pair value
    told-by other location at greatest value =
        subst (λ (s : Side). IsToldValue (initial_of pair.feature) (view_at w logs greatest pair s).frames value → Origin w pair value) at
        (told-given other greatest value)

    given-located : IsNotNegotiable pair → (location : Side) → pair.location ≡ location
        → given_by false (initial_of pair.feature) (end_at location) servers clients → (side : Side) → Origin w pair (held_at w pair side).value
    given-located other Server at g Server = told-by other Server at r.servers _ g.locations
    given-located other Server at g Client = told-by other Server at r.servers _ g.remotes
    given-located other Client at g Client = told-by other Client at r.clients _ g.locations
    given-located other Client at g Server = told-by other Client at r.clients _ g.remotes

    given-by : (b : Bool) → (described pair.feature).is_server_priority ≡ b
        → given_by b (initial_of pair.feature) (end_at pair.location) servers clients → (side : Side) → Origin w pair (held_at w pair side).value
    given-by true is g Server = listed-given is _ g.servers
    given-by true is g Client = listed-given is _ g.clients
    given-by false is g side = given-located is pair.location refl g side

    given-on : (side : Side) → Origin w pair (held_at w pair side).value
    given-on side =
        given-by (described pair.feature).is_server_priority refl
        (reached_is_given pair.feature (end_at pair.location) servers clients r.reached) side

  -- Both ends agree on every feature, and each value was given to them.
  pub agree : ((pair : FeatureAt) → AreReached w logs pair) → Agree w
  agree reached pair settled = agree-on pair (reached pair) settled

  pub given : ((pair : FeatureAt) → AreReached w logs pair) → Given w
  given reached pair side = given-on pair (reached pair) side
