-- A step changes the value of a feature only to what the row's list shares first with one that the other side sent.
use Rattle.std.proofs.Common.{◌≡◌, ◌⊎◌, inl, inr, refl, ap, sym, ◌∙◌, subst, ℕ, ◌==◌, Bool, true, false, if◌then◌else◌, List, [], ◌∷◌, ◌++◌, length, cond, map, Option, Some, None, Result, arith, eqb-true}
use Rattle.congestion_trait.specs.Control.{Control, IsLawful}
use Rattle.dccp_endpoint.proofs.Staying.{proper-after}
use Rattle.dccp_endpoint.specs.Causes.{EveryStepHasOneEffect, Occasion, Offering, Plain, PrefersLater, PrefersNow, Repeating}
use Rattle.dccp_endpoint.specs.Drafts.{Fits}
use Rattle.dccp_endpoint.specs.Effects.{end_after}
use Rattle.dccp_endpoint.specs.End.{EndState, end_of as role_of}
use Rattle.dccp_endpoint.specs.Heeding.{DueConfirm}
use Rattle.dccp_endpoint.specs.Inputs.{Input, end_stepped}
use Rattle.dccp_endpoint.specs.Speaking.{is_confirmed}
use Rattle.dccp_endpoint.specs.Steps.{next_number}
use Rattle.dccp_endpoint.specs.Turns.{Key, offerings, sendings}
use Rattle.dccp_endpoint.specs.declared.config.Config.{Config}
use Rattle.dccp_states.specs.declared.phase.Role.TheVariants as role
use Rattle.two_ends.proofs.OfFeatures.RowFacts.{entries-entries_of}
use Rattle.two_ends.specs.FeaturePackets.{IsHeardOf}
use Rattle.two_ends.specs.FeatureRows.{confirmed_by, entries_of, is_whole_by, proposed_by}
use Rattle.two_ends.specs.FeatureView.{FeatureNews, carried_at, wish_carried}
use Rattle.feature_lists.specs.Features.{described}
use Rattle.feature_lists.specs.declared.features.Feature.{Feature}
use Rattle.feature_lists.specs.declared.features.Place.{Place}
use Rattle.feature_lists.specs.declared.wishes.Wanted.{Wanted}
use Rattle.feature_machine.proofs.Turning.{turned-joined, turned-row}
use Rattle.feature_machine.specs.Negotiating.{every_place, row_at, stepped}
use Rattle.feature_machine.specs.Rows.{Change, Confirm, Confirmed, Offered, Offers, Preferred, Prefers, Proposed, RowEvent, Sending, Sends, answers_opening, entries, is_server_priority, list_confirmation, list_proposal, agreed_confirmation, number_confirmation, proposal, reconciled_by, row_line, row_step, shared_or_not, tells_value, timely_confirmation, width}
use Rattle.byteorder.specs.Endian.{big_number}
use Rattle.feature_machine.specs.Turns.{Turn, events_of, is_turn_of, row_turned, turned}
use Rattle.feature_machine.specs.declared.judging.Confirmation.{Confirmation}
use Rattle.feature_machine.specs.declared.judging.Confirmation.TheVariants as c
use Rattle.feature_machine.specs.declared.judging.Proposal.{Proposal}
use Rattle.feature_machine.specs.declared.judging.Proposal.TheVariants as p
use Rattle.feature_machine.specs.declared.offers.Offer.{Offer}
use Rattle.feature_machine.specs.declared.row.Row.{Row}
use Rattle.feature_machine.specs.declared.stands.Role2.{Role2}
use Rattle.feature_machine.specs.declared.stands.Stand.{Stand}
use Rattle.feature_machine.specs.declared.stands.Stand.TheVariants.{Changing, Stable, Unstable}
use Rattle.seq_circle.specs.Counts.{count_of}
use Rattle.world_events.specs.Actors.{actor, other}
use Rattle.world_events.specs.declared.event.Event.{Event}
use Rattle.world_events.specs.declared.event.Side.{Side}
use Rattle.world_events.specs.declared.event.Side.TheVariants.{Client, Server}
use Rattle.world_events.specs.declared.event.WorldFault.{WorldFault}
use Rattle.two_ends.specs.Asked.{row_for}
use Rattle.two_ends.specs.Controlled.{ControlledWorld, begins_with, congestion_of, plays, said_by}
use Rattle.two_ends.specs.Negotiated.{HasSent, IsServerPriority}
use Rattle.two_ends.specs.Pairs.{FeatureAt, held_at, place_at}
use Rattle.two_ends.specs.Shared.{ChangesByLists, IsShared, reconciled_for}
use Rattle.two_ends.specs.World.{Said, WorldState, WorldStep, half_of, half_steps, happens, is_full, with_half, world_after}
use Rattle.two_ends.proofs.OfWorlds.Acting.{Act, Both, IsHeld, Party, Refused, Steps, Takes, config_of, end_of, event-taken, held_by, not-full, party_of}
use Rattle.two_ends.proofs.OfFeatures.Agreeing.{IsSpoken, end_at, key_of, list-sent}
use Rattle.two_ends.proofs.OfWorlds.Believing.{plays-roles}
use Rattle.two_ends.proofs.OfWorlds.HeardTo.{HearsOn, hears-on}
use Rattle.two_ends.proofs.OfWorlds.Keeping.{HasRoles, SideInvariant, run-kept}
use Rattle.two_ends.proofs.OfFeatures.KeyHearing.{IsWell, across}
use Rattle.two_ends.proofs.OfFeatures.KeySaying.{KnownStep, this-hears}
use Rattle.two_ends.proofs.OfWorlds.Logged.{at-place}
use Rattle.two_ends.proofs.OfFeatures.Moving.{Hears, HearsNewest, HearsNothing}
use Rattle.two_ends.proofs.OfFeatures.Preferring.{plays-held, plays-joined}
use Rattle.two_ends.proofs.OfWorlds.ReadBack.{IsFromPeer}
use Rattle.two_ends.proofs.OfWorlds.Reaching.{world-after}
use Rattle.two_ends.proofs.OfFeatures.Turning.{turned-size}
use Rattle.two_ends.proofs.OfFeatures.Viewing.{carried_of}

-- The value is what the row's list shares first with the one that the frame with this count carries.
record IsFirstShared (row : Row) (there : List FeatureNews) (count value : ℕ) : Type 0 where
  theirs : List ℕ
  carried : wish_carried (carried_at there count) ≡ Some theirs
  first : reconciled_by row.role (entries row.active) theirs ≡ Some value

abbrev StaysOr : Row → List FeatureNews → ℕ → ℕ → Type 0
StaysOr row there count value = (value ≡ row.value) ⊎ IsFirstShared row there count value

-- A Change by the table.
invalid-stays : (row : Row) (s : Stand) (mandatory : Bool) → (row_line row s (Proposed p.Invalid mandatory)).row.value ≡ row.value
invalid-stays row Stable true = refl
invalid-stays row Stable false = refl
invalid-stays row _ true = refl
invalid-stays row _ false = refl

by-shared : (row : Row) (s : Stand) (mandatory : Bool) (r : Option ℕ)
    → ((row_line row s (Proposed (shared_or_not r) mandatory)).row.value ≡ row.value)
    ⊎ (r ≡ Some (row_line row s (Proposed (shared_or_not r) mandatory)).row.value)
by-shared row Unstable true (Some value) = inl refl
by-shared row Unstable false (Some value) = inl refl
by-shared row Stable true None = inl refl
by-shared row Stable false None = inl refl
by-shared row _ true (Some value) = inr refl
by-shared row _ false (Some value) = inr refl
by-shared row _ true None = inl refl
by-shared row _ false None = inl refl

by-list : (row : Row) (s : Stand) (mandatory : Bool) (theirs : List ℕ)
    → ((row_line row s (Proposed (list_proposal row theirs) mandatory)).row.value ≡ row.value)
    ⊎ (reconciled_by row.role (entries row.active) theirs ≡ Some (row_line row s (Proposed (list_proposal row theirs) mandatory)).row.value)
by-list row s mandatory [] = inl (invalid-stays row s mandatory)
by-list row s mandatory (value ∷ rest) = by-shared row s mandatory (reconciled_by row.role (entries row.active) (value ∷ rest))

list-proposed : (row : Row) (body : List ℕ) → is_server_priority row ≡ true → proposal row body ≡ list_proposal row body
list-proposed row body priority =
    ap (λ (b : Bool). if b then list_proposal row body else if tells_value row body then p.Told (big_number (width row) body) else p.Invalid) priority

-- A Confirm by the table.
by-held : (row : Row) (value : ℕ) (same : Bool) → (row_line row Changing (Confirmed (if same then c.Held else c.Wrong))).row.value ≡ row.value
by-held row value true = refl
by-held row value false = refl

by-agreed : (row : Row) (value agreed : ℕ) (same : Bool) → (agreed == value) ≡ same
    → ((row_line row Changing (Confirmed (if same then c.Shared value else c.Wrong))).row.value ≡ row.value)
    ⊎ (Some agreed ≡ Some (row_line row Changing (Confirmed (if same then c.Shared value else c.Wrong))).row.value)
by-agreed row value agreed true is = inr (ap Some (eqb-true agreed value is))
by-agreed row value agreed false is = inl refl

by-listed : (row : Row) (s : Stand) (value : ℕ) (r : Option ℕ)
    → ((row_line row s (Confirmed (agreed_confirmation row value r))).row.value ≡ row.value)
    ⊎ (r ≡ Some (row_line row s (Confirmed (agreed_confirmation row value r))).row.value)
by-listed row Stable value r = inl refl
by-listed row Unstable value r = inl refl
by-listed row Changing value (Some agreed) = by-agreed row value agreed (agreed == value) refl
by-listed row Changing value None = inl (by-held row value (value == row.value))

late-stays : (row : Row) (s : Stand) → (row_line row s (Confirmed c.Late)).row.value ≡ row.value
late-stays row Stable = refl
late-stays row Changing = refl
late-stays row Unstable = refl

list-confirmed : (row : Row) (value : ℕ) (rest : List ℕ) → is_server_priority row ≡ true
    → timely_confirmation row (value ∷ rest) ≡ list_confirmation row value rest
list-confirmed row value rest priority =
    ap (λ (b : Bool). if b then list_confirmation row value rest else number_confirmation row (value ∷ rest)) priority

-- What a row hears of a packet.
heard-value : (iss : ℕ) (row : Row) (there : List FeatureNews) (count : ℕ) (events : List RowEvent) → is_server_priority row ≡ true
    → IsHeardOf iss row there count events → StaysOr row there count (row_turned row events).value
heard-value iss row there count [] priority heard = inl refl
heard-value iss row there count (Change body mandatory ∷ []) priority heard =
    subst (λ (q : Proposal). StaysOr row there count (row_line row row.stand (Proposed q mandatory)).row.value) (sym (list-proposed row body priority))
    (elim (by-list row row.stand mandatory body) [
      | inl same ↦ inl same
      | inr first ↦ inr (record { theirs = body; carried = carried; first = first })
    ])
  where
    carried : wish_carried (carried_at there count) ≡ Some body
    carried = ap wish_carried heard.0 ∙ ap (λ (b : Bool). Some (proposed_by b (described row.feature).width body)) priority
heard-value iss row there count (Confirm body (Some ack) ∷ []) priority heard = by (answers_opening row.opened (Some ack)) where
  listed : (values : List ℕ) → body ≡ values → is_whole_by true values ≡ true
      → StaysOr row there count (row_line row row.stand (Confirmed (timely_confirmation row values))).row.value
  listed [] same whole = cc whole
  listed (value ∷ []) same whole = cc whole
  listed (value ∷ (first ∷ rest)) same whole =
      subst (λ (q : Confirmation). StaysOr row there count (row_line row row.stand (Confirmed q)).row.value)
      (sym (list-confirmed row value (first ∷ rest) priority))
      (elim (by-listed row row.stand value (reconciled_by row.role (entries row.active) (first ∷ rest))) [
        | inl stays ↦ inl stays
        | inr shared ↦ inr (record {
          theirs = first ∷ rest;
          carried =
              ap wish_carried heard.1
              ∙ ap (λ (b : Bool). wish_carried (confirmed_by b (described row.feature).width (count_of iss ack) body)) priority
              ∙ ap (λ (values : List ℕ). wish_carried (confirmed_by true (described row.feature).width (count_of iss ack) values)) same;
          first = shared;
        })
      ])

  by : (answers : Bool) → StaysOr row there count (row_line row row.stand (Confirmed (if answers then timely_confirmation row body else c.Late))).row.value
  by true = listed body refl (subst (λ (b : Bool). is_whole_by b body ≡ true) priority heard.2)
  by false = inl (late-stays row row.stand)
heard-value iss row there count (Confirm body None ∷ []) priority heard = absurd heard
heard-value iss row there count (Prefers wish ∷ []) priority heard = absurd heard
heard-value iss row there count (Offers confirmed ∷ []) priority heard = absurd heard
heard-value iss row there count (Sends number ∷ []) priority heard = absurd heard
heard-value iss row there count (first ∷ (second ∷ rest)) priority heard = absurd heard

-- What comes of an end itself changes no value.
abbrev IsOwn : RowEvent → Type 0
IsOwn (Change body mandatory) = ⊥
IsOwn (Confirm body ack) = ⊥
IsOwn (Prefers wish) = Unit {0}
IsOwn (Offers confirmed) = Unit {0}
IsOwn (Sends number) = Unit {0}

prefers-holds : (row : Row) (s : Stand) (wish : Wanted) → (row_line row s (Preferred wish)).row.value ≡ row.value
prefers-holds row s wish = grind arith

offered-holds : (row : Row) (s : Stand) (confirmed : Bool) (offer : Offer) → (row_line row s (Offered confirmed offer)).row.value ≡ row.value
offered-holds row s confirmed offer = grind arith

sending-holds : (row : Row) (s : Stand) (number : ℕ) (opened : Option ℕ) → (row_line row s (Sending number opened)).row.value ≡ row.value
sending-holds row s number opened = grind arith

own-holds : (row : Row) (given : RowEvent) → IsOwn given → (row_step row given).row.value ≡ row.value
own-holds row (Prefers wish) own = prefers-holds row row.stand wish
own-holds row (Offers confirmed) own = offered-holds row row.stand confirmed row.offer
own-holds row (Sends number) own = sending-holds row row.stand number row.opened
own-holds row _ own = absurd own

abbrev AreOwn : List Turn → Type 0
AreOwn [] = Unit {0}
AreOwn (first ∷ rest) = IsOwn first.event × AreOwn rest

own-append : (earlier later : List Turn) → AreOwn earlier → AreOwn later → AreOwn (earlier ++ later)
own-append [] later own more = more
own-append (first ∷ rest) later own more = (own.0, own-append rest later own.1 more)

one-holds : (k : Key) (first : Turn) (rows : List Row) → length rows ≡ 18 → IsOwn first.event
    → (row_at (stepped rows first.feature first.place first.event).rows k.0 k.1).value ≡ (row_at rows k.0 k.1).value
one-holds k first rows size own = ap (λ (row : Row). row.value) (turned-row k.0 k.1 (first ∷ []) rows size) ∙ by (is_turn_of k.0 k.1 first) where
  by : (its : Bool) → (row_turned (row_at rows k.0 k.1) (map (λ (given : Turn). given.event) (cond its (first ∷ []) []))).value ≡ (row_at rows k.0 k.1).value
  by true = own-holds (row_at rows k.0 k.1) first.event own
  by false = refl

turns-hold : (k : Key) (turns : List Turn) (rows : List Row) → length rows ≡ 18 → AreOwn turns
    → (row_at (turned rows turns) k.0 k.1).value ≡ (row_at rows k.0 k.1).value
turns-hold k [] rows size own = refl
turns-hold k (first ∷ rest) rows size own =
    turns-hold k rest (stepped rows first.feature first.place first.event).rows (turned-size rows (first ∷ []) ∙ size) own.1
    ∙ one-holds k first rows size own.0

sendings-own : (number : ℕ) (keys : List Key) → AreOwn (sendings number keys)
sendings-own number [] = tt
sendings-own number (k ∷ keys) = (tt, sendings-own number keys)

offerings-own : (test : Key → Bool) (keys : List Key) → AreOwn (offerings test keys)
offerings-own test [] = tt
offerings-own test (k ∷ keys) = (tt, offerings-own test keys)

module _ {e : EndState} {given : Input} where
  occasion-own : {heard : List Turn} {confirms : List DueConfirm} {offered preferred : List Turn} {keys : List Key}
      → Occasion e given heard confirms offered preferred keys → AreOwn offered × AreOwn preferred
  occasion-own Plain = (tt, tt)
  occasion-own {confirms = confirms} Offering = (offerings-own (is_confirmed confirms) every_place, tt)
  occasion-own (Repeating in_flight fired deaf none) = (tt, tt)
  occasion-own (PrefersNow k values wish so is now deaf none) = (tt, (tt, tt))
  occasion-own (PrefersLater k values wish so is later deaf none) = (tt, (tt, tt))

-- One step of a side that is known.
module _ (s : KnownStep) (k : Key) (priority : (described k.0).is_server_priority ≡ true) where
  abbrev act : Act
  act = s.act

  abbrev e : EndState
  e = end_of act.side

  abbrev row : Row
  row = row_at e.rows k.0 k.1

  abbrev there : List FeatureNews
  there = map (carried_of (config_of act.side).iss (across k)) act.peer.log

  abbrev heard : List Turn
  heard = act.because.turns.heard

  abbrev after : Row
  after = row_at (end_after e act.effect).rows k.0 k.1

  abbrev rest : List Turn
  rest = act.because.turns.offered ++ (act.because.turns.preferred ++ sendings (next_number e) act.because.turns.keys)

  rest-own : AreOwn rest
  rest-own =
      let others = occasion-own act.because.turns.occasion in
      own-append act.because.turns.offered (act.because.turns.preferred ++ sendings (next_number e) act.because.turns.keys) others.0
      (own-append act.because.turns.preferred (sendings (next_number e) act.because.turns.keys) others.1
      (sendings-own (next_number e) act.because.turns.keys))

  as-heard : after.value ≡ (row_turned row (events_of k.0 k.1 heard)).value
  as-heard =
      ap (λ (turns : List Turn). (row_at (turned e.rows turns) k.0 k.1).value) act.because.turns.in_order
      ∙ ap (λ (rows : List Row). (row_at rows k.0 k.1).value) (turned-joined e.rows heard rest)
      ∙ turns-hold k rest (turned e.rows heard) (turned-size e.rows heard ∙ s.own.proper.rows.sound.size) rest-own
      ∙ ap (λ (r : Row). r.value) (turned-row k.0 k.1 heard e.rows s.own.proper.rows.sound.size)

  row-priority : is_server_priority row ≡ true
  row-priority = ap (λ (f : Feature). (described f).is_server_priority) (s.own.proper.rows.sound.each k.0 k.1).feature_is ∙ priority

  step-value : StaysOr row there s.later after.value
  step-value =
      subst (StaysOr row there s.later) (sym as-heard)
      (by (events_of k.0 k.1 heard) _ (this-hears s k))
    where
      by : (events : List RowEvent) (reply : Option (List ℕ)) → Hears (config_of act.side).iss s.greatest row there s.later events reply
          → StaysOr row there s.later (row_turned row events).value
      by _ _ (HearsNothing same) = inl refl
      by events _ (HearsNewest _ newer is) = heard-value (config_of act.side).iss row there s.later events row-priority is

-- the peer's row of the same feature, by sides
across-is : (feature : Feature) (side location : Side) → across (feature, place_at side location) ≡ (feature, place_at (other side) location)
across-is feature Client Client = refl
across-is feature Client Server = refl
across-is feature Server Client = refl
across-is feature Server Server = refl

-- whose list comes first
for-side : (r : Role2) (side : Side) (own theirs : List ℕ) → r ≡ end_at side → reconciled_for side own theirs ≡ reconciled_by r own theirs
for-side r Client own theirs is = sym (ap (λ (x : Role2). reconciled_by x own theirs) is)
for-side r Server own theirs is = sym (ap (λ (x : Role2). reconciled_by x own theirs) is)

module _ (effects : EveryStepHasOneEffect) (w : WorldState) (h : IsHeld SideInvariant w) (roles : HasRoles w) where
  both : (side : Side) → Both SideInvariant (party_of w h.logs side) (party_of w h.logs (other side))
  both side = held_by SideInvariant w h side

  role-is : (side : Side) → role_of (half_of w side).end.config.role ≡ end_at side
  role-is Client = ap role_of roles.is_client
  role-is Server = ap role_of roles.is_server

  spoken : (side : Side) → IsSpoken (party_of w h.logs side) (config_of (party_of w h.logs (other side))).iss
  spoken side =
      let iss : ℕ = (config_of (party_of w h.logs (other side))).iss in
      record {
        logged = (both side).0.ordered.logged;
        well = λ k place l there. (at-place (IsWell iss) (h.logs side) place l (both side).0.negotiated.well there).each k;
      }

  module _ (pair : FeatureAt) (priority : IsServerPriority pair) where
    shown : (side : Side) (count : ℕ) (theirs : List ℕ)
        → wish_carried (carried_at (map (carried_of (config_of (party_of w h.logs side)).iss (across (key_of pair side))) (h.logs (other side))) count)
        ≡ Some theirs
        → HasSent w pair (other side) theirs
    shown Client count theirs is =
        list-sent w h.logs spoken pair Server 0 count theirs priority
        (subst (λ (k : Key). wish_carried (carried_at (map (carried_of (config_of (party_of w h.logs Client)).iss k) (h.logs Server)) count) ≡ Some theirs)
        (across-is pair.feature Client pair.location) is)
    shown Server count theirs is =
        list-sent w h.logs spoken pair Client 0 count theirs priority
        (subst (λ (k : Key). wish_carried (carried_at (map (carried_of (config_of (party_of w h.logs Server)).iss k) (h.logs Client)) count) ≡ Some theirs)
        (across-is pair.feature Server pair.location) is)

    -- the new world holds this value
    shared-so : (side : Side) (new : WorldState) (count : ℕ)
        → IsFirstShared (row_for w pair side)
        (map (carried_of (config_of (party_of w h.logs side)).iss (across (key_of pair side))) (h.logs (other side))) count
        (held_at new pair side).value → IsShared w new pair side
    shared-so side new count f =
        let its = (both side).0.ordered.proper.rows in
        let place : Place = place_at side pair.location in
        let row : Row = row_for w pair side in
        let own = its.sound.each pair.feature place in
        let listed : is_server_priority row ≡ true = ap (λ (x : Feature). (described x).is_server_priority) own.feature_is ∙ priority in
        record {
          theirs = f.theirs;
          was_sent = shown side count f.theirs f.carried;
          is_first =
              for-side row.role side (entries_of row.active) f.theirs (its.roles pair.feature place ∙ role-is side)
              ∙ ap (λ (entries : List ℕ). reconciled_by row.role entries f.theirs) (sym (entries-entries_of row own.sound listed))
              ∙ f.first;
        }

    own-step : (side : Side) (arrived : Option ℕ) (given : Input) → is_full (half_of w side) ≡ false
        → IsFromPeer (half_of w side).end (half_of w (other side)).frames arrived given
        → (new : WorldState)
        → (held_at new pair side).value ≡ (row_at (end_stepped (half_of w side).end given).after.rows pair.feature (place_at side pair.location)).value
        → ((held_at new pair side).value ≡ (held_at w pair side).value) ⊎ IsShared w new pair side
    own-step side arrived given room from new is =
        let x : Party = party_of w h.logs side in
        let y : Party = party_of w h.logs (other side) in
        let now = both side in
        let has = effects x.half.end given now.0.ordered.proper in
        let act : Act =
        record {
          side = x;
          peer = y;
          arrived = arrived;
          given = given;
          effect = has.effect;
          room = not-full x.half room;
          from_peer = from;
          numbers = now.0.ordered.numbers;
          because = has.because;
        } in
        let on : HearsOn act now.0.negotiated.greatest = hears-on act now.1.ordered now.0.negotiated.greatest now.0.negotiated.hears in
        let known : KnownStep =
        record {
          act = act;
          own = now.0.ordered;
          peer = now.1.ordered;
          greatest = now.0.negotiated.greatest;
          later = on.later;
          so = on.so;
          well = now.1.negotiated.well;
          after = proper-after now.0.ordered.proper has.because;
        } in
        let k : Key = key_of pair side in
        let there : List FeatureNews = map (carried_of (config_of x).iss (across k)) y.log in
        let value : StaysOr (row_for w pair side) there on.later (held_at new pair side).value =
        subst (StaysOr (row_for w pair side) there on.later)
        (sym (is ∙ ap (λ (e : EndState). (row_at e.rows k.0 k.1).value) has.after_is))
        (step-value known k priority) in
        elim value [
          | inl same ↦ inl same
          | inr first ↦ inr (shared-so side new on.later first)
        ]

    changes-by : (acting : Side) (r : Result WorldStep WorldFault) → Takes w acting r → (side : Side)
        → ((held_at (world_after w r) pair side).value ≡ (held_at w pair side).value) ⊎ IsShared w (world_after w r) pair side
    changes-by acting _ (Refused why) side = inl refl
    changes-by Client _ (Steps arrived given room from) Client =
        own-step Client arrived given room from (with_half w Client (half_steps (half_of w Client) arrived given).half) refl
    changes-by Client _ (Steps arrived given room from) Server = inl refl
    changes-by Server _ (Steps arrived given room from) Client = inl refl
    changes-by Server _ (Steps arrived given room from) Server =
        own-step Server arrived given room from (with_half w Server (half_steps (half_of w Server) arrived given).half) refl

  step-changes : (acting : Side) (r : Result WorldStep WorldFault) → Takes w acting r → ChangesByLists w (world_after w r)
  step-changes acting r takes pair side priority differs =
      elim (changes-by pair priority acting r takes side) [
        | inl same ↦ absurd (differs same)
        | inr shared ↦ shared
      ]

-- In every step of every run.
pub plays-changes : {C : Type 0} (control : Control C) (lawful : IsLawful control) (effects : EveryStepHasOneEffect) (client server : Config)
    (for_client for_server : C) (events : List Event) (next : Event) (client_fits : Fits client) (server_fits : Fits server)
    → client.role ≡ role.Client → server.role ≡ role.Server
    → ChangesByLists (plays control (begins_with control client server for_client for_server) events).world
    (plays control (begins_with control client server for_client for_server) (events ++ next ∷ [])).world
plays-changes {C} control lawful effects client server for_client for_server events next client_fits server_fits is_client is_server =
    let start : ControlledWorld C = begins_with control client server for_client for_server in
    let w : ControlledWorld C = plays control start events in
    let held : IsHeld SideInvariant w.world = plays-held control effects start (run-kept effects client server [] client_fits server_fits) events in
    let roles : HasRoles w.world =
    plays-roles control lawful effects client server for_client for_server events client_fits server_fits is_client is_server in
    let said : Said = said_by control (congestion_of w (actor next)) in
    let r : Result WorldStep WorldFault = happens w.world next said in
    let leads : (plays control start (events ++ next ∷ [])).world ≡ world_after w.world r =
    ap (λ (v : ControlledWorld C). v.world) (plays-joined control effects start events (next ∷ [])) ∙ world-after control w (actor next) r in
    subst (ChangesByLists w.world) (sym leads) (step-changes effects w.world held roles (actor next) r (event-taken w.world next said))
