-- What the owner of an end asked for last is what its row wants: no other event but an accepted `prefer` of that row touches it.
use Rattle.std.proofs.Common.{◌≡◌, refl, ap, sym, ◌∙◌, subst, ℕ, Bool, true, false, if◌then◌else◌, List, [], ◌∷◌, ◌++◌, cond, map, Option, Some, None, Result, Ok, Err, slice_get}
use Rattle.congestion_trait.specs.Control.{Control}
use Rattle.dccp_endpoint.proofs.Keys.{key-itself, key-so}
use Rattle.dccp_endpoint.proofs.Lawful.{preferred-lawful}
use Rattle.dccp_endpoint.specs.Calling.{Called, is_asking_now, preferring, prefers, prefers_in, prefers_so, prefers_wish}
use Rattle.dccp_endpoint.specs.Causes.{AreHeard, AreTurns, Deaf, EveryStepHasOneEffect, Heeds, Occasion, Offering, Plain, PrefersLater, PrefersNow, Repeating, counts_in}
use Rattle.dccp_endpoint.specs.Drafts.{Fits}
use Rattle.dccp_endpoint.specs.Effects.{HeardNumber}
use Rattle.dccp_endpoint.specs.End.{EndState, IsProper, end_of as role_of, is_connected}
use Rattle.dccp_endpoint.specs.Heeding.{DueConfirm, unheeded}
use Rattle.dccp_endpoint.specs.Inputs.{Input, end_stepped}
use Rattle.dccp_endpoint.specs.Inputs as input
use Rattle.dccp_endpoint.specs.Saying.{is_key}
use Rattle.dccp_endpoint.specs.Speaking.{is_confirmed}
use Rattle.dccp_endpoint.specs.Steps.{next_number}
use Rattle.dccp_endpoint.specs.Turns.{Key, sendings, turn_of}
use Rattle.dccp_endpoint.specs.declared.config.Config.{Config}
use Rattle.two_ends.specs.FeatureRows.{entries_of}
use Rattle.feature_lists.specs.Wishes.{wish_of}
use Rattle.feature_lists.specs.declared.features.Feature.{Feature}
use Rattle.feature_lists.specs.declared.features.Place.{Place}
use Rattle.feature_lists.specs.declared.wishes.PreferFault.{PreferFault}
use Rattle.feature_lists.specs.declared.wishes.Wanted.{Wanted}
use Rattle.feature_machine.proofs.Turning.{first-fresh, turned-row, turned-sound}
use Rattle.feature_machine.specs.Negotiating.{IsNegotiation, every_place, row_at}
use Rattle.feature_machine.specs.Rows.{Prefers}
use Rattle.feature_machine.specs.Sound.{IsSoundRow}
use Rattle.feature_machine.specs.Turns.{Turn, row_turned, turned}
use Rattle.feature_machine.specs.declared.row.Row.{Row}
use Rattle.world_events.specs.Actors.{actor, other}
use Rattle.world_events.specs.declared.event.Event.{Event}
use Rattle.world_events.specs.declared.event.Event.TheVariants as event
use Rattle.dccp_states.specs.declared.seen.Seen.{Seen}
use Rattle.dccp_states.specs.declared.seen.Seen.TheVariants as seen
use Rattle.world_events.specs.declared.event.Side.{Side}
use Rattle.world_events.specs.declared.event.Side.TheVariants.{Client, Server}
use Rattle.world_events.specs.declared.event.WorldFault.{WorldFault}
use Rattle.world_events.specs.declared.event.WorldFault.TheVariants as fault
use Rattle.two_ends.specs.Controlled.{ControlledWorld, ControlledStep, begins_with, congestion_of, controlled, controlled_after, controls, happens_to, plays, said_by}
use Rattle.two_ends.specs.Reached.{IsBeginning}
use Rattle.two_ends.specs.Preferred.{AsksFor, AsksNothing, IsAccepted, IsLastAsked, WantsValues, row_of, values_configured}
use Rattle.two_ends.specs.World.{Half, HalfStep, Said, WorldState, WorldStep, delivers_frame, half_of, half_steps, happens, is_far_frame, is_full, unless_far, unless_full, with_half, world_after}
use Rattle.dccp_endpoint.specs.UserCalls.{seen_of_call}
use Rattle.dccp_states.specs.Refusals.{refusal_of}
use Rattle.two_ends.specs.declared.frames.SentFrame.{SentFrame}
use Rattle.two_ends.proofs.OfWorlds.Acting.{IsHeld, event-taken}
use Rattle.two_ends.proofs.OfWorlds.Keeping.{SideInvariant, kept-proper, run-kept, step-kept}
use Rattle.two_ends.proofs.OfWorlds.Reaching.{world-after}
use Rattle.two_ends.proofs.OfFeatures.Turning.{turn-events}
use Rattle.two_ends.proofs.OfFeatures.Wanting.{latest, preferred-latest, wants, entries-are, AreCalm, calm-append, turns-keep, heard-calm, sendings-calm, offerings-calm}

-- what happens to an end, other than a preference
abbrev IsCalmInput : Input → Type 0
IsCalmInput (input.Prefers key values) = ⊥
IsCalmInput _ = Unit {0}

module _ {e : EndState} {given : Input} where
  said-calm : {hearing : HeardNumber} {turns : List Turn} {confirms : List DueConfirm} → AreHeard e given hearing turns confirms → AreCalm turns
  said-calm Deaf = tt
  said-calm (Heeds a h was is) = heard-calm (counts_in e a) a.ack (unheeded e.rows) a.options

  occasion-calm : {heard : List Turn} {confirms : List DueConfirm} {offered preferred : List Turn} {keys : List Key} → IsCalmInput given
      → Occasion e given heard confirms offered preferred keys → AreCalm offered × AreCalm preferred
  occasion-calm calm Plain = (tt, tt)
  occasion-calm {confirms = confirms} calm Offering = (offerings-calm (is_confirmed confirms) every_place, tt)
  occasion-calm calm (Repeating in_flight fired deaf none) = (tt, tt)
  occasion-calm calm (PrefersNow k values wish so is now deaf none) = absurd (subst IsCalmInput so calm)
  occasion-calm calm (PrefersLater k values wish so is later deaf none) = absurd (subst IsCalmInput so calm)

  turns-calm : {hearing : HeardNumber} {turns : List Turn} → IsCalmInput given → AreTurns e given hearing turns → AreCalm turns
  turns-calm calm at =
      let others = occasion-calm calm at.occasion in
      let sent : List Turn = sendings (next_number e) at.keys in
      subst AreCalm (sym at.in_order)
      (calm-append at.heard (at.offered ++ (at.preferred ++ sent)) (said-calm at.hears)
      (calm-append at.offered (at.preferred ++ sent) others.0
      (calm-append at.preferred sent others.1 (sendings-calm (next_number e) at.keys))))

-- So a step of an end keeps what each row wants, unless it is a preference.
end-keeps : EveryStepHasOneEffect → (e : EndState) (given : Input) → IsProper e → IsCalmInput given → (k : Key)
    → latest (row_at (end_stepped e given).after.rows k.0 k.1) ≡ latest (row_at e.rows k.0 k.1)
end-keeps effects e given proper calm k =
    let has = effects e given proper in
    ap (λ (x : EndState). latest (row_at x.rows k.0 k.1)) has.after_is
    ∙ turns-keep k has.effect.turns e.rows proper.rows.sound (turns-calm calm has.because.turns)

-- A preference is refused, and nothing changes; or it is a turn of its row, after which Changes go out.
data Preference (e : EndState) (k : Key) (values : List ℕ) : Called PreferFault → Type 0 where
  Refuses : (step : Called PreferFault) (why : PreferFault) → step.after ≡ e → step.answer ≡ Err why → Preference e k values step
  Takes : (step : Called PreferFault) (wish : Wanted) (keys : List Key) → wish_of k.0 k.1 values ≡ Ok wish
      → step.after.rows ≡ turned e.rows (turn_of k (Prefers wish) ∷ sendings (next_number e) keys) → step.answer ≡ Ok tt → Preference e k values step

wish-taken : (e : EndState) (k : Key) (values : List ℕ) (wish : Wanted) → wish_of k.0 k.1 values ≡ Ok wish → (now : Bool)
    → Preference e k values (prefers_so (preferring e k wish) k now)
wish-taken e k values wish is true = Takes _ wish (k ∷ []) is refl refl
wish-taken e k values wish is false = Takes _ wish [] is refl refl

wish-preferred : (e : EndState) (k : Key) (values : List ℕ) (r : Result Wanted PreferFault) → wish_of k.0 k.1 values ≡ r
    → Preference e k values (prefers_wish e k r)
wish-preferred e k values (Ok wish) is = wish-taken e k values wish is (is_asking_now e k wish)
wish-preferred e k values (Err why) is = Refuses _ why refl refl

phase-preferred : (e : EndState) (k : Key) (values : List ℕ) (connected : Bool) → Preference e k values (prefers_in e connected k values)
phase-preferred e k values true = wish-preferred e k values (wish_of k.0 k.1 values) refl
phase-preferred e k values false = Refuses _ _ refl refl

preferred : (e : EndState) (k : Key) (values : List ℕ) → Preference e k values (prefers e k values)
unfolding prefers
preferred e k values = phase-preferred e k values (is_connected e.phase)

-- what the row of a preference wants then, and every other row
record IsPreferred (e : EndState) (k : Key) (values : List ℕ) (after : EndState) : Type 0 where
  wish : Wanted
  is_wish : wish_of k.0 k.1 values ≡ Ok wish
  wants_it : latest (row_at after.rows k.0 k.1) ≡ Some wish

module _ (e : EndState) (proper : IsProper e) (k : Key) (wish : Wanted) (values : List ℕ) (is : wish_of k.0 k.1 values ≡ Ok wish) (keys : List Key) where
  abbrev first : Turn
  first = turn_of k (Prefers wish)

  abbrev next : List Row
  next = turned e.rows (first ∷ [])

  sound-next : IsNegotiation next
  sound-next = turned-sound e.rows (first ∷ []) proper.rows.sound (preferred-lawful k values wish is)

  row-next : (j : Key) (its : Bool) → is_key j k ≡ its
      → row_at next j.0 j.1 ≡ row_turned (row_at e.rows j.0 j.1) (map (λ (given : Turn). given.event) (cond its (first ∷ []) []))
  row-next j its same =
      turned-row j.0 j.1 (first ∷ []) e.rows proper.rows.sound.size ∙ ap (row_turned (row_at e.rows j.0 j.1)) (turn-events j k (Prefers wish) its same)

  then-keeps : (j : Key) → latest (row_at (turned e.rows (first ∷ sendings (next_number e) keys)) j.0 j.1) ≡ latest (row_at next j.0 j.1)
  then-keeps j = turns-keep j (sendings (next_number e) keys) next sound-next (sendings-calm (next_number e) keys)

  its-wish : latest (row_at (turned e.rows (first ∷ sendings (next_number e) keys)) k.0 k.1) ≡ Some wish
  its-wish =
      let row : Row = row_at e.rows k.0 k.1 in
      then-keeps k ∙ ap latest (row-next k true (key-itself k))
      ∙ preferred-latest row row.stand wish (proper.rows.sound.each k.0 k.1).sound.pending

  others-keep : (j : Key) → is_key j k ≡ false
      → latest (row_at (turned e.rows (first ∷ sendings (next_number e) keys)) j.0 j.1) ≡ latest (row_at e.rows j.0 j.1)
  others-keep j differs = then-keeps j ∙ ap latest (row-next j false differs)

accepted-its : (e : EndState) → IsProper e → (k : Key) (values : List ℕ) (step : Called PreferFault) → Preference e k values step → step.answer ≡ Ok tt
    → IsPreferred e k values step.after
accepted-its e proper k values step (Refuses _ why same refused) accepted = cc (refused, accepted)
accepted-its e proper k values step (Takes _ wish keys is rows taken) accepted =
    record {
      wish = wish;
      is_wish = is;
      wants_it = ap (λ (rs : List Row). latest (row_at rs k.0 k.1)) rows ∙ its-wish e proper k wish values is keys;
    }

-- another row, or a preference that is refused
other-preference : (e : EndState) → IsProper e → (k j : Key) (values : List ℕ) (step : Called PreferFault) → Preference e k values step
    → (j ≡ k → step.answer ≡ Ok tt → ⊥) → latest (row_at step.after.rows j.0 j.1) ≡ latest (row_at e.rows j.0 j.1)
other-preference e proper k j values step (Refuses _ why same refused) none = ap (λ (x : EndState). latest (row_at x.rows j.0 j.1)) same
other-preference e proper k j values step (Takes _ wish keys is rows taken) none =
    ap (λ (rs : List Row). latest (row_at rs j.0 j.1)) rows ∙ by (is_key j k) refl
  where
    by : (its : Bool) → is_key j k ≡ its
        → latest (row_at (turned e.rows (turn_of k (Prefers wish) ∷ sendings (next_number e) keys)) j.0 j.1) ≡ latest (row_at e.rows j.0 j.1)
    by true same = absurd (none (key-so j k same) taken)
    by false differs = others-keep e proper k wish values is keys j differs

other-set : (w : WorldState) (acting side : Side) (half : Half) (k : Key)
    → (acting ≡ side → latest (row_at half.end.rows k.0 k.1) ≡ latest (row_of w side k.0 k.1))
    → latest (row_of (with_half w acting half) side k.0 k.1) ≡ latest (row_of w side k.0 k.1)
other-set w Client Client half k same = same refl
other-set w Client Server half k same = refl
other-set w Server Client half k same = refl
other-set w Server Server half k same = same refl

-- what comes of a step of a side, by whether it is full
abbrev unless : WorldState → Side → HalfStep → Bool → Result WorldStep WorldFault
unless w side step full =
    if full then Err fault.Full else Ok (record { world = with_half w side step.half; calls = step.calls; seen = step.seen })

call-accepted : (r : Result (Unit {0}) PreferFault) → seen_of_call refusal_of r ≡ seen.Called (Ok tt) → r ≡ Ok tt
call-accepted (Ok tt) is = refl
call-accepted (Err why) is = cc is

module _ (effects : EveryStepHasOneEffect) (w : WorldState) (held : IsHeld SideInvariant w) where
  call-keeps : (acting : Side) (arrived : Option ℕ) (given : Input) → IsCalmInput given → (side : Side) (k : Key)
      → latest (row_of (world_after w (unless_full w acting (Ok (half_steps (half_of w acting) arrived given)))) side k.0 k.1)
      ≡ latest (row_of w side k.0 k.1)
  call-keeps acting arrived given calm side k = by (is_full (half_of w acting)) where
    own : acting ≡ side → latest (row_at (end_stepped (half_of w acting).end given).after.rows k.0 k.1) ≡ latest (row_of w side k.0 k.1)
    own same =
        subst (λ (s : Side). latest (row_at (end_stepped (half_of w acting).end given).after.rows k.0 k.1) ≡ latest (row_of w s k.0 k.1)) same
        (end-keeps effects (half_of w acting).end given (kept-proper w held acting) calm k)

    by : (full : Bool) → latest (row_of (world_after w (unless w acting (half_steps (half_of w acting) arrived given) full)) side k.0 k.1)
        ≡ latest (row_of w side k.0 k.1)
    by true = refl
    by false = other-set w acting side (half_steps (half_of w acting) arrived given).half k own

  delivery-keeps : (from : Side) (frame : Option SentFrame) (side : Side) (k : Key)
      → latest (row_of (world_after w (delivers_frame w from frame)) side k.0 k.1) ≡ latest (row_of w side k.0 k.1)
  delivery-keeps from None side k = refl
  delivery-keeps from (Some frame) side k = by (is_far_frame (half_of w (other from)).end frame) where
    refused : (full : Bool) → latest (row_of (world_after w (if full then Err fault.Full else Err fault.FarShort)) side k.0 k.1)
        ≡ latest (row_of w side k.0 k.1)
    refused true = refl
    refused false = refl

    by : (far : Bool) → latest (row_of (world_after w (unless_full w (other from) (unless_far (half_of w (other from)) frame far))) side k.0 k.1)
        ≡ latest (row_of w side k.0 k.1)
    by true = refused (is_full (half_of w (other from)))
    by false = call-keeps (other from) (Some frame.number) (input.Arrives frame.bytes) tt side k

  preference-keeps : (acting : Side) (key : Key) (values : List ℕ) (side : Side) (k : Key)
      → (acting ≡ side → k ≡ key → is_full (half_of w acting) ≡ false → (prefers (half_of w acting).end key values).answer ≡ Ok tt → ⊥)
      → latest (row_of (world_after w (unless_full w acting (Ok (half_steps (half_of w acting) None (input.Prefers key values))))) side k.0 k.1)
      ≡ latest (row_of w side k.0 k.1)
  preference-keeps acting key values side k none = by (is_full (half_of w acting)) refl where
    own : is_full (half_of w acting) ≡ false → acting ≡ side
        → latest (row_at (prefers (half_of w acting).end key values).after.rows k.0 k.1) ≡ latest (row_of w side k.0 k.1)
    own room same =
        subst (λ (s : Side). latest (row_at (prefers (half_of w acting).end key values).after.rows k.0 k.1) ≡ latest (row_of w s k.0 k.1)) same
        (other-preference (half_of w acting).end (kept-proper w held acting) key k values (prefers (half_of w acting).end key values)
        (preferred (half_of w acting).end key values) (λ keys accepted. none same keys room accepted))

    by : (full : Bool) → is_full (half_of w acting) ≡ full
        → latest (row_of (world_after w (unless w acting (half_steps (half_of w acting) None (input.Prefers key values)) full)) side k.0 k.1)
        ≡ latest (row_of w side k.0 k.1)
    by true full = refl
    by false room = other-set w acting side (half_steps (half_of w acting) None (input.Prefers key values)).half k (own room)

module _ {C : Type 0} (control : Control C) (effects : EveryStepHasOneEffect) where
  abbrev said : ControlledWorld C → Event → Said
  said w given = said_by control (congestion_of w (actor given))

  abbrev next-world : ControlledWorld C → Event → ControlledWorld C
  next-world w given = controlled_after w (happens_to control w given)

  next-held : (w : ControlledWorld C) → IsHeld SideInvariant w.world → (given : Event) → IsHeld SideInvariant (next-world w given).world
  next-held w held given =
      let r : Result WorldStep WorldFault = happens w.world given (said w given) in
      subst (IsHeld SideInvariant) (sym (world-after control w (actor given) r))
      (step-kept effects w.world (actor given) r (event-taken w.world given (said w given)) held)

  pub plays-held : (w : ControlledWorld C) → IsHeld SideInvariant w.world → (events : List Event) → IsHeld SideInvariant (plays control w events).world
  plays-held w held [] = held
  plays-held w held (first ∷ later) = plays-held (next-world w first) (next-held w held first) later

  pub plays-joined : (w : ControlledWorld C) (earlier later : List Event) → plays control w (earlier ++ later) ≡ plays control (plays control w earlier) later
  plays-joined w [] later = refl
  plays-joined w (first ∷ earlier) later = plays-joined (next-world w first) earlier later

  -- a side's preference, by whether it is full
  abbrev asked-of : ControlledWorld C → Side → Key → List ℕ → Bool → Result (ControlledStep C) WorldFault
  asked-of w side key values full = controls control w side (unless w.world side (half_steps (half_of w.world side) None (input.Prefers key values)) full)

  abbrev done : ControlledWorld C → Seen → Result (ControlledStep C) WorldFault
  done after what = Ok (record { after = after; seen = what })

  abbrev asked-world : ControlledWorld C → Side → Key → List ℕ → ControlledWorld C
  asked-world w side key values =
      let step : HalfStep = half_steps (half_of w.world side) None (input.Prefers key values) in
      controlled control w side (record { world = with_half w.world side step.half; calls = step.calls; seen = step.seen })

  accepted-so : (w : ControlledWorld C) (side : Side) (feature : Feature) (place : Place) (values : List ℕ) → is_full (half_of w.world side) ≡ false
      → (prefers (half_of w.world side).end (feature, place) values).answer ≡ Ok tt → IsAccepted control w (event.Prefer side feature place values)
  accepted-so w side feature place values room answer =
      record {
        after = asked-world w side (feature, place) values;
        takes_place =
            ap (asked-of w side (feature, place) values) room
            ∙ ap (λ (r : Result (Unit {0}) PreferFault). done (asked-world w side (feature, place) values) (seen_of_call refusal_of r)) answer;
      }

  event-keeps : (w : ControlledWorld C) → IsHeld SideInvariant w.world → (given : Event) (side : Side) (feature : Feature) (place : Place)
      → (AsksFor side feature place given → IsAccepted control w given → ⊥)
      → latest (row_of (next-world w given).world side feature place) ≡ latest (row_of w.world side feature place)
  event-keeps w held given side feature place none =
      ap (λ (v : WorldState). latest (row_of v side feature place)) (world-after control w (actor given) (happens w.world given (said w given)))
      ∙ by given none
    where
      k : Key
      k = (feature, place)

      by : (what : Event) → (AsksFor side feature place what → IsAccepted control w what → ⊥)
          → latest (row_of (world_after w.world (happens w.world what (said w what))) side feature place) ≡ latest (row_of w.world side feature place)
      by event.Open unless_so = call-keeps effects w.world held Client None input.Opens tt side k
      by (event.Deliver from index) unless_so = delivery-keeps effects w.world held from (slice_get (half_of w.world from).frames index) side k
      by (event.Send acting payload) unless_so =
          call-keeps effects w.world held acting None (input.Sends payload (said w (event.Send acting payload)).may_send) tt side k
      by (event.SendEarly acting payload) unless_so =
          call-keeps effects w.world held acting None (input.SendsEarly payload (said w (event.SendEarly acting payload)).may_send) tt side k
      by (event.Prefer acting one there values) unless_so =
          preference-keeps effects w.world held acting (one, there) values side k
          (λ sides keys room answer.
          unless_so (sides, sym (ap (λ (key : Key). key.0) keys), sym (ap (λ (key : Key). key.1) keys)) (accepted-so w acting one there values room answer))
      by (event.Timer acting timer) unless_so =
          call-keeps effects w.world held acting None (input.Fires timer (said w (event.Timer acting timer)).in_flight) tt side k
      by (event.Close acting) unless_so = call-keeps effects w.world held acting None input.Closes tt side k
      by (event.Abort acting) unless_so = call-keeps effects w.world held acting None input.Aborts tt side k

  nothing-asked : (w : ControlledWorld C) → IsHeld SideInvariant w.world → (events : List Event) (side : Side) (feature : Feature) (place : Place)
      → AsksNothing control w events side feature place
      → latest (row_of (plays control w events).world side feature place) ≡ latest (row_of w.world side feature place)
  nothing-asked w held [] side feature place none = refl
  nothing-asked w held (first ∷ later) side feature place none =
      nothing-asked (next-world w first) (next-held w held first) later side feature place none.1
      ∙ event-keeps w held first side feature place none.0

  -- what an accepted preference makes of its row
  record IsTaken (w after : ControlledWorld C) (side : Side) (feature : Feature) (place : Place) (values : List ℕ) : Type 0 where
    wish : Wanted
    is_wish : wish_of feature place values ≡ Ok wish
    wants_it : latest (row_of after.world side feature place) ≡ Some wish
    leads : next-world w (event.Prefer side feature place values) ≡ after

  done-both : (one other : ControlledWorld C) (what seen_of_it : Seen) → done one what ≡ done other seen_of_it → (one ≡ other) × (what ≡ seen_of_it)
  done-both one other what seen_of_it is =
      let same : record { after = one; seen = what } ≡ record { after = other; seen = seen_of_it } = cc is in
      (ap (λ (s : ControlledStep C). s.after) same, ap (λ (s : ControlledStep C). s.seen) same)

  controlled-rows : (w : ControlledWorld C) (side : Side) (key : Key) (values : List ℕ) (feature : Feature) (place : Place)
      → row_of (asked-world w side key values).world side feature place ≡ row_at (prefers (half_of w.world side).end key values).after.rows feature place
  controlled-rows w Client key values feature place = refl
  controlled-rows w Server key values feature place = refl

  accepted-taken : (w : ControlledWorld C) → IsHeld SideInvariant w.world → (side : Side) (feature : Feature) (place : Place) (values : List ℕ)
      → (a : IsAccepted control w (event.Prefer side feature place values)) → IsTaken w a.after side feature place values
  accepted-taken w held side feature place values a = by (is_full (half_of w.world side)) refl where
    k : Key
    k = (feature, place)

    e : EndState
    e = (half_of w.world side).end

    by : (full : Bool) → is_full (half_of w.world side) ≡ full → IsTaken w a.after side feature place values
    by true full =
        let refused : Err fault.Full ≡ done a.after (seen.Called (Ok tt)) = sym (ap (asked-of w side k values) full) ∙ a.takes_place in
        cc refused
    by false room =
        let both = done-both (asked-world w side k values) a.after (seen_of_call refusal_of (prefers e k values).answer) (seen.Called (Ok tt))
        (sym (ap (asked-of w side k values) room) ∙ a.takes_place) in
        let its = accepted-its e (kept-proper w.world held side) k values (prefers e k values) (preferred e k values)
        (call-accepted (prefers e k values).answer both.1) in
        record {
          wish = its.wish;
          is_wish = its.is_wish;
          wants_it =
              ap (λ (v : ControlledWorld C). latest (row_of v.world side feature place)) (sym both.0)
              ∙ ap latest (controlled-rows w side k values feature place) ∙ its.wants_it;
          leads = ap (controlled_after w) a.takes_place;
        }

  sound-row : (w : ControlledWorld C) → IsHeld SideInvariant w.world → (side : Side) (feature : Feature) (place : Place)
      → IsSoundRow (row_of w.world side feature place)
  sound-row w held side feature place = ((kept-proper w.world held side).rows.sound.each feature place).sound

  asked-wants : (w : ControlledWorld C) → IsHeld SideInvariant w.world → (events : List Event) (side : Side) (feature : Feature) (place : Place) (values : List ℕ)
      → IsLastAsked control w events side feature place values → WantsValues (row_of (plays control w events).world side feature place) values
  asked-wants w held events side feature place values asked =
      let middle : ControlledWorld C = plays control w asked.before in
      let middle_held : IsHeld SideInvariant middle.world = plays-held w held asked.before in
      let given : Event = event.Prefer side feature place values in
      let taken = accepted-taken middle middle_held side feature place values asked.accepted in
      let after_held : IsHeld SideInvariant asked.accepted.after.world =
      subst (λ (v : ControlledWorld C). IsHeld SideInvariant v.world) taken.leads (next-held middle middle_held given) in
      let ends : plays control w events ≡ plays control asked.accepted.after asked.since =
      ap (plays control w) asked.in_order ∙ plays-joined w asked.before (given ∷ asked.since)
      ∙ ap (λ (v : ControlledWorld C). plays control v asked.since) taken.leads in
      let wish : latest (row_of (plays control w events).world side feature place) ≡ Some taken.wish =
      ap (λ (v : ControlledWorld C). latest (row_of v.world side feature place)) ends
      ∙ nothing-asked asked.accepted.after after_held asked.since side feature place asked.nothing_since
      ∙ taken.wants_it in
      subst (WantsValues (row_of (plays control w events).world side feature place)) (entries-are feature place taken.wish values taken.is_wish)
      (wants (row_of (plays control w events).world side feature place) (Some taken.wish)
      (sound-row (plays control w events) (plays-held w held events) side feature place) wish)

  unasked-wants : (w : ControlledWorld C) → IsHeld SideInvariant w.world → (events : List Event) (side : Side) (feature : Feature) (place : Place)
      → AsksNothing control w events side feature place
      → WantsValues (row_of (plays control w events).world side feature place) (entries_of (latest (row_of w.world side feature place)))
  unasked-wants w held events side feature place none =
      wants (row_of (plays control w events).world side feature place) (latest (row_of w.world side feature place))
      (sound-row (plays control w events) (plays-held w held events) side feature place) (nothing-asked w held events side feature place none)

  module _ (client server : Config) (for_client for_server : C) (events : List Event) (client_fits : Fits client) (server_fits : Fits server) where
    abbrev start : ControlledWorld C
    start = begins_with control client server for_client for_server

    start-held : IsHeld SideInvariant start.world
    start-held = run-kept effects client server [] client_fits server_fits

    -- at first a row wants what is configured
    first-wants : (side : Side) (feature : Feature) (place : Place)
        → entries_of (latest (row_of start.world side feature place)) ≡ values_configured start.world side feature place
    first-wants Client feature place =
        ap (λ (row : Row). entries_of (latest row)) (first-fresh (role_of client.role) client.lists client_fits.lists feature place)
    first-wants Server feature place =
        ap (λ (row : Row). entries_of (latest row)) (first-fresh (role_of server.role) server.lists server_fits.lists feature place)

    plays-asked-last : (side : Side) (feature : Feature) (place : Place) (values : List ℕ) → IsLastAsked control start events side feature place values
        → WantsValues (row_of (plays control start events).world side feature place) values
    plays-asked-last side feature place values asked = asked-wants start start-held events side feature place values asked

    plays-unasked : (side : Side) (feature : Feature) (place : Place) → AsksNothing control start events side feature place
        → WantsValues (row_of (plays control start events).world side feature place) (values_configured start.world side feature place)
    plays-unasked side feature place none =
        subst (WantsValues (row_of (plays control start events).world side feature place)) (first-wants side feature place)
        (unasked-wants start start-held events side feature place none)

  -- The same of any world that begins so.
  pub last-asked-wanted : (start : ControlledWorld C) (events : List Event) → IsBeginning control start → (side : Side) (feature : Feature) (place : Place)
      (values : List ℕ) → IsLastAsked control start events side feature place values
      → WantsValues (row_of (plays control start events).world side feature place) values
  last-asked-wanted start events begins side feature place values =
      subst
      (λ (w : ControlledWorld C).
      IsLastAsked control w events side feature place values → WantsValues (row_of (plays control w events).world side feature place) values)
      (sym begins.same)
      (plays-asked-last begins.client begins.server begins.for_client begins.for_server events begins.client_fits begins.server_fits side feature place values)

  -- and where nothing was asked for
  pub unasked-wanted : (start : ControlledWorld C) (events : List Event) → IsBeginning control start → (side : Side) (feature : Feature) (place : Place)
      → AsksNothing control start events side feature place
      → WantsValues (row_of (plays control start events).world side feature place) (values_configured start.world side feature place)
  unasked-wanted start events begins side feature place =
      subst
      (λ (w : ControlledWorld C). AsksNothing control w events side feature place
      → WantsValues (row_of (plays control w events).world side feature place) (values_configured w.world side feature place))
      (sym begins.same)
      (plays-unasked begins.client begins.server begins.for_client begins.for_server events begins.client_fits begins.server_fits side feature place)
