-- What one step of an end does to each of its rows is moves of the row's side.
use Rattle.std.proofs.Common.{◌≡◌, ◌≢◌, ◌⊎◌, inl, inr, refl, ap, sym, ◌∙◌, subst, ℕ, ◌+◌, ◌^◌, ◌<◌, Bool, true, false, List, [], ◌∷◌, ◌++◌, Option, Some, None, length, length-append, map, arith}
use Rattle.std.proofs.lemmas.Bool.{false_from_ne_true}
use Rattle.std.proofs.lemmas.List.{append-nil, length-map, map-append}
use Rattle.dccp_packets.specs.Kinds.{ack_of}
use Rattle.dccp_endpoint.proofs.Keys.{apart-so, confirmed-some}
use Rattle.dccp_endpoint.specs.Causes.{Says, SaysNothing, SaysAll, SaysApart}
use Rattle.dccp_endpoint.specs.Effects.{Effect, Transmission, Silent, Next, WithoutConnection, rows_by}
use Rattle.dccp_endpoint.specs.End.{EndState}
use Rattle.dccp_endpoint.specs.Heeding.{DueConfirm}
use Rattle.dccp_endpoint.specs.Saying.{confirm_for, has_key, said_of}
use Rattle.dccp_endpoint.specs.Steps.{next_number}
use Rattle.dccp_endpoint.specs.Turns.{Key}
use Rattle.seq_circle.specs.Counts.{number_of}
use Rattle.two_ends.specs.FeatureRows.{IsBegun, RowMoves, confirm_in}
use Rattle.two_ends.specs.FeatureView.{FeatureNews, with_frame}
use Rattle.feature_lists.specs.declared.features.Feature.{Feature}
use Rattle.feature_machine.specs.Negotiating.{row_at}
use Rattle.feature_machine.specs.Rows.{Confirm, Offered, Offers, Opens, RowEvent, row_line, row_step}
use Rattle.feature_machine.specs.Turns.{events_of, row_turned}
use Rattle.feature_machine.specs.declared.offers.Offer.{Offer}
use Rattle.feature_machine.specs.declared.row.Row.{Row}
use Rattle.feature_machine.specs.declared.stands.Stand.{Stand}
use Rattle.two_ends.proofs.OfWorlds.Acting.{Act, acted, config_of, end_of, logged_by}
use Rattle.two_ends.proofs.OfFeatures.KeyHearing.{KeyHears, across}
use Rattle.two_ends.proofs.OfFeatures.KeySaying.{KnownStep, busy-carries, row-is, rows-heard, this-answer, this-does, this-hears, this-says, this-wish}
use Rattle.two_ends.proofs.OfFeatures.KeyStep.{key-confirmed}
use Rattle.two_ends.proofs.OfWorlds.Logged.{Logged, logged-few}
use Rattle.two_ends.proofs.OfFeatures.Moving.{Moved, confirms, does, drops, frames_after, hears, moved-then, sends_if}
use Rattle.two_ends.proofs.OfFeatures.Viewing.{carried_by, carried_of, view_of}

-- beside a Confirm no offer opens
offer-dropped : (row : Row) (s : Stand) (o : Offer) → (row_line row s (Offered true o)).answer ≢ Opens
offer-dropped row s o opens = grind arith

abbrev is_next : Transmission → Bool
is_next Silent = false
is_next (Next packet) = true
is_next (WithoutConnection number packet) = false

-- What the step of an end does to each of its rows.
pub record KeyMoved (act : Act) (greatest later : ℕ) (k : Key) : Type 0 where
  pub moves : RowMoves (row_at (end_of act.side).rows k.0 k.1) (map (carried_of (config_of act.side).iss (across k)) act.peer.log)
      (view_of act.side (config_of act.peer).iss greatest k) (view_of (acted act) (config_of act.peer).iss later k)
  pub begun : IsBegun (config_of act.side).iss (row_at (end_of (acted act)).rows k.0 k.1)

module _ (s : KnownStep) where
  abbrev act : Act
  act = s.act

  abbrev greatest : ℕ
  greatest = s.greatest

  abbrev later : ℕ
  later = s.later

  abbrev e : EndState
  e = end_of act.side

  abbrev f : Effect
  f = act.effect

  abbrev iss : ℕ
  iss = (config_of act.side).iss

  abbrev peer_iss : ℕ
  peer_iss = (config_of act.peer).iss

  abbrev due : List DueConfirm
  due = act.because.turns.confirms

  abbrev keys : List Key
  keys = act.because.turns.keys

  abbrev row : Key → Row
  row k = row_at e.rows k.0 k.1

  abbrev row-heard : Key → Row
  row-heard k = row_turned (row k) (events_of k.0 k.1 act.because.turns.heard)

  abbrev row-after : Key → Row
  row-after k = row_at (rows_by e.rows f) k.0 k.1

  abbrev more : Key → List RowEvent
  more k = events_of k.0 k.1 act.because.turns.offered ++ events_of k.0 k.1 act.because.turns.preferred

  abbrev frames : Key → List FeatureNews
  frames k = map (carried_of peer_iss k) act.side.log

  abbrev frames-after : Key → List FeatureNews
  frames-after k = map (carried_of peer_iss k) (acted act).log

  abbrev there : Key → List FeatureNews
  there k = map (carried_of iss (across k)) act.peer.log

  frames-few : (k : Key) → length (frames k) + 1 < 2 ^ 47
  frames-few k = omega (arith, length-map act.side.log (carried_of peer_iss k), logged-few (config_of act.side) s.own.logged, act.room)

  number-is : (k : Key) → next_number e ≡ number_of iss (length (frames k) + 1)
  number-is k = omega (arith, s.own.greatest, length-map act.side.log (carried_of peer_iss k))

  -- nothing is added to the log
  no-frame : (k : Key) → map (carried_of peer_iss k) (act.side.log ++ []) ≡ frames k
  no-frame k = ap (map (carried_of peer_iss k)) (append-nil act.side.log)

  one-frame : (k : Key) (l : Logged) → map (carried_of peer_iss k) (act.side.log ++ l ∷ []) ≡ with_frame (frames k) (carried_of peer_iss k l)
  one-frame k l = map-append (carried_of peer_iss k) act.side.log (l ∷ [])

  -- what the frames are then, where no Confirm is due for the row
  plain-frames : (k : Key) → confirm_for k due ≡ None → (what : Transmission) (processed floor : ℕ) → Says e f due keys what
      → map (carried_of peer_iss k) (act.side.log ++ logged_by processed floor what) ≡ frames_after (row-after k) (frames k) (has_key k keys) (is_next what)
  plain-frames k none _ processed floor (SaysNothing no_due no_keys) =
      no-frame k ∙ sym (ap (λ (ks : List Key). frames_after (row-after k) (frames k) (has_key k ks) false) no_keys)
  plain-frames k none _ processed floor (SaysApart number packet no_due no_keys) =
      no-frame k ∙ sym (ap (λ (ks : List Key). frames_after (row-after k) (frames k) (has_key k ks) false) no_keys)
  plain-frames k none _ processed floor (SaysAll packet is answers) =
      let l : Logged = record { draft = packet; processed = processed; floor = floor } in
      one-frame k l
      ∙ ap (λ (events : List RowEvent). with_frame (frames k) (carried_by peer_iss k.0 events))
      (this-says s k packet processed floor is
      ∙ ap (λ (reply : Option (List ℕ)). said_of reply (has_key k keys) (ack_of packet.kind) k (row-after k)) none)
      ∙ by (has_key k keys) refl
    where
      by : (asks : Bool) → has_key k keys ≡ asks
          → with_frame (frames k) (carried_by peer_iss k.0 (said_of None asks (ack_of packet.kind) k (row-after k))) ≡ frames_after (row-after k)
          (frames k) asks true
      by true is = ap (with_frame (frames k)) (busy-carries k.0 k.1 (row-after k) (this-wish s k none is))
      by false is = refl

  -- and where one is
  confirm-frames : (k : Key) (body : List ℕ) → confirm_for k due ≡ Some body → (what : Transmission) (processed floor : ℕ) → Says e f due keys what
      → map (carried_of peer_iss k) (act.side.log ++ logged_by processed floor what) ≡ with_frame (frames k) (confirm_in (row k).feature later body)
  confirm-frames k body some _ processed floor (SaysNothing no_due no_keys) =
      let none : confirm_for k due ≡ None = ap (confirm_for k) no_due in
      cc (none, some)
  confirm-frames k body some _ processed floor (SaysApart number packet no_due no_keys) =
      let none : confirm_for k due ≡ None = ap (confirm_for k) no_due in
      cc (none, some)
  confirm-frames k body some _ processed floor (SaysAll packet is answers) =
      let l : Logged = record { draft = packet; processed = processed; floor = floor } in
      let answer = this-answer s k body (ack_of packet.kind) some answers in
      one-frame k l
      ∙ ap (λ (events : List RowEvent). with_frame (frames k) (carried_by peer_iss k.0 events))
      (this-says s k packet processed floor is
      ∙ ap (λ (reply : Option (List ℕ)). said_of reply (has_key k keys) (ack_of packet.kind) k (row-after k)) some
      ∙ ap (λ (ack : Option ℕ). Confirm body ack ∷ []) answer.same)
      ∙ ap (λ (n : ℕ). with_frame (frames k) (confirm_in k.0 n body)) answer.counts
      ∙ ap (λ (feature : Feature). with_frame (frames k) (confirm_in feature later body)) (sym (s.own.proper.rows.sound.each k.0 k.1).feature_is)

  abbrev MovedTo : Key → Row → List FeatureNews → Type 0
  MovedTo k to carried = Moved iss (there k) (row k) greatest (frames k) to later carried

  -- the row, where no Confirm is due for it
  plainly-moved : (k : Key) → IsBegun iss (row k) → confirm_for k due ≡ None → MovedTo k (row-after k) (frames-after k)
  plainly-moved k begun none =
      let few : length (frames k) < 2 ^ 47 = omega (arith, frames-few k) in
      let its = s.own.proper.rows.sound.each k.0 k.1 in
      let heard : KeyHears act greatest later k (events_of k.0 k.1 act.because.turns.heard) None =
      subst (KeyHears act greatest later k (events_of k.0 k.1 act.because.turns.heard)) none (this-hears s k) in
      let first = hears iss greatest (row k) (there k) (frames k) s.own.fits.iss few its.sound begun later (events_of k.0 k.1 act.because.turns.heard) heard in
      let n : ℕ = number_of iss (length (frames k) + 1) in
      let asks : Bool = has_key k keys in
      let next : Row = row_turned (row-heard k) (more k ++ sends_if asks n) in
      let second =
      does iss later (row-heard k) (there k) (frames k) s.own.fits.iss few (rows-heard s k).sound first.begun
      (more k) asks (is_next f.sending) (this-does s k none) in
      let both =
      moved-then iss (there k) (row k) (row-heard k) next greatest later later (frames k) (frames k)
      (frames_after next (frames k) asks (is_next f.sending)) first second in
      let row_same : next ≡ row-after k =
      ap (λ (m : ℕ). row_turned (row-heard k) (more k ++ sends_if asks m)) (sym (number-is k))
      ∙ sym (row-is s k) in
      subst (MovedTo k (row-after k)) (sym (plain-frames k none f.sending _ _ act.because.says))
      (subst (λ (r : Row). MovedTo k r (frames_after r (frames k) asks (is_next f.sending))) row_same both)

  -- and where one is
  confirmed-moved : (k : Key) (body : List ℕ) → IsBegun iss (row k) → confirm_for k due ≡ Some body → MovedTo k (row-after k) (frames-after k)
  confirmed-moved k body begun some =
      let few : length (frames k) < 2 ^ 47 = omega (arith, frames-few k) in
      let its = s.own.proper.rows.sound.each k.0 k.1 in
      let heard : KeyHears act greatest later k (events_of k.0 k.1 act.because.turns.heard) (Some body) =
      subst (KeyHears act greatest later k (events_of k.0 k.1 act.because.turns.heard)) some (this-hears s k) in
      let first = confirms iss greatest (row k) (there k) (frames k) s.own.fits.iss few its.sound begun later
      (events_of k.0 k.1 act.because.turns.heard) body heard in
      subst (MovedTo k (row-after k)) (sym (confirm-frames k body some f.sending _ _ act.because.says))
      (by first (key-confirmed e act.given s.own.proper.rows.sound act.because.turns.heard due (rows-heard s) k body
      act.because.turns.offered act.because.turns.preferred keys act.because.turns.occasion some))
    where
      sent : List FeatureNews
      sent = with_frame (frames k) (confirm_in (row k).feature later body)

      asks-none : has_key k keys ≡ false
      asks-none =
          false_from_ne_true (has_key k keys)
          (λ asks. (let none = apart-so due keys k act.because.turns.apart asks in let is = confirmed-some due k body some in cc (none, is)))

      becomes : (events : List RowEvent) → more k ≡ events → row-after k ≡ row_turned (row-heard k) (events ++ [])
      becomes events is =
          row-is s k
          ∙ ap (λ (asks : Bool). row_turned (row-heard k) (more k ++ sends_if asks (next_number e))) asks-none
          ∙ ap (λ (xs : List RowEvent). row_turned (row-heard k) (xs ++ [])) is

      by : MovedTo k (row-heard k) sent → (more k ≡ []) ⊎ (more k ≡ Offers true ∷ []) → MovedTo k (row-after k) sent
      by first (inl none) = subst (λ (r : Row). MovedTo k r sent) (sym (becomes [] none)) first
      by first (inr offer) =
          let next : Row = (row_step (row-heard k) (Offers true)).row in
          let small : length sent < 2 ^ 47 = omega (arith, frames-few k, length-append (frames k) (confirm_in (row k).feature later body ∷ [])) in
          let dropped =
          drops iss later (row-heard k) (there k) sent s.own.fits.iss small (rows-heard s k).sound first.begun true
          (offer-dropped (row-heard k) (row-heard k).stand (row-heard k).offer) in
          subst (λ (r : Row). MovedTo k r sent) (sym (becomes (Offers true ∷ []) offer))
          (moved-then iss (there k) (row k) (row-heard k) next greatest later later (frames k) sent sent first dropped)

  pub key-moved : (k : Key) → IsBegun iss (row k) → KeyMoved act greatest later k
  key-moved k begun = by (confirm_for k due) refl where
    as-moved : MovedTo k (row-after k) (frames-after k) → KeyMoved act greatest later k
    as-moved m = record { moves = m.moves; begun = m.begun }

    by : (reply : Option (List ℕ)) → confirm_for k due ≡ reply → KeyMoved act greatest later k
    by None none = as-moved (plainly-moved k begun none)
    by (Some body) some = as-moved (confirmed-moved k body begun some)
