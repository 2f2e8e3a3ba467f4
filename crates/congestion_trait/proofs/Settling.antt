-- What a report makes of a list, entry by entry.
use Rattle.std.proofs.Common.{◌≡◌, ℕ, suc, ◌+◌, ◌<◌, ◌≤◌, Bool, true, false, not, ◌&&◌, ◌||◌, leb, cond, if◌then◌else◌, List, [], ◌∷◌, ◌++◌, map, Option, Some, length, take, drop, get_or, slice_get, slice_set, refl, sym, ap, ◌∙◌, append_assoc, length-drop, subst, arith}
use Rattle.std.proofs.lemmas.List.Sums.{sum_by-cons, count_by-le-length}
use Rattle.std.proofs.lemmas.List.{take_more, drop_more, get_or_append_left, get_or-take, length-take-le, set-get_or, set_at, length-map}
use Rattle.std.proofs.lemmas.Option.{get_or_from_slice_get}
use Rattle.congestion_trait.specs.declared.flight.FlightEntry.{FlightEntry}
use Rattle.congestion_trait.specs.declared.flight.Standing.{Standing}
use Rattle.congestion_trait.specs.declared.flight.Standing.TheVariants.{Out, Reported, Lost}
use Rattle.congestion_trait.specs.declared.walk.FlightWalk.{FlightWalk}
use Rattle.dccp_options.specs.Vectors.{is_received, is_unmarked, is_marked}
use Rattle.congestion_trait.specs.Flight.{States, pipe_of, reported_count, after_report, acked_count, is_congested, is_out, is_reported, is_past, is_newly_lost, is_newly_marked, is_newly_acked, entry_reported, lost_if, is_passed, with_losses}
use Rattle.congestion_trait.specs.Walk.{standing_after, one_if, IsAlong}

lost_where : (test : Bool) (x : FlightEntry) → cond test (record x { standing = Lost }) x ≡ record x { standing = cond test Lost x.standing }
lost_where true x = refl
lost_where false x = refl

-- an entry after a report, in one step
pub settled-is : (received passed : Bool) (x : FlightEntry)
    → lost_if passed (cond received (record x { standing = Reported }) x)
    ≡ record x { standing = cond received Reported (cond (is_out x.standing && passed) Lost x.standing) }
settled-is true passed x = refl
settled-is false passed x = lost_where (is_out x.standing && passed) x

lost_unreported : (passed : Bool) (standing : Standing) → is_reported standing ≡ is_reported (cond (is_out standing && passed) Lost standing)
lost_unreported true Out = refl
lost_unreported false Out = refl
lost_unreported passed Reported = refl
lost_unreported passed Lost = refl

-- a loss makes nothing Reported
still_reported : (received passed : Bool) (x : FlightEntry)
    → is_reported (cond received (record x { standing = Reported }) x).standing
    ≡ is_reported (cond received Reported (cond (is_out x.standing && passed) Lost x.standing))
still_reported true passed x = refl
still_reported false passed x = lost_unreported passed x.standing

-- what was received is not lost
lost_unreceived : (received passed : Bool) (x : FlightEntry)
    → (is_out (cond received (record x { standing = Reported }) x).standing && passed) ≡ (is_out x.standing && not received && passed)
lost_unreceived received passed x =
    elim received as (λ r. (is_out (cond r (record x { standing = Reported }) x).standing && passed) ≡ (is_out x.standing && not r && passed)) [
      | true ↦ elim (is_out x.standing) as (λ o. false ≡ (o && false && passed)) [ true ↦ refl | false ↦ refl ]
      | false ↦ elim (is_out x.standing) as (λ o. (o && passed) ≡ (o && true && passed)) [ true ↦ refl | false ↦ refl ]
    ]

-- what one entry adds to a walk
pub record IsStep (state mark : Option ℕ) (x : FlightEntry) (walk next : FlightWalk) (standing : Standing) : Type 0 where
  pub stands : standing ≡ standing_after state (leb 3 walk.reported) x.standing
  pub acked : next.acked ≡ walk.acked + one_if (not (is_reported x.standing) && is_unmarked state)
  pub congested : next.congested ≡ (is_past mark x.number
      && (not (is_reported x.standing) && is_marked state
      || is_out x.standing && not (is_received state) && leb 3 walk.reported)
      || walk.congested)
  pub reported : next.reported ≡ walk.reported + one_if (is_reported standing)
  pub out : next.out ≡ walk.out + one_if (is_out standing)
  pub seen : next.seen ≡ walk.seen + one_if (is_out x.standing)

-- a walk over these entries
pub record IsWalk (told : States) (mark : Option ℕ) (later : List FlightEntry) (walk : FlightWalk) : Type 0 where
  pub acked : walk.acked ≡ acked_count told later
  pub congested : walk.congested ≡ is_congested told mark later
  pub reported : walk.reported ≡ reported_count (map (entry_reported told) later)
  pub out : walk.out ≡ pipe_of (after_report told later)
  pub seen : walk.seen ≡ pipe_of later

module _ (told : States) (mark : Option ℕ) (later : List FlightEntry) (x : FlightEntry) (walk next : FlightWalk) (standing : Standing)
    (so_far : IsWalk told mark later walk) (step : IsStep (told x.number) mark x walk next standing) where
  entry_settled : lost_if (is_passed (map (entry_reported told) later)) (entry_reported told x) ≡ record x { standing = standing }
  entry_settled =
      settled-is (is_received (told x.number)) (is_passed (map (entry_reported told) later)) x
      ∙ ap (λ s. record x { standing = s }) (sym (step.stands ∙ ap (λ n. standing_after (told x.number) (leb 3 n) x.standing) so_far.reported))

  list_settled : after_report told (x ∷ later) ≡ record x { standing = standing } ∷ after_report told later
  list_settled = ap (λ e. e ∷ after_report told later) entry_settled

  acked_more : next.acked ≡ acked_count told (x ∷ later)
  acked_more =
      let first = sum_by-cons (λ (e : FlightEntry). cond (is_newly_acked told e) 1 0) x later in
      omega (arith, first, step.acked, so_far.acked)

  out_more : next.out ≡ pipe_of (after_report told (x ∷ later))
  out_more =
      let first = sum_by-cons (λ (e : FlightEntry). cond (is_out e.standing) 1 0) (record x { standing = standing }) (after_report told later) in
      rw list_settled (omega (arith, first, step.out, so_far.out))

  reported_more : next.reported ≡ reported_count (map (entry_reported told) (x ∷ later))
  reported_more =
      let first = sum_by-cons (λ (e : FlightEntry). cond (is_reported e.standing) 1 0) (entry_reported told x) (map (entry_reported told) later) in
      let same = still_reported (is_received (told x.number)) (leb 3 walk.reported) x in
      let now = ap (λ s. one_if (is_reported s)) step.stands in
      let one = ap one_if same in
      omega (arith, first, step.reported, so_far.reported, now, one)

  congested_more : next.congested ≡ is_congested told mark (x ∷ later)
  congested_more =
      step.congested
      ∙ ap (λ n. is_past mark x.number
      && (not (is_reported x.standing) && is_marked (told x.number) || is_out x.standing && not (is_received (told x.number)) && leb 3 n)
      || walk.congested) so_far.reported
      ∙ ap (λ l. is_past mark x.number && (not (is_reported x.standing) && is_marked (told x.number) || l) || walk.congested)
      (sym (lost_unreceived (is_received (told x.number)) (is_passed (map (entry_reported told) later)) x))
      ∙ ap (λ c. is_past mark x.number && (is_newly_marked told x || is_newly_lost told x later) || c) so_far.congested

  seen_more : next.seen ≡ pipe_of (x ∷ later)
  seen_more =
      let first = sum_by-cons (λ (e : FlightEntry). cond (is_out e.standing) 1 0) x later in
      omega (arith, first, step.seen, so_far.seen)

  pub walk_more : IsWalk told mark (x ∷ later) next
  walk_more = record { acked = acked_more; congested = congested_more; reported = reported_more; out = out_more; seen = seen_more }

-- what is at the place below the walk, which it did not change
module _ (told : States) (mark : Option ℕ) (old now : List FlightEntry) (n i : ℕ) (x : FlightEntry) (walk : FlightWalk)
    (one : n ≡ i + 1) (within : n ≤ length old) (along : IsAlong told mark old n now walk) (read : slice_get now i ≡ Some x) where
  pub read_old : get_or old i x ≡ x
  read_old =
      let front_long : length (take n old) ≡ n = length-take-le n old within in
      sym (get_or_append_left (take n old) (after_report told (drop n old)) x i (omega arith) ∙ get_or-take n old i x (omega arith))
      ∙ sym (ap (λ l. get_or l i x) along.entries)
      ∙ get_or_from_slice_get now i x x read

  pub cut : drop i old ≡ x ∷ drop n old
  cut = drop_more old i x (omega arith) ∙ ap (λ e. e ∷ drop (i + 1) old) read_old ∙ ap (λ k. x ∷ drop k old) (sym one)

  pub front_cut : take n old ≡ take i old ++ x ∷ []
  front_cut = ap (λ k. take k old) one ∙ take_more old i x (omega arith) ∙ ap (λ e. take i old ++ e ∷ []) read_old

-- one entry further
pub turn : (told : States) (mark state : Option ℕ) (old now : List FlightEntry) (n i : ℕ) (x : FlightEntry) (walk next : FlightWalk) (standing : Standing)
    → n ≡ i + 1 → n ≤ length old → IsAlong told mark old n now walk → slice_get now i ≡ Some x
    → state ≡ told x.number → IsStep state mark x walk next standing
    → IsAlong told mark old i (slice_set now i (record x { standing = standing })) next
turn told mark state old now n i x walk next standing one within along read same given =
    let step = subst (λ s. IsStep s mark x walk next standing) same given in
    let cut = cut told mark old now n i x walk one within along read in
    let front = front_cut told mark old now n i x walk one within along read in
    let so_far : IsWalk told mark (drop n old) walk =
    record { acked = along.acked; congested = along.congested; reported = along.reported; out = along.out; seen = along.seen } in
    let more = walk_more told mark (drop n old) x walk next standing so_far step in
    let now_is : now ≡ take i old ++ x ∷ after_report told (drop n old) =
    along.entries ∙ ap (λ l. l ++ after_report told (drop n old)) front ∙ append_assoc (take i old) (x ∷ []) (after_report told (drop n old)) in
    let after_is : after_report told (drop i old) ≡ record x { standing = standing } ∷ after_report told (drop n old) =
    ap (λ l. after_report told l) cut ∙ list_settled told mark (drop n old) x walk next standing so_far step in
    record {
      entries = ap (λ l. slice_set l i (record x { standing = standing })) now_is
          ∙ set_at (take i old) x (after_report told (drop n old)) (record x { standing = standing }) i (length-take-le i old (omega arith))
          ∙ ap (λ l. take i old ++ l) (sym after_is);
      acked = rw cut more.acked;
      congested = rw cut more.congested;
      reported = rw cut more.reported;
      out = rw cut more.out;
      seen = rw cut more.seen;
    }

stays_reported : (received passed : Bool) → Reported ≡ (if received then Reported else if false && passed then Lost else Reported)
stays_reported true passed = refl
stays_reported false passed = refl

no_more_news : (past congested : Bool) → congested ≡ (past && (false || false) || congested)
no_more_news true congested = refl
no_more_news false congested = refl

-- an entry that is Reported counts as such, whatever the report says of it
reported_step : (state mark : Option ℕ) (number : ℕ) (standing : Standing) (walk : FlightWalk) → is_reported standing ≡ true
    → IsStep state mark (record { number = number; standing = standing }) walk (record walk { reported = walk.reported + 1 }) standing
reported_step state mark number Out walk is = cc
reported_step state mark number Lost walk is = cc
reported_step state mark number Reported walk is =
    record {
      stands = stays_reported (is_received state) (leb 3 walk.reported);
      acked = omega arith;
      congested = no_more_news (is_past mark number) walk.congested;
      reported = refl;
      out = omega arith;
      seen = omega arith;
    }

-- one entry further, which is Reported: the list stays
pub turn_reported : (told : States) (mark : Option ℕ) (old now : List FlightEntry) (n i : ℕ) (x : FlightEntry) (walk : FlightWalk)
    → n ≡ i + 1 → n ≤ length old → IsAlong told mark old n now walk → slice_get now i ≡ Some x → is_reported x.standing ≡ true
    → IsAlong told mark old i now (record walk { reported = walk.reported + 1 })
turn_reported told mark old now n i x walk one within along read is =
    let more : FlightWalk = record walk { reported = walk.reported + 1 } in
    let step : IsStep (told x.number) mark x walk more x.standing = reported_step (told x.number) mark x.number x.standing walk is in
    let same : slice_set now i x ≡ now = ap (λ e. slice_set now i e) (sym (get_or_from_slice_get now i x x read)) ∙ set-get_or now i x in
    subst (λ l. IsAlong told mark old i l more) same (turn told mark (told x.number) old now n i x walk more x.standing one within along read refl step)

pub length-with_losses : (entries : List FlightEntry) → length (with_losses entries) ≡ length entries
length-with_losses [] = refl
length-with_losses (entry ∷ later) = ap suc (length-with_losses later)

pub length-after_report : (told : States) (entries : List FlightEntry) → length (after_report told entries) ≡ length entries
length-after_report told entries = length-with_losses (map (entry_reported told) entries) ∙ length-map entries (entry_reported told)

-- while an entry is left, each count is below the length
pub few_yet : (told : States) (mark : Option ℕ) (old now : List FlightEntry) (n : ℕ) (walk : FlightWalk)
    → 0 < n → n ≤ length old → length old ≤ 2048 → IsAlong told mark old n now walk
    → (walk.acked < 2048) × (walk.reported < 2048) × (walk.out < 2048) × (walk.seen < 2048)
few_yet told mark old now n walk some within few along =
    let rest = length-drop n old in
    let acked = count_by-le-length (λ (e : FlightEntry). is_newly_acked told e) (drop n old) in
    let those = count_by-le-length (λ (e : FlightEntry). is_reported e.standing) (map (entry_reported told) (drop n old)) in
    let all = length-map (drop n old) (entry_reported told) in
    let out = count_by-le-length (λ (e : FlightEntry). is_out e.standing) (after_report told (drop n old)) in
    let same = length-after_report told (drop n old) in
    let seen = count_by-le-length (λ (e : FlightEntry). is_out e.standing) (drop n old) in (
      omega (arith, rest, acked, along.acked),
      omega (arith, rest, those, all, along.reported),
      omega (arith, rest, out, same, along.out),
      omega (arith, rest, seen, along.seen),
    )
