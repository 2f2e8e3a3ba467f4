-- What the frames of ends with inboxes report of the data that came.
use Rattle.std.proofs.Common.{◌≡◌, ◌⊎◌, refl, sym, ap, ◌∙◌, subst, ℕ, zero, suc, ◌-◌, ◌==◌, ◌^◌, ◌<◌, nat_lt, Bool, true, false, if◌then◌else◌, List, [], ◌∷◌, ◌++◌, length, map, drop, take, slice_range, Option, Some, None, Result, Ok, Err, inl, inr, arith, append-nil}
use Rattle.std.specs.List.{Contains}
use Rattle.std.proofs.lemmas.Bool.{cases_eq, ne_eqb}
use Rattle.std.proofs.lemmas.List.{take-append-drop}
use Rattle.std.proofs.lemmas.List.Elements.{Contains-append_cases, Contains-append_left, Contains-append_right, Contains-push}
use Rattle.std.proofs.lemmas.Option.{same_Some}
use Rattle.std.specs.Result.{result_ok}
use Rattle.congestion_trait.specs.Control.{Control}
use Rattle.data_dropped.specs.Drops.{HaveCodes, code_at, drop_code, last_code}
use Rattle.data_dropped.specs.EndHistory.{data_call}
use Rattle.data_dropped.specs.Frames.{acknowledged_by}
use Rattle.data_dropped.specs.History.{History, IsAccounted, Stops, history_after, history_answered}
use Rattle.data_dropped.specs.History.{Takes as TakesData}
use Rattle.data_dropped.specs.Inbox.{InboxState, KeptData, after_arrival, arrival_answer, dropping, fits_item, reason}
use Rattle.data_dropped.specs.Telling.{TellsItsDrops, drops_in_packet, options_in_packet, report_in_packet, told_by_ack}
use Rattle.data_dropped.specs.declared.answers.Arrival.{Arrival}
use Rattle.data_dropped.specs.declared.answers.Arrival.TheVariants as arrivals
use Rattle.data_dropped.specs.declared.drops.DropEntry.{DropEntry}
use Rattle.data_dropped.proofs.History.{counted-codes, first-accounted, history_after-accounted}
use Rattle.data_dropped.proofs.OwnFrames.{step-tells}
use Rattle.data_dropped.proofs.Telling.{read_as_drops}
use Rattle.dccp_endpoint.proofs.Walking.{told_of_step}
use Rattle.dccp_endpoint.specs.Causes.{AreTurns, Came, EveryStepHasOneEffect}
use Rattle.dccp_endpoint.specs.Drafts.{Fits}
use Rattle.dccp_endpoint.specs.Effects.{Effect, last_by}
use Rattle.dccp_endpoint.specs.End.{EndState, IsProper, floor_of, last_taken, marked_of}
use Rattle.dccp_endpoint.specs.Inputs.{Arrives, Input, end_stepped}
use Rattle.dccp_endpoint.specs.Inputs as input
use Rattle.dccp_endpoint.specs.Calling.{aborts, closes, opens, prefers, sends_payload}
use Rattle.dccp_endpoint.specs.Early.{sends_early}
use Rattle.dccp_endpoint.specs.Outcomes.{HasCause, HasForm, IsTaken}
use Rattle.dccp_endpoint.specs.Receiving.{receives}
use Rattle.dccp_endpoint.specs.Reporting.{is_acking}
use Rattle.dccp_endpoint.specs.UserCalls.{seen_of, seen_of_call}
use Rattle.dccp_endpoint.specs.declared.config.Config.{Config}
use Rattle.dccp_options.specs.Vectors.{VectorReport, is_received, joined_report, report_of, state_at}
use Rattle.dccp_packets.specs.Grammar.{Parts, packet_type}
use Rattle.dccp_packets.specs.Outgoing.{Outgoing}
use Rattle.dccp_packets.specs.declared.reading.Malformed.{Malformed}
use Rattle.dccp_states.specs.declared.outcome.Outcome.{Outcome}
use Rattle.dccp_states.specs.declared.outcome.Outcome.TheVariants.{Took, Dropped, Synced, WasReset, SentReset}
use Rattle.dccp_states.specs.declared.phase.Role.TheVariants as role
use Rattle.dccp_states.specs.declared.seen.Refusal.{Refusal}
use Rattle.dccp_states.specs.declared.seen.Seen.{Seen}
use Rattle.dccp_states.specs.declared.seen.Seen.TheVariants as seen
use Rattle.dccp_sum.specs.declared.pseudo_header.Pseudo.{Pseudo}
use Rattle.two_ends.specs.Controlled.{ControlledWorld, congestion_of, controlled, controls, plays_from_start, said_by}
use Rattle.two_ends.specs.Delivered.{DeliversIn, place_delivered}
use Rattle.two_ends.specs.Frames.{options_in, packet_options}
use Rattle.two_ends.specs.Reported.{processed_by}
use Rattle.two_ends.specs.Safe.{Safe}
use Rattle.two_ends.specs.World.{Half, Said, WorldState, WorldStep, as_sent, half_at_start, half_of, half_steps, happens, newly_processed, number_if, with_half, world_after}
use Rattle.two_ends.specs.declared.frames.SentFrame.{SentFrame}
use Rattle.two_ends.proofs.OfWorlds.Acting.{IsHeld, Refused, Steps, Takes, event-taken}
use Rattle.two_ends.proofs.OfWorlds.Consequences.{apart-so, missing-none}
use Rattle.two_ends.proofs.OfWorlds.Delivering.{delivers-so, half-with}
use Rattle.two_ends.proofs.OfWorlds.Keeping.{SideInvariant, held-once, kept-proper, kept-told, step-kept}
use Rattle.two_ends.proofs.OfWorlds.ReadBack.{IsFromPeer, IsSentFrame}
use Rattle.world_events.specs.Actors.{actor, other}
use Rattle.world_events.specs.declared.event.Event.{Event}
use Rattle.world_events.specs.declared.event.Event.TheVariants as event
use Rattle.world_events.specs.declared.event.Side.{Side}
use Rattle.world_events.specs.declared.event.Side.TheVariants.{Client, Server}
use Rattle.world_events.specs.declared.event.WorldFault.{WorldFault}
use Rattle.two_inboxes.specs.Apart.{TellOfTheirData, TellsOfItsData, WentOut, data_numbers, drop_numbers}
use Rattle.two_inboxes.specs.Inboxes.{Ends, Happens, InboxEvent, InboxPair, InboxSide, Reads, begins_with_inboxes, bytes_arriving, inbox_begins, of_ends, happens_with, inbox_after, inbox_at, inbox_calls, inbox_goes_on, inbox_plays, inbox_steps, said_frame, with_inbox_at}
use Rattle.two_inboxes.proofs.Alike.{vectors-after}
use Rattle.two_inboxes.proofs.Alone.{AreEach, EachAt, IsPairLike, SameEnds, drop-front, each-append, each-at, each-map, happens-same, like-after, like-at-start, outgoing_of, run_as_alone, seen_anywhere}

-- numbers of lists after one another
data-append : (xs ys : List KeptData) → data_numbers (xs ++ ys) ≡ data_numbers xs ++ data_numbers ys
data-append [] ys = refl
data-append (x ∷ xs) ys = ap (λ (ns : List ℕ). x.number ∷ ns) (data-append xs ys)

drops-append : (xs ys : List DropEntry) → drop_numbers (xs ++ ys) ≡ drop_numbers xs ++ drop_numbers ys
drops-append [] ys = refl
drops-append (x ∷ xs) ys = ap (λ (ns : List ℕ). x.number ∷ ns) (drops-append xs ys)

one-member : (n m : ℕ) → Contains (n ∷ []) m → n ≡ m
one-member n m (zero, small, is) = is
one-member n m (suc i, small, is) = absurd (omega (arith, small))

take-front : {X : Type 0} (xs ys : List X) → take (length xs) (xs ++ ys) ≡ xs
take-front [] ys = refl
take-front (x ∷ xs) ys = ap (λ (zs : List _). x ∷ zs) (take-front xs ys)

-- a code that counts is one that was noted
code-among : (drops : List DropEntry) (n : ℕ) (found : Option ℕ) (code : ℕ)
    → last_code (λ (d : DropEntry). d.number == n) (λ (d : DropEntry). d.code) found drops ≡ Some code
    → (found ≡ Some code) ⊎ Contains (drop_numbers drops) n
code-among [] n found code is = inl is
code-among (d ∷ ds) n found code is =
    elim (code-among ds n (if d.number == n then Some d.code else found) code is) [
      | inr later ↦ inr (Contains-append_right (d.number ∷ []) (drop_numbers ds) n later)
      | inl now ↦ elim (cases_eq d.number n) [
        | inl same ↦ inr (Contains-append_left (d.number ∷ []) (drop_numbers ds) n
            (subst (λ (m : ℕ). Contains (d.number ∷ []) m) same (Contains-push [] d.number)))
        | inr apart ↦ inl (sym (ap (λ (b : Bool). if b then Some d.code else found) (ne_eqb d.number n apart)) ∙ now)
      ]
    ]

module _ (capacity : ℕ) (stopped : Bool) (h : History) (accounted : IsAccounted capacity stopped h) where
  pub codes-among : (n code : ℕ) → drop_code h.held.drops n ≡ Some code → Contains (drop_numbers h.dropped) n
  codes-among n code is =
      elim (code-among h.held.drops n None code is) [
        | inl never ↦ cc never
        | inr there ↦
            let k : ℕ = length h.dropped - 2048 in
            let last : Contains (drop_numbers (drop k h.dropped)) n = subst (λ (ds : List DropEntry). Contains (drop_numbers ds) n) accounted.last_drops there in
            subst (λ (ds : List DropEntry). Contains (drop_numbers ds) n) (take-append-drop k h.dropped)
            (subst (λ (ns : List ℕ). Contains ns n) (sym (drops-append (take k h.dropped) (drop k h.dropped)))
            (Contains-append_right (drop_numbers (take k h.dropped)) (drop_numbers (drop k h.dropped)) n last))
      ]

-- The frame went out with these bytes, and the codes that it reports are of data that were dropped before.
pub record IsTold (pseudo : Pseudo) (dropped : List DropEntry) (frame : SentFrame) (bytes : List ℕ) : Type 0 where
  pub held : InboxState
  pub tells : TellsItsDrops pseudo held (outgoing_of frame) (record (outgoing_of frame) { bytes = bytes })
  pub codes : HaveCodes held.drops
  pub among : (n code : ℕ) → drop_code held.drops n ≡ Some code → Contains (drop_numbers dropped) n

told-more : (pseudo : Pseudo) (dropped more : List DropEntry) (frame : SentFrame) (bytes : List ℕ) → IsTold pseudo dropped frame bytes
    → IsTold pseudo (dropped ++ more) frame bytes
told-more pseudo dropped more frame bytes told =
    record {
      held = told.held;
      tells = told.tells;
      codes = told.codes;
      among =
          λ n code is. subst (λ (ns : List ℕ). Contains ns n) (sym (drops-append dropped more))
          (Contains-append_left (drop_numbers dropped) (drop_numbers more) n (told.among n code is));
    }

-- What holds of a side and its inbox.
pub record IsTrueSide (half : Half) (x : InboxSide) : Type 0 where
  pub capacity : ℕ
  pub stopped : Bool
  pub accounted : IsAccounted capacity stopped x.past
  pub kept_processed : (n : ℕ) → Contains (data_numbers x.past.kept) n → Contains half.processed n
  pub drops_processed : (n : ℕ) → Contains (drop_numbers x.past.dropped) n → Contains half.processed n
  pub apart : (n : ℕ) → Contains (data_numbers x.past.kept) n → Contains (drop_numbers x.past.dropped) n → ⊥
  pub told : AreEach (IsTold half.end.config.pseudo_out x.past.dropped) half.frames x.said

-- a reading, and the end of reading
read-true : (half : Half) (x : InboxSide) → IsTrueSide half x → IsTrueSide half (record x { past = history_after x.past TakesData })
read-true half x is =
    record {
      capacity = is.capacity;
      stopped = _;
      accounted = history_after-accounted is.capacity is.stopped x.past TakesData is.accounted;
      kept_processed = is.kept_processed;
      drops_processed = is.drops_processed;
      apart = is.apart;
      told = is.told;
    }

end-true : (half : Half) (x : InboxSide) → IsTrueSide half x → IsTrueSide half (record x { past = history_after x.past Stops })
end-true half x is =
    record {
      capacity = is.capacity;
      stopped = _;
      accounted = history_after-accounted is.capacity is.stopped x.past Stops is.accounted;
      kept_processed = is.kept_processed;
      drops_processed = is.drops_processed;
      apart = is.apart;
      told = is.told;
    }

-- a step of the side
module _ (effects : EveryStepHasOneEffect) (half : Half) (proper : IsProper half.end) (arrived : Option ℕ) (given : Input) (x : InboxSide)
    (is : IsTrueSide half x) where
  abbrev after : Half
  after = (half_steps half arrived given).half

  abbrev pseudo : Pseudo
  pseudo = after.end.config.pseudo_out

  config-stays : after.end.config ≡ half.end.config
  config-stays = ap (λ (e : EndState). e.config) (effects half.end given proper).after_is

  -- with this history from then on
  abbrev going-on : History → InboxSide
  going-on past = record { past = past; said = x.said ++ map (said_frame pseudo past.held) (drop (length half.frames) after.frames) }

  new-told : (capacity : ℕ) (stopped : Bool) (past : History) → IsAccounted capacity stopped past → (processed floor : ℕ) (out : Option Outgoing)
      → (end_stepped half.end given).frame ≡ out
      → AreEach (IsTold pseudo past.dropped) (as_sent processed floor out) (map (said_frame pseudo past.held) (as_sent processed floor out))
  new-told capacity stopped past accounted processed floor None none = tt
  new-told capacity stopped past accounted processed floor (Some own) some = (
    record {
      held = past.held;
      tells = step-tells half.end given own past.held proper some;
      codes = counted-codes capacity stopped past accounted;
      among = codes-among capacity stopped past accounted;
    },
    tt,
  )

  all-told : (capacity : ℕ) (stopped : Bool) (past : History) → IsAccounted capacity stopped past → (more : List DropEntry)
      → past.dropped ≡ x.past.dropped ++ more → AreEach (IsTold pseudo past.dropped) after.frames (going-on past).said
  all-told capacity stopped past accounted more dropped =
      let new : List SentFrame = as_sent (length after.processed) (floor_of after.end) (end_stepped half.end given).frame in
      let old : AreEach (IsTold pseudo past.dropped) half.frames x.said =
      subst (λ (ds : List DropEntry). AreEach (IsTold pseudo ds) half.frames x.said) (sym dropped)
      (each-map (IsTold pseudo (x.past.dropped ++ more)) (IsTold pseudo x.past.dropped) (told-more pseudo x.past.dropped more) half.frames x.said
      (subst (λ (c : Config). AreEach (IsTold c.pseudo_out x.past.dropped) half.frames x.said) (sym config-stays) is.told))
      in
      subst (λ (fs : List SentFrame). AreEach (IsTold pseudo past.dropped) after.frames (x.said ++ map (said_frame pseudo past.held) fs))
      (sym (drop-front half.frames new))
      (each-append (IsTold pseudo past.dropped) half.frames new x.said (map (said_frame pseudo past.held) new) old
      (new-told capacity stopped past accounted (length after.processed) (floor_of after.end) (end_stepped half.end given).frame refl))

  -- that brings no data to the inbox
  quiet-true : IsTrueSide after (going-on x.past)
  quiet-true =
      let newly : List ℕ = newly_processed half.end arrived after.end in
      record {
        capacity = is.capacity;
        stopped = is.stopped;
        accounted = is.accounted;
        kept_processed = λ n has_it. Contains-append_left half.processed newly n (is.kept_processed n has_it);
        drops_processed = λ n has_it. Contains-append_left half.processed newly n (is.drops_processed n has_it);
        apart = is.apart;
        told = all-told is.capacity is.stopped x.past is.accounted [] (sym (append-nil x.past.dropped));
      }

  module _ (n : ℕ) (processed : after.processed ≡ half.processed ++ n ∷ []) (fresh : Contains half.processed n → ⊥) where
    processed-more : (m : ℕ) → Contains half.processed m → Contains after.processed m
    processed-more m has_it = subst (λ (ns : List ℕ). Contains ns m) (sym processed) (Contains-append_left half.processed (n ∷ []) m has_it)

    processed-it : (m : ℕ) → Contains (n ∷ []) m → Contains after.processed m
    processed-it m has_it = subst (λ (ns : List ℕ). Contains ns m) (sym processed) (Contains-append_right half.processed (n ∷ []) m has_it)

    fresh-one : (m : ℕ) → Contains (n ∷ []) m → Contains half.processed m → ⊥
    fresh-one m one has_it = fresh (subst (λ (k : ℕ). Contains half.processed k) (sym (one-member n m one)) has_it)

    in-data : (item : KeptData) → item.number ≡ n → (m : ℕ) → Contains (data_numbers (x.past.kept ++ item ∷ [])) m
        → Contains (data_numbers x.past.kept) m ⊎ Contains (n ∷ []) m
    in-data item same m has_it =
        Contains-append_cases (data_numbers x.past.kept) (n ∷ []) m
        (subst (λ (k : ℕ). Contains (data_numbers x.past.kept ++ k ∷ []) m) same
        (subst (λ (ns : List ℕ). Contains ns m) (data-append x.past.kept (item ∷ [])) has_it))

    in-drops : (d : DropEntry) → d.number ≡ n → (m : ℕ) → Contains (drop_numbers (x.past.dropped ++ d ∷ [])) m
        → Contains (drop_numbers x.past.dropped) m ⊎ Contains (n ∷ []) m
    in-drops d same m has_it =
        Contains-append_cases (drop_numbers x.past.dropped) (n ∷ []) m
        (subst (λ (k : ℕ). Contains (drop_numbers x.past.dropped ++ k ∷ []) m) same
        (subst (λ (ns : List ℕ). Contains ns m) (drops-append x.past.dropped (d ∷ [])) has_it))

    -- data that an inbox answers
    answered-true : (payload : List ℕ) (held : InboxState) (answer : Arrival) (capacity : ℕ) (stopped : Bool)
        → IsAccounted capacity stopped (history_answered x.past answer n payload held)
        → IsTrueSide after (going-on (history_answered x.past answer n payload held))
    answered-true payload held arrivals.Kept capacity stopped accounted =
        let item : KeptData = record { number = n; payload = payload } in
        let past : History = history_answered x.past arrivals.Kept n payload held in
        let drops : past.dropped ≡ x.past.dropped = append-nil x.past.dropped in
        record {
          capacity = capacity;
          stopped = stopped;
          accounted = accounted;
          kept_processed = λ m has_it. elim (in-data item refl m has_it) [
            | inl before ↦ processed-more m (is.kept_processed m before)
            | inr now ↦ processed-it m now
          ];
          drops_processed = λ m has_it. processed-more m (is.drops_processed m (subst (λ (ds : List DropEntry). Contains (drop_numbers ds) m) drops has_it));
          apart = λ m kept dropped.
              let was : Contains (drop_numbers x.past.dropped) m = subst (λ (ds : List DropEntry). Contains (drop_numbers ds) m) drops dropped in
              elim (in-data item refl m kept) [
                | inl before ↦ is.apart m before was
                | inr now ↦ fresh-one m now (is.drops_processed m was)
              ];
          told = all-told capacity stopped past accounted [] refl;
        }
    answered-true payload held (arrivals.Dropped code) capacity stopped accounted =
        let d : DropEntry = record { number = n; code = code } in
        let past : History = history_answered x.past (arrivals.Dropped code) n payload held in
        let items_are : past.kept ≡ x.past.kept = append-nil x.past.kept in
        record {
          capacity = capacity;
          stopped = stopped;
          accounted = accounted;
          kept_processed = λ m has_it. processed-more m (is.kept_processed m (subst (λ (items : List KeptData). Contains (data_numbers items) m) items_are has_it));
          drops_processed = λ m has_it. elim (in-drops d refl m has_it) [
            | inl before ↦ processed-more m (is.drops_processed m before)
            | inr now ↦ processed-it m now
          ];
          apart = λ m kept dropped.
              let was : Contains (data_numbers x.past.kept) m = subst (λ (items : List KeptData). Contains (data_numbers items) m) items_are kept in
              elim (in-drops d refl m dropped) [
                | inl before ↦ is.apart m was before
                | inr now ↦ fresh-one m now (is.kept_processed m was)
              ];
          told = all-told capacity stopped past accounted (d ∷ []) refl;
        }

    data-true : (short : Bool) (payload : List ℕ) → IsTrueSide after (going-on (history_after x.past (data_call short n payload)))
    data-true true payload =
        answered-true payload (after_arrival x.past.held n payload) (arrival_answer x.past.held) is.capacity _
        (history_after-accounted is.capacity is.stopped x.past (data_call true n payload) is.accounted)
    data-true false payload =
        answered-true [] (dropping x.past.held n) (arrivals.Dropped (reason x.past.held)) is.capacity _
        (history_after-accounted is.capacity is.stopped x.past (data_call false n payload) is.accounted)

  -- What a step delivers, it processed just now.
  abbrev Delivers : Seen → Type 0
  Delivers s = (place : ℕ × ℕ) → s ≡ seen.Received (Took (Some place))
      → (after.processed ≡ half.processed ++ last_taken after.end ∷ []) × (Contains half.processed (last_taken after.end) → ⊥)

  pub step-true : (bytes : List ℕ) (s : Seen) → Delivers s
      → IsTrueSide after (inbox_after x (inbox_calls x.past.held (last_taken after.end) bytes s) (length half.frames) after)
  step-true bytes (seen.Received (Took (Some place))) delivers =
      let so = delivers place refl in
      data-true (last_taken after.end) so.0 so.1 (fits_item x.past.held (slice_range bytes place.0 place.1)) (slice_range bytes place.0 place.1)
  step-true bytes _ delivers = quiet-true

-- Where an outcome delivers, the number that its packet has is the one that was taken last.
record LastOf (e : EndState) (bytes : List ℕ) (f : Effect) : Type 0 where
  delivered : Option (ℕ × ℕ)
  taken : IsTaken e bytes delivered
  last : last_by e.last f.hearing ≡ taken.packet.number

last-of : (e : EndState) (bytes : List ℕ) (o : Outcome) (cause : HasCause e bytes o) (f : Effect) (turns : AreTurns e (Arrives bytes) f.hearing f.turns)
    → HasForm e bytes o cause f turns → (place : ℕ × ℕ) → o ≡ Took (Some place) → LastOf e bytes f
last-of e bytes (Took delivered) cause f turns form place is =
    record { delivered = delivered; taken = cause; last = ap (last_by e.last) form.heard }
last-of e bytes _ cause f turns form place is = cc is

last-sent : (w : WorldState) (h : IsHeld SideInvariant w) (side : Side) (bytes : List ℕ) (arrived : Option ℕ)
    (sent : IsSentFrame (half_of w side).end (half_of w (other side)).frames arrived bytes) (place : ℕ × ℕ)
    → (receives (half_of w side).end bytes).answer ≡ Took (Some place) → last_taken (receives (half_of w side).end bytes).after ≡ sent.frame.number
last-sent w h side bytes arrived sent place took =
    let e : EndState = (half_of w side).end in
    let told = told_of_step e bytes (receives e bytes) (kept-proper w h side) refl in
    let eff = told.effect in
    let of = last-of e bytes (receives e bytes).answer eff.cause eff.effect eff.because.turns eff.form place took in
    let came : Came e (Arrives bytes) of.taken.packet = of.taken.admitted.valid.came in
    let same : bytes ≡ came.bytes = (let given : Input.Arrives bytes ≡ Arrives came.bytes = came.is_given in cc given) in
    let its : IsSentFrame e (half_of w (other side)).frames arrived came.bytes =
    record { index = sent.index; frame = sent.frame; is_there = sent.is_there; same = sym same ∙ sent.same; numbered = sent.numbered; not_far = sent.not_far } in
    ap last_taken eff.after_is ∙ of.last ∙ sym (kept-told w h side (Arrives bytes) of.taken.packet came arrived its).number

-- a step that shows an outcome is one at which bytes arrived
call-unlike : {Fault : Type 0} (named : Fault → Refusal) (r : Result (Unit {0}) Fault) (o : Outcome) → seen_of_call named r ≡ seen.Received o → ⊥
call-unlike named (Ok _) o is = cc is
call-unlike named (Err fault) o is = cc is

record HasArrived (e : EndState) (given : Input) (o : Outcome) : Type 0 where
  bytes : List ℕ
  is_given : given ≡ Arrives bytes
  answers : (receives e bytes).answer ≡ o

has-arrived : (e : EndState) (given : Input) (o : Outcome) → seen_of (end_stepped e given).answer ≡ seen.Received o → HasArrived e given o
has-arrived e (Arrives bytes) o is = record { bytes = bytes; is_given = refl; answers = cc is }
has-arrived e input.Opens o is = absurd (call-unlike _ (opens e).answer o is)
has-arrived e input.Closes o is = absurd (call-unlike _ (closes e).answer o is)
has-arrived e input.Aborts o is = absurd (call-unlike _ (aborts e).answer o is)
has-arrived e (input.Fires timer in_flight) o is = cc is
has-arrived e (input.Prefers k values) o is = absurd (call-unlike _ (prefers e k values).answer o is)
has-arrived e (input.Sends payload may_send) o is = absurd (call-unlike _ (sends_payload e payload may_send).answer o is)
has-arrived e (input.SendsEarly payload may_send) o is = absurd (call-unlike _ (sends_early e payload may_send).answer o is)

-- an outcome that delivers, wherever the data lie
record TookSome (s : Seen) : Type 0 where
  place : ℕ × ℕ
  is : s ≡ seen.Received (Took (Some place))

took-some : (s : Seen) → seen_anywhere s ≡ seen.Received (Took (Some (0, 0))) → TookSome s
took-some (seen.Received (Took (Some place))) same = record { place = place; is = refl }
took-some _ same = cc same

newly-one : (b : Bool) (arrived : Option ℕ) (m d : ℕ) → arrived ≡ Some m → number_if b arrived ≡ d ∷ [] → m ≡ d
newly-one true arrived m d is same = let one : m ∷ [] ≡ d ∷ [] = sym (ap (number_if true) is) ∙ same in cc one
newly-one false arrived m d is same = let none : ◌≡◌ {A = List ℕ} [] (d ∷ []) = sym (ap (number_if false) is) ∙ same in cc none

-- the number of the frame that arrived
record Numbered (half : Half) (arrived : Option ℕ) (given : Input) : Type 0 where
  number : ℕ
  is_arrived : arrived ≡ Some number
  is_last : last_taken (end_stepped half.end given).after ≡ number

numbered : (w : WorldState) (h : IsHeld SideInvariant w) (side : Side) (arrived : Option ℕ) (given : Input)
    (from : IsFromPeer (half_of w side).end (half_of w (other side)).frames arrived given) (place : ℕ × ℕ)
    → (bytes : List ℕ) → given ≡ Arrives bytes → (receives (half_of w side).end bytes).answer ≡ Took (Some place) → Numbered (half_of w side) arrived given
numbered w h side arrived (Arrives bytes) from place again is took =
    let same : bytes ≡ again = cc is in
    record {
      number = from.frame.number;
      is_arrived = from.numbered;
      is_last = last-sent w h side bytes arrived from place (ap (λ (bs : List ℕ). (receives (half_of w side).end bs).answer) same ∙ took);
    }
numbered w h side arrived _ from place again is took = cc is

-- What a step of two ends delivers, it processed just now.
module _ {C : Type 0} (control : Control C) (w : ControlledWorld C) (h : IsHeld SideInvariant w.world) (e : Event) (two : WorldStep)
    (happened : happens w.world e (said_by control (congestion_of w (actor e))) ≡ Ok two) (kept : IsHeld SideInvariant two.world)
    (arrived : Option ℕ) (given : Input) (from : IsFromPeer (half_of w.world (actor e)).end (half_of w.world (other (actor e))).frames arrived given)
    (world : two.world ≡ with_half w.world (actor e) (half_steps (half_of w.world (actor e)) arrived given).half)
    (shown : two.seen ≡ (half_steps (half_of w.world (actor e)) arrived given).seen)
    (place : ℕ × ℕ) (took : two.seen ≡ seen.Received (Took (Some place))) where
  abbrev half : Half
  half = half_of w.world (actor e)

  abbrev next : Half
  next = (half_steps half arrived given).half

  is-next : half_of two.world (actor e) ≡ next
  is-next = ap (λ (v : WorldState). half_of v (actor e)) world ∙ half-with w.world (actor e) next

  controlled-world : (side : Side) → (controlled control w side two).world ≡ two.world
  controlled-world Client = refl
  controlled-world Server = refl

  delivers : DeliversIn w.world e two.world place
  delivers =
      subst (λ (v : WorldState). DeliversIn w.world e v place) (controlled-world (actor e))
      (delivers-so control w h e (controlled control w (actor e) two) two.seen (ap (controls control w (actor e)) happened) place (ap place_delivered took))

  -- some number was added to those that were processed
  added : (v : WorldState) (f : Event) → e ≡ f → DeliversIn w.world f v place
      → (d : ℕ) × ((half_of v (actor f)).processed ≡ (half_of w.world (actor f)).processed ++ d ∷ [])
  added v (event.Deliver from index) is its = (its.frame.number, its.is_processed)
  added v _ is its = absurd its

  pub processed-now : (next.processed ≡ half.processed ++ last_taken next.end ∷ []) × (Contains half.processed (last_taken next.end) → ⊥)
  processed-now =
      let came = has-arrived half.end given (Took (Some place)) (sym shown ∙ took) in
      let n = numbered w.world h (actor e) arrived given from place came.bytes came.is_given came.answers in
      let more = added two.world e refl delivers in
      let all : next.processed ≡ half.processed ++ more.0 ∷ [] = sym (ap (λ (x : Half). x.processed) is-next) ∙ more.1 in
      let newly : newly_processed half.end arrived next.end ≡ more.0 ∷ [] =
      sym (drop-front half.processed (newly_processed half.end arrived next.end)) ∙ ap (drop (length half.processed)) all
      ∙ drop-front half.processed (more.0 ∷ [])
      in
      let same : n.number ≡ more.0 = newly-one (nat_lt (marked_of half.end) (marked_of next.end)) arrived n.number more.0 n.is_arrived newly in
      let last : more.0 ≡ last_taken next.end = sym same ∙ sym n.is_last in
      let processed : next.processed ≡ half.processed ++ last_taken next.end ∷ [] = all ∙ ap (λ (k : ℕ). half.processed ++ k ∷ []) last in
      let number : ℕ = last_taken next.end in
      let there : (half_of two.world (actor e)).processed ≡ half.processed ++ number ∷ [] = ap (λ (x : Half). x.processed) is-next ∙ processed in (
        processed,
        λ has_it.
            apart-so two.world (λ side. held-once two.world kept side) (actor e) (length half.processed) number
            (subst (λ (ns : List ℕ). Contains (take (length half.processed) ns) number) (sym there)
            (subst (λ (ns : List ℕ). Contains ns number) (sym (take-front half.processed (number ∷ []))) has_it))
            (subst (λ (ns : List ℕ). Contains (drop (length half.processed) ns) number) (sym there)
            (subst (λ (ns : List ℕ). Contains ns number) (sym (drop-front half.processed (number ∷ []))) (Contains-push [] number))),
      )

module _ {C : Type 0} (control : Control C) (effects : EveryStepHasOneEffect) where
  abbrev ArePairTrue : InboxPair C → Type 0
  ArePairTrue w = IsTrueSide w.ends.world.client w.client × IsTrueSide w.ends.world.server w.server

  at-side : (w : InboxPair C) → ArePairTrue w → (side : Side) → IsTrueSide (half_of w.ends.world side) (inbox_at w side)
  at-side w sides Client = sides.0
  at-side w sides Server = sides.1

  -- a side takes another state
  placed : (w : InboxPair C) → ArePairTrue w → (side : Side) (step : WorldStep) (half : Half) (of : Half → InboxSide)
      → step.world ≡ with_half w.ends.world side half → IsTrueSide half (of half)
      → ArePairTrue (with_inbox_at (record w { ends = controlled control w.ends side step }) side (of (half_of step.world side)))
  placed w sides Client step next of world is = (
    subst (λ (v : WorldState). IsTrueSide v.client (of v.client)) (sym world) is,
    subst (λ (v : WorldState). IsTrueSide v.server w.server) (sym world) sides.1,
  )
  placed w sides Server step next of world is = (
    subst (λ (v : WorldState). IsTrueSide v.client w.client) (sym world) sides.0,
    subst (λ (v : WorldState). IsTrueSide v.server (of v.server)) (sym world) is,
  )

  true-on : (w : InboxPair C) → IsPairLike control effects w → ArePairTrue w → (e : Event) (one two : Result WorldStep WorldFault) → SameEnds one two
      → happens w.ends.world e (said_by control (congestion_of w.ends (actor e))) ≡ two → Takes w.ends.world (actor e) two
      → IsHeld SideInvariant (world_after w.ends.world two) → ArePairTrue (inbox_goes_on control w e one)
  true-on w like sides e (Err why) two same happened takes kept = sides
  true-on w like sides e (Ok one) _ same happened (Refused why) kept = absurd same
  true-on w like sides e (Ok one) _ same happened (Steps arrived given room from) kept =
      let side : Side = actor e in
      let half : Half = half_of w.ends.world side in
      let next : Half = (half_steps half arrived given).half in
      let x : InboxSide = inbox_at w side in
      let bytes : List ℕ = bytes_arriving w e in
      let two : WorldStep = record { world = with_half w.ends.world side next; calls = (half_steps half arrived given).calls; seen = (half_steps half arrived given).seen } in
      placed w sides side one next (λ (h : Half). inbox_after x (inbox_calls x.past.held (last_taken h.end) bytes one.seen) (length half.frames) h) same.world
      (step-true effects half (kept-proper w.ends.world like.kept side) arrived given x (at-side w sides side) bytes one.seen
      (λ place is.
      let some = took-some two.seen (sym same.seen ∙ ap seen_anywhere is) in
      processed-now control w.ends like.kept e two happened kept arrived given from refl refl some.place some.is))

  true-after : (w : InboxPair C) → IsPairLike control effects w → ArePairTrue w → (e : Event) → ArePairTrue (inbox_steps control w (Happens e))
  true-after w like sides e =
      let said : Said = said_by control (congestion_of w.ends (actor e)) in
      let takes = event-taken w.ends.world e said in
      true-on w like sides e (happens_with w e said) (happens w.ends.world e said) (happens-same control effects w like e said) refl takes
      (step-kept effects w.ends.world (actor e) (happens w.ends.world e said) takes like.kept)

  stays-true : (w : InboxPair C) → IsPairLike control effects w → ArePairTrue w → (events : List InboxEvent) → ArePairTrue (inbox_plays control w events)
  stays-true w like sides [] = sides
  stays-true w like sides (Happens e ∷ events) =
      stays-true (inbox_steps control w (Happens e)) (like-after control effects w like e) (true-after w like sides e) events
  stays-true w like sides (Reads Client ∷ events) =
      stays-true (inbox_steps control w (Reads Client)) like (read-true w.ends.world.client w.client sides.0, sides.1) events
  stays-true w like sides (Reads Server ∷ events) =
      stays-true (inbox_steps control w (Reads Server)) like (sides.0, read-true w.ends.world.server w.server sides.1) events
  stays-true w like sides (Ends Client ∷ events) =
      stays-true (inbox_steps control w (Ends Client)) like (end-true w.ends.world.client w.client sides.0, sides.1) events
  stays-true w like sides (Ends Server ∷ events) =
      stays-true (inbox_steps control w (Ends Server)) like (sides.0, end-true w.ends.world.server w.server sides.1) events

  begins-true : (config : Config) (capacity : ℕ) → IsTrueSide (half_at_start config) (inbox_begins capacity)
  begins-true config capacity =
      record {
        capacity = capacity;
        stopped = false;
        accounted = first-accounted capacity;
        kept_processed = λ n has_it. has_it;
        drops_processed = λ n has_it. has_it;
        apart = λ n kept dropped. absurd (omega (arith, kept.1));
        told = tt;
      }

-- What is read of the frames of such a side.

joined-of : (ack : ℕ) (parts : List (List ℕ)) (report : VectorReport) → joined_report ack parts ≡ Some report → report ≡ record { ack = ack; bytes = report.bytes }
joined-of ack [] report is = cc is
joined-of ack (part ∷ parts) report is = let same = same_Some _ report is in sym same ∙ ap (λ (r : VectorReport). record { ack = ack; bytes = r.bytes }) same

module _ {C : Type 0} (control : Control C) (w : InboxPair C) (safe : Safe control w.ends) (side : Side)
    (is : IsTrueSide (half_of w.ends.world side) (inbox_at w side)) where
  abbrev x : InboxSide
  x = inbox_at w side

  taken-kept : (n : ℕ) → Contains (data_numbers x.past.taken) n → Contains (data_numbers x.past.kept) n
  taken-kept n has_it =
      subst (λ (items : List KeptData). Contains (data_numbers items) n) (sym is.accounted.whole)
      (subst (λ (ns : List ℕ). Contains ns n) (sym (data-append x.past.taken x.past.held.items))
      (Contains-append_left (data_numbers x.past.taken) (data_numbers x.past.held.items) n has_it))

  module _ (frame : SentFrame) (packet : Parts) (ack : ℕ) (went : WentOut w side frame packet ack) where
    abbrev own-pseudo : Pseudo
    own-pseudo = (half_of w.ends.world side).end.config.pseudo_out

    told-at : EachAt (IsTold own-pseudo x.past.dropped) x.said went.index frame
    told-at = each-at (IsTold own-pseudo x.past.dropped) (half_of w.ends.world side).frames x.said is.told went.index frame went.is_kept

    told-so : IsTold own-pseudo x.past.dropped frame went.bytes
    told-so = subst (λ (b : List ℕ). IsTold own-pseudo x.past.dropped frame b) (same_Some told-at.bytes went.bytes (sym told-at.is_there ∙ went.is_there)) told-at.is_so

    packet-is : told-so.tells.packet ≡ packet
    packet-is = let both : Ok told-so.tells.packet ≡ Ok packet = sym told-so.tells.is_packet ∙ went.is_packet in cc both

    acks-by : (report : VectorReport) → report_in_packet ack told-so.tells.packet ≡ Some report → (acking : Bool)
        → is_acking (packet_type told-so.tells.packet.header.kind) ≡ acking → acknowledged_by frame.ack told-so.tells.packet.header.kind ≡ Some ack
    acks-by report reads true is_so = ap (λ (b : Bool). if b then frame.ack else None) is_so ∙ went.acknowledges
    acks-by report reads false is_so =
        let none : acknowledged_by frame.ack told-so.tells.before.header.kind ≡ None =
        ap (acknowledged_by frame.ack) (sym told-so.tells.same_kind) ∙ ap (λ (b : Bool). if b then frame.ack else None) is_so
        in
        let silent : drops_in_packet told-so.tells.packet ≡ [] = told-so.tells.tells ∙ ap (told_by_ack told-so.held told-so.tells.before) none in
        let never : ◌≡◌ {A = Option VectorReport} None (Some report) = sym (ap (joined_report ack) silent) ∙ reads in
        cc never

    dropped-so : (n code : ℕ) (report : VectorReport) → report_in_packet ack packet ≡ Some report → n < 2 ^ 48 → code_at report.ack report.bytes n ≡ Some code
        → Contains (data_numbers x.past.taken) n → ⊥
    dropped-so n code report reads small found taken =
        let its : report_in_packet ack told-so.tells.packet ≡ Some report = ap (report_in_packet ack) packet-is ∙ reads in
        let read =
        read_as_drops own-pseudo told-so.held (outgoing_of frame) (record (outgoing_of frame) { bytes = went.bytes }) told-so.tells ack report
        (acks-by report its (is_acking (packet_type told-so.tells.packet.header.kind)) refl) its told-so.codes went.ack_fits
        in
        is.apart n (taken-kept n taken) (told-so.among n code (read.only n code small found))

    vectors-same : (report : VectorReport) → report_of ack (options_in_packet packet) ≡ Some report → report_of ack (options_in frame.bytes) ≡ Some report
    vectors-same report reads =
        let tells = told-so.tells in
        let before : options_in frame.bytes ≡ options_in_packet tells.before =
        ap (λ (r : Result Parts Malformed). packet_options (result_ok r)) tells.was_packet
        in
        ap (report_of ack) before
        ∙ sym (ap (joined_report ack) (vectors-after (options_in_packet tells.before) tells.more tells.are_passed_over))
        ∙ sym (ap (report_of ack) tells.following)
        ∙ ap (λ (p : Parts). report_of ack (options_in_packet p)) packet-is
        ∙ reads

    received-by : (n state : ℕ) (report : VectorReport) → report_of ack (options_in_packet packet) ≡ Some report → frame.floor < 2 ^ 48 → n < 2 ^ 48
        → Contains (processed_by (half_of w.ends.world side) frame) n → state_at report.ack report.bytes n ≡ Some state → (received : Bool)
        → is_received (Some state) ≡ received → received ≡ true
    received-by n state report reads floor_fits small early told true shown = refl
    received-by n state report reads floor_fits small early told false shown =
        let whole : report ≡ record { ack = ack; bytes = report.bytes } = joined-of ack _ report reads in
        absurd (missing-none w.ends.world safe.truthful side went.index frame ack n report.bytes went.is_kept
        (record { acknowledges = went.acknowledges; carries = vectors-same report reads ∙ ap (λ (r : VectorReport). Some r) whole })
        state floor_fits went.ack_fits small (ap (λ (a : ℕ). state_at a report.bytes n) (sym (ap (λ (r : VectorReport). r.ack) whole)) ∙ told) shown early)

  pub tells-of-its-data : TellsOfItsData w side
  tells-of-its-data =
      record {
        taken_are_processed = λ n has_it. is.kept_processed n (taken-kept n has_it);
        dropped_are_not_taken = λ n code ack frame packet report went reads small found taken. dropped-so frame packet ack went n code report reads small found taken;
        taken_are_received =
            λ n state ack frame packet report went reads floor_fits small taken early told.
            received-by frame packet ack went n state report reads floor_fits small early told (is_received (Some state)) refl;
      }

pub tell_of_their_data : {C : Type 0} (control : Control C) → EveryStepHasOneEffect
    → ((client server : Config) (for_client for_server : C) (events : List Event) → client.role ≡ role.Client → server.role ≡ role.Server → Fits client
    → Fits server → Safe control (plays_from_start control client server for_client for_server events))
    → TellOfTheirData control
tell_of_their_data {C} control effects safe client server for_client for_server client_most server_most events is_client is_server client_fits server_fits
    paired side =
    let start : InboxPair C = begins_with_inboxes control client server for_client for_server client_most server_most in
    let like = like-at-start control effects client server for_client for_server client_most server_most client_fits server_fits paired in
    let all = stays-true control effects start like (begins-true control effects client client_most, begins-true control effects server server_most) events in
    let now : InboxPair C = inbox_plays control start events in
    let ends : now.ends ≡ plays_from_start control client server for_client for_server (of_ends events) =
    run_as_alone control effects client server for_client for_server client_most server_most events client_fits server_fits paired
    in
    tells-of-its-data control now
    (subst (Safe control) (sym ends) (safe client server for_client for_server (of_ends events) is_client is_server client_fits server_fits)) side
    (at-side control effects now all side)
