-- What a packet that is heard does to the marks is moves of its side.
use Rattle.std.proofs.Common.{◌≡◌, ◌≢◌, ◌⊎◌, inl, inr, refl, ap, sym, ◌∙◌, subst, ℕ, suc, ◌+◌, ◌-◌, ◌^◌, ◌<◌, ◌≤◌, max, min, nat_lt, Bool, true, false, List, [], ◌∷◌, ◌++◌, length, map, arith}
use Rattle.std.proofs.lemmas.Bool.{false_from_ne_true}
use Rattle.std.proofs.lemmas.List.{append-nil, length-map, map-append}
use Rattle.std.proofs.lemmas.List.Elements.{All-cons, All-nil}
use Rattle.std.proofs.lemmas.Option.{slice_get_within}
use Rattle.std.specs.List.{All, Contains}
use Rattle.ack_vectors.specs.Kept.{ReceivedState as KeptNumbers}
use Rattle.ack_vectors.specs.declared.received.VectorRecord.{VectorRecord}
use Rattle.dccp_endpoint.specs.Causes.{Came, IsHearing, Keeps as KeepsHeard, Starts, Raises, entrance_of, is_waiting}
use Rattle.dccp_endpoint.specs.Effects.{Effect, HeardNumber, Unheard, Heard, PacketFate, Refused, Shut, Taken, count_by, end_after, first_by, heard_by}
use Rattle.dccp_endpoint.specs.End.{EndState, is_live}
use Rattle.dccp_endpoint.specs.Incoming.{Incoming}
use Rattle.dccp_endpoint.specs.Reporting.{is_acking, is_new, one_more_taken}
use Rattle.dccp_endpoint.proofs.Phases.{accept-so, answer-so, check-live}
use Rattle.dccp_packets.specs.declared.header.PacketType.TheVariants as types
use Rattle.dccp_states.specs.declared.entrance.Entrance.TheVariants as entrance
use Rattle.dccp_states.specs.declared.phase.Phase.{Phase}
use Rattle.dccp_states.specs.declared.phase.Phase.TheVariants as phases
use Rattle.two_ends.proofs.OfMarks.MarkSets.{begun_are, begun_shut_are, counts_are_new, joined_are, new_by_counts}
use Rattle.two_ends.proofs.OfMarks.MarkSteps.{Kept}
use Rattle.two_ends.specs.MarkMoves.{MarkMove, MarkMoves, begun_shut, passed, shut, with_first_frame, with_processed}
use Rattle.two_ends.specs.MarkMoves.MarkMove.{Begins, Begins_shut, Joins, Repeats, Refuses, Shuts}
use Rattle.two_ends.specs.MarkMoves.MarkMoves.{Done, Next}
use Rattle.two_ends.specs.MarkSets.{IsMarked}
use Rattle.two_ends.specs.MarkView.{MarkSide, frame_at}
use Rattle.run_list.proofs.Sets.{marked-other}
use Rattle.run_list.specs.MarkedSet.{MarkedSet, answer_to, empty_from, marked}
use Rattle.run_list.specs.declared.answers.Marked.{Marked}
use Rattle.run_list.specs.declared.answers.Marked.TheVariants.{New, Again, BelowFloor}
use Rattle.seq_circle.specs.Counts.{number_of}
use Rattle.two_ends.specs.World.{newly_processed, number_if}
use Rattle.two_ends.proofs.OfWorlds.Acting.{Act, config_of, end_of}
use Rattle.two_ends.proofs.OfWorlds.HeardTo.{IsHeardTo, heard-on, opened-none, unheard-on}
use Rattle.two_ends.proofs.OfWorlds.Numbering.{IsOrdered, came-arrived, came-logged, few-logged}
use Rattle.two_ends.proofs.OfMarks.Shown.{IsPacketOf, IsShown, few-processed, later-greatest, next-number, some-first}
use Rattle.two_ends.proofs.OfMarks.Vectors.{frame-of, frames-length}

-- what a step makes of a view, before a packet goes out; `received` is what is kept of received numbers then
pub record IsTaking (act : Act) (view peer : MarkSide) (received : KeptNumbers) : Type 0 where
  pub after : MarkSide
  pub moves : MarkMoves peer.frames view after
  pub frames : after.frames ≡ view.frames
  pub heard : IsHeardTo (config_of act.peer).iss (length act.peer.log) after.greatest (end_after (end_of act.side) act.effect)
  pub first : 1 ≤ after.first → first_by (end_of act.side).marks.isr act.effect.hearing ≡ number_of (config_of act.peer).iss after.first
  pub unset : after.first ≡ 0 → (first_by (end_of act.side).marks.isr act.effect.hearing ≡ 0) × (received.set.floor ≡ 0)
  pub set : 1 ≤ after.first → IsMarked (config_of act.peer).iss received.set after
  pub closed : after.closed ≡ true → (1 ≤ after.greatest) × (act.effect.phase ≡ phases.Closed)
  pub numbers : List ℕ
  pub processed : act.side.half.processed ++ numbers ≡ map (number_of (config_of act.peer).iss) after.processed
  pub newly : newly_processed (end_of act.side) act.arrived (end_after (end_of act.side) act.effect) ≡ numbers
  pub marked : count_by (end_of act.side).marked (end_of act.side).received act.effect.hearing ≡ (end_of act.side).marked + length numbers
  pub packets : All (IsPacketOf (config_of act.peer).iss act.peer.log) numbers
  pub records : (r : VectorRecord) → Contains received.records r → Contains (end_of act.side).received.records r
  pub some : (is_first : Bool) (number : ℕ) (how : PacketFate) → act.effect.hearing ≡ Heard is_first number how → 1 ≤ after.first

new-is : (m : Marked) → is_new m ≡ true → m ≡ New
new-is New is = refl
new-is Again is = cc is
new-is BelowFloor is = cc is

new-not : (m : Marked) → is_new m ≡ false → m ≡ New → ⊥
new-not m is same =
    let new : is_new m ≡ true = ap is_new same in
    cc (is, new)

count-same : (n : ℕ) → nat_lt n n ≡ false
count-same n = grind arith

count-rose : (n : ℕ) → n ≤ 2 ^ 47 → min (n + 1) (2 ^ 64 - 1) ≡ n + 1
count-rose n few = omega (arith, few)

count-above : (n : ℕ) → nat_lt n (n + 1) ≡ true
count-above n = grind arith

known-count : (floor n : ℕ) (is_marked : Bool) → ((floor ≤ n) × (is_marked ≡ false) → ⊥) → (n < floor) ⊎ (is_marked ≡ true)
known-count floor n true none = inr refl
known-count floor n false none = grind arith

not-entered : (ph : Phase) → ph ≡ phases.Closed → (is_live ph ≡ true) ⊎ (is_waiting ph ≡ true) → ⊥
not-entered ph closed (inl live) = (let dead = ap is_live closed in cc (dead, live))
not-entered ph closed (inr waits) = (let none = ap is_waiting closed in cc (none, waits))

module _ (act : Act) (peer_ordered : IsOrdered act.peer) (view peer : MarkSide) (kept : Kept view peer) (here : IsShown act.side act.peer view)
    (there : IsShown act.peer act.side peer) where
  abbrev e : EndState
  e = end_of act.side

  abbrev f : Effect
  f = act.effect

  abbrev iss : ℕ
  iss = (config_of act.peer).iss

  fits : iss < 2 ^ 48
  fits = peer_ordered.fits.iss

  few : length act.peer.log < 2 ^ 47
  few = few-logged act.peer peer_ordered

  peer-frames : length peer.frames ≡ length act.peer.log
  peer-frames = frames-length there.frames

  marked-few : e.marked ≤ 2 ^ 47
  marked-few =
      let most = few-processed view peer.frames kept.here.sound kept.here.listed in
      omega (arith, here.marked, ap length here.processed, length-map view.processed (number_of iss), most, peer-frames, few)

  -- a packet that came, by its count
  record IsCounted (a : Incoming) : Type 0 where
    place : ℕ
    below : place < length act.peer.log
    number : a.number ≡ number_of iss (suc place)
    is_packet : IsPacketOf iss act.peer.log a.number
    acks : (frame_at peer.frames (suc place)).is_ack ≡ is_acking a.kind

  counted : (a : Incoming) → Came e act.given a → a.kind ≢ types.Reset → IsCounted a
  counted a came other =
      let from = came-logged act peer_ordered a came other in
      record {
        place = from.place;
        below = slice_get_within act.peer.log from.place from.logged from.is_there;
        number = from.read.number ∙ next-number iss from.place;
        is_packet =
            record {
              place = from.place;
              logged = from.logged;
              is_there = from.is_there;
              is_numbered = from.read.number;
              is_no_reset = λ reset. other (from.read.type ∙ reset);
            };
        acks = (frame-of from.place from.logged there.frames from.is_there).acks ∙ ap is_acking (sym from.read.type);
      }

  open-so : (is_live e.phase ≡ true) ⊎ (is_waiting e.phase ≡ true) → view.closed ≡ false
  open-so entered = false_from_ne_true view.closed (λ is. not-entered e.phase (here.closed is).1 entered)

  newly-none : count_by e.marked e.received f.hearing ≡ e.marked → newly_processed e act.arrived (end_after e f) ≡ []
  newly-none same =
      ap (λ (n : ℕ). number_if (nat_lt e.marked n) act.arrived) same
      ∙ ap (λ (b : Bool). number_if b act.arrived) (count-same e.marked)

  newly-one : (a : Incoming) → Came e act.given a → count_by e.marked e.received f.hearing ≡ e.marked + 1
      → newly_processed e act.arrived (end_after e f) ≡ a.number ∷ []
  newly-one a came same =
      ap (λ (n : ℕ). number_if (nat_lt e.marked n) act.arrived) same
      ∙ ap (λ (b : Bool). number_if b act.arrived) (count-above e.marked)
      ∙ ap (number_if true) (came-arrived act peer_ordered a came)

  one-more : (a : Incoming) (count : ℕ) → a.number ≡ number_of iss count
      → act.side.half.processed ++ a.number ∷ [] ≡ map (number_of iss) (view.processed ++ count ∷ [])
  one-more a count is =
      ap (λ (ns : List ℕ). ns ++ a.number ∷ []) here.processed
      ∙ ap (λ (n : ℕ). map (number_of iss) view.processed ++ n ∷ []) is
      ∙ sym (map-append (number_of iss) view.processed (count ∷ []))

  no-more : act.side.half.processed ++ [] ≡ map (number_of iss) view.processed
  no-more = append-nil act.side.half.processed ∙ here.processed

  abbrev Taking : Type 0
  Taking = IsTaking act view peer (heard_by e.received f.hearing)

  -- nothing is heard
  still-closed : view.closed ≡ true → (1 ≤ view.greatest) × (f.phase ≡ phases.Closed)
  still-closed was =
      let before = here.closed was in (
        before.0,
        elim (act.because.moves.shut before.1) [
          | inl closed ↦ closed
          | inr opens ↦ absurd (omega (arith, before.0, (opened-none act peer_ordered view.greatest here.heard opens).1))
        ],
      )

  taking-unheard : Unheard ≡ f.hearing → (is_live f.phase ≡ true → is_live e.phase ≡ true) → Taking
  taking-unheard is live =
      let same : count_by e.marked e.received f.hearing ≡ e.marked = ap (count_by e.marked e.received) (sym is) in
      record {
        after = view;
        moves = Done view;
        frames = refl;
        heard = unheard-on act peer_ordered view.greatest here.heard (sym is) live;
        first = λ some. ap (first_by e.marks.isr) (sym is) ∙ here.first some;
        unset = λ none.
            (ap (first_by e.marks.isr) (sym is) ∙ (here.unset none).0, ap (λ (h : HeardNumber). (heard_by e.received h).set.floor) (sym is) ∙ (here.unset none).1);
        set = λ some. subst (λ (h : HeardNumber). IsMarked iss (heard_by e.received h).set view) is (here.set some);
        closed = still-closed;
        numbers = [];
        processed = no-more;
        newly = newly-none same;
        marked = omega (arith, same);
        packets = All-nil (IsPacketOf iss act.peer.log);
        records = λ r. subst (λ (h : HeardNumber). Contains (heard_by e.received h).records r → Contains e.received.records r) is (λ there. there);
        some = λ first number how heard. (let none : Unheard ≡ Heard first number how = is ∙ heard in cc none);
      }

  -- the first packet
  module _ (a : Incoming) (came : Came e act.given a) (other : a.kind ≢ types.Reset)
      (entered : (entrance_of e a ≡ entrance.Accept) ⊎ (entrance_of e a ≡ entrance.InRequest)) where
    abbrev c : IsCounted a
    c = counted a came other

    abbrev count : ℕ
    count = suc c.place

    waiting : is_waiting e.phase ≡ true
    waiting = elim entered [ inl accepts ↦ ap is_waiting (accept-so e.phase a.kind accepts).0 | inr asked ↦ ap is_waiting (answer-so e.phase a.kind asked).0 ]

    unheard : view.first ≡ 0
    unheard = omega (arith, here.heard.waits waiting, kept.here.sound.first_taken)

    first-heard : (how : PacketFate) → Heard true a.number how ≡ f.hearing → IsHeardTo iss (length act.peer.log) count (end_after e f)
    first-heard how is =
        heard-on act peer_ordered view.greatest here.heard a true how count is came
        (elim entered [ inl accepts ↦ inl accepts | inr asked ↦ inr (inl asked) ]) (omega (arith, c.below)) (omega arith) c.number

    sent-there : count ≤ length peer.frames
    sent-there = omega (arith, peer-frames, c.below)

    empty-new : answer_to (empty_from (number_of iss count)) (number_of iss count) ≡ New
    empty-new =
        counts_are_new iss (empty_from (number_of iss count)) (begun_shut view count)
        (begun_shut_are iss view count fits (omega arith) (omega (arith, c.below, few))) count (omega arith) (omega (arith, c.below, few)) (omega arith, refl)

    taking-first : Heard true a.number Taken ≡ f.hearing → Taking
    taking-first is =
        let new : answer_to (empty_from a.number) a.number ≡ New = subst (λ (n : ℕ). answer_to (empty_from n) n ≡ New) (sym c.number) empty-new in
        let rose : count_by e.marked e.received f.hearing ≡ e.marked + 1 =
        ap (count_by e.marked e.received) (sym is) ∙ ap (λ (m : Marked). one_more_taken e.marked (is_new m)) new ∙ count-rose e.marked marked-few in
        record {
          after = with_first_frame view count;
          moves =
              Next view (with_first_frame view count) (with_first_frame view count) (Begins count unheard (open-so (inr waiting)) (omega arith) sent-there)
              (Done (with_first_frame view count));
          frames = refl;
          heard = first-heard Taken is;
          first = λ some. ap (first_by e.marks.isr) (sym is) ∙ c.number;
          unset = λ none. absurd (omega (arith, none));
          set =
              λ some. subst (λ (h : HeardNumber). IsMarked iss (heard_by e.received h).set (with_first_frame view count)) is
              (subst (λ (n : ℕ). IsMarked iss (marked (empty_from n) n) (with_first_frame view count)) (sym c.number)
              (begun_are iss view count fits (omega arith) (omega (arith, c.below, few))));
          closed = λ was. (let not = open-so (inr waiting) in cc (was, not));
          numbers = a.number ∷ [];
          processed = one-more a count c.number;
          newly = newly-one a came rose;
          marked = omega (arith, rose);
          packets = All-cons (IsPacketOf iss act.peer.log) a.number [] c.is_packet (All-nil (IsPacketOf iss act.peer.log));
          records =
              λ r. subst (λ (h : HeardNumber). Contains (heard_by e.received h).records r → Contains e.received.records r) is
              (λ there. absurd (omega (arith, there.1)));
          some = λ first number how heard. omega arith;
        }

    taking-first-shut : Heard true a.number Shut ≡ f.hearing → f.phase ≡ phases.Closed → Taking
    taking-first-shut is ends =
        let same : count_by e.marked e.received f.hearing ≡ e.marked = ap (count_by e.marked e.received) (sym is) in
        record {
          after = begun_shut view count;
          moves =
              Next view (begun_shut view count) (begun_shut view count) (Begins_shut count unheard (omega arith) sent-there)
              (Done (begun_shut view count));
          frames = refl;
          heard = first-heard Shut is;
          first = λ some. ap (first_by e.marks.isr) (sym is) ∙ c.number;
          unset = λ none. absurd (omega (arith, none));
          set =
              λ some. subst (λ (h : HeardNumber). IsMarked iss (heard_by e.received h).set (begun_shut view count)) is
              (subst (λ (n : ℕ). IsMarked iss (empty_from n) (begun_shut view count)) (sym c.number)
              (begun_shut_are iss view count fits (omega arith) (omega (arith, c.below, few))));
          closed = λ was. (omega arith, ends);
          numbers = [];
          processed = no-more;
          newly = newly-none same;
          marked = omega (arith, same);
          packets = All-nil (IsPacketOf iss act.peer.log);
          records =
              λ r. subst (λ (h : HeardNumber). Contains (heard_by e.received h).records r → Contains e.received.records r) is
              (λ there. absurd (omega (arith, there.1)));
          some = λ first number how heard. omega arith;
        }

  -- a later packet
  module _ (a : Incoming) (came : Came e act.given a) (other : a.kind ≢ types.Reset) (checked : entrance_of e a ≡ entrance.Check) where
    abbrev later : IsCounted a
    later = counted a came other

    abbrev at : ℕ
    at = suc later.place

    live : is_live e.phase ≡ true
    live = check-live e.phase a.kind checked

    some-taken : 1 ≤ view.greatest
    some-taken = here.heard.lives live

    has-first : 1 ≤ view.first
    has-first = some-first view.first view.greatest kept.here.sound.unheard_greatest some-taken

    at-early : at ≤ 2 ^ 47
    at-early = omega (arith, later.below, few)

    at-there : at ≤ length peer.frames
    at-there = omega (arith, peer-frames, later.below)

    later-heard : (how : PacketFate) → Heard false a.number how ≡ f.hearing → IsHeardTo iss (length act.peer.log) (max view.greatest at) (end_after e f)
    later-heard how is =
        heard-on act peer_ordered view.greatest here.heard a false how (max view.greatest at) is came (inr (inr checked))
        (omega (arith, here.heard.within, later.below)) (omega arith)
        (later-greatest iss view.greatest at e.marks.gsr a.number fits some-taken (omega (arith, here.heard.within, few)) (omega arith) at-early
        (here.heard.tied some-taken) later.number)

    not-closed : view.closed ≡ false
    not-closed = open-so (inl live)

    set-at : (how : PacketFate) (s : MarkedSet) (after : MarkSide) → Heard false a.number how ≡ f.hearing
        → (heard_by e.received (Heard false a.number how)).set ≡ s
        → IsMarked iss s after → IsMarked iss (heard_by e.received f.hearing).set after
    set-at how s after is same are =
        subst (λ (h : HeardNumber). IsMarked iss (heard_by e.received h).set after) is
        (subst (λ (x : MarkedSet). IsMarked iss x after) (sym same) are)

    records-at : (how : PacketFate) → Heard false a.number how ≡ f.hearing → (r : VectorRecord) → Contains (heard_by e.received f.hearing).records r
        → Contains e.received.records r
    records-at Taken is r = subst (λ (h : HeardNumber). Contains (heard_by e.received h).records r → Contains e.received.records r) is (λ there. there)
    records-at Refused is r = subst (λ (h : HeardNumber). Contains (heard_by e.received h).records r → Contains e.received.records r) is (λ there. there)
    records-at Shut is r = subst (λ (h : HeardNumber). Contains (heard_by e.received h).records r → Contains e.received.records r) is (λ there. there)

    taking-new : Heard false a.number Taken ≡ f.hearing → answer_to e.received.set a.number ≡ New → Taking
    taking-new is new =
        let own_new : answer_to e.received.set (number_of iss at) ≡ New = subst (λ (n : ℕ). answer_to e.received.set n ≡ New) later.number new in
        let parts = new_by_counts iss e.received.set view (here.set has-first) at (omega arith) at-early own_new in
        let rose : count_by e.marked e.received f.hearing ≡ e.marked + 1 =
        ap (count_by e.marked e.received) (sym is) ∙ ap (λ (m : Marked). one_more_taken e.marked (is_new m)) new ∙ count-rose e.marked marked-few in
        record {
          after = with_processed view at;
          moves = Next view (with_processed view at) (with_processed view at) (Joins at has-first not-closed at-there parts.0 parts.1)
              (Done (with_processed view at));
          frames = refl;
          heard = later-heard Taken is;
          first = λ some. ap (first_by e.marks.isr) (sym is) ∙ here.first some;
          unset = λ none. absurd (omega (arith, none, has-first));
          set =
              λ some. set-at Taken (marked e.received.set (number_of iss at)) (with_processed view at) is (ap (marked e.received.set) later.number)
              (joined_are iss e.received.set view (here.set has-first) at (omega arith) at-early own_new);
          closed = λ was. (let not = not-closed in cc (was, not));
          numbers = a.number ∷ [];
          processed = one-more a at later.number;
          newly = newly-one a came rose;
          marked = omega (arith, rose);
          packets = All-cons (IsPacketOf iss act.peer.log) a.number [] later.is_packet (All-nil (IsPacketOf iss act.peer.log));
          records = records-at Taken is;
          some = λ first number how heard. has-first;
        }

    -- a packet that is not marked, or was before
    taking-passed : (how : PacketFate) → Heard false a.number how ≡ f.hearing → MarkMove peer.frames view (passed view at)
        → (heard_by e.received (Heard false a.number how)).set ≡ e.received.set → count_by e.marked e.received (Heard false a.number how) ≡ e.marked
        → Taking
    taking-passed how is move unmarked uncounted =
        let same : count_by e.marked e.received f.hearing ≡ e.marked = ap (count_by e.marked e.received) (sym is) ∙ uncounted in
        record {
          after = passed view at;
          moves = Next view (passed view at) (passed view at) move (Done (passed view at));
          frames = refl;
          heard = later-heard how is;
          first = λ some. ap (first_by e.marks.isr) (sym is) ∙ here.first some;
          unset = λ none. absurd (omega (arith, none, has-first));
          set = λ some. set-at how e.received.set (passed view at) is unmarked (here.set has-first);
          closed = λ was. (let not = not-closed in cc (was, not));
          numbers = [];
          processed = no-more;
          newly = newly-none same;
          marked = omega (arith, same);
          packets = All-nil (IsPacketOf iss act.peer.log);
          records = records-at how is;
          some = λ first number how heard. has-first;
        }

    taking-shut : Heard false a.number Shut ≡ f.hearing → f.phase ≡ phases.Closed → Taking
    taking-shut is ends =
        let same : count_by e.marked e.received f.hearing ≡ e.marked = ap (count_by e.marked e.received) (sym is) in
        record {
          after = shut view at;
          moves = Next view (shut view at) (shut view at) (Shuts at has-first at-there) (Done (shut view at));
          frames = refl;
          heard = later-heard Shut is;
          first = λ some. ap (first_by e.marks.isr) (sym is) ∙ here.first some;
          unset = λ none. absurd (omega (arith, none, has-first));
          set = λ some. set-at Shut e.received.set (shut view at) is refl (here.set has-first);
          closed = λ was. (omega arith, ends);
          numbers = [];
          processed = no-more;
          newly = newly-none same;
          marked = omega (arith, same);
          packets = All-nil (IsPacketOf iss act.peer.log);
          records = records-at Shut is;
          some = λ first number how heard. has-first;
        }

    taking-refused : Heard false a.number Refused ≡ f.hearing → is_acking a.kind ≡ false → Taking
    taking-refused is plain =
        taking-passed Refused is (Refuses at has-first not-closed at-there (later.acks ∙ plain)) refl refl

    taking-taken : Heard false a.number Taken ≡ f.hearing → Taking
    taking-taken is = by (is_new (answer_to e.received.set a.number)) refl where
      by : (new : Bool) → is_new (answer_to e.received.set a.number) ≡ new → Taking
      by true new = taking-new is (new-is (answer_to e.received.set a.number) new)
      by false old =
          let none = new-not (answer_to e.received.set a.number) old in
          taking-passed Taken is
          (Repeats at has-first not-closed at-there
          (known-count view.floor at (view.marked at)
          (λ parts. none (subst (λ (n : ℕ). answer_to e.received.set n ≡ New) (sym later.number)
          (counts_are_new iss e.received.set view (here.set has-first) at (omega arith) at-early parts)))))
          (marked-other e.received.set a.number none) (ap (one_more_taken e.marked) old)

  taking-by : (h : HeardNumber) → IsHearing e act.given f.phase h → h ≡ f.hearing → Taking
  taking-by _ (KeepsHeard live) is = taking-unheard is live
  taking-by _ (Starts a Taken came other entered taken passes) is = taking-first a came other entered is
  taking-by _ (Starts a Shut came other entered taken passes) is = taking-first-shut a came other entered is passes
  taking-by _ (Starts a Refused came other entered taken passes) is = absurd (taken refl)
  taking-by _ (Raises a Taken came other checked valid passes) is = taking-taken a came other checked is
  taking-by _ (Raises a Shut came other checked valid passes) is = taking-shut a came other checked is passes
  taking-by _ (Raises a Refused came other checked valid passes) is = taking-refused a came other checked is passes

  pub takes : Taking
  takes = taking-by f.hearing act.because.hears refl
