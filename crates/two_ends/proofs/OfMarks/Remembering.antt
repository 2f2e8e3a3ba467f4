-- What a side marked is what it processed, and its records say what its frames do.
use Rattle.std.proofs.Common.{◌≡◌, ◌≢◌, ◌↔◌, inl, inr, refl, ap, sym, ◌∙◌, subst, ℕ, zero, suc, ◌+◌, ◌%◌, ◌^◌, ◌<◌, ◌≤◌, Bool, true, false, List, Some, length, arith}
use Rattle.std.proofs.lemmas.List.{length-map}
use Rattle.std.proofs.lemmas.Option.{same_Some, slice_get_within}
use Rattle.std.specs.List.{Contains}
use Rattle.std.specs.Result.{result_ok}
use Rattle.ack_vectors.specs.Vector.{is_whole_under}
use Rattle.dccp_endpoint.specs.End.{floor_of}
use Rattle.dccp_endpoint.specs.Reporting.{is_acking}
use Rattle.dccp_packets.specs.Grammar.{Parts, packet_type}
use Rattle.dccp_states.specs.declared.phase.Phase.TheVariants as phases
use Rattle.two_ends.specs.MarkView.{MarkSide, frame_at}
use Rattle.run_list.specs.MarkedSet.{has}
use Rattle.seq_circle.specs.Circle.{IsBefore, IsFrom, IsWithin, distance, residue}
use Rattle.seq_circle.specs.Counts.{number_of}
use Rattle.world_events.specs.Actors.{other}
use Rattle.world_events.specs.declared.event.Side.{Side}
use Rattle.two_ends.specs.declared.frames.SentFrame.{SentFrame}
use Rattle.two_ends.specs.Frames.{packet_of}
use Rattle.two_ends.specs.Remembered.{AreRecordsHonest, HasHeardFirst, MarksWhatItProcessed, NewestIsProcessed}
use Rattle.two_ends.specs.Reported.{processed_by}
use Rattle.two_ends.specs.World.{WorldState, half_of}
use Rattle.two_ends.proofs.OfWorlds.Acting.{Party, config_of, end_of, party_of}
use Rattle.two_ends.proofs.OfWorlds.Logged.{AtPlace, Found, Logged, Nowhere, found}
use Rattle.two_ends.proofs.OfMarks.Marking.{IsMarking}
use Rattle.two_ends.proofs.OfWorlds.Numbering.{IsOrdered, few-logged}
use Rattle.two_ends.proofs.OfMarks.Processed.{count-at, its-count, its-place, not-after, number-at, was-processed}
use Rattle.two_ends.proofs.OfWorlds.ReadBack.{reset-frame, without-reset}
use Rattle.two_ends.proofs.OfMarks.Reporting.{acknowledges, frame-floor, some-at, whole-is}
use Rattle.two_ends.proofs.OfMarks.SentAt.{read-in, sent-at}
use Rattle.two_ends.proofs.OfMarks.Shown.{or-any, same-counts}
use Rattle.two_ends.proofs.OfMarks.Vectors.{IsFrame, IsRecorded, frame-of, frames-length}

floor-inside : (iss first floor greatest isr low gsr : ℕ) → iss < 2 ^ 48 → 1 ≤ first → first ≤ floor → floor ≤ greatest + 1 → greatest < 2 ^ 47
    → isr ≡ number_of iss first → low ≡ number_of iss floor → gsr ≡ number_of iss greatest → first ≤ greatest → IsWithin low isr (residue (gsr + 1))
floor-inside iss first floor greatest isr low gsr fits some above below few isr_is low_is gsr_is taken =
    omega (arith, fits, some, above, below, few, isr_is, low_is, gsr_is, taken)

between-so : (iss floor greatest n low gsr : ℕ) → iss < 2 ^ 48 → 1 ≤ floor → floor ≤ greatest + 1 → 1 ≤ greatest → greatest < 2 ^ 47 → n < 2 ^ 48
    → low ≡ number_of iss floor → gsr ≡ number_of iss greatest → IsFrom low n → IsFrom n gsr
    → (n ≡ number_of iss (floor + distance low n)) × (floor + distance low n ≤ greatest)
between-so iss floor greatest n low gsr fits some below taken few small low_is gsr_is from upto =
    (omega (arith, fits, some, small, low_is), omega (arith, fits, some, below, taken, few, small, low_is, gsr_is, from, upto))

same-place : (iss greatest place number gsr : ℕ) → iss < 2 ^ 48 → 1 ≤ greatest → greatest < 2 ^ 47 → place < 2 ^ 47
    → number ≡ residue (iss + place) → number % 2 ^ 48 ≡ gsr → gsr ≡ number_of iss greatest → suc place ≡ greatest
same-place iss greatest place number gsr fits some few early number_is same gsr_is =
    omega (arith, fits, some, few, early, number_is, same, gsr_is)

module _ (x y : Party) (others : IsOrdered y) (m : IsMarking x y) where
  abbrev iss : ℕ
  iss = (config_of y).iss

  abbrev view : MarkSide
  view = m.view

  fits : iss < 2 ^ 48
  fits = others.fits.iss

  greatest-few : view.greatest < 2 ^ 47
  greatest-few = omega (arith, m.kept.here.sound.greatest_sent, frames-length m.there.frames, few-logged y others)

  -- the count of a number that was processed
  record IsDone (n : ℕ) : Type 0 where
    count : ℕ
    some : 1 ≤ count
    taken : count ≤ view.greatest
    placed : 0 < view.place count
    is : n ≡ number_of iss count

  done : (n : ℕ) → Contains x.half.processed n → IsDone n
  done n has_it =
      let i : ℕ = has_it.0 in
      let placed = its-place x y others m i has_it.1 in
      let c = its-count x y others m (count-at x y others m i) (omega (arith, placed)) in
      record {
        count = count-at x y others m i;
        some = c.some;
        taken = c.taken;
        placed = omega (arith, placed);
        is = sym has_it.2 ∙ or-any x.half.processed i n 0 has_it.1 ∙ number-at x y others m i has_it.1;
      }

  none-after : (n : ℕ) → Contains x.half.processed n → IsBefore (end_of x).marks.gsr n → ⊥
  none-after n has_it before =
      let d = done n has_it in
      not-after iss view.greatest d.count fits d.some d.taken (omega (arith, greatest-few))
      (subst (λ (k : ℕ). IsBefore k (number_of iss d.count)) (m.here.heard.tied (omega (arith, d.some, d.taken)))
      (subst (IsBefore (end_of x).marks.gsr) d.is before))

  processed-some : 1 ≤ length x.half.processed → 1 ≤ view.first
  processed-some some = by view.first refl where
    by : (first : ℕ) → view.first ≡ first → 1 ≤ view.first
    by zero none =
        absurd (omega (arith, some, ap length m.here.processed, length-map view.processed (number_of iss), m.kept.here.sound.unheard_processed none))
    by (suc first) is = omega (arith, is)

  module _ (n : ℕ) (heard : 1 ≤ view.first) (small : n < 2 ^ 48) (from : IsFrom (floor_of (end_of x)) n) (upto : IsFrom n (end_of x).marks.gsr) where
    some-greatest : 1 ≤ view.greatest
    some-greatest = omega (arith, heard, m.kept.here.sound.first_taken)

    abbrev count : ℕ
    count = view.floor + distance (floor_of (end_of x)) n

    its : (n ≡ number_of iss count) × (count ≤ view.greatest)
    its =
        let are = m.here.set heard in
        between-so iss view.floor view.greatest n (floor_of (end_of x)) (end_of x).marks.gsr fits are.floor_some m.kept.here.sound.floor_below some-greatest
        greatest-few small are.floor_is (m.here.heard.tied some-greatest) from upto

    count-some : 1 ≤ count
    count-some = let are = m.here.set heard in omega (arith, are.floor_some)

    count-early : count ≤ 2 ^ 47
    count-early = omega (arith, its.1, greatest-few)

    member-is : has (end_of x).received.set.numbers n ≡ view.marked count
    member-is = ap (has (end_of x).received.set.numbers) its.0 ∙ (m.here.set heard).marks_are count count-some count-early

    taken-then : Contains x.half.processed n → view.marked count ≡ true
    taken-then has_it =
        let d = done n has_it in
        let same : d.count ≡ count =
        same-counts iss d.count count fits d.some (omega (arith, d.taken, greatest-few)) count-some count-early (sym d.is ∙ its.0) in
        m.kept.here.sound.processed_marked count (omega arith) (subst (λ (k : ℕ). 0 < view.place k) same d.placed)

    member-so : (has (end_of x).received.set.numbers n ≡ true) ↔ Contains x.half.processed n
    member-so = (
      λ is.
          subst (Contains x.half.processed) (sym its.0)
          (was-processed x y others m count (m.kept.here.sound.marks_processed count (sym member-is ∙ is))),
      λ has_it. member-is ∙ taken-then has_it,
    )

  floor-so : IsWithin (floor_of (end_of x)) (end_of x).marks.isr (residue ((end_of x).marks.gsr + 1))
  floor-so = by view.first refl where
    by : (first : ℕ) → view.first ≡ first → IsWithin (floor_of (end_of x)) (end_of x).marks.isr (residue ((end_of x).marks.gsr + 1))
    by zero none =
        let unset = m.here.unset none in
        omega (arith, unset.0, unset.1)
    by (suc first) is =
        let some : 1 ≤ view.first = omega (arith, is) in
        floor-inside iss view.first view.floor view.greatest (end_of x).marks.isr (floor_of (end_of x)) (end_of x).marks.gsr fits some
        m.kept.here.sound.floor_above m.kept.here.sound.floor_below greatest-few (m.here.first some) (m.here.set some).floor_is
        (m.here.heard.tied (omega (arith, some, m.kept.here.sound.first_taken))) m.kept.here.sound.first_taken

  pub marks-processed : MarksWhatItProcessed x.half
  marks-processed =
      record {
        none_after = none-after;
        set = λ n some small from upto. member-so n (processed-some some) small from upto;
        counted = m.here.marked;
        floor = floor-so;
      }

module _ (w : WorldState) (logs : Side → List Logged) (side : Side) where
  module _ (others : IsOrdered (party_of w logs (other side))) (m : IsMarking (party_of w logs side) (party_of w logs (other side))) where
    not-shut : (half_of w side).end.phase ≢ phases.Closed → m.view.closed ≡ false
    not-shut stands = by m.view.closed refl where
      by : (closed : Bool) → m.view.closed ≡ closed → m.view.closed ≡ false
      by false is = is
      by true is = absurd (stands (m.here.closed is).1)

    first-some : 1 ≤ m.view.greatest → 1 ≤ m.view.first
    first-some some = by m.view.first refl where
      by : (first : ℕ) → m.view.first ≡ first → 1 ≤ m.view.first
      by zero none = absurd (omega (arith, some, m.kept.here.sound.unheard_greatest none))
      by (suc first) is = omega (arith, is)

    heard-first : HasHeardFirst (half_of w side) → 1 ≤ m.view.first
    heard-first (inl live) = first-some (m.here.heard.lives live)
    heard-first (inr some) = processed-some (party_of w logs side) (party_of w logs (other side)) others m some

    newest-found : (frame : SentFrame) (packet : Parts)
        → Found (config_of (party_of w logs (other side))) (config_of (party_of w logs (other side))).iss (logs (other side)) frame
        → (half_of w side).end.phase ≢ phases.Closed → HasHeardFirst (half_of w side) → packet_of frame.bytes ≡ Some packet
        → is_acking (packet_type packet.header.kind) ≡ true → frame.number ≡ (half_of w side).end.marks.gsr
        → Contains (half_of w side).processed (half_of w side).end.marks.gsr
    newest-found frame packet (Nowhere is) stands heard read acking same =
        let its = reset-frame (config_of (party_of w logs (other side))) frame is in
        let packet_is : packet ≡ its.spells.packet = same_Some packet its.spells.packet (sym read ∙ ap result_ok its.spells.is_packet) in
        let type = without-reset (config_of (party_of w logs (other side))).role its.spells.packet.header.kind its.has_code in
        let plain : is_acking (packet_type packet.header.kind) ≡ false = ap (λ (p : Parts). is_acking (packet_type p.header.kind)) packet_is
        ∙ ap is_acking type in
        cc (acking, plain)
    newest-found frame packet (AtPlace place number l there numbered is) stands heard read acking same =
        let y : Party = party_of w logs (other side) in
        let its = read-in (config_of y) number frame l is in
        let packet_is : packet ≡ its.packet = same_Some packet its.packet (sym read ∙ its.is_packet) in
        let ours : IsFrame _ _ l (frame_at m.peer.frames (suc place)) = frame-of place l m.there.frames there in
        let type : packet_type packet.header.kind ≡ packet_type l.draft.kind =
        ap (λ (p : Parts). packet_type p.header.kind) packet_is ∙ its.type_is in
        let some : 1 ≤ m.view.greatest = omega (arith, heard-first heard, m.kept.here.sound.first_taken) in
        let number_is : number % 2 ^ 48 ≡ (half_of w side).end.marks.gsr =
        sym its.number_is ∙ same in
        let inside : place < length (logs (other side)) = slice_get_within (logs (other side)) place l there in
        let at : suc place ≡ m.view.greatest =
        same-place (config_of y).iss m.view.greatest place number (half_of w side).end.marks.gsr others.fits.iss some
        (greatest-few (party_of w logs side) y others m)
        (omega (arith, inside, few-logged y others)) numbered number_is (m.here.heard.tied some) in
        let acks : (frame_at m.peer.frames m.view.greatest).is_ack ≡ true =
        ap (λ (n : ℕ). (frame_at m.peer.frames n).is_ack) (sym at) ∙ ours.acks ∙ sym (ap is_acking type) ∙ acking in
        let placed = m.kept.here.heeded.newest_processed (heard-first heard) (not-shut stands) acks in
        subst (Contains (half_of w side).processed) (sym (m.here.heard.tied some)) (was-processed (party_of w logs side) y others m m.view.greatest placed)

    pub newest-processed : NewestIsProcessed w side
    newest-processed index frame packet stands heard there read acking same =
        newest-found frame packet (found (config_of (party_of w logs (other side))) index frame others.logged there) stands heard read acking same

  module _ (own : IsOrdered (party_of w logs side)) (others : IsOrdered (party_of w logs (other side)))
      (m : IsMarking (party_of w logs side) (party_of w logs (other side))) where
    floor-rises : (iss early floor low : ℕ) → iss < 2 ^ 48 → 1 ≤ early → early ≤ floor → floor ≤ 2 ^ 47 → low ≡ number_of iss floor
        → IsBefore low (number_of iss early) → ⊥
    floor-rises iss early floor low fits some below few is before =
        not-after iss floor early fits some below few (subst (λ (k : ℕ). IsBefore k (number_of iss early)) is before)

    pub records-honest : AreRecordsHonest w side
    records-honest r has_it =
        let x : Party = party_of w logs side in
        let y : Party = party_of w logs (other side) in
        let it : IsRecorded (config_of x).iss (config_of y).iss m.view.frames r = m.here.records r has_it in
        let entry = some-at (logs side) it.place (omega (arith, it.there, frames-length m.here.frames)) in
        let l : Logged = entry.0 in
        let at = sent-at (config_of x) it.place l own.logged entry.1 in
        let read = read-in (config_of x) at.number at.frame l at.is_logged in
        let ours : IsFrame (config_of y).iss (config_of x).vectors l (frame_at m.view.frames (suc it.place)) = frame-of it.place l m.here.frames entry.1 in
        let heard : 1 ≤ m.view.first = vector-heard it.place it.has_vector in
        record {
          index = at.index;
          frame = at.frame;
          packet = read.packet;
          is_there = at.is_there;
          is_packet = read.is_packet;
          is_ack =
              ap is_acking read.type_is ∙ sym ours.acks ∙ ours.vector_acks it.has_vector;
          is_numbered = omega (arith, read.number_is, at.is_numbered, it.number);
          acknowledges =
              acknowledges w logs side own others m it.place at.number l at.frame entry.1 at.is_logged it.has_vector
              ∙ ap Some (sym it.ack);
          tells_whole =
              sym it.is_whole ∙ ours.whole it.has_vector
              ∙ whole-is w logs side own others m it.place at.number l at.frame entry.1 at.is_logged it.has_vector
              ∙ ap (λ (n : ℕ). is_whole_under (has (processed_by (half_of w side) at.frame)) at.frame.floor n (config_of x).vectors) (sym it.ack);
          floor_rises =
              λ before.
              floor-rises (config_of y).iss (frame_at m.view.frames (suc it.place)).floor m.view.floor (floor_of (half_of w side).end) others.fits.iss
              (ours.marks it.has_vector).floor_some (m.kept.here.telling.floors_low (suc it.place)) (m.here.set heard).floor_early (m.here.set heard).floor_is
              (subst (IsBefore (floor_of (half_of w side).end))
              (frame-floor w logs side own others m it.place at.number l at.frame entry.1 at.is_logged it.has_vector) before);
        }
      where
        -- a vector goes out once a first packet was heard
        vector-heard : (place : ℕ) → (frame_at m.view.frames (suc place)).has_vector ≡ true → 1 ≤ m.view.first
        vector-heard place vector = by m.view.first refl where
          by : (first : ℕ) → m.view.first ≡ first → 1 ≤ m.view.first
          by zero none =
              let acks = m.kept.here.telling.vectors_acks (suc place) vector in
              let silent = m.kept.here.sound.unheard_silent (suc place) none in
              cc (acks, silent)
          by (suc first) is = omega (arith, is)
