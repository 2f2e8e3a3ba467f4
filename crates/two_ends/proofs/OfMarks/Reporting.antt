-- Each number is processed once, every Ack Vector reports what was processed, and what none reports any more was reported or is far back.
use Rattle.std.proofs.Common.{◌≡◌, refl, ap, sym, ◌∙◌, subst, ℕ, zero, suc, ◌+◌, ◌^◌, ◌<◌, ◌≤◌, Bool, true, false, List, [], ◌∷◌, Option, Some, None, slice_get, length, arith, inl, inr}
use Rattle.std.proofs.lemmas.List.Elements.{All-get_or}
use Rattle.std.proofs.lemmas.Option.{same_Some}
use Rattle.std.specs.List.{Contains}
use Rattle.std.specs.Prelude.{is_some, slice_index, take}
use Rattle.ack_vectors.proofs.Options.{options-read}
use Rattle.ack_vectors.proofs.Telling.{heard-member}
use Rattle.ack_vectors.specs.Vector.{is_whole_under, room_of, vector_under}
use Rattle.ack_vectors.specs.declared.room.Vectors.{Vectors}
use Rattle.dccp_endpoint.proofs.OwnPackets.{vector_parts}
use Rattle.dccp_endpoint.specs.End.{floor_of}
use Rattle.dccp_options.specs.Vectors.{VectorReport, ack_vectors, is_received, joined_report, report_of, state_at}
use Rattle.dccp_packets.specs.Grammar.{Parts}
use Rattle.dccp_packets.specs.Kinds.{ack_of}
use Rattle.dccp_packets.specs.Widths.{kind_in_widths}
use Rattle.two_ends.proofs.OfMarks.MarkFrames.{frame_in}
use Rattle.two_ends.specs.MarkLaws.{IsAccountedFor}
use Rattle.two_ends.specs.MarkLaws.IsAccountedFor.{Far as IsFar, WasTold as ToldBy}
use Rattle.two_ends.specs.MarkView.{MarkFrame, MarkSide as View, frame_at}
use Rattle.run_list.specs.MarkedSet.{floor_under, has}
use Rattle.seq_circle.specs.Circle.{IsBefore, IsWithin, distance}
use Rattle.seq_circle.specs.Counts.{number_of}
use Rattle.world_events.specs.declared.event.Side.{Side}
use Rattle.two_ends.specs.declared.frames.SentFrame.{SentFrame}
use Rattle.two_ends.specs.Frames.{options_in, packet_of}
use Rattle.two_ends.specs.Reported.{CarriesVector, Far, HasSentNumber, IsOnce, NeedsNoReport, TellsTruth, ToldIn, WasTold, processed_by}
use Rattle.two_ends.specs.World.{WorldState, half_of}
use Rattle.world_events.specs.Actors.{other}
use Rattle.two_ends.proofs.OfWorlds.Acting.{Party, config_of, end_of, party_of}
use Rattle.two_ends.proofs.OfWorlds.Logged.{AtPlace, Found, IsLogged, Logged, Nowhere, found}
use Rattle.two_ends.proofs.OfMarks.Marking.{IsMarking, from-there}
use Rattle.two_ends.proofs.OfWorlds.Numbering.{IsOrdered, few-logged}
use Rattle.two_ends.proofs.OfMarks.Processed.{distinct, early-contains, floor-is, none-after, same-vector, was-processed}
use Rattle.two_ends.proofs.OfWorlds.ReadBack.{FitsAck, ack-fits, ack-kept, logged-options, unlogged-options}
use Rattle.two_ends.proofs.OfMarks.SentAt.{no-reset, read-in, sent-at}
use Rattle.two_ends.proofs.OfMarks.Shown.{IsPacketOf}
use Rattle.two_ends.proofs.OfMarks.Vectors.{IsFrame, frame-of, frames-length}

abbrev bytes_in : Option VectorReport → List ℕ
bytes_in None = []
bytes_in (Some r) = r.bytes

-- a log has a packet at each place
pub some-at : (log : List Logged) (place : ℕ) → place < length log → (l : Logged) × (slice_get log place ≡ Some l)
some-at [] place below = absurd (omega (arith, below))
some-at (l ∷ log) zero below = (l, refl)
some-at (l ∷ log) (suc place) below = some-at log place (omega (arith, below))

far-before : (iss count processed n : ℕ) → iss < 2 ^ 48 → 1 ≤ count → processed ≤ 2 ^ 47 → count + 2047 < processed → n ≡ number_of iss count
    → IsBefore n (floor_under (number_of iss processed))
far-before iss count processed n fits some early far is = (omega (arith, fits, some, early, far, is), omega (arith, fits, some, early, far, is))

within-counts : (iss floor count ack n low : ℕ) → iss < 2 ^ 48 → 1 ≤ floor → floor ≤ count → count ≤ ack → ack ≤ 2 ^ 47 → n ≡ number_of iss count
    → low ≡ number_of iss floor → IsWithin n low (number_of iss ack)
within-counts iss floor count ack n low fits some from below early n_is low_is = omega (arith, fits, some, from, below, early, n_is, low_is)

-- what a number lies after, by counts
count-of : (iss first floor n isr low : ℕ) → iss < 2 ^ 48 → 1 ≤ first → first ≤ floor → floor ≤ 2 ^ 47 → n < 2 ^ 48 → isr ≡ number_of iss first
    → low ≡ number_of iss floor → distance isr n < distance isr low
    → (n ≡ number_of iss (first + distance isr n)) × (first + distance isr n < floor)
count-of iss first floor n isr low fits some above early small isr_is low_is below =
    (omega (arith, fits, some, above, early, small, isr_is, low_is, below), omega (arith, fits, some, above, early, small, isr_is, low_is, below))

module _ (w : WorldState) (logs : Side → List Logged) (side : Side) (own : IsOrdered (party_of w logs side)) (others : IsOrdered (party_of w logs (other side)))
    (m : IsMarking (party_of w logs side) (party_of w logs (other side))) where
  abbrev x : Party
  x = party_of w logs side

  abbrev y : Party
  y = party_of w logs (other side)

  abbrev iss : ℕ
  iss = (config_of y).iss

  abbrev view : View
  view = m.view

  abbrev setting : Vectors
  setting = (config_of x).vectors

  -- the vector that the side writes, and whether it is whole
  abbrev vector_of : (ℕ → Bool) → ℕ → ℕ → List ℕ
  vector_of taken floor ack = vector_under taken floor ack setting

  abbrev is_whole : (ℕ → Bool) → ℕ → ℕ → Bool
  is_whole taken floor ack = is_whole_under taken floor ack setting

  -- a packet of the peer's log is in a frame
  sent-number : (n : ℕ) → IsPacketOf iss y.log n → HasSentNumber w (other side) n
  sent-number n p =
      let at = sent-at (config_of y) p.place p.logged others.logged p.is_there in
      let read = read-in (config_of y) at.number at.frame p.logged at.is_logged in
      record {
        index = at.index;
        frame = at.frame;
        packet = read.packet;
        is_there = at.is_there;
        is_packet = read.is_packet;
        is_numbered = omega (arith, read.number_is, at.is_numbered, p.is_numbered);
        is_no_reset = no-reset read.packet.header.kind (λ reset. p.is_no_reset (sym read.type_is ∙ reset));
      }

  pub once : IsOnce w side
  once =
      record {
        distinct = distinct x y others m;
        sent = λ i below. sent-number (slice_index x.half.processed i) (All-get_or (IsPacketOf iss y.log) x.half.processed i 0 below m.here.packets);
      }

  -- a frame, its logged packet, and the frame of the view
  module _ (place number : ℕ) (l : Logged) (frame : SentFrame) (there : slice_get x.log place ≡ Some l) (is : IsLogged (config_of x) number frame l) where
    abbrev its : IsFrame iss setting l (frame_at view.frames (suc place))
    its = frame-of place l m.here.frames there

    abbrev g : MarkFrame
    g = frame_at view.frames (suc place)

    abbrev its-ack : ℕ
    its-ack = number_of iss g.acknowledged

    reports : (ack : ℕ) (b : Bool) → g.has_vector ≡ b → report_of ack (options_in frame.bytes) ≡ joined_report ack (vector_parts b setting its.set its-ack)
    reports ack b vector =
        ap (report_of ack) (logged-options (config_of x) number frame l is)
        ∙ ap (joined_report ack) its.vectors
        ∙ ap (λ (has_vector : Bool). joined_report ack (vector_parts has_vector setting its.set its-ack)) vector

    pub acknowledges : g.has_vector ≡ true → frame.ack ≡ Some its-ack
    acknowledges vector =
        (read-in (config_of x) number frame l is).ack_is
        ∙ ack-kept l.draft.kind its-ack its.long (its.acknowledges (its.vector_acks vector)) (omega arith)

    processed-is : frame.processed ≡ l.processed
    processed-is = ap (λ (f : SentFrame). f.processed) is.same

    module _ (vector : g.has_vector ≡ true) where
      its-floor : its.set.floor ≡ number_of iss g.floor
      its-floor = floor-is x y others m place l its vector

      pub frame-floor : frame.floor ≡ number_of iss g.floor
      frame-floor = ap (λ (f : SentFrame). f.floor) is.same ∙ sym (its.floor vector) ∙ its-floor

      -- What holds of the set's vector holds of the vector of what was processed.
      of-processed : {A : Type 0} (tells : (ℕ → Bool) → ℕ → ℕ → A)
          → tells (has its.set.numbers) (number_of iss g.floor) its-ack ≡ tells (has (take l.processed x.half.processed)) (number_of iss g.floor) its-ack
          → tells (has its.set.numbers) its.set.floor its-ack ≡ tells (has (processed_by x.half frame)) frame.floor its-ack
      of-processed tells same =
          ap (λ (f : ℕ). tells (has its.set.numbers) f its-ack) its-floor
          ∙ same
          ∙ ap (λ (n : ℕ). tells (has (take n x.half.processed)) (number_of iss g.floor) its-ack) (sym processed-is)
          ∙ ap (λ (f : ℕ). tells (has (processed_by x.half frame)) f its-ack) (sym frame-floor)

      vector-is : vector_of (has its.set.numbers) its.set.floor its-ack ≡ vector_of (has (processed_by x.half frame)) frame.floor its-ack
      vector-is = of-processed vector_of (same-vector x y others m place l its vector).0

      pub whole-is : is_whole (has its.set.numbers) its.set.floor its-ack ≡ is_whole (has (processed_by x.half frame)) frame.floor its-ack
      whole-is = of-processed is_whole (same-vector x y others m place l its vector).1

    tells : (ack : ℕ) (bytes : List ℕ) → CarriesVector frame ack bytes → (b : Bool) → g.has_vector ≡ b → TellsTruth x.half frame ack bytes
    tells ack bytes carries false none =
        let silent : joined_report ack (vector_parts false setting its.set its-ack) ≡ Some (record { ack = ack; bytes = bytes }) =
        sym (reports ack false none) ∙ carries.carries in
        cc silent
    tells ack bytes carries true vector =
        let acks : ack ≡ its-ack =
        same_Some ack its-ack (sym carries.acknowledges ∙ acknowledges vector) in
        record {
          is_vector =
              sym (ap bytes_in carries.carries)
              ∙ ap bytes_in (reports ack true vector)
              ∙ ap bytes_in (options-read ack (vector_of (has its.set.numbers) its.set.floor its-ack))
              ∙ vector-is vector
              ∙ ap (vector_of (has (processed_by x.half frame)) frame.floor) (sym acks);
          none_after =
              λ n has_it before. none-after x y others m place l its vector n
              (subst (λ (k : ℕ). Contains (take k x.half.processed) n) processed-is has_it)
              (subst (λ (a : ℕ). IsBefore a n) acks before);
        }

  tells-found : (ack : ℕ) (bytes : List ℕ) (frame : SentFrame) → Found (config_of x) (config_of x).iss x.log frame → CarriesVector frame ack bytes
      → TellsTruth x.half frame ack bytes
  tells-found ack bytes frame (AtPlace place number l there same is) carries =
      tells place number l frame there is ack bytes carries (frame_at view.frames (suc place)).has_vector refl
  tells-found ack bytes frame (Nowhere is) carries =
      let none : report_of ack (options_in frame.bytes) ≡ None = ap (report_of ack) (unlogged-options (config_of x) frame is) in
      let some = carries.carries in
      cc (none, some)

  pub truthful : (index : ℕ) (frame : SentFrame) (ack : ℕ) (bytes : List ℕ) → slice_get (half_of w side).frames index ≡ Some frame
      → CarriesVector frame ack bytes → TellsTruth (half_of w side) frame ack bytes
  truthful index frame ack bytes there carries = tells-found ack bytes frame (found (config_of x) index frame own.logged there) carries

  acknowledged-fits : (ack : ℕ) (bytes : List ℕ) (frame : SentFrame) → Found (config_of x) (config_of x).iss x.log frame → CarriesVector frame ack bytes
      → ack < 2 ^ 48
  acknowledged-fits ack bytes frame (AtPlace place number l there same is) carries =
      let acks : ack_of (kind_in_widths l.draft.kind) ≡ Some ack = sym (read-in (config_of x) number frame l is).ack_is ∙ carries.acknowledges in
      subst FitsAck acks (ack-fits l.draft.kind)
  acknowledged-fits ack bytes frame (Nowhere is) carries =
      let none : report_of ack (options_in frame.bytes) ≡ None = ap (report_of ack) (unlogged-options (config_of x) frame is) in
      let some = carries.carries in
      cc (none, some)

  -- What a vector reports as received was processed.
  pub received-processed : (index : ℕ) (frame : SentFrame) (ack : ℕ) (bytes : List ℕ) (n : ℕ) → slice_get (half_of w side).frames index ≡ Some frame
      → CarriesVector frame ack bytes → n < 2 ^ 48 → is_received (state_at ack bytes n) ≡ true → Contains (half_of w side).processed n
  received-processed index frame ack bytes n there carries small received =
      let truth = truthful index frame ack bytes there carries in
      let fits = acknowledged-fits ack bytes frame (found (config_of x) index frame own.logged there) carries in
      early-contains frame.processed (half_of w side).processed n
      (heard-member (room_of setting) (has (processed_by (half_of w side) frame)) frame.floor ack n fits small
      (sym (ap (λ (vector : List ℕ). is_received (state_at ack vector n)) truth.is_vector) ∙ received))

  -- A frame that acknowledges nothing has no Ack Vector.
  silent-found : (frame : SentFrame) → Found (config_of x) (config_of x).iss x.log frame → (packet : Parts) → packet_of frame.bytes ≡ Some packet
      → ack_of packet.header.kind ≡ None → ack_vectors (options_in frame.bytes) ≡ []
  silent-found frame (Nowhere is) packet read none = ap ack_vectors (unlogged-options (config_of x) frame is)
  silent-found frame (AtPlace place number l there same is) packet read none =
      ap ack_vectors (logged-options (config_of x) number frame l is)
      ∙ (its place number l frame there is).vectors
      ∙ by (frame_at view.frames (suc place)).has_vector refl
    where
      ack : ℕ
      ack = number_of iss (frame_at view.frames (suc place)).acknowledged

      by : (b : Bool) → (frame_at view.frames (suc place)).has_vector ≡ b → vector_parts b setting (its place number l frame there is).set ack ≡ []
      by false vector = refl
      by true vector =
          let kept = read-in (config_of x) number frame l is in
          let same : packet ≡ kept.packet = same_Some packet kept.packet (sym read ∙ kept.is_packet) in
          let some : is_some (ack_of packet.header.kind) ≡ true =
          ap (λ (p : Parts). is_some (ack_of p.header.kind)) same ∙ kept.some_is
          ∙ ap is_some (sym kept.ack_is ∙ acknowledges place number l frame there is vector) in
          let silent : is_some (ack_of packet.header.kind) ≡ false = ap is_some none in
          cc (some, silent)

  pub unacknowledged : (index : ℕ) (frame : SentFrame) → slice_get (half_of w side).frames index ≡ Some frame → (packet : Parts)
      → packet_of frame.bytes ≡ Some packet → ack_of packet.header.kind ≡ None → ack_vectors (options_in frame.bytes) ≡ []
  unacknowledged index frame there = silent-found frame (found (config_of x) index frame own.logged there)

  -- a count below the floor
  module _ (n count : ℕ) (is : n ≡ number_of iss count) (some : 1 ≤ count) where
    told-in : (place : ℕ) (l : Logged) → slice_get x.log place ≡ Some l → (frame_at view.frames (suc place)).has_vector ≡ true
        → (frame_at view.frames (suc place)).is_whole ≡ true → (frame_at view.frames (suc place)).floor ≤ count
        → count ≤ (frame_at view.frames (suc place)).acknowledged → 0 < m.peer.place (suc place) → ToldIn w side n
    told-in place l there vector whole low high done =
        let at = sent-at (config_of x) place l own.logged there in
        let read = read-in (config_of x) at.number at.frame l at.is_logged in
        let ours : IsFrame iss setting l (frame_at view.frames (suc place)) = frame-of place l m.here.frames there in
        let ack : ℕ = number_of iss (frame_at view.frames (suc place)).acknowledged in
        let number : number_of (config_of x).iss (suc place) ≡ at.frame.number =
        omega (arith, read.number_is, at.is_numbered) in
        record {
          index = at.index;
          frame = at.frame;
          ack = ack;
          bytes = vector_of (has ours.set.numbers) ours.set.floor ack;
          is_there = at.is_there;
          vector_is =
              record {
                acknowledges = acknowledges place at.number l at.frame there at.is_logged vector;
                carries =
                    reports place at.number l at.frame there at.is_logged ack true vector
                    ∙ options-read ack (vector_of (has ours.set.numbers) ours.set.floor ack);
              };
          whole = sym (whole-is place at.number l at.frame there at.is_logged vector) ∙ sym (ours.whole vector) ∙ whole;
          heard = subst (Contains y.half.processed) number (was-processed y x own (from-there x y m) (suc place) done);
          reaches =
              within-counts iss (frame_at view.frames (suc place)).floor count (frame_at view.frames (suc place)).acknowledged n at.frame.floor
              others.fits.iss (ours.marks vector).floor_some low high (omega (arith, ours.early (ours.vector_acks vector))) is
              (frame-floor place at.number l at.frame there at.is_logged vector);
        }

    needs-none : IsAccountedFor view.frames view.place m.peer.place count → NeedsNoReport w side n
    needs-none (IsFar far) =
        let taken = m.kept.here.sound.processed_taken far.processed far.is_processed in
        Far (number_of iss far.processed) (was-processed x y others m far.processed far.is_processed)
        (far-before iss count far.processed n others.fits.iss some
        (omega (arith, taken, m.kept.here.sound.greatest_sent, frames-length m.there.frames, few-logged y others)) far.far is)
    needs-none (ToldBy zero vector whole low high done) = cc vector
    needs-none (ToldBy (suc place) vector whole low high done) =
        WasTold
        (elim (frame_in view.frames (suc place)) [
          | inl none ↦ (let silent : (frame_at view.frames (suc place)).has_vector ≡ false = ap (λ (f : MarkFrame). f.has_vector) none in cc (silent, vector))
          | inr inside ↦
              (let entry = some-at x.log place (omega (arith, inside.1, frames-length m.here.frames)) in
              told-in place entry.0 entry.1 vector whole low high done)
        ])

  pub told : (n : ℕ) → n < 2 ^ 48 → distance (half_of w side).end.marks.isr n < distance (half_of w side).end.marks.isr (floor_of (half_of w side).end)
      → NeedsNoReport w side n
  told n small below = by view.first refl where
    by : (first : ℕ) → view.first ≡ first → NeedsNoReport w side n
    by zero none =
        let unset = m.here.unset none in
        absurd (omega (arith, unset.0, unset.1, below))
    by (suc first) is =
        let some : 1 ≤ view.first = omega (arith, is) in
        let are = m.here.set some in
        let count =
        count-of iss view.first view.floor n (end_of x).marks.isr (floor_of (end_of x)) others.fits.iss some m.kept.here.sound.floor_above are.floor_early small
        (m.here.first some) are.floor_is below in
        needs-none n (view.first + distance (end_of x).marks.isr n) count.0 (omega (arith, some))
        (m.kept.here.settled (view.first + distance (end_of x).marks.isr n) (omega (arith, some)) (omega arith) count.1)
