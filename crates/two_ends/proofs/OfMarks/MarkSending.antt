-- What is looked up, and what goes out, is moves of the side too.
use Rattle.std.proofs.Common.{◌≡◌, ◌≢◌, inl, inr, refl, ap, sym, ◌∙◌, subst, ℕ, suc, ◌+◌, ◌^◌, ◌<◌, ◌≤◌, ◌&&◌, Bool, true, false, List, [], ◌∷◌, ◌++◌, Option, Some, None, Ok, length, length-append, map, arith}
use Rattle.std.proofs.lemmas.List.{append-nil, length-map}
use Rattle.std.proofs.lemmas.List.Elements.{All-append}
use Rattle.std.proofs.lemmas.Option.{same_Some}
use Rattle.std.specs.List.{All, Contains}
use Rattle.ack_vectors.proofs.Records.{newest_whole-there, recorded-there}
use Rattle.ack_vectors.specs.Kept.{ReceivedState as KeptNumbers, acked, newest_whole, raised_by}
use Rattle.ack_vectors.specs.Vector.{is_whole_under}
use Rattle.ack_vectors.specs.declared.received.VectorRecord.{VectorRecord}
use Rattle.ack_vectors.specs.declared.room.Vectors.{Vectors}
use Rattle.dccp_endpoint.proofs.OwnPackets.{vector_parts}
use Rattle.dccp_endpoint.specs.Causes.{HasFrame, IsLooking, LooksNowhere, Looks, IsSending, Rests, Acks, Others, Refuses, Says, SaysAll, WasTaken, vector_of}
use Rattle.dccp_endpoint.specs.Drafts.{Draft}
use Rattle.dccp_endpoint.specs.Effects.{Effect, Transmission, Silent, Next, end_after, greatest_by, heard_by, is_acking_sent, received_by, rows_by, told_by}
use Rattle.dccp_endpoint.specs.End.{EndState, floor_of, is_connected, is_live}
use Rattle.dccp_endpoint.specs.Heeding.{DueConfirm}
use Rattle.dccp_endpoint.specs.Incoming.{Incoming}
use Rattle.dccp_endpoint.specs.Reporting.{is_acking, looked_by, recorded_by, sends_vectors}
use Rattle.dccp_endpoint.specs.Speaking.{change_items, confirm_items}
use Rattle.dccp_endpoint.specs.Steps.{next_number}
use Rattle.dccp_endpoint.specs.Turns.{Key}
use Rattle.dccp_options.specs.Written.{Item, entries_at}
use Rattle.dccp_options.specs.Vectors.{ack_vectors}
use Rattle.dccp_packets.specs.Grammar.{packet_type}
use Rattle.dccp_packets.specs.Kinds.{ack_of}
use Rattle.dccp_packets.specs.declared.header.PacketType.{PacketType}
use Rattle.dccp_packets.specs.declared.header.PacketType.TheVariants as types
use Rattle.dccp_states.specs.declared.phase.Phase.{Phase}
use Rattle.dccp_states.specs.declared.phase.Phase.TheVariants as phases
use Rattle.two_ends.proofs.OfMarks.MarkReaching.{joined}
use Rattle.two_ends.proofs.OfMarks.MarkSets.{number_fits, raised_are}
use Rattle.two_ends.proofs.OfMarks.MarkSteps.{Kept}
use Rattle.two_ends.specs.MarkMoves.{MarkMoves, ack_frame, other_frame, with_floor, with_sent_frame}
use Rattle.two_ends.specs.MarkMoves.MarkMove.{Acks as AcksFrame, Raises, Sends}
use Rattle.two_ends.specs.MarkMoves.MarkMoves.{Done, Next as NextMove}
use Rattle.two_ends.specs.MarkSets.{IsMarked}
use Rattle.two_ends.specs.MarkView.{MarkFrame, MarkSide, frame_at}
use Rattle.run_list.specs.MarkedSet.{MarkedSet, has, raised as raised_set}
use Rattle.seq_circle.specs.Circle.{residue}
use Rattle.seq_circle.specs.Counts.{number_of}
use Rattle.two_ends.specs.World.{newly_processed}
use Rattle.two_ends.proofs.OfWorlds.Acting.{Act, acted, config_of, end_of, logged_by, processed_by}
use Rattle.two_ends.proofs.OfFeatures.FewOptions.{written-kinds}
use Rattle.two_ends.proofs.OfWorlds.ReadBack.{ack-kept}
use Rattle.two_ends.proofs.OfWorlds.Logged.{Logged}
use Rattle.two_ends.proofs.OfMarks.MarkHearing.{IsTaking}
use Rattle.two_ends.proofs.OfWorlds.Numbering.{IsOrdered, came-logged, few-logged}
use Rattle.two_ends.proofs.OfMarks.Shown.{IsPacketOf, IsShown, moves-keep, same-counts, some-first}
use Rattle.two_ends.proofs.OfMarks.Vectors.{AreFrames, IsFrame, IsRecorded, frame-last, frame-of, frames-append, frames-length, recorded-before, vectors_of, vectors-written}

acking-no-reset : (t : PacketType) → is_acking t ≡ true → t ≢ types.Reset
acking-no-reset t is reset =
    let none : is_acking t ≡ false = ap is_acking reset in
    cc (is, none)

connected-live : (ph : Phase) → is_connected ph ≡ true → is_live ph ≡ true
connected-live phases.PartOpen is = refl
connected-live phases.Open is = refl
connected-live _ is = cc is

number-next : (iss n : ℕ) → 1 ≤ n → residue (number_of iss n + 1) ≡ number_of iss (n + 1)
number-next iss n some = omega arith

recorded-set : (b : Bool) (setting : Vectors) (kept : KeptNumbers) (number ack : ℕ) → (recorded_by b setting kept number ack).set ≡ kept.set
recorded-set true setting kept number ack = refl
recorded-set false setting kept number ack = refl

module _ (act : Act) (own : IsOrdered act.side) (peer_ordered : IsOrdered act.peer) (view peer : MarkSide) (kept : Kept view peer)
    (here : IsShown act.side act.peer view) (there : IsShown act.peer act.side peer) where
  abbrev e : EndState
  e = end_of act.side

  abbrev f : Effect
  f = act.effect

  abbrev iss : ℕ
  iss = (config_of act.peer).iss

  abbrev own_iss : ℕ
  own_iss = (config_of act.side).iss

  abbrev setting : Vectors
  setting = (config_of act.side).vectors

  few : length act.peer.log < 2 ^ 47
  few = few-logged act.peer peer_ordered

  own-frames : length view.frames ≡ length act.side.log
  own-frames = frames-length here.frames

  -- a record that is looked up: the floor rises after what its vector told
  module _ (old : KeptNumbers) (t : IsTaking act view peer old) (a : Incoming) (was : WasTaken e act.given f.hearing a) (acking : is_acking a.kind ≡ true)
      (number : ℕ) (acks : a.ack ≡ Some number) (r : VectorRecord) (found : newest_whole number old.records ≡ Some r) where
    abbrev its : IsRecorded own_iss iss view.frames r
    its = here.records r (t.records r (newest_whole-there number old.records r found).0)

    abbrev place : ℕ
    place = suc its.place

    record Answered : Type 0 where
      count : ℕ
      is_ack : (frame_at peer.frames count).is_ack ≡ true
      acknowledged : (frame_at peer.frames count).acknowledged ≡ place

    answered : Answered
    answered =
        let from = came-logged act peer_ordered a was.came (acking-no-reset a.kind acking) in
        let frame = frame-of from.place from.logged there.frames from.is_there in
        let is_ack : (frame_at peer.frames (suc from.place)).is_ack ≡ true = frame.acks ∙ ap is_acking (sym from.read.type) ∙ acking in
        let count : ℕ = (frame_at peer.frames (suc from.place)).acknowledged in
        let read : Some number ≡ Some (number_of own_iss count) =
        sym acks ∙ from.read.ack
        ∙ ack-kept from.logged.draft.kind (number_of own_iss count) frame.long (frame.acknowledges is_ack) (number_fits own_iss count) in
        let same : number ≡ number_of own_iss count = same_Some number (number_of own_iss count) read in
        record {
          count = suc from.place;
          is_ack = is_ack;
          acknowledged =
              same-counts own_iss count place own.fits.iss (frame.some is_ack) (omega (arith, frame.early is_ack)) (omega arith)
              (omega (arith, its.there, own-frames, few-logged act.side own))
              (sym same ∙ sym (newest_whole-there number old.records r found).1 ∙ its.number);
        }

    abbrev told : ℕ
    told = (frame_at view.frames place).acknowledged

    first-some : 1 ≤ t.after.first
    first-some = t.some was.first a.number _ was.is_heard

    raises : MarkMoves peer.frames t.after (with_floor t.after (told + 1))
    raises =
        let at : MarkFrame → Type 0 = λ (g : MarkFrame). MarkMoves peer.frames t.after (with_floor t.after (g.acknowledged + 1)) in
        let same : frame_at t.after.frames place ≡ frame_at view.frames place = ap (λ (fs : List MarkFrame). frame_at fs place) t.frames in
        let to : MarkSide = with_floor t.after ((frame_at t.after.frames place).acknowledged + 1) in
        subst at same
        (NextMove t.after to to
        (Raises answered.count place first-some answered.is_ack answered.acknowledged (ap (λ (g : MarkFrame). g.has_vector) same ∙ its.has_vector)
        (ap (λ (g : MarkFrame). g.is_whole) same ∙ its.is_whole ∙ (newest_whole-there number old.records r found).2))
        (Done to))

    raised-taking : IsTaking act view peer (raised_by old (Some r))
    raised-taking =
        record {
          after = with_floor t.after (told + 1);
          moves = joined peer.frames view t.after (with_floor t.after (told + 1)) t.moves raises;
          frames = t.frames;
          heard = t.heard;
          first = t.first;
          unset = λ none. absurd (omega (arith, none, first-some));
          set =
              λ some. subst (λ (n : ℕ). IsMarked iss (raised_set old.set n) (with_floor t.after (told + 1)))
              (sym (number-next iss told its.some) ∙ ap (λ (n : ℕ). residue (n + 1)) (sym its.ack))
              (raised_are iss old.set t.after (t.set some) (told + 1) (omega arith) (omega (arith, its.early)));
          closed = t.closed;
          numbers = t.numbers;
          processed = t.processed;
          newly = t.newly;
          marked = t.marked;
          packets = t.packets;
          records = t.records;
          some = t.some;
        }

  looks-by : (old : KeptNumbers) → IsTaking act view peer old → (looked : Option ℕ) → IsLooking e act.given f.hearing looked
      → IsTaking act view peer (looked_by old looked)
  looks-by old t _ LooksNowhere = t
  looks-by old t _ (Looks number a was acking acks) = by (newest_whole number old.records) refl where
    by : (found : Option VectorRecord) → newest_whole number old.records ≡ found → IsTaking act view peer (acked old number)
    by None none = subst (IsTaking act view peer) (sym (ap (raised_by old) none)) t
    by (Some r) found = subst (IsTaking act view peer) (sym (ap (raised_by old) found)) (raised-taking old t a was acking number acks r found)

  pub looks : IsTaking act view peer (heard_by e.received f.hearing) → IsTaking act view peer (told_by e.received f)
  looks t = looks-by (heard_by e.received f.hearing) t f.looked_up act.because.looks

  -- what goes out, once all was taken
  module _ (t : IsTaking act view peer (told_by e.received f)) where
    abbrev kept-numbers : KeptNumbers
    kept-numbers = told_by e.received f

    abbrev greatest : ℕ
    greatest = greatest_by e.marks.gsr f.hearing

    abbrev has-vector : Bool
    has-vector = sends_vectors (rows_by e.rows f)

    abbrev due : List DueConfirm
    due = act.because.turns.confirms

    abbrev keys : List Key
    keys = act.because.turns.keys

    processed-length : length (processed_by act.side.half act.arrived f) ≡ length t.after.processed
    processed-length =
        ap (λ (ns : List ℕ). length (act.side.half.processed ++ ns)) t.newly ∙ ap length t.processed ∙ length-map t.after.processed (number_of iss)

    floor-kept : floor_of (end_after e f) ≡ kept-numbers.set.floor
    floor-kept =
        ap (λ (s : MarkedSet). s.floor) (recorded-set (is_acking_sent f.sending && has-vector) setting kept-numbers (next_number e) greatest)

    -- the frames then, and the records
    pub record IsSent (s : Transmission) : Type 0 where
      pub frames : List MarkFrame
      pub moves : MarkMoves peer.frames t.after (record t.after { frames = frames })
      are : AreFrames iss setting (act.side.log ++ logged_by (length (processed_by act.side.half act.arrived f)) (floor_of (end_after e f)) s) frames
      records : (r : VectorRecord) → Contains (recorded_by (is_acking_sent s && has-vector) setting kept-numbers (next_number e) greatest).records r
          → IsRecorded own_iss iss frames r

    records-now : (r : VectorRecord) → Contains kept-numbers.records r → IsRecorded own_iss iss t.after.frames r
    records-now r has_it = subst (λ (fs : List MarkFrame). IsRecorded own_iss iss fs r) (sym t.frames) (here.records r (t.records r has_it))

    frames-now : AreFrames iss setting act.side.log t.after.frames
    frames-now = subst (λ (fs : List MarkFrame). AreFrames iss setting act.side.log fs) (sym t.frames) here.frames

    none-sent : (s : Transmission) → logged_by (length (processed_by act.side.half act.arrived f)) (floor_of (end_after e f)) s ≡ [] → is_acking_sent s ≡ false
        → IsSent s
    none-sent s none quiet =
        record {
          frames = t.after.frames;
          moves = Done t.after;
          are =
              subst (λ (log : List Logged). AreFrames iss setting log t.after.frames)
              (sym (ap (λ (more : List Logged). act.side.log ++ more) none ∙ append-nil act.side.log)) frames-now;
          records =
              λ r has_it. records-now r
              (subst (λ (b : Bool). Contains (recorded_by (b && has-vector) setting kept-numbers (next_number e) greatest).records r) quiet has_it);
        }

    module _ (packet : Draft) (framed : HasFrame (Next packet))
        (options : packet.options ≡ vector_of e f packet.kind ++ (confirm_items due ++ change_items (rows_by e.rows f) keys)) where
      abbrev logged : Logged
      logged = record { draft = packet; processed = length (processed_by act.side.half act.arrived f); floor = floor_of (end_after e f) }

      vectors : vectors_of logged ≡ vector_parts (is_acking (packet_type packet.kind) && has-vector) setting kept-numbers.set greatest
      vectors =
          ap (λ (items : List Item). ack_vectors (map Ok (entries_at 0 items))) options
          ∙ vectors-written (is_acking (packet_type packet.kind) && has-vector) setting kept-numbers.set greatest
          (confirm_items due ++ change_items (rows_by e.rows f) keys) (written-kinds due (rows_by e.rows f) keys)

      -- a packet that is no Ack
      other-sent : is_acking (packet_type packet.kind) ≡ false → IsSent (Next packet)
      other-sent other =
          record {
            frames = (with_sent_frame t.after (other_frame t.after 0)).frames;
            moves =
                (let after : MarkSide = with_sent_frame t.after (other_frame t.after 0) in
                NextMove t.after after after (Sends 0) (Done after));
            are =
                frames-append frames-now
                (record {
                  long = framed.is_long;
                  acks = sym other;
                  acknowledges = λ is. cc is;
                  some = λ is. cc is;
                  early = λ is. cc is;
                  vector_acks = λ is. cc is;
                  processed = sym processed-length;
                  set = kept-numbers.set;
                  vectors = vectors ∙ ap (λ (b : Bool). vector_parts (b && has-vector) setting kept-numbers.set greatest) other;
                  floor = λ is. cc is;
                  marks = λ is. cc is;
                  whole = λ is. cc is;
                });
            records =
                λ r has_it. recorded-before own_iss iss t.after.frames (other_frame t.after 0) r
                (records-now r (subst
                (λ (b : Bool). Contains (recorded_by (b && has-vector) setting kept-numbers (next_number e) greatest).records r) other has_it));
          }

      -- an Ack or a DataAck
      module _ (acking : is_acking (packet_type packet.kind) ≡ true) (ack : ack_of packet.kind ≡ Some greatest) (connected : is_connected f.phase ≡ true) where
        live : is_live f.phase ≡ true
        live = connected-live f.phase connected

        some : 1 ≤ t.after.greatest
        some = t.heard.lives live

        begun-some : 1 ≤ t.after.first
        begun-some = some-first t.after.first t.after.greatest (moves-keep peer t.moves kept).here.sound.unheard_greatest some

        greatest-is : greatest ≡ number_of iss t.after.greatest
        greatest-is = t.heard.tied some

        set-is : IsMarked iss kept-numbers.set t.after
        set-is = t.set begun-some

        not-closed : t.after.closed ≡ false
        not-closed = by t.after.closed refl where
          by : (b : Bool) → t.after.closed ≡ b → b ≡ false
          by true is = (let dead = ap is_live (t.closed is).1 in let lives = live in cc (dead, lives))
          by false is = refl

        abbrev whole : Bool
        whole = is_whole_under (has kept-numbers.set.numbers) kept-numbers.set.floor (number_of iss t.after.greatest) setting

        abbrev frame : MarkFrame
        frame = ack_frame t.after has-vector whole

        its-frame : IsFrame iss setting logged frame
        its-frame =
            record {
              long = framed.is_long;
              acks = sym acking;
              acknowledges = λ is. ack ∙ ap Some greatest-is;
              some = λ is. some;
              early = λ is. omega (arith, t.heard.within, few);
              vector_acks = λ is. refl;
              processed = sym processed-length;
              set = kept-numbers.set;
              vectors =
                  vectors ∙ ap (λ (b : Bool). vector_parts (b && has-vector) setting kept-numbers.set greatest) acking
                  ∙ ap (vector_parts has-vector setting kept-numbers.set) greatest-is;
              floor = λ is. sym floor-kept;
              marks = λ is. set-is;
              whole = λ is. refl;
            }

        its-record : (r : VectorRecord) → has-vector ≡ true
            → r ≡ record {
              number = next_number e;
              ack = greatest;
              whole =
                  is_whole_under (has kept-numbers.set.numbers) kept-numbers.set.floor greatest setting;
            }
            → IsRecorded own_iss iss (with_sent_frame t.after frame).frames r
        its-record r vector is =
            let last : frame_at (with_sent_frame t.after frame).frames (suc (length t.after.frames)) ≡ frame = frame-last t.after.frames frame in
            let size : length t.after.frames ≡ length act.side.log = frames-length frames-now in
            record {
              place = length t.after.frames;
              there = omega (arith, length-append t.after.frames (frame ∷ []));
              number =
                  ap (λ (x : VectorRecord). x.number) is
                  ∙ omega (arith, own.greatest, size);
              has_vector = ap (λ (g : MarkFrame). g.has_vector) last ∙ vector;
              is_whole =
                  ap (λ (g : MarkFrame). g.is_whole) last
                  ∙ ap (λ (n : ℕ). is_whole_under (has kept-numbers.set.numbers) kept-numbers.set.floor n setting) (sym greatest-is)
                  ∙ ap (λ (x : VectorRecord). x.whole) (sym is);
              ack = ap (λ (x : VectorRecord). x.ack) is ∙ greatest-is ∙ ap (λ (g : MarkFrame). number_of iss g.acknowledged) (sym last);
              some = subst (λ (g : MarkFrame). 1 ≤ g.acknowledged) (sym last) some;
              early = subst (λ (g : MarkFrame). g.acknowledged < 2 ^ 47) (sym last) (omega (arith, t.heard.within, few));
            }

        records-by : (b : Bool) → has-vector ≡ b → (r : VectorRecord) → Contains (recorded_by b setting kept-numbers (next_number e) greatest).records r
            → IsRecorded own_iss iss (with_sent_frame t.after frame).frames r
        records-by false vector r has_it = recorded-before own_iss iss t.after.frames frame r (records-now r has_it)
        records-by true vector r has_it =
            elim (recorded-there kept-numbers (next_number e) greatest
            (is_whole_under (has kept-numbers.set.numbers) kept-numbers.set.floor greatest setting) r has_it) [
              | inl before ↦ recorded-before own_iss iss t.after.frames frame r (records-now r before)
              | inr new ↦ its-record r vector new
            ]

        ack-sent : IsSent (Next packet)
        ack-sent =
            record {
              frames = (with_sent_frame t.after frame).frames;
              moves = NextMove t.after (with_sent_frame t.after frame) (with_sent_frame t.after frame) (AcksFrame has-vector whole begun-some not-closed)
                  (Done (with_sent_frame t.after frame));
              are = frames-append frames-now its-frame;
              records =
                  λ r has_it. records-by has-vector refl r
                  (subst (λ (b : Bool). Contains (recorded_by (b && has-vector) setting kept-numbers (next_number e) greatest).records r) acking has_it);
            }

    pub sends-by : (s : Transmission) → IsSending e act.given f s → Says e f due keys s → HasFrame s → IsSent s
    sends-by _ Rests says framed = none-sent Silent refl refl
    sends-by _ (Refuses a code came is unheard turns unmoved) says framed = none-sent _ refl refl
    sends-by _ (Acks packet acking ack connected owed unacked) (SaysAll _ options answers) framed = ack-sent packet framed options acking ack connected
    sends-by _ (Others packet other ack connected) (SaysAll _ options answers) framed = other-sent packet framed options other

    abbrev pub done : IsSent f.sending
    done = sends-by f.sending act.because.sends act.because.says act.because.framed

    abbrev pub last : MarkSide
    last = record t.after { frames = done.frames }

    abbrev added : List ℕ
    added = newly_processed e act.arrived (end_after e f)

    pub shown : IsShown (acted act) act.peer last
    shown =
        let keeps : (received_by e f).set ≡ kept-numbers.set =
        recorded-set (is_acking_sent f.sending && has-vector) setting kept-numbers (next_number e) greatest in
        record {
          heard = t.heard;
          first = t.first;
          unset = λ none. ((t.unset none).0, ap (λ (s : MarkedSet). s.floor) keeps ∙ (t.unset none).1);
          set = λ some. subst (λ (s : MarkedSet). IsMarked iss s last) (sym keeps) (t.set some);
          closed = t.closed;
          processed = ap (λ (ns : List ℕ). act.side.half.processed ++ ns) t.newly ∙ t.processed;
          marked = omega (arith, t.marked, here.marked, ap length t.newly, length-append act.side.half.processed added);
          packets =
              All-append (IsPacketOf iss act.peer.log) act.side.half.processed added here.packets
              (subst (All (IsPacketOf iss act.peer.log)) (sym t.newly) t.packets);
          frames = done.are;
          records = done.records;
        }
