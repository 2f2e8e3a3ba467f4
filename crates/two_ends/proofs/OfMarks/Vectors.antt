-- The Ack Vector of a packet that was logged, and the frame of its sender's view that reports the same.
use Rattle.std.proofs.Common.{◌≡◌, refl, ap, sym, ◌∙◌, subst, ℕ, zero, suc, ◌+◌, ◌^◌, ◌<◌, ◌≤◌, Bool, true, false, if◌then◌else◌, List, [], ◌∷◌, ◌++◌, Some, Ok, slice_get, length, map, arith}
use Rattle.std.proofs.lemmas.List.Elements.{All-head, All-tail}
use Rattle.std.proofs.lemmas.Option.{same_Some}
use Rattle.std.specs.List.{All}
use Rattle.ack_vectors.specs.Vector.{is_whole_under}
use Rattle.ack_vectors.specs.declared.received.VectorRecord.{VectorRecord}
use Rattle.ack_vectors.specs.declared.room.Vectors.{Vectors}
use Rattle.dccp_endpoint.proofs.OwnPackets.{parts-are, vector_parts}
use Rattle.dccp_endpoint.specs.Heeding.{is_of_negotiation}
use Rattle.dccp_endpoint.specs.Reporting.{is_acking, vector_item, vector_items}
use Rattle.dccp_options.specs.Vectors.{ack_vectors, is_ack_vector}
use Rattle.dccp_options.specs.Written.{Item, entries_at, spelled}
use Rattle.dccp_packets.specs.Grammar.{has_forms, packet_type}
use Rattle.dccp_packets.specs.Kinds.{ack_of}
use Rattle.two_ends.specs.MarkSets.{AreMarks}
use Rattle.two_ends.specs.MarkView.{MarkFrame, frame_at, frames_with}
use Rattle.run_list.specs.MarkedSet.{MarkedSet, has}
use Rattle.seq_circle.specs.Counts.{number_of}
use Rattle.two_ends.proofs.OfFeatures.FewOptions.{IsNegotiating}
use Rattle.two_ends.proofs.OfWorlds.Logged.{Logged}

-- the Ack Vectors of a logged packet
abbrev pub vectors_of : Logged → List (List ℕ)
vectors_of l = ack_vectors (map Ok (entries_at 0 l.draft.options))

-- an option of the negotiation is no Ack Vector
no-vector : (kind : ℕ) → is_of_negotiation kind ≡ true → is_ack_vector kind ≡ false
no-vector kind is = grind arith

no-vectors : (place : ℕ) (items : List Item) → All IsNegotiating items → ack_vectors (map Ok (entries_at place items)) ≡ []
no-vectors place [] all = refl
no-vectors place (item ∷ items) all =
    by (is_ack_vector item.kind) (no-vector item.kind (All-head IsNegotiating item items all))
    (no-vectors (place + length (spelled item.mandatory item.kind item.body)) items (All-tail IsNegotiating item items all))
  where
    later : List (List ℕ)
    later = ack_vectors (map Ok (entries_at (place + length (spelled item.mandatory item.kind item.body)) items))

    by : (is : Bool) → is ≡ false → later ≡ [] → (if is then item.body ∷ [] else []) ++ later ≡ []
    by true vector none = cc vector
    by false vector none = none

-- The only Ack Vectors are those that are in front.
parts-written : (parts : List (List ℕ)) (place : ℕ) (rest : List Item) → All IsNegotiating rest
    → ack_vectors (map Ok (entries_at place (map vector_item parts ++ rest))) ≡ parts
parts-written [] place rest all = no-vectors place rest all
parts-written (part ∷ parts) place rest all =
    ap (λ (more : List (List ℕ)). part ∷ more) (parts-written parts (place + length (spelled false 38 part)) rest all)

-- the vectors that are read are those written
pub vectors-written : (has_vector : Bool) (setting : Vectors) (set : MarkedSet) (ack : ℕ) (rest : List Item) → All IsNegotiating rest
    → ack_vectors (map Ok (entries_at 0 (vector_items has_vector setting set ack ++ rest))) ≡ vector_parts has_vector setting set ack
vectors-written has_vector setting set ack rest all =
    ap (λ (front : List Item). ack_vectors (map Ok (entries_at 0 (front ++ rest)))) (parts-are has_vector setting set ack)
    ∙ parts-written (vector_parts has_vector setting set ack) 0 rest all

-- A frame of the view reports what the logged packet does; the peer's packets are numbered from here, and this is how many options the sender's
-- vectors have.
pub record IsFrame (iss : ℕ) (setting : Vectors) (l : Logged) (frame : MarkFrame) : Type 0 where
  pub long : has_forms true l.draft.kind ≡ true
  pub acks : frame.is_ack ≡ is_acking (packet_type l.draft.kind)
  pub acknowledges : frame.is_ack ≡ true → ack_of l.draft.kind ≡ Some (number_of iss frame.acknowledged)
  pub some : frame.is_ack ≡ true → 1 ≤ frame.acknowledged
  pub early : frame.is_ack ≡ true → frame.acknowledged < 2 ^ 47
  pub vector_acks : frame.has_vector ≡ true → frame.is_ack ≡ true
  pub processed : frame.processed ≡ l.processed
  -- the set that the vector reports, as it is at the step's end
  pub set : MarkedSet
  pub vectors : vectors_of l ≡ vector_parts frame.has_vector setting set (number_of iss frame.acknowledged)
  pub floor : frame.has_vector ≡ true → set.floor ≡ l.floor
  pub marks : frame.has_vector ≡ true → AreMarks iss set frame.floor frame.says
  pub whole : frame.has_vector ≡ true → frame.is_whole ≡ is_whole_under (has set.numbers) set.floor (number_of iss frame.acknowledged) setting

-- frame by frame
pub data AreFrames (iss : ℕ) (setting : Vectors) : List Logged → List MarkFrame → Type 0 where
  NoneSent : AreFrames iss setting [] []
  OneSent : {l : Logged} {log : List Logged} {frame : MarkFrame} {frames : List MarkFrame} → IsFrame iss setting l frame
      → AreFrames iss setting log frames → AreFrames iss setting (l ∷ log) (frame ∷ frames)

-- a log with one packet more
pub frames-append : {iss : ℕ} {setting : Vectors} {log : List Logged} {frames : List MarkFrame} {l : Logged} {frame : MarkFrame}
    → AreFrames iss setting log frames → IsFrame iss setting l frame → AreFrames iss setting (log ++ l ∷ []) (frames_with frames frame)
frames-append NoneSent is = OneSent is NoneSent
frames-append (OneSent first rest) is = OneSent first (frames-append rest is)

-- one frame for each packet of the log
pub frames-length : {iss : ℕ} {setting : Vectors} {log : List Logged} {frames : List MarkFrame} → AreFrames iss setting log frames
    → length frames ≡ length log
frames-length NoneSent = refl
frames-length (OneSent first rest) = ap suc (frames-length rest)

-- the frame of a place of the log
pub frame-of : {iss : ℕ} {setting : Vectors} {log : List Logged} {frames : List MarkFrame} (place : ℕ) (l : Logged) → AreFrames iss setting log frames
    → slice_get log place ≡ Some l → IsFrame iss setting l (frame_at frames (suc place))
frame-of place l NoneSent there = cc there
frame-of {iss} {setting} zero l (OneSent {frame = frame} first rest) there =
    subst (λ (own : Logged). IsFrame iss setting own frame) (same_Some _ l there) first
frame-of (suc place) l (OneSent first rest) there = frame-of place l rest there

-- a frame more leaves the others, and is the last
pub frame-before : (frames : List MarkFrame) (frame : MarkFrame) (place : ℕ) → place < length frames
    → frame_at (frames_with frames frame) (suc place) ≡ frame_at frames (suc place)
frame-before [] frame place below = absurd (omega (arith, below))
frame-before (first ∷ rest) frame zero below = refl
frame-before (first ∷ rest) frame (suc place) below = frame-before rest frame place (omega (arith, below))

-- the last frame is the one that was added
pub frame-last : (frames : List MarkFrame) (frame : MarkFrame) → frame_at (frames_with frames frame) (suc (length frames)) ≡ frame
frame-last [] frame = refl
frame-last (first ∷ rest) frame = frame-last rest frame

-- A record is of a frame that carries its vector.
pub record IsRecorded (own peer : ℕ) (frames : List MarkFrame) (r : VectorRecord) : Type 0 where
  pub place : ℕ
  pub there : place < length frames
  pub number : r.number ≡ number_of own (suc place)
  pub has_vector : (frame_at frames (suc place)).has_vector ≡ true
  pub is_whole : (frame_at frames (suc place)).is_whole ≡ r.whole
  pub ack : r.ack ≡ number_of peer (frame_at frames (suc place)).acknowledged
  pub some : 1 ≤ (frame_at frames (suc place)).acknowledged
  pub early : (frame_at frames (suc place)).acknowledged < 2 ^ 47

-- a record stays with one frame more
pub recorded-before : (own peer : ℕ) (frames : List MarkFrame) (frame : MarkFrame) (r : VectorRecord) → IsRecorded own peer frames r
    → IsRecorded own peer (frames_with frames frame) r
recorded-before own peer frames frame r is =
    let same : frame_at frames (suc is.place) ≡ frame_at (frames_with frames frame) (suc is.place) = sym (frame-before frames frame is.place is.there) in
    record {
      place = is.place;
      there = omega (arith, is.there, length-with frames frame);
      number = is.number;
      has_vector = subst (λ (f : MarkFrame). f.has_vector ≡ true) same is.has_vector;
      is_whole = subst (λ (f : MarkFrame). f.is_whole ≡ r.whole) same is.is_whole;
      ack = subst (λ (f : MarkFrame). r.ack ≡ number_of peer f.acknowledged) same is.ack;
      some = subst (λ (f : MarkFrame). 1 ≤ f.acknowledged) same is.some;
      early = subst (λ (f : MarkFrame). f.acknowledged < 2 ^ 47) same is.early;
    }
  where
    length-with : (fs : List MarkFrame) (f : MarkFrame) → length (frames_with fs f) ≡ suc (length fs)
    length-with [] f = refl
    length-with (first ∷ rest) f = ap suc (length-with rest f)
