-- A side of the world as a side by what it marks and reports, by counts of packets.
use Rattle.std.proofs.Common.{◌≡◌, ◌≢◌, refl, ap, sym, ◌∙◌, ℕ, zero, suc, ◌+◌, ◌^◌, ◌<◌, ◌≤◌, ◌==◌, ◌||◌, max, Bool, true, false, List, [], ◌∷◌, Some, slice_get, length, map, arith}
use Rattle.std.proofs.lemmas.Bool.{eqb-true, ne_eqb}
use Rattle.std.proofs.lemmas.Map.Keys.{IsDistinct-from_apart}
use Rattle.std.proofs.lemmas.Map.Steps.{length-le_from_distinct_below}
use Rattle.std.specs.List.{All, Contains, list_any}
use Rattle.std.specs.Prelude.{slice_index_or}
use Rattle.ack_vectors.specs.declared.received.VectorRecord.{VectorRecord}
use Rattle.dccp_endpoint.specs.End.{floor_of}
use Rattle.dccp_packets.specs.Grammar.{packet_type}
use Rattle.dccp_packets.specs.declared.header.PacketType.TheVariants as types
use Rattle.dccp_states.specs.declared.phase.Phase.TheVariants as phases
use Rattle.two_ends.proofs.OfMarks.MarkFacts.{IsListed}
use Rattle.two_ends.proofs.OfMarks.MarkSteps.{Kept, move_keeps}
use Rattle.two_ends.specs.MarkFacts.{AreSoundNumbers}
use Rattle.two_ends.specs.MarkMoves.{MarkMoves}
use Rattle.two_ends.specs.MarkMoves.MarkMoves.{Done, Next}
use Rattle.two_ends.specs.MarkSets.{IsMarked}
use Rattle.two_ends.specs.MarkView.{MarkFrame, MarkSide}
use Rattle.seq_circle.specs.Circle.{residue, later_of}
use Rattle.seq_circle.specs.Counts.{number_of}
use Rattle.two_ends.proofs.OfWorlds.Acting.{Party, config_of, end_of}
use Rattle.two_ends.proofs.OfWorlds.HeardTo.{IsHeardTo}
use Rattle.two_ends.proofs.OfWorlds.Logged.{Logged}
use Rattle.two_ends.proofs.OfMarks.Vectors.{AreFrames, IsRecorded}

-- The number is that of a logged packet that is no Reset.
pub record IsPacketOf (iss : ℕ) (log : List Logged) (number : ℕ) : Type 0 where
  pub place : ℕ
  pub logged : Logged
  pub is_there : slice_get log place ≡ Some logged
  pub is_numbered : number ≡ residue (iss + place)
  pub is_no_reset : packet_type logged.draft.kind ≢ types.Reset

-- The view shows what x has of its peer's packets and what its own packets report.
pub record IsShown (x y : Party) (view : MarkSide) : Type 0 where
  pub heard : IsHeardTo (config_of y).iss (length y.log) view.greatest (end_of x)
  pub first : 1 ≤ view.first → (end_of x).marks.isr ≡ number_of (config_of y).iss view.first
  pub unset : view.first ≡ 0 → ((end_of x).marks.isr ≡ 0) × (floor_of (end_of x) ≡ 0)
  pub set : 1 ≤ view.first → IsMarked (config_of y).iss (end_of x).received.set view
  pub closed : view.closed ≡ true → (1 ≤ view.greatest) × ((end_of x).phase ≡ phases.Closed)
  pub processed : x.half.processed ≡ map (number_of (config_of y).iss) view.processed
  pub marked : (end_of x).marked ≡ length x.half.processed
  pub packets : All (IsPacketOf (config_of y).iss y.log) x.half.processed
  pub frames : AreFrames (config_of y).iss (config_of x).vectors x.log view.frames
  pub records : (r : VectorRecord) → Contains (end_of x).received.records r → IsRecorded (config_of x).iss (config_of y).iss view.frames r

-- moves keep the facts
pub moves-keep : (peer : MarkSide) {side after : MarkSide} → MarkMoves peer.frames side after → Kept side peer → Kept after peer
moves-keep peer (Done _) kept = kept
moves-keep peer (Next before middle after move moves) kept = moves-keep peer moves (move_keeps before peer middle move kept)

-- numbers decide counts
pub same-counts : (iss one other : ℕ) → iss < 2 ^ 48 → 1 ≤ one → one ≤ 2 ^ 47 → 1 ≤ other → other ≤ 2 ^ 47 → number_of iss one ≡ number_of iss other
    → one ≡ other
same-counts iss one other fits some early others_some others_early same = omega (arith, same)

-- the number at a place is that of the count after it
pub next-number : (iss place : ℕ) → residue (iss + place) ≡ number_of iss (suc place)
next-number iss place = omega arith

-- the later of two numbers has the greater count
pub later-greatest : (iss greatest count gsr number : ℕ) → iss < 2 ^ 48 → 1 ≤ greatest → greatest ≤ 2 ^ 47 → 1 ≤ count → count ≤ 2 ^ 47
    → gsr ≡ number_of iss greatest → number ≡ number_of iss count → later_of gsr number ≡ number_of iss (max greatest count)
later-greatest iss greatest count gsr number fits some early others_some others_early gsr_is number_is = grind arith

-- a side that took a packet has a first one
pub some-first : (first greatest : ℕ) → (first ≡ 0 → greatest ≡ 0) → 1 ≤ greatest → 1 ≤ first
some-first zero greatest none some = absurd (omega (arith, none refl, some))
some-first (suc first) greatest none some = omega arith

-- No more packets are processed than there are.

-- what is at a place does not depend on the default
pub or-any : (ns : List ℕ) (i d e : ℕ) → i < length ns → slice_index_or ns i d ≡ slice_index_or ns i e
or-any [] i d e below = absurd (omega (arith, below))
or-any (n ∷ ns) zero d e below = refl
or-any (n ∷ ns) (suc i) d e below = or-any ns i d e (omega (arith, below))

member-at : (q : ℕ) (ns : List ℕ) → list_any (λ n. q == n) ns ≡ true → (i : ℕ) × (i < length ns) × (slice_index_or ns i 0 ≡ q)
member-at q [] is = cc is
member-at q (n ∷ ns) is = by (q == n) refl is (λ later. member-at q ns later) where
  by : (same : Bool) → (q == n) ≡ same → (same || list_any (λ n. q == n) ns) ≡ true
      → (list_any (λ n. q == n) ns ≡ true → (i : ℕ) × (i < length ns) × (slice_index_or ns i 0 ≡ q))
      → (i : ℕ) × (i < length (n ∷ ns)) × (slice_index_or (n ∷ ns) i 0 ≡ q)
  by true same is again = (0, omega arith, sym (eqb-true q n same))
  by false same is again =
      let later = again is in
      (suc later.0, omega (arith, later.1), later.2)

module _ (side : MarkSide) (there : List MarkFrame) (sound : AreSoundNumbers side there) (listed : IsListed side.processed side.place) where
  pub place-at : (i : ℕ) → i < length side.processed → side.place (slice_index_or side.processed i 0) ≡ suc i
  place-at i below = listed.place_of (suc i) (omega arith) (omega (arith, below))

  processed-apart : (i j d : ℕ) → i < j → j < length side.processed → (slice_index_or side.processed i d == slice_index_or side.processed j d) ≡ false
  processed-apart i j d before below =
      ne_eqb (slice_index_or side.processed i d) (slice_index_or side.processed j d)
      (λ same.
      let one = or-any side.processed i d 0 (omega (arith, before, below)) in
      let other = or-any side.processed j d 0 below in
      let places : suc i ≡ suc j =
      sym (place-at i (omega (arith, before, below))) ∙ ap side.place (sym one ∙ same ∙ other) ∙ place-at j below in
      omega (arith, places, before))

  processed-below : (q : ℕ) → list_any (λ n. q == n) side.processed ≡ true → q < suc (length there)
  processed-below q is =
      let at = member-at q side.processed is in
      let place : side.place q ≡ suc at.0 = ap side.place (sym at.2) ∙ place-at at.0 at.1 in
      let taken = sound.processed_taken q (omega (arith, place)) in
      omega (arith, taken, sound.greatest_sent)

  pub few-processed : length side.processed ≤ suc (length there)
  few-processed =
      length-le_from_distinct_below side.processed (suc (length there))
      (IsDistinct-from_apart (λ a b. a == b) side.processed processed-apart) processed-below
