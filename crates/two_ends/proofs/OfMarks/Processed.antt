-- What a side processed is what its view has: the numbers, and the vectors of its frames.
use Rattle.std.proofs.Common.{◌≡◌, refl, ap, sym, ◌∙◌, subst, ℕ, zero, suc, ◌+◌, ◌^◌, ◌<◌, ◌≤◌, ◌==◌, ◌||◌, nat_le, Bool, true, false, List, [], ◌∷◌, length, min, arith}
use Rattle.std.proofs.lemmas.Bool.{eq-eqb, eqb-true, leb-true}
use Rattle.std.proofs.lemmas.List.{get_or-map, get_or-take, length-map, length-take}
use Rattle.std.proofs.lemmas.List.Folds.{list_any_at}
use Rattle.std.specs.List.{Contains}
use Rattle.std.specs.Prelude.{slice_index, slice_index_or, take}
use Rattle.ack_vectors.proofs.ReadBack.{vector-same}
use Rattle.ack_vectors.specs.Vector.{bytes_of_groups, groups, is_whole_under, room_of, set_states, state_told, states_between, vector_under}
use Rattle.ack_vectors.specs.declared.room.Vectors.{Vectors}
use Rattle.two_ends.proofs.OfMarks.MarkSets.{from-counts}
use Rattle.two_ends.specs.MarkView.{MarkFrame, MarkSide, frame_at}
use Rattle.run_list.specs.MarkedSet.{has}
use Rattle.seq_circle.specs.Circle.{IsBefore, distance, is_from}
use Rattle.seq_circle.specs.Counts.{number_of}
use Rattle.two_ends.proofs.OfWorlds.Acting.{Party, config_of}
use Rattle.two_ends.proofs.OfWorlds.Logged.{Logged}
use Rattle.two_ends.proofs.OfMarks.Marking.{IsMarking}
use Rattle.two_ends.proofs.OfWorlds.Numbering.{IsOrdered, few-logged}
use Rattle.two_ends.proofs.OfMarks.Shown.{or-any, place-at, same-counts}
use Rattle.two_ends.proofs.OfMarks.Vectors.{IsFrame, frames-length}

-- where a list has a number
pub has-at : (ns : List ℕ) (i n : ℕ) → i < length ns → slice_index_or ns i 0 ≡ n → has ns n ≡ true
has-at ns i n below is = list_any_at (λ m. m == n) ns i 0 below (eq-eqb (slice_index_or ns i 0) n is)

-- a number of a list is at a place of it
pub at-has : (ns : List ℕ) (n : ℕ) → has ns n ≡ true → (i : ℕ) × (i < length ns) × (slice_index_or ns i 0 ≡ n)
at-has [] n is = cc is
at-has (m ∷ ms) n is = by (m == n) refl is (λ later. at-has ms n later) where
  by : (same : Bool) → (m == n) ≡ same → (same || has ms n) ≡ true
      → (has ms n ≡ true → (i : ℕ) × (i < length ms) × (slice_index_or ms i 0 ≡ n))
      → (i : ℕ) × (i < length (m ∷ ms)) × (slice_index_or (m ∷ ms) i 0 ≡ n)
  by true same is again = (0, omega arith, eqb-true m n same)
  by false same is again =
      let later = again is in
      (suc later.0, omega (arith, later.1), later.2)

-- what an early part of a list has, the list has
pub early-contains : (early : ℕ) (ns : List ℕ) (n : ℕ) → has (take early ns) n ≡ true → Contains ns n
early-contains early ns n is =
    let at = at-has (take early ns) n is in
    let size : length (take early ns) ≡ min early (length ns) = length-take early ns in
    let below : at.0 < length ns = omega (arith, at.1, size) in
    (at.0, below, or-any ns at.0 n 0 below ∙ sym (get_or-take early ns at.0 0 (omega (arith, at.1, size))) ∙ at.2)

-- below its floor a vector reports nothing
states-none : (one other : ℕ → ℕ) (floor ack : ℕ) → is_from floor ack ≡ false → states_between one floor ack ≡ states_between other floor ack
states-none one other floor ack below = rw below refl

-- a count up to another is not after it on the circle
pub not-after : (iss ack count : ℕ) → iss < 2 ^ 48 → 1 ≤ count → count ≤ ack → ack ≤ 2 ^ 47 → IsBefore (number_of iss ack) (number_of iss count) → ⊥
not-after iss ack count fits some below early before = omega (arith, before)

module _ (x y : Party) (others : IsOrdered y) (m : IsMarking x y) where
  abbrev iss : ℕ
  iss = (config_of y).iss

  abbrev setting : Vectors
  setting = (config_of x).vectors

  abbrev view : MarkSide
  view = m.view

  fits : iss < 2 ^ 48
  fits = others.fits.iss

  few : length y.log < 2 ^ 47
  few = few-logged y others

  same-length : length x.half.processed ≡ length view.processed
  same-length = ap length m.here.processed ∙ length-map view.processed (number_of iss)

  -- the count at an index
  abbrev pub count-at : ℕ → ℕ
  count-at i = slice_index_or view.processed i 0

  pub number-at : (i : ℕ) → i < length x.half.processed → slice_index_or x.half.processed i 0 ≡ number_of iss (count-at i)
  number-at i below =
      ap (λ (ns : List ℕ). slice_index_or ns i 0) m.here.processed
      ∙ get_or-map (number_of iss) view.processed i 0 0 (omega (arith, below, same-length))

  pub its-place : (i : ℕ) → i < length x.half.processed → view.place (count-at i) ≡ suc i
  its-place i below = place-at view m.peer.frames m.kept.here.sound m.kept.here.listed i (omega (arith, below, same-length))

  pub record IsCount (count : ℕ) : Type 0 where
    pub some : 1 ≤ count
    pub taken : count ≤ view.greatest
    pub early : count < 2 ^ 47

  pub its-count : (count : ℕ) → 0 < view.place count → IsCount count
  its-count count placed =
      let taken = m.kept.here.sound.processed_taken count placed in
      record {
        some = m.kept.here.sound.processed_some count placed;
        taken = taken;
        early = omega (arith, taken, m.kept.here.sound.greatest_sent, frames-length m.there.frames, few);
      }

  count-of-index : (i : ℕ) → i < length x.half.processed → IsCount (count-at i)
  count-of-index i below = its-count (count-at i) (omega (arith, its-place i below))

  -- numbers decide places
  pub index-is : (i count : ℕ) → i < length x.half.processed → 1 ≤ count → count ≤ 2 ^ 47 → slice_index_or x.half.processed i 0 ≡ number_of iss count
      → view.place count ≡ suc i
  index-is i count below some early is =
      let c = count-of-index i below in
      ap view.place (same-counts iss count (count-at i) fits some early c.some (omega (arith, c.early)) (sym is ∙ number-at i below)) ∙ its-place i below

  pub distinct : (i j : ℕ) → i < length x.half.processed → j < length x.half.processed
      → slice_index x.half.processed i ≡ slice_index x.half.processed j → i ≡ j
  distinct i j one other same =
      let c = count-of-index j other in
      let places : view.place (count-at j) ≡ suc i = index-is i (count-at j) one c.some (omega (arith, c.early)) (same ∙ number-at j other) in
      omega (arith, places, its-place j other)

  -- a count that has a place was processed
  placed-index : (count place : ℕ) → view.place count ≡ suc place
      → (place < length x.half.processed) × (slice_index_or x.half.processed place 0 ≡ number_of iss count)
  placed-index count place is =
      let below = m.kept.here.listed.place_found count (omega (arith, is)) in
      let within : place < length x.half.processed = omega (arith, below, is, same-length) in
      let count_is : count-at place ≡ count =
      sym (ap (λ (n : ℕ). slice_index_or (0 ∷ view.processed) n 0) is) ∙ m.kept.here.listed.at_place count (omega (arith, is)) in
      (within, number-at place within ∙ ap (number_of iss) count_is)

  pub was-processed : (count : ℕ) → 0 < view.place count → Contains x.half.processed (number_of iss count)
  was-processed count placed = by (view.place count) refl placed where
    by : (place : ℕ) → view.place count ≡ place → 0 < place → Contains x.half.processed (number_of iss count)
    by zero is some = absurd (omega (arith, some))
    by (suc place) is some =
        let at = placed-index count place is in
        (place, at.0, or-any x.half.processed place (number_of iss count) 0 at.0 ∙ at.1)

  -- a frame of the side, by the place of its packet
  module _ (place : ℕ) (l : Logged) (its : IsFrame iss setting l (frame_at view.frames (suc place)))
      (vector-there : (frame_at view.frames (suc place)).has_vector ≡ true) where
    abbrev g : MarkFrame
    g = frame_at view.frames (suc place)

    abbrev floor : ℕ
    floor = number_of iss g.floor

    abbrev ack : ℕ
    ack = number_of iss g.acknowledged

    abbrev early-list : List ℕ
    early-list = take l.processed x.half.processed

    is-ack : g.is_ack ≡ true
    is-ack = its.vector_acks vector-there

    few-early : l.processed ≤ length x.half.processed
    few-early = omega (arith, its.processed, m.kept.here.telling.processed_few (suc place), same-length)

    early-length : length early-list ≡ l.processed
    early-length = length-take l.processed x.half.processed ∙ omega (arith, few-early)

    early-at : (i : ℕ) → i < length early-list → slice_index_or early-list i 0 ≡ slice_index_or x.half.processed i 0
    early-at i below = get_or-take l.processed x.half.processed i 0 (omega (arith, below, early-length))

    -- what was processed early enough has an early place, and is not after the acknowledgement
    early-place : (i count : ℕ) → i < length early-list → 1 ≤ count → count ≤ 2 ^ 47 → slice_index_or early-list i 0 ≡ number_of iss count
        → (0 < view.place count) × (view.place count ≤ g.processed)
    early-place i count below some early is =
        let at = index-is i count (omega (arith, below, early-length, few-early)) some early (sym (early-at i below) ∙ is) in
        (omega (arith, at), omega (arith, at, below, early-length, its.processed))

    pub none-after : (n : ℕ) → Contains early-list n → IsBefore ack n → ⊥
    none-after n has_it before =
        let i : ℕ = has_it.0 in
        let inside : i < length x.half.processed = omega (arith, has_it.1, early-length, few-early) in
        let c = count-of-index i inside in
        let at : slice_index_or early-list i 0 ≡ number_of iss (count-at i) = early-at i has_it.1 ∙ number-at i inside in
        let early = early-place i (count-at i) has_it.1 c.some (omega (arith, c.early)) at in
        let below = m.kept.here.telling.none_after (suc place) (count-at i) vector-there early.0 early.1 in
        let same : n ≡ number_of iss (count-at i) = sym has_it.2 ∙ or-any early-list i n 0 has_it.1 ∙ at in
        not-after iss g.acknowledged (count-at i) fits c.some below (omega (arith, its.early is-ack)) (subst (λ (k : ℕ). IsBefore ack k) same before)

    -- the marks between floor and acknowledgement
    marked-so : (count : ℕ) → g.floor ≤ count → count ≤ g.acknowledged → has its.set.numbers (number_of iss count) ≡ has early-list (number_of iss count)
    marked-so count low high =
        let are = its.marks vector-there in
        let some : 1 ≤ count = omega (arith, are.floor_some, low) in
        let early : count ≤ 2 ^ 47 = omega (arith, high, its.early is-ack) in
        are.marks_are count some early ∙ by (g.says count) refl some early
      where
        early-has : (place_of : ℕ) → view.place count ≡ place_of → 0 < place_of → place_of ≤ g.processed → has early-list (number_of iss count) ≡ true
        early-has zero is some few = absurd (omega (arith, some))
        early-has (suc i) is some few =
            let at = placed-index count i is in
            let below : i < length early-list = omega (arith, few, its.processed, early-length) in
            has-at early-list i (number_of iss count) below (early-at i below ∙ at.1)

        absent : (b : Bool) → has early-list (number_of iss count) ≡ b → g.says count ≡ false → 1 ≤ count → count ≤ 2 ^ 47 → false ≡ b
        absent false is silent some early = refl
        absent true is silent some early =
            let at = at-has early-list (number_of iss count) is in
            let placed = early-place at.0 count at.1 some early at.2 in
            let says = m.kept.here.telling.processed_said (suc place) count vector-there low high placed.0 placed.1 in
            cc (silent, says)

        by : (b : Bool) → g.says count ≡ b → 1 ≤ count → count ≤ 2 ^ 47 → b ≡ has early-list (number_of iss count)
        by true says some early =
            sym (early-has (view.place count) refl (m.kept.here.telling.says_processed (suc place) count vector-there low high says)
            (m.kept.here.telling.says_early (suc place) count vector-there low high says))
        by false silent some early = absent (has early-list (number_of iss count)) refl silent some early

    pub floor-is : its.set.floor ≡ floor
    floor-is = (its.marks vector-there).floor_is

    between : (n : ℕ) → n < 2 ^ 48 → g.floor ≤ g.acknowledged → distance floor n ≤ distance floor ack
        → (n ≡ number_of iss (g.floor + distance floor n)) × (g.floor + distance floor n ≤ g.acknowledged)
    between n small below inside =
        let are = its.marks vector-there in
        (omega (arith, fits, small, are.floor_some, are.floor_early), omega (arith, fits, inside, below, are.floor_some, its.early is-ack))

    states-so : (n : ℕ) → n < 2 ^ 48 → g.floor ≤ g.acknowledged → distance floor n ≤ distance floor ack
        → set_states (has its.set.numbers) n ≡ set_states (has early-list) n
    states-so n small below inside =
        let at = between n small below inside in
        ap state_told
        (ap (has its.set.numbers) at.0 ∙ marked-so (g.floor + distance floor n) (omega arith) at.1 ∙ ap (has early-list) (sym at.0))

    abbrev IsSameVector : Type 0
    IsSameVector =
        (vector_under (has its.set.numbers) floor ack setting ≡ vector_under (has early-list) floor ack setting)
        × (is_whole_under (has its.set.numbers) floor ack setting ≡ is_whole_under (has early-list) floor ack setting)

    pub same-vector : IsSameVector
    same-vector = by (is_from floor ack) refl where
      by : (ahead : Bool) → is_from floor ack ≡ ahead → IsSameVector
      by true ahead =
          let are = its.marks vector-there in
          let below : g.floor ≤ g.acknowledged =
          leb-true g.floor g.acknowledged
          (sym (from-counts iss g.floor g.acknowledged fits are.floor_some are.floor_early (its.some is-ack) (omega (arith, its.early is-ack))) ∙ ahead) in
          vector-same (room_of setting) (set_states (has its.set.numbers)) (set_states (has early-list)) floor ack (omega arith) (omega arith)
          (λ n small from inside. states-so n small below inside)
      by false following =
          let same = states-none (set_states (has its.set.numbers)) (set_states (has early-list)) floor ack following in (
            ap (λ (ss : List ℕ). take (room_of setting) (bytes_of_groups (groups ss))) same,
            ap (λ (ss : List ℕ). nat_le (length (bytes_of_groups (groups ss))) (room_of setting)) same,
          )
