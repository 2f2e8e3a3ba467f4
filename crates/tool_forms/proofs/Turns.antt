-- The turns of a command of `clap` whose arguments are all named by long names, over words of which none is `--`.
use Rattle.std.proofs.Common.{◌≡◌, ◌⊎◌, refl, ℕ, Bool, true, false, List, [], ◌∷◌, Option, Some, None, inl, inr, fold}
use Rattle.std.specs.Prelude.{slice_get}
use Rattle.std.specs.Str.{bytes_eq, chars}
use Rattle.clap.specs.Lexer.{long_of, short_of}
use Rattle.clap.specs.Kinds.{Kinds, or_else}
use Rattle.clap.specs.Walk.{Held, Row, Rule, Text, option, Walk, arg_by_index, arg_by_long, arg_by_short, bundle_met, finished, is_empty, settled, settled_rows, takes_values, walk_from, walked}
use Rattle.clap.specs.Simple.{Shape}
use Rattle.clap.specs.Faults.{check_fault, defaults_fault, flags_fault, settle_fault, turn_fault, walk_fault}

-- what is held between two words: the rows so far, and an argument with its values that is not counted yet
abbrev pub holding : List Row → Option (Text × List Text) → Held
holding rows p = record { rows = rows; pending = p; skip = 0 }

-- no word waits for another
abbrev pub rests : List Row → Option (Text × List Text) → Walk
rests rows p = walk_from (holding rows p)

-- the name of an argument waits for its value
abbrev pub waits_for : List Row → Text → Walk
waits_for rows id = record (walk_from (holding rows (Some (id, [])))) { waiting = option id }

abbrev pub closes : Shape → Held → Kinds
closes s h = or_else (defaults_fault (settled s.rules h).rows s.rules) (check_fault s (finished s.rules h) false)

abbrev pub run_fault : Shape → Walk → List Text → Kinds
run_fault s w words =
    let end = (fold (walked s.rules []) w words).held in
    or_else (walk_fault s [] w words) (or_else (settle_fault s.rules s.args_override_self end) (closes s end))

-- what is found, if there is no fault
abbrev pub passed : {X : Type 0} → Kinds → Option X → Option X
passed [] found = found
passed (k ∷ ks) found = None

module _ {X : Type 0} (judge : List Row → Option X) where
  -- the result of the words, from here on
  abbrev pub verdict : Shape → Walk → List Text → Option X
  verdict s w words = passed (run_fault s w words) (judge (finished s.rules (fold (walked s.rules []) w words).held))

  first-passed : (first more last : Kinds) (found : Option X)
      → passed (or_else (or_else first more) last) found ≡ passed first (passed (or_else more last) found)
  first-passed [] more last found = refl
  first-passed (k ∷ ks) more last found = refl

  pub one-turn : (s : Shape) (w : Walk) (word : Text) (words : List Text)
      → verdict s w (word ∷ words) ≡ passed (turn_fault s [] w word) (verdict s (walked s.rules [] w word) words)
  unfolding walk_fault
  one-turn s w word words = first-passed (turn_fault s [] w word) _ _ _

  pub both-passed : (first last : Kinds) (found : Option X) → passed (or_else first last) found ≡ passed first (passed last found)
  both-passed [] last found = refl
  both-passed (k ∷ ks) last found = refl

  pub last-turn : (s : Shape) (w : Walk)
      → verdict s w [] ≡ passed (settle_fault s.rules s.args_override_self w.held) (passed (closes s w.held) (judge (finished s.rules w.held)))
  unfolding walk_fault
  last-turn s w = both-passed (settle_fault s.rules s.args_override_self w.held) _ _

module _ (s : Shape) (short : (x : ℕ) → arg_by_short s.rules x ≡ None) (index : arg_by_index s.rules 1 ≡ None) where
  -- a turn either refuses the word, whatever is held, or counts what is held and then does the same
  abbrev pub Turns : List Row → Option (Text × List Text) → Text → Type 0
  Turns rows p word =
      ((is_empty (turn_fault s [] (rests rows p) word) ≡ false) × (is_empty (turn_fault s [] (rests (settled_rows s.rules p rows) None) word) ≡ false))
      ⊎ ((turn_fault s [] (rests rows p) word ≡ or_else (settle_fault s.rules s.args_override_self (holding rows p))
      (turn_fault s [] (rests (settled_rows s.rules p rows) None) word))
      × (walked s.rules [] (rests rows p) word ≡ walked s.rules [] (rests (settled_rows s.rules p rows) None) word))

  pub stray : (rows : List Row) (p : Option (Text × List Text)) (word : Text) → bytes_eq word (45 ∷ 45 ∷ []) ≡ false → long_of word ≡ None
      → short_of word ≡ None
      → is_empty (turn_fault s [] (rests rows p) word) ≡ false
  stray rows p word apart long none = go s.is_leaf refl
    where
      go : (b : Bool) → s.is_leaf ≡ b → is_empty (turn_fault s [] (rests rows p) word) ≡ false
      go true leaf = rw (apart, long, none, index, leaf) refl
      go false leaf = rw (apart, long, none, index, leaf) refl

  pub bundled : (rows : List Row) (p : Option (Text × List Text)) (word flags : Text) → bytes_eq word (45 ∷ 45 ∷ []) ≡ false → long_of word ≡ None
      → short_of word ≡ Some flags → is_empty (turn_fault s [] (rests rows p) word) ≡ false
  unfolding walked flags_fault bundle_met
  bundled rows p word [] apart long is = go s.is_leaf refl
    where
      go : (b : Bool) → s.is_leaf ≡ b → is_empty (turn_fault s [] (rests rows p) word) ≡ false
      go true leaf = rw (apart, long, is, index, leaf) refl
      go false leaf = rw (apart, long, is, index, leaf) refl
  bundled rows p word (x ∷ xs) apart long is = go (slice_get (chars (x ∷ xs)) 0) refl s.is_leaf refl
    where
      go : (first : Option ℕ) → slice_get (chars (x ∷ xs)) 0 ≡ first → (b : Bool) → s.is_leaf ≡ b → is_empty (turn_fault s [] (rests rows p) word) ≡ false
      go (Some y) first b leaf = rw (apart, long, is, first, short y) refl
      go None first true leaf = rw (apart, long, is, first, index, leaf) refl
      go None first false leaf = rw (apart, long, is, first, index, leaf) refl

  counted-first : (first more : Kinds) → or_else (or_else first more) [] ≡ or_else first (or_else more [])
  counted-first [] more = refl
  counted-first (k ∷ ks) more = refl

  named : (rows : List Row) (p : Option (Text × List Text)) (word name : Text) (v : Option Text) → bytes_eq word (45 ∷ 45 ∷ []) ≡ false
      → long_of word ≡ Some (name, v) → Turns rows p word
  unfolding walked
  named rows p word name v apart is = go (arg_by_long s.rules name) refl v is
    where
      kind : (a : Rule) → arg_by_long s.rules name ≡ Some a → (b : Bool) → takes_values a ≡ b → (v : Option Text) → long_of word ≡ Some (name, v)
          → Turns rows p word
      kind a known true takes (Some v) is = inr (rw (apart, is, known, takes) (counted-first _ _), rw (apart, is, known, takes) refl)
      kind a known true takes None is = inr (rw (apart, is, known, takes) refl, rw (apart, is, known, takes) refl)
      kind a known false takes (Some v) is = inl (rw (apart, is, known, takes) refl, rw (apart, is, known, takes) refl)
      kind a known false takes None is = inr (rw (apart, is, known, takes) (counted-first _ _), rw (apart, is, known, takes) refl)

      go : (found : Option Rule) → arg_by_long s.rules name ≡ found → (v : Option Text) → long_of word ≡ Some (name, v) → Turns rows p word
      go None unknown v is = inl (rw (apart, is, unknown) refl, rw (apart, is, unknown) refl)
      go (Some a) known v is = kind a known (takes_values a) refl v is

  -- each word turns in one of both ways
  pub unnamed : (rows : List Row) (p : Option (Text × List Text)) (word : Text) → bytes_eq word (45 ∷ 45 ∷ []) ≡ false → Turns rows p word
  unnamed rows p word apart = go (long_of word) refl (short_of word) refl
    where
      go : (l : Option (Text × Option Text)) → long_of word ≡ l → (f : Option Text) → short_of word ≡ f → Turns rows p word
      go (Some (name, v)) long f flags = named rows p word name v apart long
      go None long None none = inl (stray rows p word apart long none, stray (settled_rows s.rules p rows) None word apart long none)
      go None long (Some flags) some = inl (bundled rows p word flags apart long some, bundled (settled_rows s.rules p rows) None word flags apart long some)
