-- The result of one or two words, if nothing is held before them.
--
-- `clap` counts an option only at the next one or at the end; here that count is moved in front of the next word.
use Rattle.std.proofs.Common.{◌≡◌, ◌⊎◌, ◌∙◌, refl, sym, ap, ap₂, ℕ, Bool, true, false, List, [], ◌∷◌, Option, Some, None, inl, inr}
use Rattle.std.specs.Prelude.{slice_get}
use Rattle.std.specs.Str.{bytes_eq, chars}
use Rattle.clap.specs.Lexer.{long_of, short_of}
use Rattle.clap.specs.Facts.{unwrap_or_range}
use Rattle.clap.specs.Kinds.{Kinds, or_else}
use Rattle.clap.specs.Walk.{Row, Rule, Text, Walk, arg_by_id, arg_by_index, arg_by_long, arg_by_short, bundle_met, is_empty, most_values, settled_rows, takes_values, used, walked}
use Rattle.clap.specs.Simple.{Shape}
use Rattle.clap.specs.Faults.{flags_fault, settle_fault, turn_fault, use_fault}
use Rattle.clap.specs.declared.builder.range.ValueRange.{ValueRange}
use Rattle.tool_forms.proofs.Turns.{Turns, both-passed, bundled, holding, last-turn, one-turn, passed, rests, stray, unnamed, verdict, waits_for}

-- no word is `--`
abbrev pub Clear : List Text → Type 0
Clear [] = Unit {0}
Clear (word ∷ words) = (bytes_eq word (45 ∷ 45 ∷ []) ≡ false) × Clear words

-- one value, no more and no less
abbrev pub one : ValueRange
one = record { start_inclusive = 1; end_inclusive = 1 }

module _ {X : Type 0} (judge : List Row → Option X) (s : Shape) (short : (x : ℕ) → arg_by_short s.rules x ≡ None) (index : arg_by_index s.rules 1 ≡ None) where
  pub refused : (faults : Kinds) (found : Option X) → is_empty faults ≡ false → passed faults found ≡ None
  refused [] found some = cc some
  refused (k ∷ ks) found some = refl

  abbrev nothing : Option X
  nothing = None

  none-passed : (faults : Kinds) → passed faults nothing ≡ nothing
  none-passed [] = refl
  none-passed (k ∷ ks) = refl

  -- what is held may be counted before the next words as well as after them
  pub counted-now : (rows : List Row) (p : Option (Text × List Text)) (words : List Text) → Clear words
      → verdict judge s (rests rows p) words
      ≡ passed (settle_fault s.rules s.args_override_self (holding rows p)) (verdict judge s (rests (settled_rows s.rules p rows) None) words)
  counted-now rows p [] clear = last-turn judge s (rests rows p)
      ∙ ap (passed (settle_fault s.rules s.args_override_self (holding rows p))) (sym (last-turn judge s (rests (settled_rows s.rules p rows) None)))
  counted-now rows p (word ∷ words) clear =
      one-turn judge s (rests rows p) word words ∙ by (unnamed s short index rows p word clear.0)
      ∙ ap (passed held) (sym (one-turn judge s (rests (settled_rows s.rules p rows) None) word words))
    where
      held : Kinds
      held = settle_fault s.rules s.args_override_self (holding rows p)

      later : Walk
      later = rests (settled_rows s.rules p rows) None

      by : Turns s short index rows p word
          → passed (turn_fault s [] (rests rows p) word) (verdict judge s (walked s.rules [] (rests rows p) word) words)
          ≡ passed held (passed (turn_fault s [] later word) (verdict judge s (walked s.rules [] later word) words))
      by (inl both) = refused _ _ both.0 ∙ sym (ap (passed held) (refused _ _ both.1) ∙ none-passed held)
      by (inr same) = ap₂ (λ (faults : Kinds) (w : Walk). passed faults (verdict judge s w words)) same.0 same.1
          ∙ both-passed judge (settle_fault s.rules s.args_override_self (holding rows p)) _ _

  -- a turn that is known
  step : (w next : Walk) (word : Text) (words : List Text) (faults : Kinds) → turn_fault s [] w word ≡ faults → walked s.rules [] w word ≡ next
      → verdict judge s w (word ∷ words) ≡ passed faults (verdict judge s next words)
  step w next word words faults fault to = one-turn judge s w word words
      ∙ ap₂ (λ (ks : Kinds) (v : Walk). passed ks (verdict judge s v words)) fault to

  refuses : (w : Walk) (word : Text) (words : List Text) → is_empty (turn_fault s [] w word) ≡ false → verdict judge s w (word ∷ words) ≡ None
  refuses w word words some = one-turn judge s w word words ∙ refused _ _ some

  alone : (faults : Kinds) → or_else faults [] ≡ faults
  alone [] = refl
  alone (k ∷ ks) = refl

  -- `--name=value`
  pub joined-taken : (a : Rule) (rows : List Row) (word name v : Text) (words : List Text) → bytes_eq word (45 ∷ 45 ∷ []) ≡ false
      → long_of word ≡ Some (name, Some v) → arg_by_long s.rules name ≡ Some a → takes_values a ≡ true
      → verdict judge s (rests rows None) (word ∷ words)
      ≡ passed (use_fault s.args_override_self a (v ∷ []) rows) (verdict judge s (rests (used a (v ∷ []) rows) None) words)
  unfolding walked
  joined-taken a rows word name v words apart is known takes =
      step _ _ word words _ (rw (apart, is, known, takes) (alone _)) (rw (apart, is, known, takes) refl)

  -- `--name` of an argument without a value
  pub mark-taken : (a : Rule) (rows : List Row) (word name : Text) (words : List Text) → bytes_eq word (45 ∷ 45 ∷ []) ≡ false
      → long_of word ≡ Some (name, None) → arg_by_long s.rules name ≡ Some a → takes_values a ≡ false
      → verdict judge s (rests rows None) (word ∷ words)
      ≡ passed (use_fault s.args_override_self a [] rows) (verdict judge s (rests (used a [] rows) None) words)
  unfolding walked
  mark-taken a rows word name words apart is known takes =
      step _ _ word words _ (rw (apart, is, known, takes) (alone _)) (rw (apart, is, known, takes) refl)

  pub mark-valued : (a : Rule) (rows : List Row) (word name v : Text) (words : List Text) → bytes_eq word (45 ∷ 45 ∷ []) ≡ false
      → long_of word ≡ Some (name, Some v) → arg_by_long s.rules name ≡ Some a → takes_values a ≡ false
      → verdict judge s (rests rows None) (word ∷ words) ≡ None
  mark-valued a rows word name v words apart is known takes = refuses _ word words (rw (apart, is, known, takes) refl)

  pub unknown-refused : (rows : List Row) (word name : Text) (v : Option Text) (words : List Text) → bytes_eq word (45 ∷ 45 ∷ []) ≡ false
      → long_of word ≡ Some (name, v) → arg_by_long s.rules name ≡ None → verdict judge s (rests rows None) (word ∷ words) ≡ None
  unknown-refused rows word name v words apart is unknown = refuses _ word words (rw (apart, is, unknown) refl)

  pub stray-refused : (rows : List Row) (word : Text) (words : List Text) → bytes_eq word (45 ∷ 45 ∷ []) ≡ false
      → long_of word ≡ None → verdict judge s (rests rows None) (word ∷ words) ≡ None
  stray-refused rows word words apart long = go (short_of word) refl
    where
      go : (flags : Option Text) → short_of word ≡ flags → verdict judge s (rests rows None) (word ∷ words) ≡ None
      go None is = refuses _ word words (stray s short index rows None word apart long is)
      go (Some flags) is = refuses _ word words (bundled s short index rows None word flags apart long is)

  -- `--name`, and its value after it
  module _ (a : Rule) (by_id : arg_by_id s.rules a.id ≡ Some a) (same : bytes_eq a.id a.id ≡ true) (range : unwrap_or_range a.range ≡ one)
      (takes : takes_values a ≡ true) (most : most_values a ≡ 1) where
    named-waits : (rows : List Row) (word name : Text) (words : List Text) → bytes_eq word (45 ∷ 45 ∷ []) ≡ false
        → long_of word ≡ Some (name, None) → arg_by_long s.rules name ≡ Some a
        → verdict judge s (rests rows None) (word ∷ words) ≡ verdict judge s (waits_for rows a.id) words
    unfolding walked
    named-waits rows word name words apart is known = step _ _ word words [] (rw (apart, is, known, takes) refl) (rw (apart, is, known, takes) refl)

    pub alone-refused : (rows : List Row) (word name : Text) → bytes_eq word (45 ∷ 45 ∷ []) ≡ false
        → long_of word ≡ Some (name, None) → arg_by_long s.rules name ≡ Some a → verdict judge s (rests rows None) (word ∷ []) ≡ None
    alone-refused rows word name apart is known = named-waits rows word name [] apart is known
        ∙ last-turn judge s (waits_for rows a.id) ∙ refused (settle_fault s.rules s.args_override_self (waits_for rows a.id).held) _ (rw (by_id, range) refl)

    abbrev pub taken-with : List Row → Text → List Text → Option X
    taken-with rows v words = passed (use_fault s.args_override_self a (v ∷ []) rows) (verdict judge s (rests (used a (v ∷ []) rows) None) words)

    then-counted : (rows : List Row) (v : Text) (words : List Text) → Clear words
        → verdict judge s (rests rows (Some (a.id, v ∷ []))) words ≡ taken-with rows v words
    then-counted rows v words clear = counted-now rows (Some (a.id, v ∷ [])) words clear ∙ (rw (by_id) refl)

    value-taken : (rows : List Row) (v : Text) (words : List Text) → bytes_eq v (45 ∷ 45 ∷ []) ≡ false → long_of v ≡ None → short_of v ≡ None → Clear words
        → verdict judge s (waits_for rows a.id) (v ∷ words) ≡ taken-with rows v words
    unfolding walked
    value-taken rows v words apart long none clear =
        step _ _ v words [] (rw (apart, long, none) refl) (rw (apart, long, none, by_id, same, most) refl) ∙ then-counted rows v words clear

    -- a value that begins with a hyphen is refused, or taken as any other
    abbrev pub IsRefusedOrTaken : List Row → Text → List Text → Type 0
    IsRefusedOrTaken rows v words = (verdict judge s (waits_for rows a.id) (v ∷ words) ≡ None)
        ⊎ (verdict judge s (waits_for rows a.id) (v ∷ words) ≡ taken-with rows v words)

    flags-judged : (rows : List Row) (v flags : Text) (words : List Text) → bytes_eq v (45 ∷ 45 ∷ []) ≡ false → long_of v ≡ None → short_of v ≡ Some flags
        → Clear words
        → IsRefusedOrTaken rows v words
    unfolding walked flags_fault bundle_met
    flags-judged rows v [] words apart long is clear =
        inr (step _ _ v words [] (rw (apart, long, is) refl) (rw (apart, long, is, by_id, same, most) refl) ∙ then-counted rows v words clear)
    flags-judged rows v (x ∷ xs) words apart long is clear = go (slice_get (chars (x ∷ xs)) 0) refl
      where
        go : (first : Option ℕ) → slice_get (chars (x ∷ xs)) 0 ≡ first → IsRefusedOrTaken rows v words
        go (Some y) first = inl (refuses _ v words (rw (apart, long, is, first, short y) refl))
        go None first =
            inr (step _ _ v words [] (rw (apart, long, is, first) refl) (rw (apart, long, is, first, by_id, same, most) refl) ∙ then-counted rows v words clear)

    long-judged : (rows : List Row) (v name : Text) (w : Option Text) (words : List Text) → bytes_eq v (45 ∷ 45 ∷ []) ≡ false → long_of v ≡ Some (name, w)
        → verdict judge s (waits_for rows a.id) (v ∷ words) ≡ None
    long-judged rows v name w words apart is = go (arg_by_long s.rules name) refl w is
      where
        kind : (b : Rule) → arg_by_long s.rules name ≡ Some b → (t : Bool) → takes_values b ≡ t → (w : Option Text) → long_of v ≡ Some (name, w)
            → verdict judge s (waits_for rows a.id) (v ∷ words) ≡ None
        kind b known true valued (Some w) is = refuses _ v words (rw (apart, is, known, valued, by_id, range) refl)
        kind b known true valued None is = refuses _ v words (rw (apart, is, known, valued, by_id, range) refl)
        kind b known false valued (Some w) is = refuses _ v words (rw (apart, is, known, valued) refl)
        kind b known false valued None is = refuses _ v words (rw (apart, is, known, valued, by_id, range) refl)

        go : (found : Option Rule) → arg_by_long s.rules name ≡ found → (w : Option Text) → long_of v ≡ Some (name, w)
            → verdict judge s (waits_for rows a.id) (v ∷ words) ≡ None
        go None unknown w is = refuses _ v words (rw (apart, is, unknown) refl)
        go (Some b) known w is = kind b known (takes_values b) refl w is

    pub apart-judged : (rows : List Row) (word name v : Text) (words : List Text) → bytes_eq word (45 ∷ 45 ∷ []) ≡ false
        → long_of word ≡ Some (name, None) → arg_by_long s.rules name ≡ Some a → bytes_eq v (45 ∷ 45 ∷ []) ≡ false → Clear words
        → (verdict judge s (rests rows None) (word ∷ (v ∷ words)) ≡ None × (long_of v ≡ None → short_of v ≡ None → ⊥))
        ⊎ (verdict judge s (rests rows None) (word ∷ (v ∷ words)) ≡ taken-with rows v words)
    apart-judged rows word name v words apart is known clear-v clear = go (long_of v) refl (short_of v) refl
      where
        first : verdict judge s (rests rows None) (word ∷ (v ∷ words)) ≡ verdict judge s (waits_for rows a.id) (v ∷ words)
        first = named-waits rows word name (v ∷ words) apart is known

        other-flags : (flags : Text) → short_of v ≡ Some flags → short_of v ≡ None → ⊥
        other-flags flags some none = let both : Some flags ≡ None = sym some ∙ none in cc both

        other-name : (n : Text × Option Text) → long_of v ≡ Some n → long_of v ≡ None → ⊥
        other-name n some none = let both : Some n ≡ None = sym some ∙ none in cc both

        flagged : (flags : Text) → short_of v ≡ Some flags → IsRefusedOrTaken rows v words
            → (verdict judge s (rests rows None) (word ∷ (v ∷ words)) ≡ None × (long_of v ≡ None → short_of v ≡ None → ⊥))
            ⊎ (verdict judge s (rests rows None) (word ∷ (v ∷ words)) ≡ taken-with rows v words)
        flagged flags some (inl none) = inl (first ∙ none, λ _ no. other-flags flags some no)
        flagged flags some (inr taken) = inr (first ∙ taken)

        go : (l : Option (Text × Option Text)) → long_of v ≡ l → (f : Option Text) → short_of v ≡ f
            → (verdict judge s (rests rows None) (word ∷ (v ∷ words)) ≡ None × (long_of v ≡ None → short_of v ≡ None → ⊥))
            ⊎ (verdict judge s (rests rows None) (word ∷ (v ∷ words)) ≡ taken-with rows v words)
        go (Some (n, w)) long f short_is = inl (first ∙ long-judged rows v n w words clear-v long, λ no _. other-name (n, w) long no)
        go None long None none = inr (first ∙ value-taken rows v words clear-v long none clear)
        go None long (Some flags) some = flagged flags some (flags-judged rows v flags words clear-v long some clear)
