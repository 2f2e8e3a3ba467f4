-- The walk of `clap` over all words, and the reading from left to right.
use Rattle.std.proofs.Common.{◌≡◌, ◌⊎◌, ◌∙◌, ◌&&◌, ◌||◌, refl, sym, ap, ap₂, subst, ℕ, Bool, true, false, not, List, [], ◌∷◌, map, Option, Some, None, is_some, option_and_then, codes, inl, inr}
use Rattle.std.specs.Prelude.{if◌then◌else◌, option_map}
use Rattle.std.specs.Option.{option_map_or}
use Rattle.std.specs.Str.{bytes_eq}
use Rattle.std.specs.List.{before_first, after_first}
use Rattle.std.proofs.lemmas.Slice.Eq.{bytes_eq-Decides}
use Rattle.clap.specs.Lexer.{has_byte, long_of, short_of}
use Rattle.clap.specs.Walk.{Row, Rule, Text, arg_by_id, arg_by_index, arg_by_long, arg_by_short, has_long, used}
use Rattle.clap.specs.Simple.{Shape, built}
use Rattle.clap.specs.Faults.{use_fault}
use Rattle.tool_forms.specs.declared.settings.Table.{Table}
use Rattle.tool_forms.specs.declared.settings.Table.TheVariants as table
use Rattle.tool_forms.specs.declared.settings.Setting.{Setting}
use Rattle.tool_forms.specs.declared.settings.Setting.TheVariants.{First, Seeds, Events, Workers, Side, Plain, Buffer, Most, Seed, Flow}
use Rattle.tool_forms.specs.declared.settings.Way.{Way}
use Rattle.tool_forms.specs.declared.settings.Way.TheVariants as way
use Rattle.tool_forms.specs.Given.{Value}
use Rattle.tool_forms.specs.Given as value
use Rattle.tool_forms.specs.Given.{Assignment}
use Rattle.tool_forms.specs.Settings.{all_given, bare_name, dashed_name, is_equals, is_mark, is_marking, is_same, named_among, preceded, setting_named, setting_value, settings_of, value_given_to, way_of}
use Rattle.tool_forms.specs.Commands.{bare_command, with_settings}
use Rattle.tool_forms.proofs.Turns.{passed, rests, verdict}
use Rattle.tool_forms.proofs.Walks.{Clear, alone-refused, apart-judged, joined-taken, mark-taken, mark-valued, stray-refused, unknown-refused}
use Rattle.tool_forms.proofs.Pairs.{Distinct, FitsRow, Pairs, argument, argument_by, distinct-with, fits-marked, fits-valued, given-with, has, id-is, is-itself, is-marked, is-valued, rows, same-settings, some-is, values-marked, values-valued, with_pair}
use Rattle.tool_forms.proofs.Named.{alone-dashed, apart-dashed, dashed, flag-value, joined-dashed, long-joined, long-whole, mark-dashed, none-dashed, shape-of}
use Rattle.tool_forms.proofs.Onto.{assigned, onto, onto-none, onto-with, value-marked, value-valued}

-- the built command of a form
abbrev pub shape : Table → Shape
shape t = (built (with_settings bare_command (settings_of t))).top

rules-are : (t : Table) → (shape t).rules ≡ map argument (settings_of t)
rules-are table.Replay = refl
rules-are _ = refl

pub no-short : (t : Table) (x : ℕ) → arg_by_short (shape t).rules x ≡ None
no-short table.Replay x = refl
no-short _ x = refl

pub no-index : (t : Table) → arg_by_index (shape t).rules 1 ≡ None
no-index table.Replay = refl
no-index _ = refl

no-again : (t : Table) → (shape t).args_override_self ≡ false
no-again table.Replay = refl
no-again _ = refl

-- ---- the arguments of settings, whichever

either-way : (one other : List ℕ) → bytes_eq one other ≡ bytes_eq other one
either-way one other = go (bytes_eq one other) refl (bytes_eq other one) refl
  where
    same : (xs ys : List ℕ) → bytes_eq xs ys ≡ true → xs ≡ ys
    same xs ys is = (bytes_eq-Decides xs ys).0 is

    crossed : (xs ys : List ℕ) → bytes_eq xs ys ≡ true → bytes_eq ys xs ≡ true
    crossed xs ys is = ap₂ bytes_eq (sym (same xs ys is)) (same xs ys is) ∙ is

    go : (a : Bool) → bytes_eq one other ≡ a → (b : Bool) → bytes_eq other one ≡ b → bytes_eq one other ≡ bytes_eq other one
    go true f b g = f ∙ sym (crossed one other f)
    go false f true g = let no : bytes_eq one other ≡ true = crossed other one g in no ∙ sym g
    go false f false g = f ∙ sym g

or-false : (b : Bool) → (b || false) ≡ b
or-false true = refl
or-false false = refl

long-is : (w : Way) (id name : Text) → (not (is_some (argument_by w id).index) && has_long (argument_by w id) name) ≡ bytes_eq id name
long-is way.Needed id name = or-false (bytes_eq id name)
long-is way.Chosen id name = or-false (bytes_eq id name)
long-is way.Mark id name = or-false (bytes_eq id name)

known-argument : (settings : List Setting) (name : Text)
    → arg_by_long (map argument settings) name ≡ option_map argument (named_among settings (45 ∷ (45 ∷ name)))
known-argument [] name = refl
known-argument (s ∷ settings) name =
    ap (λ (b : Bool). if b then Some (argument s) else arg_by_long (map argument settings) name)
    (long-is (way_of s) (bare_name s) name ∙ either-way (bare_name s) name)
    ∙ by (bytes_eq name (bare_name s)) (known-argument settings name)
  where
    by : (b : Bool) → arg_by_long (map argument settings) name ≡ option_map argument (named_among settings (45 ∷ (45 ∷ name)))
        → (if b then Some (argument s) else arg_by_long (map argument settings) name) ≡ option_map argument
        (if b then Some s else named_among settings (45 ∷ (45 ∷ name)))
    by true rest = refl
    by false rest = rest

-- what clap finds by a long name
arg-known : (t : Table) (name : Text) → arg_by_long (shape t).rules name ≡ option_map argument (setting_named t (45 ∷ (45 ∷ name)))
arg-known t name = ap (λ (rules : List Rule). arg_by_long rules name) (rules-are t) ∙ known-argument (settings_of t) name

abbrev pub is_among : Setting → List Setting → Bool
is_among setting [] = false
is_among setting (s ∷ settings) = if is_same s setting then true else is_among setting settings

abbrev pub owns : Table → Setting → Bool
owns t setting = is_among setting (settings_of t)

named-owned : (settings : List Setting) (name : Text) (setting : Setting) → named_among settings name ≡ Some setting → is_among setting settings ≡ true
named-owned [] name setting is = let never : Some setting ≡ None = sym is in cc never
named-owned (s ∷ settings) name setting is = go (bytes_eq name (dashed_name s)) refl is (named-owned settings name setting)
  where
    either : (b : Bool) → is_among setting settings ≡ true → (if b then true else is_among setting settings) ≡ true
    either true following = refl
    either false following = following

    go : (b : Bool) → bytes_eq name (dashed_name s) ≡ b → named_among (s ∷ settings) name ≡ Some setting
        → (named_among settings name ≡ Some setting → is_among setting settings ≡ true) → is_among setting (s ∷ settings) ≡ true
    go true same is rest =
        let found : Some s ≡ Some setting = rw same at is in
        ap (λ (b : Bool). if b then true else is_among setting settings)
        (subst (λ (other : Setting). is_same s other ≡ true) (some-is s setting found) (is-itself s))
    go false other is rest = let following : named_among settings name ≡ Some setting = rw other at is in either (is_same s setting) (rest following)

argument-by-id : (settings : List Setting) (setting : Setting) → is_among setting settings ≡ true
    → arg_by_id (map argument settings) (argument setting).id ≡ Some (argument setting)
argument-by-id [] setting is = cc is
argument-by-id (s ∷ settings) setting is = go (is_same s setting) refl is (argument-by-id settings setting)
  where
    ids : bytes_eq (argument s).id (argument setting).id ≡ is_same s setting
    ids = ap₂ bytes_eq (id-is (way_of s) (bare_name s)) (id-is (way_of setting) (bare_name setting))

    found : (b : Bool) → is_same s setting ≡ b
        → arg_by_id (map argument (s ∷ settings)) (argument setting).id
        ≡ (if b then Some (argument s) else arg_by_id (map argument settings) (argument setting).id)
    found b is = ap (λ (b : Bool). if b then Some (argument s) else arg_by_id (map argument settings) (argument setting).id) (ids ∙ is)

    go : (b : Bool) → is_same s setting ≡ b → is_among setting (s ∷ settings) ≡ true
        → (is_among setting settings ≡ true → arg_by_id (map argument settings) (argument setting).id ≡ Some (argument setting))
        → arg_by_id (map argument (s ∷ settings)) (argument setting).id ≡ Some (argument setting)
    go true same is rest = found true same ∙ ap (λ (other : Setting). Some (argument other)) (same-settings s setting same)
    go false other is rest = let following : is_among setting settings ≡ true = rw other at is in found false other ∙ rest following

by-id : (t : Table) (setting : Setting) → owns t setting ≡ true → arg_by_id (shape t).rules (argument setting).id ≡ Some (argument setting)
by-id t setting is = ap (λ (rules : List Rule). arg_by_id rules (argument setting).id) (rules-are t) ∙ argument-by-id (settings_of t) setting is

name-is-itself : (setting : Setting) → bytes_eq (argument setting).id (argument setting).id ≡ true
name-is-itself setting = (bytes_eq-Decides (argument setting).id (argument setting).id).1 refl

abbrev pub Owned : Table → Pairs → Type 0
Owned t [] = Unit {0}
Owned t (pair ∷ pairs) = ((owns t pair.0 ≡ true) × FitsRow pair.0 pair.1) × Owned t pairs

owned-with : (t : Table) (setting : Setting) (text : Text) (pairs : Pairs) → Owned t pairs → owns t setting ≡ true → FitsRow setting text
    → Owned t (with_pair pairs setting text)
owned-with t setting text [] owned is fits = ((is, fits), tt)
owned-with t setting text (pair ∷ pairs) owned is fits = (owned.0, owned-with t setting text pairs owned.1 is fits)

-- ---- what settings give

-- what a setting with a value gives is what it is assigned
assigns : (setting : Setting) (text : Text) → is_marking (way_of setting) ≡ false → value_given_to (Some setting) text ≡ assigned setting text
assigns setting text is =
    ap (λ (found : Option Value). option_and_then (λ v. Some (record { setting = setting; value = v })) found)
    (sym (value-valued (way_of setting) setting text is))

refuses : (setting : Setting) (text : Text) → is_marking (way_of setting) ≡ false → setting_value setting text ≡ None → assigned setting text ≡ None
refuses setting text is none =
    ap (λ (found : Option Value). option_and_then (λ v. Some (record { setting = setting; value = v })) found)
    (value-valued (way_of setting) setting text is ∙ none)

-- a mark gives nothing but itself
marks : (setting : Setting) (text : Text) → is_marking (way_of setting) ≡ true → assigned setting text ≡ Some (record { setting = setting; value = value.Mark })
marks setting text is =
    ap (λ (found : Option Value). option_and_then (λ v. Some (record { setting = setting; value = v })) found) (value-marked (way_of setting) setting text is)

valueless : (setting : Setting) (text : Text) → is_marking (way_of setting) ≡ true → value_given_to (Some setting) text ≡ None
valueless Plain text is = refl
valueless _ text is = cc is

module _ {X : Type 0} (judge : List Row → Option X) (t : Table) (means : Option (List Assignment) → Option X) (means-none : means None ≡ None)
    (means-once : (setting : Setting) (text : Text) (all : Option (List Assignment)) (pairs : Pairs) → owns t setting ≡ true → has setting pairs ≡ true
    → means (onto pairs (preceded (assigned setting text) all)) ≡ None) where
  abbrev pub reads : Pairs → List Text → Option X
  reads pairs words = verdict judge (shape t) (rests (rows pairs) None) words

  abbrev pub Agrees : Pairs → List Text → Type 0
  Agrees pairs words = reads pairs words ≡ means (onto pairs (all_given t words))

  -- words agree, whatever was given before them
  abbrev pub Agreed : List Text → Type 0
  Agreed words = (pairs : Pairs) → Distinct pairs → Owned t pairs → Agrees pairs words

  nothing-given : (pairs : Pairs) (all : Option (List Assignment)) → all ≡ None → means (onto pairs all) ≡ None
  nothing-given pairs all none = ap (λ (a : Option (List Assignment)). means (onto pairs a)) none ∙ ap means (onto-none pairs) ∙ means-none

  one-more : (setting : Setting) (text : Text) (words : List Text) (pairs : Pairs) → Agreed words → Distinct pairs → Owned t pairs → owns t setting ≡ true
      → FitsRow setting text
      → (if has setting pairs then None else reads (with_pair pairs setting text) words) ≡ means
      (onto pairs (preceded (assigned setting text) (all_given t words)))
  one-more setting text words pairs agreed distinct owned is fits = go (has setting pairs) refl
    where
      go : (b : Bool) → has setting pairs ≡ b
          → (if has setting pairs then None else reads (with_pair pairs setting text) words) ≡ means
          (onto pairs (preceded (assigned setting text) (all_given t words)))
      go true twice = rw twice (sym (means-once setting text (all_given t words) pairs is twice))
      go false once = rw once
          (agreed (with_pair pairs setting text) (distinct-with setting text pairs distinct once) (owned-with t setting text pairs owned is fits)
          ∙ ap means (onto-with pairs setting text (all_given t words)))

  -- a name and its value in one word
  joined-agrees : (x : ℕ) (xs : List ℕ) (words : List Text) (pairs : Pairs) → has_byte 61 (x ∷ xs) ≡ true → bytes_eq (dashed x xs) (45 ∷ 45 ∷ []) ≡ false
      → Agreed words → Distinct pairs → Owned t pairs → Agrees pairs (dashed x xs ∷ words)
  joined-agrees x xs words pairs joined apart agreed distinct owned = go (setting_named t (45 ∷ (45 ∷ before_first is_equals (x ∷ xs)))) refl
    where
      long : long_of (dashed x xs) ≡ Some (before_first is_equals (x ∷ xs), Some (after_first is_equals (x ∷ xs)))
      long = long-joined x xs joined

      given : (found : Option Setting) → setting_named t (45 ∷ (45 ∷ before_first is_equals (x ∷ xs))) ≡ found
          → all_given t (dashed x xs ∷ words) ≡ preceded (value_given_to found (after_first is_equals (x ∷ xs))) (all_given t words)
      given found is = joined-dashed t x xs words joined
          ∙ ap (λ (f : Option Setting). preceded (value_given_to f (after_first is_equals (x ∷ xs))) (all_given t words)) is

      arg : (found : Option Setting) → setting_named t (45 ∷ (45 ∷ before_first is_equals (x ∷ xs))) ≡ found
          → arg_by_long (shape t).rules (before_first is_equals (x ∷ xs)) ≡ option_map argument found
      arg found is = arg-known t (before_first is_equals (x ∷ xs)) ∙ ap (option_map argument) is

      taken : (setting : Setting) → setting_named t (45 ∷ (45 ∷ before_first is_equals (x ∷ xs))) ≡ Some setting
          → (b : Bool) → is_marking (way_of setting) ≡ b → Agrees pairs (dashed x xs ∷ words)
      taken setting is true mark =
          mark-valued judge (shape t) (no-short t) (no-index t) (argument setting) (rows pairs) (dashed x xs) _ _ words apart long
          (arg (Some setting) is) (is-marked (way_of setting) (bare_name setting) mark)
          ∙ sym (nothing-given pairs _ (given (Some setting) is
          ∙ ap (λ (first : Option Assignment). preceded first (all_given t words)) (valueless setting (after_first is_equals (x ∷ xs)) mark)))
      taken setting is false valued =
          joined-taken judge (shape t) (no-short t) (no-index t) (argument setting) (rows pairs) (dashed x xs) _ _ words apart long (arg (Some setting) is)
          (is-valued (way_of setting) (bare_name setting) valued).0
          ∙ given-with judge (shape t) (no-again t) setting (after_first is_equals (x ∷ xs)) (after_first is_equals (x ∷ xs) ∷ []) pairs words
          (values-valued (way_of setting) (after_first is_equals (x ∷ xs)) valued) (fits-valued (way_of setting) (after_first is_equals (x ∷ xs)) valued)
          ∙ one-more setting (after_first is_equals (x ∷ xs)) words pairs agreed distinct owned (named-owned (settings_of t) _ setting is)
          (fits-valued (way_of setting) (after_first is_equals (x ∷ xs)) valued)
          ∙ ap (λ (all : Option (List Assignment)). means (onto pairs all))
          (sym (given (Some setting) is
          ∙ ap (λ (first : Option Assignment). preceded first (all_given t words)) (assigns setting (after_first is_equals (x ∷ xs)) valued)))

      go : (found : Option Setting) → setting_named t (45 ∷ (45 ∷ before_first is_equals (x ∷ xs))) ≡ found → Agrees pairs (dashed x xs ∷ words)
      go None is =
          unknown-refused judge (shape t) (no-short t) (no-index t) (rows pairs) (dashed x xs) _ _ words apart long (arg None is)
          ∙ sym (nothing-given pairs _ (given None is))
      go (Some setting) is = taken setting is (is_marking (way_of setting)) refl

  -- a name alone in its word
  whole-agrees : (x : ℕ) (xs : List ℕ) (words : List Text) (pairs : Pairs) → has_byte 61 (x ∷ xs) ≡ false → bytes_eq (dashed x xs) (45 ∷ 45 ∷ []) ≡ false
      → Clear words → Agreed words → ((v : Text) (following : List Text) → words ≡ v ∷ following → Agreed following) → Distinct pairs → Owned t pairs
      → Agrees pairs (dashed x xs ∷ words)
  whole-agrees x xs words pairs whole apart clear agreed after_agreed distinct owned = go (setting_named t (dashed x xs)) refl
    where
      long : long_of (dashed x xs) ≡ Some (x ∷ xs, None)
      long = long-whole x xs whole

      arg : (found : Option Setting) → setting_named t (dashed x xs) ≡ found → arg_by_long (shape t).rules (x ∷ xs) ≡ option_map argument found
      arg found is = arg-known t (x ∷ xs) ∙ ap (option_map argument) is

      marked : (found : Option Setting) → setting_named t (dashed x xs) ≡ found
          → is_mark t (dashed x xs) ≡ option_map_or (λ s. is_marking (way_of s)) found false
      marked found is = ap (λ (f : Option Setting). option_map_or (λ s. is_marking (way_of s)) f false) is

      unknown : (words : List Text) → setting_named t (dashed x xs) ≡ None → all_given t (dashed x xs ∷ words) ≡ None
      unknown [] none = alone-dashed t x xs whole (marked None none)
      unknown (v ∷ following) none = apart-dashed t x xs v following whole (marked None none)
          ∙ ap (λ (f : Option Setting). preceded (value_given_to f v) (all_given t following)) none

      valued : (setting : Setting) → setting_named t (dashed x xs) ≡ Some setting → is_marking (way_of setting) ≡ false → (words : List Text) → Clear words
          → ((v : Text) (following : List Text) → words ≡ v ∷ following → Agreed following) → Agrees pairs (dashed x xs ∷ words)
      valued setting is unmarked [] clear after_agreed =
          alone-refused judge (shape t) (no-short t) (no-index t) (argument setting) (by-id t setting (named-owned (settings_of t) _ setting is))
          (name-is-itself setting)
          (is-valued (way_of setting) (bare_name setting) unmarked).1 (is-valued (way_of setting) (bare_name setting) unmarked).0
          (is-valued (way_of setting) (bare_name setting) unmarked).2 (rows pairs) (dashed x xs) (x ∷ xs) apart long (arg (Some setting) is)
          ∙ sym (nothing-given pairs _ (alone-dashed t x xs whole (marked (Some setting) is ∙ unmarked)))
      valued setting is unmarked (text ∷ following) clear after_agreed = judged
          (apart-judged judge (shape t) (no-short t) (no-index t) (argument setting) (by-id t setting (named-owned (settings_of t) _ setting is))
          (name-is-itself setting)
          (is-valued (way_of setting) (bare_name setting) unmarked).1 (is-valued (way_of setting) (bare_name setting) unmarked).0
          (is-valued (way_of setting) (bare_name setting) unmarked).2 (rows pairs) (dashed x xs) (x ∷ xs) text following apart long
          (arg (Some setting) is) clear.0 clear.1)
        where
          own : all_given t (dashed x xs ∷ (text ∷ following)) ≡ preceded (assigned setting text) (all_given t following)
          own = apart-dashed t x xs text following whole (marked (Some setting) is ∙ unmarked)
              ∙ ap (λ (found : Option Setting). preceded (value_given_to found text) (all_given t following)) is
              ∙ ap (λ (first : Option Assignment). preceded first (all_given t following)) (assigns setting text unmarked)

          judged : ((reads pairs (dashed x xs ∷ (text ∷ following)) ≡ None) × (long_of text ≡ None → short_of text ≡ None → ⊥))
              ⊎ (reads pairs (dashed x xs ∷ (text ∷ following))
              ≡ passed (use_fault (shape t).args_override_self (argument setting) (text ∷ []) (rows pairs))
              (verdict judge (shape t) (rests (used (argument setting) (text ∷ []) (rows pairs)) None) following)) → Agrees pairs (dashed x xs ∷ (text ∷ following))
          judged (inl refusal) = refusal.0 ∙ sym (nothing-given pairs _ (own
              ∙ ap (λ (first : Option Assignment). preceded first (all_given t following)) (refuses setting text unmarked (flag-value setting text refusal.1))))
          judged (inr taken) = taken
              ∙ given-with judge (shape t) (no-again t) setting text (text ∷ []) pairs following (values-valued (way_of setting) text unmarked)
              (fits-valued (way_of setting) text unmarked)
              ∙ one-more setting text following pairs (after_agreed text following refl) distinct owned (named-owned (settings_of t) _ setting is)
              (fits-valued (way_of setting) text unmarked)
              ∙ ap (λ (all : Option (List Assignment)). means (onto pairs all)) (sym own)

      taken : (setting : Setting) → setting_named t (dashed x xs) ≡ Some setting → (b : Bool) → is_marking (way_of setting) ≡ b
          → Agrees pairs (dashed x xs ∷ words)
      taken setting is true mark =
          mark-taken judge (shape t) (no-short t) (no-index t) (argument setting) (rows pairs) (dashed x xs) (x ∷ xs) words apart long
          (arg (Some setting) is) (is-marked (way_of setting) (bare_name setting) mark)
          ∙ given-with judge (shape t) (no-again t) setting (codes "true") [] pairs words (values-marked (way_of setting) (codes "true") mark)
          (fits-marked (way_of setting) mark)
          ∙ one-more setting (codes "true") words pairs agreed distinct owned (named-owned (settings_of t) _ setting is) (fits-marked (way_of setting) mark)
          ∙ ap (λ (all : Option (List Assignment)). means (onto pairs all))
          (sym (mark-dashed t x xs words whole (marked (Some setting) is ∙ mark)
          ∙ ap (λ (found : Option Setting). preceded (option_map (λ s. record { setting = s; value = value.Mark }) found) (all_given t words)) is
          ∙ ap (λ (first : Option Assignment). preceded first (all_given t words)) (sym (marks setting (codes "true") mark))))
      taken setting is false named = valued setting is named words clear after_agreed

      go : (found : Option Setting) → setting_named t (dashed x xs) ≡ found → Agrees pairs (dashed x xs ∷ words)
      go None is =
          unknown-refused judge (shape t) (no-short t) (no-index t) (rows pairs) (dashed x xs) (x ∷ xs) None words apart long (arg None is)
          ∙ sym (nothing-given pairs _ (unknown words is))
      go (Some setting) is = taken setting is (is_marking (way_of setting)) refl

  word-agrees : (word : Text) (words : List Text) (pairs : Pairs) → bytes_eq word (45 ∷ 45 ∷ []) ≡ false → Clear words → Agreed words
      → ((v : Text) (following : List Text) → words ≡ v ∷ following → Agreed following) → Distinct pairs → Owned t pairs → Agrees pairs (word ∷ words)
  word-agrees word words pairs apart clear agreed following distinct owned = go (shape-of word)
    where
      dashes : (x : ℕ) (xs : List ℕ) → bytes_eq (dashed x xs) (45 ∷ 45 ∷ []) ≡ false → (b : Bool) → has_byte 61 (x ∷ xs) ≡ b
          → Agrees pairs (dashed x xs ∷ words)
      dashes x xs apart true joined = joined-agrees x xs words pairs joined apart agreed distinct owned
      dashes x xs apart false whole = whole-agrees x xs words pairs whole apart clear agreed following distinct owned

      go : ((x : ℕ) × (xs : List ℕ) × (word ≡ dashed x xs)) ⊎ (long_of word ≡ None) → Agrees pairs (word ∷ words)
      go (inl is) = subst (λ (w : Text). Agrees pairs (w ∷ words)) (sym is.2)
          (dashes is.0 is.1 (subst (λ (w : Text). bytes_eq w (45 ∷ 45 ∷ []) ≡ false) is.2 apart) (has_byte 61 (is.0 ∷ is.1)) refl)
      go (inr none) = stray-refused judge (shape t) (no-short t) (no-index t) (rows pairs) word words apart none
          ∙ sym (nothing-given pairs _ (none-dashed t word words none))

  module _ (ends : (pairs : Pairs) → Distinct pairs → Owned t pairs → reads pairs [] ≡ means (onto pairs (Some []))) where
    pub all-agree : (words : List Text) → Clear words → Agreed words
    all-agree [] clear = ends
    all-agree (word ∷ []) clear = λ pairs distinct owned.
        word-agrees word [] pairs clear.0 tt ends (λ v following is. absurd (no-word v following is)) distinct owned
      where
        no-word : (v : Text) (following : List Text) → [] ≡ v ∷ following → ⊥
        no-word v following is = cc is
    all-agree (word ∷ (next ∷ words)) clear = λ pairs distinct owned.
        word-agrees word (next ∷ words) pairs clear.0 clear.1 (all-agree (next ∷ words) clear.1)
        (λ v following is. subst Agreed (rest v following is) (all-agree words clear.1.1)) distinct owned
      where
        rest : (v : Text) (following : List Text) → next ∷ words ≡ v ∷ following → words ≡ following
        rest v following is = cc
