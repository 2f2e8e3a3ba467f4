-- The settings that words give as pairs of a setting and its text, and the rows of `clap` that hold them.
use Rattle.std.proofs.Common.{◌≡◌, ◌∙◌, refl, sym, ap, subst, ℕ, Bool, true, false, List, [], ◌∷◌, ◌++◌, map, Option, Some, None, codes}
use Rattle.std.specs.Prelude.{if◌then◌else◌}
use Rattle.std.proofs.lemmas.List.{append-nil}
use Rattle.std.proofs.lemmas.Slice.Eq.{bytes_eq-Decides}
use Rattle.clap.specs.Walk.{Row, Rule, Text, at_row, more_values, with_values, without, first_of, has_row, most_values, reading_by, takes_values, used}
use Rattle.clap.specs.Kinds.{Kinds}
use Rattle.clap.specs.Faults.{use_fault}
use Rattle.clap.specs.Facts.{unwrap_or_range}
use Rattle.clap.specs.Simple.{Shape, filled}
use Rattle.clap.specs.Takes.{is_given}
use Rattle.clap.specs.declared.parser.matches.ValueSource.TheVariants.{CommandLine}
use Rattle.clap.specs.declared.error.kind.ErrorKind.TheVariants.{ArgumentConflict}
use Rattle.tool_forms.specs.declared.settings.Setting.{Setting}
use Rattle.tool_forms.specs.declared.settings.Setting.TheVariants.{First, Seeds, Events, Workers, Side, Plain, Buffer, Most, Seed, Flow}
use Rattle.tool_forms.specs.declared.settings.Way.{Way}
use Rattle.tool_forms.specs.declared.settings.Way.TheVariants as way
use Rattle.tool_forms.specs.Settings.{bare_name, dashed_name, is_marking, is_same, named_among, way_of}
use Rattle.tool_forms.specs.Commands.{rule_by}
use Rattle.tool_forms.proofs.Turns.{passed, rests, verdict}
use Rattle.tool_forms.proofs.Walks.{one}

-- ---- what the arguments are, by how they are given, under any name

-- the built argument
abbrev pub argument_by : Way → Text → Rule
argument_by w name = filled (rule_by w name)

-- that of a setting
abbrev pub argument : Setting → Rule
argument setting = argument_by (way_of setting) (bare_name setting)

pub id-is : (w : Way) (name : Text) → (argument_by w name).id ≡ name
id-is way.Needed name = refl
id-is way.Chosen name = refl
id-is way.Mark name = refl

pub is-valued : (w : Way) (name : Text) → is_marking w ≡ false
    → (takes_values (argument_by w name) ≡ true) × (unwrap_or_range (argument_by w name).range ≡ one) × (most_values (argument_by w name) ≡ 1)
is-valued way.Needed name is = (refl, refl, refl)
is-valued way.Chosen name is = (refl, refl, refl)
is-valued way.Mark name is = cc is

pub is-marked : (w : Way) (name : Text) → is_marking w ≡ true → takes_values (argument_by w name) ≡ false
is-marked way.Needed name is = cc is
is-marked way.Chosen name is = cc is
is-marked way.Mark name is = refl

-- what a command is given: the value, or nothing for a flag
abbrev pub values_by : Way → Text → List Text
values_by way.Mark text = []
values_by _ text = text ∷ []

pub values-valued : (w : Way) (text : Text) → is_marking w ≡ false → values_by w text ≡ text ∷ []
values-valued way.Needed text is = refl
values-valued way.Chosen text is = refl
values-valued way.Mark text is = cc is

pub values-marked : (w : Way) (text : Text) → is_marking w ≡ true → values_by w text ≡ []
values-marked way.Needed text is = cc is
values-marked way.Chosen text is = cc is
values-marked way.Mark text is = refl

-- the text that the row of an argument has
abbrev pub FitsWay : Way → Text → Type 0
FitsWay way.Mark text = text ≡ codes "true"
FitsWay _ text = Unit {0}

pub fits-valued : (w : Way) (text : Text) → is_marking w ≡ false → FitsWay w text
fits-valued way.Needed text is = tt
fits-valued way.Chosen text is = tt
fits-valued way.Mark text is = cc is

pub fits-marked : (w : Way) → is_marking w ≡ true → FitsWay w (codes "true")
fits-marked way.Needed is = tt
fits-marked way.Chosen is = tt
fits-marked way.Mark is = refl

-- ---- names

pub is-itself : (setting : Setting) → is_same setting setting ≡ true
is-itself setting = (bytes_eq-Decides (bare_name setting) (bare_name setting)).1 refl

every : List Setting
every = First ∷ (Seeds ∷ (Events ∷ (Workers ∷ (Side ∷ (Plain ∷ (Buffer ∷ (Most ∷ (Seed ∷ (Flow ∷ [])))))))))

named : (setting : Setting) → named_among every (dashed_name setting) ≡ Some setting
unfolding every
named First = refl
named _ = refl

pub some-is : {X : Type 0} (x y : X) → Some x ≡ Some y → x ≡ y
some-is x y is = cc is

pub same-settings : (one other : Setting) → is_same one other ≡ true → one ≡ other
same-settings one other same =
    some-is one other (sym (named one)
    ∙ ap (λ (name : List ℕ). named_among every (codes "--" ++ name)) ((bytes_eq-Decides (bare_name one) (bare_name other)).0 same) ∙ named other)

-- ---- settings with their texts; a mark has the text of its row

abbrev pub Pairs : Type 0
Pairs = List (Setting × Text)

abbrev pub row : Setting × Text → Row
row pair = record { id = bare_name pair.0; values = pair.1 ∷ []; count = None; source = Some CommandLine; reading = reading_by (argument pair.0) }

abbrev pub rows : Pairs → List Row
rows = map row

abbrev pub has : Setting → Pairs → Bool
has setting [] = false
has setting (pair ∷ pairs) = if is_same pair.0 setting then true else has setting pairs

abbrev pub text_at : Setting → Pairs → Option Text
text_at setting [] = None
text_at setting (pair ∷ pairs) = if is_same pair.0 setting then Some pair.1 else text_at setting pairs

abbrev pub Distinct : Pairs → Type 0
Distinct [] = Unit {0}
Distinct (pair ∷ pairs) = (has pair.0 pairs ≡ false) × Distinct pairs

pub has-row : (setting : Setting) (pairs : Pairs) → has_row (bare_name setting) (rows pairs) ≡ has setting pairs
has-row setting [] = refl
has-row setting (pair ∷ pairs) = go (is_same pair.0 setting) refl (has-row setting pairs)
  where
    go : (b : Bool) → is_same pair.0 setting ≡ b → has_row (bare_name setting) (rows pairs) ≡ has setting pairs
        → has_row (bare_name setting) (rows (pair ∷ pairs)) ≡ has setting (pair ∷ pairs)
    go true same rest = rw same refl
    go false other rest = rw other rest

pub is-given : (setting : Setting) (pairs : Pairs) → is_given (bare_name setting) (rows pairs) ≡ has setting pairs
is-given setting [] = refl
is-given setting (pair ∷ pairs) = go (is_same pair.0 setting) refl (is-given setting pairs)
  where
    go : (b : Bool) → is_same pair.0 setting ≡ b → is_given (bare_name setting) (rows pairs) ≡ has setting pairs
        → is_given (bare_name setting) (rows (pair ∷ pairs)) ≡ has setting (pair ∷ pairs)
    go true same rest = rw same refl
    go false other rest = rw other rest

pub first-of : (setting : Setting) (pairs : Pairs) → first_of (bare_name setting) (rows pairs) ≡ text_at setting pairs
first-of setting [] = refl
first-of setting (pair ∷ pairs) = go (is_same pair.0 setting) refl (first-of setting pairs)
  where
    go : (b : Bool) → is_same pair.0 setting ≡ b → first_of (bare_name setting) (rows pairs) ≡ text_at setting pairs
        → first_of (bare_name setting) (rows (pair ∷ pairs)) ≡ text_at setting (pair ∷ pairs)
    go true same rest = rw same refl
    go false other rest = rw other rest

pub unmet : (setting : Setting) (change : Row → List Row) (missing : List Row) (pairs : Pairs) → has setting pairs ≡ false
    → at_row (bare_name setting) change missing (rows pairs) ≡ rows pairs ++ missing
unmet setting change missing [] none = refl
unmet setting change missing (pair ∷ pairs) none = go (is_same pair.0 setting) refl none (unmet setting change missing pairs)
  where
    go : (b : Bool) → is_same pair.0 setting ≡ b → has setting (pair ∷ pairs) ≡ false
        → (has setting pairs ≡ false → at_row (bare_name setting) change missing (rows pairs) ≡ rows pairs ++ missing)
        → at_row (bare_name setting) change missing (rows (pair ∷ pairs)) ≡ rows (pair ∷ pairs) ++ missing
    go true same none rest = let no : true ≡ false = rw same at none in cc no
    go false other none rest = let no : has setting pairs ≡ false = rw other at none in
        rw other (ap (λ (more : List Row). row pair ∷ more) (rest no))

-- one setting more after the others
abbrev pub with_pair : Pairs → Setting → Text → Pairs
with_pair pairs setting text = pairs ++ (setting, text) ∷ []

rows-with : (pairs : Pairs) (pair : Setting × Text) → rows pairs ++ row pair ∷ [] ≡ rows (pairs ++ pair ∷ [])
rows-with [] pair = refl
rows-with (first ∷ pairs) pair = ap (λ (more : List Row). row first ∷ more) (rows-with pairs pair)

-- the text that the row of a setting has
abbrev pub FitsRow : Setting → Text → Type 0
FitsRow setting text = FitsWay (way_of setting) text

abbrev pub values_for : Setting → Text → List Text
values_for setting text = values_by (way_of setting) text

-- the row that a use of an argument leaves
abbrev row_by : Way → Text → Text → Row
row_by w name text = record { id = name; values = text ∷ []; count = None; source = Some CommandLine; reading = reading_by (argument_by w name) }

used-row : (w : Way) (setting : Setting) (text : Text) (pairs : Pairs) → has setting pairs ≡ false
    → with_values (bare_name setting) (reading_by (argument_by w (bare_name setting))) CommandLine (text ∷ []) (without (bare_name setting) (rows pairs))
    ≡ rows pairs ++ row_by w (bare_name setting) text ∷ []
used-row w setting text pairs none =
    ap (with_values (bare_name setting) (reading_by (argument_by w (bare_name setting))) CommandLine (text ∷ []))
    (unmet setting (λ _. []) [] pairs none ∙ append-nil (rows pairs))
    ∙ unmet setting (more_values CommandLine (text ∷ [])) (row_by w (bare_name setting) text ∷ []) pairs none

used-by : (w : Way) (setting : Setting) (text : Text) (pairs : Pairs) → FitsWay w text → has setting pairs ≡ false
    → used (argument_by w (bare_name setting)) (values_by w text) (rows pairs) ≡ rows pairs ++ row_by w (bare_name setting) text ∷ []
used-by way.Needed setting text pairs fits none = used-row way.Needed setting text pairs none
used-by way.Chosen setting text pairs fits none = used-row way.Chosen setting text pairs none
used-by way.Mark setting text pairs fits none =
    subst (λ (t : Text). used (argument_by way.Mark (bare_name setting)) [] (rows pairs) ≡ rows pairs ++ row_by way.Mark (bare_name setting) t ∷ []) (sym fits)
    (used-row way.Mark setting (codes "true") pairs none)

used-once : (setting : Setting) (text : Text) (pairs : Pairs) → FitsRow setting text → has setting pairs ≡ false
    → used (argument setting) (values_for setting text) (rows pairs) ≡ rows (with_pair pairs setting text)
used-once setting text pairs fits none = used-by (way_of setting) setting text pairs fits none ∙ rows-with pairs (setting, text)

-- a use of a setting that is given already
abbrev pub again_fault : Bool → Kinds
again_fault true = ArgumentConflict ∷ []
again_fault false = []

faults-by : (w : Way) (name text : Text) (rs : List Row) (b : Bool) → has_row name rs ≡ b
    → use_fault false (argument_by w name) (values_by w text) rs ≡ again_fault b
faults-by way.Needed name text rs true is = rw is refl
faults-by way.Needed name text rs false is = rw is refl
faults-by _ name text rs true is = rw is refl
faults-by _ name text rs false is = rw is refl

module _ {X : Type 0} (judge : List Row → Option X) (s : Shape) (again : s.args_override_self ≡ false) where
  abbrev pub found_with : Pairs → List Text → Option X
  found_with pairs words = verdict judge s (rests (rows pairs) None) words

  -- the result of one more setting
  pub given-once : (setting : Setting) (text : Text) (pairs : Pairs) (words : List Text) → FitsRow setting text
      → passed (use_fault s.args_override_self (argument setting) (values_for setting text) (rows pairs))
      (verdict judge s (rests (used (argument setting) (values_for setting text) (rows pairs)) None) words)
      ≡ (if has setting pairs then None else found_with (with_pair pairs setting text) words)
  given-once setting text pairs words fits = go (has setting pairs) refl
    where
      go : (b : Bool) → has setting pairs ≡ b
          → passed (use_fault s.args_override_self (argument setting) (values_for setting text) (rows pairs))
          (verdict judge s (rests (used (argument setting) (values_for setting text) (rows pairs)) None) words)
          ≡ (if has setting pairs then None else found_with (with_pair pairs setting text) words)
      go true twice = rw (again, faults-by (way_of setting) (bare_name setting) text (rows pairs) true (has-row setting pairs ∙ twice), twice) refl
      go false once = rw (
        again,
        faults-by (way_of setting) (bare_name setting) text (rows pairs) false (has-row setting pairs ∙ once),
        used-once setting text pairs fits once,
        once,
      ) refl

  pub given-with : (setting : Setting) (text : Text) (values : List Text) (pairs : Pairs) (words : List Text) → values_for setting text ≡ values
      → FitsRow setting text
      → passed (use_fault s.args_override_self (argument setting) values (rows pairs))
      (verdict judge s (rests (used (argument setting) values (rows pairs)) None) words)
      ≡ (if has setting pairs then None else found_with (with_pair pairs setting text) words)
  given-with setting text values pairs words are fits =
      subst (λ (vs : List Text). passed (use_fault s.args_override_self (argument setting) vs (rows pairs))
      (verdict judge s (rests (used (argument setting) vs (rows pairs)) None) words)
      ≡ (if has setting pairs then None else found_with (with_pair pairs setting text) words)) are (given-once setting text pairs words fits)

has-with : (one setting : Setting) (text : Text) (pairs : Pairs)
    → has one (with_pair pairs setting text) ≡ (if has one pairs then true else is_same setting one)
has-with one setting text [] = go (is_same setting one)
  where
    go : (b : Bool) → (if b then true else false) ≡ b
    go true = refl
    go false = refl
has-with one setting text (pair ∷ pairs) = go (is_same pair.0 one) refl (has-with one setting text pairs)
  where
    go : (b : Bool) → is_same pair.0 one ≡ b → has one (with_pair pairs setting text) ≡ (if has one pairs then true else is_same setting one)
        → has one (with_pair (pair ∷ pairs) setting text) ≡ (if has one (pair ∷ pairs) then true else is_same setting one)
    go true same rest = rw same refl
    go false other rest = rw other rest

other-way : (one other : Setting) → is_same one other ≡ false → is_same other one ≡ false
other-way one other apart = go (is_same other one) refl
  where
    go : (b : Bool) → is_same other one ≡ b → is_same other one ≡ false
    go true same =
        let no : is_same one one ≡ false = subst (λ (s : Setting). is_same one s ≡ false) (same-settings other one same) apart in
        let never : true ≡ false = sym (is-itself one) ∙ no in cc never
    go false other = other

-- none has it in the front, nor after
none-in : (setting : Setting) (pair : Setting × Text) (pairs : Pairs) → has setting (pair ∷ pairs) ≡ false → (is_same pair.0 setting ≡ false)
    × (has setting pairs ≡ false)
none-in setting pair pairs none = go (is_same pair.0 setting) refl
  where
    go : (b : Bool) → is_same pair.0 setting ≡ b → (is_same pair.0 setting ≡ false) × (has setting pairs ≡ false)
    go true same = let no : true ≡ false = rw same at none in cc no
    go false other = let rest : has setting pairs ≡ false = rw other at none in (other, rest)

pub distinct-with : (setting : Setting) (text : Text) (pairs : Pairs) → Distinct pairs → has setting pairs ≡ false → Distinct (with_pair pairs setting text)
distinct-with setting text [] distinct none = (refl, tt)
distinct-with setting text (pair ∷ pairs) distinct none =
    let parts = none-in setting pair pairs none in
    let apart : has pair.0 (with_pair pairs setting text) ≡ false =
    has-with pair.0 setting text pairs ∙ rw (distinct.0) (other-way pair.0 setting parts.0) in
    (apart, distinct-with setting text pairs distinct.1 parts.1)
