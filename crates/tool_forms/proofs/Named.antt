-- What a word is for `clap` and for the reading from left to right.
use Rattle.std.proofs.Common.{◌≡◌, ◌⊎◌, ◌∙◌, ◌+◌, refl, sym, ap, ap₂, subst, ℕ, suc, Bool, true, false, List, [], ◌∷◌, ◌++◌, length, take, drop, Option, Some, None, option_and_then, codes, inl, inr, arith}
use Rattle.std.specs.Prelude.{nat_lt, ◌==◌}
use Rattle.std.specs.Str.{bytes_eq}
use Rattle.std.specs.List.{list_any, position_or_len, before_first, after_first}
use Rattle.std.proofs.lemmas.List.{append-nil}
use Rattle.std.proofs.lemmas.Slice.Eq.{bytes_eq-Decides}
use lib.ListN.{take-append-drop}
use Rattle.std.proofs.lemmas.Bool.Decides.{nat_tests}
use Rattle.clap.specs.Lexer.{has_byte, long_of, short_of}
use Rattle.tool_forms.specs.declared.settings.Table.{Table}
use Rattle.tool_forms.specs.declared.settings.Setting.{Setting}
use Rattle.tool_forms.specs.declared.settings.Setting.TheVariants.{First, Seeds, Events, Workers, Side, Plain, Buffer, Most, Seed, Flow}
use Rattle.tool_forms.specs.Given as value
use Rattle.tool_forms.specs.Given.{Assignment}
use Rattle.tool_text.specs.Numbers.{number_below}
use Rattle.tool_forms.specs.Settings.{all_given, dashed_name, given_of, is_equals, is_joined, is_mark, joined_given, least, mark_given, most, named_among, number_for, number_from, preceded, setting_named, setting_value, settings_of, value_given_to}
use Rattle.tool_forms.proofs.Pairs.{some-is}

joins : (xs : List ℕ) → nat_lt (position_or_len is_equals xs) (length xs) ≡ has_byte 61 xs
joins [] = refl
joins (x ∷ xs) = go (x == 61) refl (joins xs)
  where
    go : (b : Bool) → (x == 61) ≡ b → nat_lt (position_or_len is_equals xs) (length xs) ≡ has_byte 61 xs
        → nat_lt (position_or_len is_equals (x ∷ xs)) (length (x ∷ xs)) ≡ has_byte 61 (x ∷ xs)
    go true is rest = rw is (grind (arith, nat_tests))
    go false is rest = rw (is, sym rest) (grind (arith, nat_tests))

one-more : (n : ℕ) → 1 + n ≡ suc n
one-more n = omega arith

two-more : (n : ℕ) → 1 + n + 1 ≡ suc (n + 1)
two-more n = omega arith

before-cons : (y : ℕ) (xs : List ℕ) → (y == 61) ≡ false → before_first is_equals (y ∷ xs) ≡ y ∷ before_first is_equals xs
before-cons y xs is = rw is (ap (λ (n : ℕ). take n (y ∷ xs)) (one-more (position_or_len is_equals xs)))

after-cons : (y : ℕ) (xs : List ℕ) → (y == 61) ≡ false → after_first is_equals (y ∷ xs) ≡ after_first is_equals xs
after-cons y xs is = rw is (ap (λ (n : ℕ). drop n (y ∷ xs)) (two-more (position_or_len is_equals xs)))

whole-name : (xs : List ℕ) → has_byte 61 xs ≡ false → before_first is_equals xs ≡ xs
whole-name [] none = refl
whole-name (x ∷ xs) none = go (x == 61) refl none (whole-name xs)
  where
    go : (b : Bool) → (x == 61) ≡ b → has_byte 61 (x ∷ xs) ≡ false → (has_byte 61 xs ≡ false → before_first is_equals xs ≡ xs)
        → before_first is_equals (x ∷ xs) ≡ x ∷ xs
    go true is none rest = let no : true ≡ false = rw is at none in cc no
    go false is none rest = let less : has_byte 61 xs ≡ false = rw is at none in before-cons x xs is ∙ ap (λ (more : List ℕ). x ∷ more) (rest less)

-- a word with two hyphens and more
abbrev pub dashed : ℕ → List ℕ → List ℕ
dashed x xs = 45 ∷ (45 ∷ (x ∷ xs))

abbrev pub Shapes : List ℕ → Type 0
Shapes word = ((x : ℕ) × (xs : List ℕ) × (word ≡ dashed x xs)) ⊎ (long_of word ≡ None)

shape-3 : (xs : List ℕ) → Shapes (45 ∷ (45 ∷ xs))
shape-3 [] = inr refl
shape-3 (x ∷ xs) = inl (x, xs, refl)

shape-2 : (xs : List ℕ) → Shapes (45 ∷ xs)
shape-2 [] = inr refl
shape-2 (y ∷ xs) = go (y == 45) refl
  where
    go : (b : Bool) → (y == 45) ≡ b → Shapes (45 ∷ (y ∷ xs))
    go true is = let same : y ≡ 45 = grind (arith, nat_tests) in subst (λ (z : ℕ). Shapes (45 ∷ (z ∷ xs))) (sym same) (shape-3 xs)
    go false is = inr (rw is refl)

pub shape-of : (word : List ℕ) → Shapes word
shape-of [] = inr refl
shape-of (y ∷ xs) = go (y == 45) refl
  where
    go : (b : Bool) → (y == 45) ≡ b → Shapes (y ∷ xs)
    go true is = let same : y ≡ 45 = grind (arith, nat_tests) in subst (λ (z : ℕ). Shapes (z ∷ xs)) (sym same) (shape-2 xs)
    go false is = inr (rw is refl)

joined-read : (t : Table) (word : List ℕ) (words : List (List ℕ)) → is_joined word ≡ true
    → all_given t (word ∷ words) ≡ preceded (joined_given t word) (all_given t words)
joined-read t word [] joined = rw joined
joined-read t word (next ∷ words) joined = rw joined

-- `--name=value`
pub joined-dashed : (t : Table) (x : ℕ) (xs : List ℕ) (words : List (List ℕ)) → has_byte 61 (x ∷ xs) ≡ true
    → all_given t (dashed x xs ∷ words) ≡ preceded (given_of t (45 ∷ (45 ∷ before_first is_equals (x ∷ xs))) (after_first is_equals (x ∷ xs)))
    (all_given t words)
joined-dashed t x xs words has = joined-read t (dashed x xs) words is
    ∙ ap₂ (λ (name text : List ℕ). preceded (given_of t name text) (all_given t words))
    (before-cons 45 (45 ∷ (x ∷ xs)) refl ∙ ap (λ (more : List ℕ). 45 ∷ more) (before-cons 45 (x ∷ xs) refl))
    (after-cons 45 (45 ∷ (x ∷ xs)) refl ∙ after-cons 45 (x ∷ xs) refl)
  where
    is : is_joined (dashed x xs) ≡ true
    is = joins (dashed x xs) ∙ has

whole-dashed : (x : ℕ) (xs : List ℕ) → has_byte 61 (x ∷ xs) ≡ false → is_joined (dashed x xs) ≡ false
whole-dashed x xs none = joins (dashed x xs) ∙ none

-- `--name` of a mark
pub mark-dashed : (t : Table) (x : ℕ) (xs : List ℕ) (words : List (List ℕ)) → has_byte 61 (x ∷ xs) ≡ false → is_mark t (dashed x xs) ≡ true
    → all_given t (dashed x xs ∷ words) ≡ preceded (mark_given t (dashed x xs)) (all_given t words)
mark-dashed t x xs [] none mark = rw (whole-dashed x xs none, mark) refl
mark-dashed t x xs (next ∷ words) none mark = rw (whole-dashed x xs none, mark) refl

pub apart-dashed : (t : Table) (x : ℕ) (xs next : List ℕ) (words : List (List ℕ)) → has_byte 61 (x ∷ xs) ≡ false → is_mark t (dashed x xs) ≡ false
    → all_given t (dashed x xs ∷ (next ∷ words)) ≡ preceded (given_of t (dashed x xs) next) (all_given t words)
apart-dashed t x xs next words none mark = rw (whole-dashed x xs none, mark) refl

pub alone-dashed : (t : Table) (x : ℕ) (xs : List ℕ) → has_byte 61 (x ∷ xs) ≡ false → is_mark t (dashed x xs) ≡ false → all_given t (dashed x xs ∷ []) ≡ None
alone-dashed t x xs none mark = rw (whole-dashed x xs none, mark) refl

pub long-joined : (x : ℕ) (xs : List ℕ) → has_byte 61 (x ∷ xs) ≡ true
    → long_of (dashed x xs) ≡ Some (before_first is_equals (x ∷ xs), Some (after_first is_equals (x ∷ xs)))
long-joined x xs has = rw has refl

pub long-whole : (x : ℕ) (xs : List ℕ) → has_byte 61 (x ∷ xs) ≡ false → long_of (dashed x xs) ≡ Some (x ∷ xs, None)
long-whole x xs none = rw (none, whole-name (x ∷ xs) none) refl

-- ---- names

cannot : {X : Type 0} (some : X) → Some some ≡ None → ⊥
cannot some none = cc none

equal-by : (one other : List ℕ) → bytes_eq one other ≡ true → one ≡ other
equal-by one other is = (bytes_eq-Decides one other).0 is

set-long : (setting : Setting) (rest : List ℕ) → long_of (dashed_name setting ++ rest) ≡ None → ⊥
set-long First rest none = cannot _ none
set-long _ rest none = cannot _ none

-- a setting has the name by which it is found
named-is : (settings : List Setting) (name : List ℕ) (setting : Setting) → named_among settings name ≡ Some setting → name ≡ dashed_name setting
named-is [] name setting is = absurd (cannot setting (sym is))
named-is (first ∷ settings) name setting is = go (bytes_eq name (dashed_name first)) refl is (named-is settings name setting)
  where
    go : (b : Bool) → bytes_eq name (dashed_name first) ≡ b → named_among (first ∷ settings) name ≡ Some setting
        → (named_among settings name ≡ Some setting → name ≡ dashed_name setting) → name ≡ dashed_name setting
    go true same is rest =
        let found : Some first ≡ Some setting = rw same at is in equal-by name (dashed_name first) same ∙ ap dashed_name (some-is first setting found)
    go false other is rest = let following : named_among settings name ≡ Some setting = rw other at is in rest following

-- a word that is no `--name` gives nothing
pub none-dashed : (t : Table) (word : List ℕ) (words : List (List ℕ)) → long_of word ≡ None → all_given t (word ∷ words) ≡ None
none-dashed t word words none = go (is_joined word) refl
  where
    named : (name rest : List ℕ) → word ≡ name ++ rest → setting_named t name ≡ None
    named name rest is = by (setting_named t name) refl
      where
        by : (found : Option Setting) → setting_named t name ≡ found → setting_named t name ≡ None
        by None found = found
        by (Some setting) found = absurd (set-long setting rest
            (ap (λ (n : List ℕ). long_of (n ++ rest)) (sym (named-is (settings_of t) name setting found)) ∙ ap long_of (sym is) ∙ none))

    none-named : setting_named t word ≡ None
    none-named = named word [] (sym (append-nil word))

    apart : (words : List (List ℕ)) → is_joined word ≡ false → all_given t (word ∷ words) ≡ None
    apart [] whole = rw (whole, none-named) refl
    apart (next ∷ words) whole = rw (whole, none-named) refl

    go : (b : Bool) → is_joined word ≡ b → all_given t (word ∷ words) ≡ None
    go true joined = joined-read t word words joined
        ∙ ap (λ (found : Option Setting). preceded (value_given_to found (after_first is_equals word)) (all_given t words))
        (named (before_first is_equals word) (drop (position_or_len is_equals word) word) (sym (take-append-drop (position_or_len is_equals word) word)))
    go false whole = apart words whole

-- no setting's value begins with a hyphen
no-number : (limit : ℕ) (xs : List ℕ) → number_below limit (45 ∷ xs) ≡ None
no-number limit [] = refl
no-number limit (x ∷ xs) = refl

no-figure : (setting : Setting) (xs : List ℕ) → option_and_then (λ n. Some (value.Number n)) (number_for setting (45 ∷ xs)) ≡ None
no-figure setting xs = ap (λ (n : Option ℕ). option_and_then (λ n. Some (value.Number n)) (number_from (least setting) n)) (no-number (most setting + 1) xs)

hyphen-value : (setting : Setting) (xs : List ℕ) → setting_value setting (45 ∷ xs) ≡ None
hyphen-value First xs = no-figure First xs
hyphen-value Seeds xs = no-figure Seeds xs
hyphen-value Events xs = no-figure Events xs
hyphen-value Workers xs = no-figure Workers xs
hyphen-value Side [] = refl
hyphen-value Side (x ∷ xs) = refl
hyphen-value Plain xs = refl
hyphen-value Buffer xs = no-figure Buffer xs
hyphen-value Most xs = no-figure Most xs
hyphen-value Seed xs = no-figure Seed xs
hyphen-value Flow xs = no-figure Flow xs

pub flag-value : (setting : Setting) (text : List ℕ) → (long_of text ≡ None → short_of text ≡ None → ⊥) → setting_value setting text ≡ None
flag-value setting [] flag = absurd (flag refl refl)
flag-value setting (x ∷ xs) flag = go (x == 45) refl
  where
    go : (b : Bool) → (x == 45) ≡ b → setting_value setting (x ∷ xs) ≡ None
    go true is = let same : x ≡ 45 = grind (arith, nat_tests) in subst (λ (z : ℕ). setting_value setting (z ∷ xs) ≡ None) (sym same) (hyphen-value setting xs)
    go false is = absurd (flag (rw is refl) (rw is refl))

-- nothing is given where a word is `--`
pub dashes-value : (setting : Setting) (text : List ℕ) → bytes_eq text (codes "--") ≡ true → setting_value setting text ≡ None
dashes-value setting text is = subst (λ (t : List ℕ). setting_value setting t ≡ None) (sym (equal-by text (codes "--") is)) (hyphen-value setting (45 ∷ []))

value-none : (t : Table) (name text : List ℕ) → bytes_eq text (codes "--") ≡ true → given_of t name text ≡ None
value-none t name text is = go (setting_named t name) refl
  where
    go : (found : Option Setting) → setting_named t name ≡ found → given_of t name text ≡ None
    go None found = rw found refl
    go (Some setting) found = rw (found, dashes-value setting text is) refl

nothing-before : (first : Option Assignment) (all : Option (List Assignment)) → all ≡ None → preceded first all ≡ None
nothing-before None all none = refl
nothing-before (Some given) all none = rw none refl

begun-by : (t : Table) (word : List ℕ) (words : List (List ℕ)) → bytes_eq word (codes "--") ≡ true → all_given t (word ∷ words) ≡ None
begun-by t word words is = none-dashed t word words (ap long_of (equal-by word (codes "--") is))

-- where a word is `--`, the words are no settings
pub dashes-none : (t : Table) (words : List (List ℕ)) → list_any (λ word. bytes_eq word (codes "--")) words ≡ true → all_given t words ≡ None
dashes-none t [] some = cc some
dashes-none t (word ∷ []) some = go (bytes_eq word (codes "--")) refl some
  where
    go : (b : Bool) → bytes_eq word (codes "--") ≡ b → list_any (λ word. bytes_eq word (codes "--")) (word ∷ []) ≡ true → all_given t (word ∷ []) ≡ None
    go true is some = begun-by t word [] is
    go false is some = let never : false ≡ true = rw is at some in cc never
dashes-none t (word ∷ (next ∷ words)) some = go (bytes_eq word (codes "--")) refl some (dashes-none t (next ∷ words)) (dashes-none t words)
  where
    apart : (b : Bool) → bytes_eq next (codes "--") ≡ b → list_any (λ word. bytes_eq word (codes "--")) (next ∷ words) ≡ true
        → (list_any (λ word. bytes_eq word (codes "--")) words ≡ true → all_given t words ≡ None) → preceded (given_of t word next) (all_given t words) ≡ None
    apart true is some rest = ap (λ (first : Option Assignment). preceded first (all_given t words)) (value-none t word next is)
    apart false is some rest =
        let following : list_any (λ word. bytes_eq word (codes "--")) words ≡ true = rw is at some in
        nothing-before (given_of t word next) (all_given t words) (rest following)

    parts : (j : Bool) → is_joined word ≡ j → (m : Bool) → is_mark t word ≡ m → list_any (λ word. bytes_eq word (codes "--")) (next ∷ words) ≡ true
        → all_given t (next ∷ words) ≡ None
        → (list_any (λ word. bytes_eq word (codes "--")) words ≡ true → all_given t words ≡ None) → all_given t (word ∷ (next ∷ words)) ≡ None
    parts true joined m mark some none rest = rw joined (nothing-before (joined_given t word) (all_given t (next ∷ words)) none)
    parts false whole true mark some none rest = rw (whole, mark) (nothing-before (mark_given t word) (all_given t (next ∷ words)) none)
    parts false whole false mark some none rest = rw (whole, mark) (apart (bytes_eq next (codes "--")) refl some rest)

    go : (b : Bool) → bytes_eq word (codes "--") ≡ b → list_any (λ word. bytes_eq word (codes "--")) (word ∷ (next ∷ words)) ≡ true
        → (list_any (λ word. bytes_eq word (codes "--")) (next ∷ words) ≡ true → all_given t (next ∷ words) ≡ None)
        → (list_any (λ word. bytes_eq word (codes "--")) words ≡ true → all_given t words ≡ None) → all_given t (word ∷ (next ∷ words)) ≡ None
    go true is some more rest = begun-by t word (next ∷ words) is
    go false is some more rest =
        let following : list_any (λ word. bytes_eq word (codes "--")) (next ∷ words) ≡ true = rw is at some in
        parts (is_joined word) refl (is_mark t word) refl following (more following) rest
