-- Pairs of settings and texts as the assignments that they are.
use Rattle.std.proofs.Common.{◌≡◌, ◌∙◌, refl, ap, subst, Bool, true, false, List, [], ◌∷◌, Option, Some, None, option_and_then}
use Rattle.std.specs.Prelude.{if◌then◌else◌}
use Rattle.clap.specs.Walk.{Text}
use Rattle.tool_forms.specs.declared.settings.Setting.{Setting}
use Rattle.tool_forms.specs.declared.settings.Way.{Way}
use Rattle.tool_forms.specs.declared.settings.Way.TheVariants as way
use Rattle.tool_forms.specs.Given.{Value}
use Rattle.tool_forms.specs.Given as value
use Rattle.tool_forms.specs.Given.{Assignment}
use Rattle.tool_forms.specs.Settings.{is_marking, is_same, once, preceded, setting_value, unless_again, way_of}
use Rattle.tool_forms.proofs.Pairs.{Distinct, Pairs, has, is-itself, same-settings, text_at, with_pair}

-- the value that a text is, by how the setting is given
abbrev pub value_by : Way → Setting → Text → Option Value
value_by way.Mark setting text = Some value.Mark
value_by _ setting text = setting_value setting text

-- the value that a setting's text is
abbrev pub value_of : Setting → Text → Option Value
value_of setting text = value_by (way_of setting) setting text

pub value-valued : (w : Way) (setting : Setting) (text : Text) → is_marking w ≡ false → value_by w setting text ≡ setting_value setting text
value-valued way.Needed setting text is = refl
value-valued way.Chosen setting text is = refl
value-valued way.Mark setting text is = cc is

pub value-marked : (w : Way) (setting : Setting) (text : Text) → is_marking w ≡ true → value_by w setting text ≡ Some value.Mark
value-marked way.Needed setting text is = cc is
value-marked way.Chosen setting text is = cc is
value-marked way.Mark setting text is = refl

abbrev pub assigned : Setting → Text → Option Assignment
assigned setting text = option_and_then (λ v. Some (record { setting = setting; value = v })) (value_of setting text)

-- the pairs, in front of what is given after them
abbrev pub onto : Pairs → Option (List Assignment) → Option (List Assignment)
onto [] all = all
onto (pair ∷ pairs) all = preceded (assigned pair.0 pair.1) (onto pairs all)

pub onto-with : (pairs : Pairs) (setting : Setting) (text : Text) (all : Option (List Assignment))
    → onto (with_pair pairs setting text) all ≡ onto pairs (preceded (assigned setting text) all)
onto-with [] setting text all = refl
onto-with (pair ∷ pairs) setting text all = ap (preceded (assigned pair.0 pair.1)) (onto-with pairs setting text all)

pub preceded-none : (first : Option Assignment) → preceded first None ≡ None
preceded-none None = refl
preceded-none (Some given) = refl

pub onto-none : (pairs : Pairs) → onto pairs None ≡ None
onto-none [] = refl
onto-none (pair ∷ pairs) = ap (preceded (assigned pair.0 pair.1)) (onto-none pairs) ∙ preceded-none (assigned pair.0 pair.1)

-- what a setting has of one assignment more
once-step : (setting : Setting) (given : Assignment) (all : Option (List Assignment)) (b : Bool) → is_same given.setting setting ≡ b
    → option_and_then (once setting) (preceded (Some given) all)
    ≡ (if b then option_and_then (unless_again setting given.value) all else option_and_then (once setting) all)
once-step setting given None true is = refl
once-step setting given None false is = refl
once-step setting given (Some all) true is = rw is refl
once-step setting given (Some all) false is = rw is refl

unless-step : (setting : Setting) (v : Value) (given : Assignment) (all : Option (List Assignment)) (b : Bool) → is_same given.setting setting ≡ b
    → option_and_then (unless_again setting v) (preceded (Some given) all) ≡ (if b then None else option_and_then (unless_again setting v) all)
unless-step setting v given None true is = refl
unless-step setting v given None false is = refl
unless-step setting v given (Some all) true is = rw is refl
unless-step setting v given (Some all) false is = rw is refl

-- a value once more is refused
again-none : (setting : Setting) (v : Value) (text : Text) (all : Option (List Assignment)) (pairs : Pairs)
    → option_and_then (unless_again setting v) (onto pairs (preceded (assigned setting text) all)) ≡ None
again-none setting v text all [] = go (value_of setting text) refl
  where
    go : (found : Option Value) → value_of setting text ≡ found → option_and_then (unless_again setting v) (preceded (assigned setting text) all) ≡ None
    go None is = rw is refl
    go (Some w) is = rw is (unless-step setting v (record { setting = setting; value = w }) all true (is-itself setting))
again-none setting v text all (pair ∷ pairs) = go (value_of pair.0 pair.1) refl (is_same pair.0 setting) refl (again-none setting v text all pairs)
  where
    go : (found : Option Value) → value_of pair.0 pair.1 ≡ found → (b : Bool) → is_same pair.0 setting ≡ b
        → option_and_then (unless_again setting v) (onto pairs (preceded (assigned setting text) all)) ≡ None
        → option_and_then (unless_again setting v) (onto (pair ∷ pairs) (preceded (assigned setting text) all)) ≡ None
    go None is b same rest = rw is refl
    go (Some w) is true same rest = rw is (unless-step setting v (record { setting = pair.0; value = w }) _ true same)
    go (Some w) is false same rest = rw is (unless-step setting v (record { setting = pair.0; value = w }) _ false same ∙ rest)

pub twice-none : (setting : Setting) (text : Text) (all : Option (List Assignment)) (pairs : Pairs) → has setting pairs ≡ true
    → option_and_then (once setting) (onto pairs (preceded (assigned setting text) all)) ≡ None
twice-none setting text all [] has_it = cc has_it
twice-none setting text all (pair ∷ pairs) has_it = go (value_of pair.0 pair.1) refl (is_same pair.0 setting) refl has_it (twice-none setting text all pairs)
  where
    go : (found : Option Value) → value_of pair.0 pair.1 ≡ found → (b : Bool) → is_same pair.0 setting ≡ b → has setting (pair ∷ pairs) ≡ true
        → (has setting pairs ≡ true → option_and_then (once setting) (onto pairs (preceded (assigned setting text) all)) ≡ None)
        → option_and_then (once setting) (onto (pair ∷ pairs) (preceded (assigned setting text) all)) ≡ None
    go None is b same has_it rest = rw is refl
    go (Some w) is true same has_it rest = rw is (once-step setting (record { setting = pair.0; value = w }) _ true same ∙ again-none setting w text all pairs)
    go (Some w) is false same has_it rest =
        let following : has setting pairs ≡ true = rw same at has_it in
        rw is (once-step setting (record { setting = pair.0; value = w }) _ false same ∙ rest following)

-- what pairs give, each of them once
abbrev pub gave : Pairs → Option (List Assignment)
gave pairs = onto pairs (Some [])

abbrev pub found_at : Setting → Pairs → Option Value
found_at setting pairs = option_and_then (value_of setting) (text_at setting pairs)

abbrev pub wherever : Pairs → Option Value → Option (Option Value)
wherever pairs found = option_and_then (λ _. Some found) (gave pairs)

whichever : (given : Assignment) (all : Option (List Assignment)) (found : Option Value)
    → option_and_then (λ _. Some found) all ≡ option_and_then (λ _. Some found) (preceded (Some given) all)
whichever given None found = refl
whichever given (Some all) found = refl

unless-gave : (setting : Setting) (v : Value) (pairs : Pairs) → has setting pairs ≡ false
    → option_and_then (unless_again setting v) (gave pairs) ≡ wherever pairs (Some v)
unless-gave setting v [] none = refl
unless-gave setting v (pair ∷ pairs) none = go (value_of pair.0 pair.1) refl (is_same pair.0 setting) refl none (unless-gave setting v pairs)
  where
    go : (found : Option Value) → value_of pair.0 pair.1 ≡ found → (b : Bool) → is_same pair.0 setting ≡ b → has setting (pair ∷ pairs) ≡ false
        → (has setting pairs ≡ false → option_and_then (unless_again setting v) (gave pairs) ≡ wherever pairs (Some v))
        → option_and_then (unless_again setting v) (gave (pair ∷ pairs)) ≡ wherever (pair ∷ pairs) (Some v)
    go None is b same none rest = rw is refl
    go (Some w) is true same none rest = let no : true ≡ false = rw same at none in cc no
    go (Some w) is false same none rest =
        let following : has setting pairs ≡ false = rw same at none in
        let one : Assignment = record { setting = pair.0; value = w } in
        rw is (unless-step setting v (record { setting = pair.0; value = w }) _ false same ∙ rest following
        ∙ whichever (record { setting = pair.0; value = w }) (gave pairs) (Some v))

pub once-gave : (setting : Setting) (pairs : Pairs) → Distinct pairs → option_and_then (once setting) (gave pairs) ≡ wherever pairs (found_at setting pairs)
once-gave setting [] distinct = refl
once-gave setting (pair ∷ pairs) distinct = go (value_of pair.0 pair.1) refl (is_same pair.0 setting) refl (once-gave setting pairs distinct.1)
  where
    go : (found : Option Value) → value_of pair.0 pair.1 ≡ found → (b : Bool) → is_same pair.0 setting ≡ b
        → option_and_then (once setting) (gave pairs) ≡ wherever pairs (found_at setting pairs)
        → option_and_then (once setting) (gave (pair ∷ pairs)) ≡ wherever (pair ∷ pairs) (found_at setting (pair ∷ pairs))
    go None is b same rest = rw is refl
    go (Some w) is true same rest =
        let other : has setting pairs ≡ false = subst (λ (s : Setting). has s pairs ≡ false) (same-settings pair.0 setting same) distinct.0 in
        let here : value_of setting pair.1 ≡ Some w = subst (λ (s : Setting). value_of s pair.1 ≡ Some w) (same-settings pair.0 setting same) is in
        rw (is, same, here) (once-step setting (record { setting = pair.0; value = w }) _ true same ∙ unless-gave setting w pairs other
        ∙ whichever (record { setting = pair.0; value = w }) (gave pairs) (Some w))
    go (Some w) is false same rest =
        rw (is, same) (once-step setting (record { setting = pair.0; value = w }) _ false same ∙ rest
        ∙ whichever (record { setting = pair.0; value = w }) (gave pairs) (found_at setting pairs))
