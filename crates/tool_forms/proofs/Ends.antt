-- The result of a form's command after the last word.
use Rattle.std.proofs.Common.{◌≡◌, ◌∙◌, ◌&&◌, ◌||◌, fold, refl, sym, ap, ap₂, subst, ℕ, Bool, true, false, List, [], ◌∷◌, ◌++◌, map, Option, Some, None, is_some, option_and_then, codes}
use Rattle.std.specs.Prelude.{if◌then◌else◌}
use Rattle.std.specs.List.{list_any}
use Rattle.std.proofs.lemmas.Bool.{false≢true}
use Rattle.clap.specs.Kinds.{Kinds, or_else}
use Rattle.clap.specs.Walk.{Row, Text, default_rows, finished, first_of, has_row, more_values, reading_by, with_default}
use Rattle.clap.specs.Simple.{Shape}
use Rattle.clap.specs.Takes.{is_given}
use Rattle.clap.specs.Faults.{check_fault, default_fault, defaults_fault}
use Rattle.clap.specs.declared.parser.matches.ValueSource.TheVariants.{DefaultValue}
use Rattle.world_events.specs.declared.event.Side.{Side as EndSide}
use Rattle.tool_forms.specs.declared.campaign_words.Campaign.{Campaign}
use Rattle.tool_forms.specs.declared.words.Form.{Form}
use Rattle.tool_forms.specs.declared.settings.Table.{Table}
use Rattle.tool_forms.specs.declared.settings.Table.TheVariants as table
use Rattle.tool_forms.specs.declared.settings.Setting.{Setting}
use Rattle.tool_forms.specs.declared.settings.Setting.TheVariants.{First, Seeds, Events, Workers, Side, Plain, Buffer, Most, Seed, Flow}
use Rattle.tool_forms.specs.declared.settings.Way.{Way}
use Rattle.tool_forms.specs.declared.settings.Way.TheVariants as way
use Rattle.tool_forms.specs.Given.{Value}
use Rattle.tool_forms.specs.Given as value
use Rattle.tool_forms.specs.Given.{Assignment}
use Rattle.tool_forms.specs.Settings.{bare_name, is_marking, is_same, number_among, number_for, once, preceded, settings_of, side_in, way_of}
use Rattle.tool_forms.specs.CampaignWords.{campaign_from}
use Rattle.tool_forms.specs.Words.{listener_for, replay_with, replays, side_given}
use Rattle.tool_forms.specs.Commands.{campaign_in, chosen, figure_in, is_yes, listen_in, replay_from, replay_in}
use Rattle.tool_forms.proofs.Turns.{closes, holding, last-turn, passed, rests, verdict}
use Rattle.tool_forms.proofs.Pairs.{Distinct, FitsRow, Pairs, argument, argument_by, first-of, has, has-row, is-given, is-itself, rows, same-settings, some-is, text_at, unmet}
use Rattle.tool_forms.proofs.Onto.{assigned, found_at, gave, once-gave, onto, twice-none, value_of}
use Rattle.tool_forms.proofs.Reading.{Owned, owns, shape}

-- no default is refused, and a setting with a value has none
default-passes : (w : Way) (name : Text) (rs : List Row) (b : Bool) → has_row name rs ≡ b → default_fault rs (argument_by w name) ≡ []
default-passes way.Needed name rs true is = rw is refl
default-passes way.Needed name rs false is = rw is refl
default-passes _ name rs true is = rw is refl
default-passes _ name rs false is = rw is refl

defaults-pass : (settings : List Setting) (rs : List Row) → defaults_fault rs (map argument settings) ≡ []
unfolding defaults_fault
defaults-pass [] rs = refl
defaults-pass (s ∷ settings) rs =
    ap (λ (first : Kinds). or_else first (defaults_fault (with_default rs (argument s)) (map argument settings)))
    (default-passes (way_of s) (bare_name s) rs (has_row (bare_name s) rs) refl)
    ∙ defaults-pass settings (with_default rs (argument s))

no-default : (w : Way) (name : Text) (rs : List Row) (b : Bool) → has_row name rs ≡ b → is_marking w ≡ false → with_default rs (argument_by w name) ≡ rs
no-default way.Needed name rs true has is = rw has refl
no-default way.Needed name rs false has is = rw has refl
no-default way.Chosen name rs true has is = rw has refl
no-default way.Chosen name rs false has is = rw has refl
no-default way.Mark name rs b has is = cc is

no-defaults : (settings : List Setting) (rs : List Row) → list_any (λ s. is_marking (way_of s)) settings ≡ false
    → fold with_default rs (map argument settings) ≡ rs
no-defaults [] rs valued = refl
no-defaults (s ∷ settings) rs valued = go (is_marking (way_of s)) refl valued (no-defaults settings rs)
  where
    go : (b : Bool) → is_marking (way_of s) ≡ b → (b || list_any (λ s. is_marking (way_of s)) settings) ≡ false
        → (list_any (λ s. is_marking (way_of s)) settings ≡ false → fold with_default rs (map argument settings) ≡ rs)
        → fold with_default rs (map argument (s ∷ settings)) ≡ rs
    go true is valued rest = absurd (false≢true (sym valued))
    go false is valued rest =
        ap (λ (r : List Row). fold with_default r (map argument settings))
        (no-default (way_of s) (bare_name s) rs (has_row (bare_name s) rs) refl is)
        ∙ rest valued

module _ {X : Type 0} (judge : List Row → Option X) where
  -- if all settings have values, only what is required is judged after the last word
  pub valued-closes : (s : Shape) (settings : List Setting) (rs : List Row) → s.rules ≡ map argument settings
      → list_any (λ s. is_marking (way_of s)) settings ≡ false
      → passed (closes s (holding rs None)) (judge (finished s.rules (holding rs None))) ≡ passed (check_fault s rs false) (judge rs)
  valued-closes s settings rs is valued =
      ap₂ (λ (faults : Kinds) (last : List Row). passed (or_else faults (check_fault s last false)) (judge last))
      (ap (defaults_fault rs) is ∙ defaults-pass settings rs) (ap (fold with_default rs) is ∙ no-defaults settings rs valued)

-- ---- campaign

abbrev pub chain : Option ℕ → Option ℕ → Option ℕ → Option ℕ → Option Campaign
chain a b e d = option_and_then
    (λ first. option_and_then (λ seeds. option_and_then (λ events. option_and_then (λ workers. campaign_from first seeds events workers) d) e) b) a

abbrev pub number_once : Setting → Option (List Assignment) → Option ℕ
number_once setting all = number_among (option_and_then (once setting) all)

abbrev pub campaign_means : Option (List Assignment) → Option Campaign
campaign_means all = chain (number_once First all) (number_once Seeds all) (number_once Events all) (number_once Workers all)

chain-2 : (a e d : Option ℕ) → chain a None e d ≡ None
chain-2 None e d = refl
chain-2 (Some n) e d = refl

chain-3 : (a b d : Option ℕ) → chain a b None d ≡ None
chain-3 None b d = refl
chain-3 (Some n) None d = refl
chain-3 (Some n) (Some m) d = refl

chain-4 : (a b e : Option ℕ) → chain a b e None ≡ None
chain-4 None b e = refl
chain-4 (Some n) None e = refl
chain-4 (Some n) (Some m) None = refl
chain-4 (Some n) (Some m) (Some k) = refl

-- one figure that is none makes the whole none
one-none : (setting : Setting) (figure : Setting → Option ℕ) → owns table.Campaign setting ≡ true → figure setting ≡ None
    → chain (figure First) (figure Seeds) (figure Events) (figure Workers) ≡ None
one-none First figure is none = rw none refl
one-none Seeds figure is none = rw none (chain-2 (figure First) (figure Events) (figure Workers))
one-none Events figure is none = rw none (chain-3 (figure First) (figure Seeds) (figure Workers))
one-none Workers figure is none = rw none (chain-4 (figure First) (figure Seeds) (figure Events))
one-none _ figure is none = absurd (false≢true is)

pub campaign-once : (setting : Setting) (text : Text) (all : Option (List Assignment)) (pairs : Pairs) → owns table.Campaign setting ≡ true
    → has setting pairs ≡ true
    → campaign_means (onto pairs (preceded (assigned setting text) all)) ≡ None
campaign-once setting text all pairs is twice =
    one-none setting (λ s. number_once s (onto pairs (preceded (assigned setting text) all))) is (ap number_among (twice-none setting text all pairs twice))

module _ {X : Type 0} (judge : List Row → Option X) where
  campaign-closes : (rs : List Row) (a b e d : Bool) → is_given (codes "first") rs ≡ a → is_given (codes "seeds") rs ≡ b
      → is_given (codes "events") rs ≡ e → is_given (codes "workers") rs ≡ d
      → passed (check_fault (shape table.Campaign) rs false) (judge rs) ≡ (if a && (b && (e && d)) then judge rs else None)
  campaign-closes rs true true true true f g h i = rw (f, g, h, i) refl
  campaign-closes rs true true true false f g h i = rw (f, g, h, i) refl
  campaign-closes rs true true false d f g h i = rw (f, g, h) refl
  campaign-closes rs true false e d f g h i = rw (f, g) refl
  campaign-closes rs false b e d f g h i = rw f refl

abbrev pub number_at : Pairs → Setting → Option ℕ
number_at pairs setting = option_and_then (number_for setting) (text_at setting pairs)

pub lacks-text : (setting : Setting) (pairs : Pairs) → has setting pairs ≡ false → text_at setting pairs ≡ None
lacks-text setting [] none = refl
lacks-text setting (pair ∷ pairs) none = go (is_same pair.0 setting) refl none (lacks-text setting pairs)
  where
    go : (b : Bool) → is_same pair.0 setting ≡ b → has setting (pair ∷ pairs) ≡ false → (has setting pairs ≡ false → text_at setting pairs ≡ None)
        → text_at setting (pair ∷ pairs) ≡ None
    go true same none rest = let never : true ≡ false = rw same at none in cc never
    go false other none rest = let following : has setting pairs ≡ false = rw other at none in rw other (rest following)

-- a pair whose text is no value
pub record Bad (pairs : Pairs) : Type 0 where
  pub setting : Setting
  pub text : Text
  pub at : text_at setting pairs ≡ Some text
  pub bad : value_of setting text ≡ None
  pub own : (t : Table) → Owned t pairs → owns t setting ≡ true

pub some-bad : (pairs : Pairs) → Distinct pairs → gave pairs ≡ None → Bad pairs
some-bad [] distinct none = cc none
some-bad (pair ∷ pairs) distinct none = go (value_of pair.0 pair.1) refl (gave pairs) refl (some-bad pairs distinct.1)
  where
    later : Bad pairs → Bad (pair ∷ pairs)
    later found = record {
      setting = found.setting;
      text = found.text;
      at = by (is_same pair.0 found.setting) refl;
      bad = found.bad;
      own = λ t owned. found.own t owned.1;
    }
      where
        by : (b : Bool) → is_same pair.0 found.setting ≡ b → text_at found.setting (pair ∷ pairs) ≡ Some found.text
        by true same =
            let gone : has found.setting pairs ≡ false = subst (λ (s : Setting). has s pairs ≡ false) (same-settings pair.0 found.setting same) distinct.0 in
            let never : Some found.text ≡ None = sym found.at ∙ lacks-text found.setting pairs gone in cc never
        by false other = rw other found.at

    go : (v : Option Value) → value_of pair.0 pair.1 ≡ v → (all : Option (List Assignment)) → gave pairs ≡ all → (gave pairs ≡ None → Bad pairs)
        → Bad (pair ∷ pairs)
    go None is all more rest = record { setting = pair.0; text = pair.1; at = rw (is-itself pair.0) refl; bad = is; own = λ t owned. owned.0.0 }
    go (Some v) is None more rest = later (rest more)
    go (Some v) is (Some all) more rest = let never : Some ((record { setting = pair.0; value = v }) ∷ all) ≡ None = rw (is, more) at none in cc never

-- a setting that has a number, and the number that its value is
abbrev pub is_figure : Setting → Bool
is_figure Side = false
is_figure Plain = false
is_figure _ = true

figure-value : (setting : Setting) (text : Text) → is_figure setting ≡ true
    → value_of setting text ≡ option_and_then (λ n. Some (value.Number n)) (number_for setting text)
figure-value Side text is = absurd (false≢true is)
figure-value Plain text is = absurd (false≢true is)
figure-value _ text is = refl

number-of : (n : Option ℕ) → number_among (Some (option_and_then (λ n. Some (value.Number n)) n)) ≡ n
number-of None = refl
number-of (Some n) = refl

number-found : (setting : Setting) (found : Option Text) → is_figure setting ≡ true
    → number_among (Some (option_and_then (value_of setting) found)) ≡ option_and_then (number_for setting) found
number-found setting None is = refl
number-found setting (Some text) is = ap (λ (v : Option Value). number_among (Some v)) (figure-value setting text is) ∙ number-of (number_for setting text)

pub number-gave : (setting : Setting) (pairs : Pairs) (all : List Assignment) → Distinct pairs → gave pairs ≡ Some all → is_figure setting ≡ true
    → number_once setting (gave pairs) ≡ number_at pairs setting
number-gave setting pairs all distinct is figure =
    ap number_among (once-gave setting pairs distinct ∙ ap (λ (a : Option (List Assignment)). option_and_then (λ _. Some (found_at setting pairs)) a) is)
    ∙ number-found setting (text_at setting pairs) figure

unnumbered : (n : Option ℕ) → option_and_then (λ n. Some (value.Number n)) n ≡ None → n ≡ None
unnumbered None none = refl
unnumbered (Some n) none = cc none

pub unvalued : (setting : Setting) (text : Text) → is_figure setting ≡ true → value_of setting text ≡ None → number_for setting text ≡ None
unvalued setting text is bad = unnumbered (number_for setting text) (sym (figure-value setting text is) ∙ bad)

figures : (setting : Setting) → owns table.Campaign setting ≡ true → is_figure setting ≡ true
figures Side is = absurd (false≢true is)
figures Plain is = absurd (false≢true is)
figures _ is = refl

chain-at : (pairs : Pairs) → Option Campaign
chain-at pairs = chain (number_at pairs First) (number_at pairs Seeds) (number_at pairs Events) (number_at pairs Workers)

chain-gave : (pairs : Pairs) → Distinct pairs → Owned table.Campaign pairs → chain-at pairs ≡ campaign_means (gave pairs)
unfolding chain-at
chain-gave pairs distinct owned = go (gave pairs) refl
  where
    go : (all : Option (List Assignment)) → gave pairs ≡ all → chain-at pairs ≡ campaign_means (gave pairs)
    go (Some all) is = sym (ap₂ (λ (a b : Option ℕ). chain a b (number_once Events (gave pairs)) (number_once Workers (gave pairs)))
        (number-gave First pairs all distinct is refl) (number-gave Seeds pairs all distinct is refl)
        ∙ ap₂ (λ (e d : Option ℕ). chain (number_at pairs First) (number_at pairs Seeds) e d)
        (number-gave Events pairs all distinct is refl) (number-gave Workers pairs all distinct is refl))
    go None is =
        let found = some-bad pairs distinct is in
        one-none found.setting (number_at pairs) (found.own table.Campaign owned)
        (ap (option_and_then (number_for found.setting)) found.at
        ∙ unvalued found.setting found.text (figures found.setting (found.own table.Campaign owned)) found.bad)
        ∙ sym (ap campaign_means is)

-- where a figure is missing there is no campaign
all-needed : (pairs : Pairs) (a b e d : Bool) → has First pairs ≡ a → has Seeds pairs ≡ b → has Events pairs ≡ e → has Workers pairs ≡ d
    → (if a && (b && (e && d)) then chain-at pairs else None) ≡ chain-at pairs
unfolding chain-at
all-needed pairs true true true true f g h i = refl
all-needed pairs false b e d f g h i = sym (one-none First (number_at pairs) refl (ap (option_and_then (number_for First)) (lacks-text First pairs f)))
all-needed pairs true false e d f g h i = sym (one-none Seeds (number_at pairs) refl (ap (option_and_then (number_for Seeds)) (lacks-text Seeds pairs g)))
all-needed pairs true true false d f g h i = sym (one-none Events (number_at pairs) refl (ap (option_and_then (number_for Events)) (lacks-text Events pairs h)))
all-needed pairs true true true false f g h i =
    sym (one-none Workers (number_at pairs) refl (ap (option_and_then (number_for Workers)) (lacks-text Workers pairs i)))

judged-at : (pairs : Pairs) → campaign_in (rows pairs) ≡ chain-at pairs
unfolding chain-at
judged-at pairs =
    ap₂ (λ (a b : Option Text). chain (option_and_then (number_for First) a) (option_and_then (number_for Seeds) b) (figure_in Events (rows pairs))
    (figure_in Workers (rows pairs)))
    (first-of First pairs) (first-of Seeds pairs)
    ∙ ap₂ (λ (e d : Option Text). chain (number_at pairs First) (number_at pairs Seeds) (option_and_then (number_for Events) e)
    (option_and_then (number_for Workers) d))
    (first-of Events pairs) (first-of Workers pairs)

pub campaign-ends : (pairs : Pairs) → Distinct pairs → Owned table.Campaign pairs
    → verdict campaign_in (shape table.Campaign) (rests (rows pairs) None) [] ≡ campaign_means (gave pairs)
campaign-ends pairs distinct owned =
    last-turn campaign_in (shape table.Campaign) (rests (rows pairs) None)
    ∙ valued-closes campaign_in (shape table.Campaign) (settings_of table.Campaign) (rows pairs) refl refl
    ∙ campaign-closes campaign_in (rows pairs) (has First pairs) (has Seeds pairs) (has Events pairs) (has Workers pairs) (is-given First pairs)
    (is-given Seeds pairs) (is-given Events pairs) (is-given Workers pairs)
    ∙ ap (λ (found : Option Campaign). if has First pairs && (has Seeds pairs && (has Events pairs && has Workers pairs)) then found else None)
    (judged-at pairs)
    ∙ all-needed pairs (has First pairs) (has Seeds pairs) (has Events pairs) (has Workers pairs) refl refl refl refl
    ∙ chain-gave pairs distinct owned

-- ---- listen

abbrev pub listen_means : Option (List Assignment) → Option Form
listen_means all = listener_for (number_once Most all)

only-most : (setting : Setting) → owns table.Listen setting ≡ true → setting ≡ Most
only-most setting is = go (is_same Most setting) refl is
  where
    go : (b : Bool) → is_same Most setting ≡ b → owns table.Listen setting ≡ true → setting ≡ Most
    go true same is = sym (same-settings Most setting same)
    go false other is = let never : false ≡ true = rw other at is in cc never

pub listen-once : (setting : Setting) (text : Text) (all : Option (List Assignment)) (pairs : Pairs) → owns table.Listen setting ≡ true
    → has setting pairs ≡ true
    → listen_means (onto pairs (preceded (assigned setting text) all)) ≡ None
listen-once setting text all pairs is twice =
    subst (λ (s : Setting). listener_for (number_among (option_and_then (once s) (onto pairs (preceded (assigned setting text) all)))) ≡ None)
    (only-most setting is)
    (ap (λ (found : Option (Option Value)). listener_for (number_among found)) (twice-none setting text all pairs twice))

module _ {X : Type 0} (judge : List Row → Option X) where
  listen-closes : (rs : List Row) (a : Bool) → is_given (codes "most") rs ≡ a
      → passed (check_fault (shape table.Listen) rs false) (judge rs) ≡ (if a then judge rs else None)
  listen-closes rs true f = rw f refl
  listen-closes rs false f = rw f refl

most-gave : (pairs : Pairs) → Distinct pairs → Owned table.Listen pairs → number_at pairs Most ≡ number_once Most (gave pairs)
most-gave pairs distinct owned = go (gave pairs) refl
  where
    go : (all : Option (List Assignment)) → gave pairs ≡ all → number_at pairs Most ≡ number_once Most (gave pairs)
    go (Some all) is = sym (number-gave Most pairs all distinct is refl)
    go None is =
        let found = some-bad pairs distinct is in
        let own : found.setting ≡ Most = only-most found.setting (found.own table.Listen owned) in
        let at : text_at Most pairs ≡ Some found.text = subst (λ (s : Setting). text_at s pairs ≡ Some found.text) own found.at in
        let bad : value_of Most found.text ≡ None = subst (λ (s : Setting). value_of s found.text ≡ None) own found.bad in
        ap (option_and_then (number_for Most)) at ∙ unvalued Most found.text refl bad ∙ sym (ap (number_once Most) is)

pub listen-ends : (pairs : Pairs) → Distinct pairs → Owned table.Listen pairs
    → verdict listen_in (shape table.Listen) (rests (rows pairs) None) [] ≡ listen_means (gave pairs)
listen-ends pairs distinct owned =
    last-turn listen_in (shape table.Listen) (rests (rows pairs) None)
    ∙ valued-closes listen_in (shape table.Listen) (settings_of table.Listen) (rows pairs) refl refl
    ∙ listen-closes listen_in (rows pairs) (has Most pairs) (is-given Most pairs)
    ∙ ap (λ (text : Option Text). if has Most pairs then listener_for (option_and_then (number_for Most) text) else None) (first-of Most pairs)
    ∙ needed (has Most pairs) refl
    ∙ ap listener_for (most-gave pairs distinct owned)
  where
    needed : (b : Bool) → has Most pairs ≡ b
        → (if b then listener_for (option_and_then (number_for Most) (text_at Most pairs)) else None) ≡ listener_for
        (option_and_then (number_for Most) (text_at Most pairs))
    needed true some = refl
    needed false none = sym (ap (λ (text : Option Text). listener_for (option_and_then (number_for Most) text)) (lacks-text Most pairs none))

-- ---- replay

abbrev pub replay_means : Option (List Assignment) → Option Form
replay_means all = replays (option_and_then (once Plain) all) (side_given (option_and_then (once Side) all)) (option_and_then (once Buffer) all)

no-side : (plain buffer : Option (Option Value)) → replays plain None buffer ≡ None
no-side None buffer = refl
no-side (Some plain) buffer = refl

no-buffer : (plain : Option (Option Value)) (side : Option EndSide) → replays plain side None ≡ None
no-buffer None side = refl
no-buffer (Some plain) None = refl
no-buffer (Some plain) (Some side) = refl

pub replay-once : (setting : Setting) (text : Text) (all : Option (List Assignment)) (pairs : Pairs) → owns table.Replay setting ≡ true
    → has setting pairs ≡ true
    → replay_means (onto pairs (preceded (assigned setting text) all)) ≡ None
replay-once Side text all pairs is twice =
    rw (twice-none Side text all pairs twice)
    (no-side (option_and_then (once Plain) (onto pairs (preceded (assigned Side text) all)))
    (option_and_then (once Buffer) (onto pairs (preceded (assigned Side text) all))))
replay-once Plain text all pairs is twice = rw (twice-none Plain text all pairs twice) refl
replay-once Buffer text all pairs is twice =
    rw (twice-none Buffer text all pairs twice)
    (no-buffer (option_and_then (once Plain) (onto pairs (preceded (assigned Buffer text) all)))
    (side_given (option_and_then (once Side) (onto pairs (preceded (assigned Buffer text) all)))))
replay-once _ text all pairs is twice = absurd (false≢true is)

-- the row of the mark where it is not given, and the rows with it
unmarked : Row
unmarked = record { id = codes "plain"; values = codes "false" ∷ []; count = None; source = Some DefaultValue; reading = reading_by (argument Plain) }

with-unmarked : (pairs : Pairs) → has Plain pairs ≡ false → with_default (rows pairs) (argument Plain) ≡ rows pairs ++ unmarked ∷ []
unfolding unmarked
with-unmarked pairs none = rw (has-row Plain pairs ∙ none) (unmet Plain (more_values DefaultValue (codes "false" ∷ [])) (unmarked ∷ []) pairs none)

-- a setting is found in front of the rows after it
given-before : (setting : Setting) (more : List Row) (pairs : Pairs) → is_given (bare_name setting) more ≡ false
    → is_given (bare_name setting) (rows pairs ++ more) ≡ has setting pairs
given-before setting more [] none = none
given-before setting more (pair ∷ pairs) none = go (is_same pair.0 setting) refl (given-before setting more pairs none)
  where
    go : (b : Bool) → is_same pair.0 setting ≡ b → is_given (bare_name setting) (rows pairs ++ more) ≡ has setting pairs
        → is_given (bare_name setting) (rows (pair ∷ pairs) ++ more) ≡ has setting (pair ∷ pairs)
    go true same rest = rw same refl
    go false other rest = rw other rest

first-before : (setting : Setting) (more : List Row) (pairs : Pairs) → first_of (bare_name setting) more ≡ None
    → first_of (bare_name setting) (rows pairs ++ more) ≡ text_at setting pairs
first-before setting more [] none = none
first-before setting more (pair ∷ pairs) none = go (is_same pair.0 setting) refl (first-before setting more pairs none)
  where
    go : (b : Bool) → is_same pair.0 setting ≡ b → first_of (bare_name setting) (rows pairs ++ more) ≡ text_at setting pairs
        → first_of (bare_name setting) (rows (pair ∷ pairs) ++ more) ≡ text_at setting (pair ∷ pairs)
    go true same rest = rw same refl
    go false other rest = rw other rest

-- a setting that is not given is found after
first-after : (setting : Setting) (more : List Row) (pairs : Pairs) → has setting pairs ≡ false
    → first_of (bare_name setting) (rows pairs ++ more) ≡ first_of (bare_name setting) more
first-after setting more [] none = refl
first-after setting more (pair ∷ pairs) none = go (is_same pair.0 setting) refl none (first-after setting more pairs)
  where
    go : (b : Bool) → is_same pair.0 setting ≡ b → has setting (pair ∷ pairs) ≡ false
        → (has setting pairs ≡ false → first_of (bare_name setting) (rows pairs ++ more) ≡ first_of (bare_name setting) more)
        → first_of (bare_name setting) (rows (pair ∷ pairs) ++ more) ≡ first_of (bare_name setting) more
    go true same none rest = let never : true ≡ false = rw same at none in cc never
    go false other none rest = let following : has setting pairs ≡ false = rw other at none in rw other (rest following)

plain-text : (pairs : Pairs) → Owned table.Replay pairs → has Plain pairs ≡ true → text_at Plain pairs ≡ Some (codes "true")
plain-text [] owned some = cc some
plain-text (pair ∷ pairs) owned some = go (is_same pair.0 Plain) refl some (plain-text pairs owned.1)
  where
    go : (b : Bool) → is_same pair.0 Plain ≡ b → has Plain (pair ∷ pairs) ≡ true → (has Plain pairs ≡ true → text_at Plain pairs ≡ Some (codes "true"))
        → text_at Plain (pair ∷ pairs) ≡ Some (codes "true")
    go true same some rest =
        let fits : FitsRow Plain pair.1 = subst (λ (s : Setting). FitsRow s pair.1) (same-settings pair.0 Plain same) owned.0.1 in
        rw same (ap (λ (text : Text). Some text) fits)
    go false other some rest = let following : has Plain pairs ≡ true = rw other at some in rw other (rest following)

has-text : (setting : Setting) (pairs : Pairs) → is_some (text_at setting pairs) ≡ has setting pairs
has-text setting [] = refl
has-text setting (pair ∷ pairs) = go (is_same pair.0 setting) refl (has-text setting pairs)
  where
    go : (b : Bool) → is_same pair.0 setting ≡ b → is_some (text_at setting pairs) ≡ has setting pairs
        → is_some (text_at setting (pair ∷ pairs)) ≡ has setting (pair ∷ pairs)
    go true same rest = rw same refl
    go false other rest = rw other rest

replay-finished : (rs : List Row) → finished (shape table.Replay).rules (holding rs None) ≡ with_default rs (argument Plain)
replay-finished rs =
    ap (λ (r : List Row). with_default (with_default r (argument Buffer)) (argument Plain))
    (no-default way.Needed (codes "side") rs (has_row (codes "side") rs) refl refl)
    ∙ ap (λ (r : List Row). with_default r (argument Plain)) (no-default way.Chosen (codes "buffer") rs (has_row (codes "buffer") rs) refl refl)

module _ {X : Type 0} (judge : List Row → Option X) where
  replay-closes : (rs end : List Row) (a : Bool) → with_default rs (argument Plain) ≡ end → is_given (codes "side") end ≡ a
      → passed (closes (shape table.Replay) (holding rs None)) (judge (finished (shape table.Replay).rules (holding rs None))) ≡ (if a then judge end else None)
  replay-closes rs end a is given =
      ap₂ (λ (faults : Kinds) (last : List Row). passed (or_else faults (check_fault (shape table.Replay) last false)) (judge last))
      (defaults-pass (settings_of table.Replay) rs) (replay-finished rs ∙ is)
      ∙ by a given
    where
      by : (a : Bool) → is_given (codes "side") end ≡ a
          → passed (or_else [] (check_fault (shape table.Replay) end false)) (judge end) ≡ (if a then judge end else None)
      by true given = rw given refl
      by false given = rw given refl

-- the result of the texts of a replay's settings
abbrev replay_at : Pairs → Option Form
replay_at pairs = replay_from (text_at Side pairs) (has Plain pairs) (text_at Buffer pairs)

-- after the rows of all settings
replay-read : (pairs : Pairs) (end : List Row) → first_of (codes "side") end ≡ text_at Side pairs → is_yes (first_of (codes "plain") end) ≡ has Plain pairs
    → first_of (codes "buffer") end ≡ text_at Buffer pairs → replay_in end ≡ replay_at pairs
replay-read pairs end side plain buffer =
    ap₂ (λ (s : Option Text) (p : Bool). replay_from s p (first_of (codes "buffer") end)) side plain
    ∙ ap (λ (b : Option Text). replay_from (text_at Side pairs) (has Plain pairs) b) buffer

-- without a side there is no replay
side-needed : (pairs : Pairs) (b : Bool) → has Side pairs ≡ b → (if b then replay_at pairs else None) ≡ replay_at pairs
side-needed pairs true some = refl
side-needed pairs false none = sym (ap (λ (side : Option Text). replay_from side (has Plain pairs) (text_at Buffer pairs)) (lacks-text Side pairs none))

replay-closed : (pairs : Pairs) → Owned table.Replay pairs
    → passed (closes (shape table.Replay) (holding (rows pairs) None)) (replay_in (finished (shape table.Replay).rules (holding (rows pairs) None)))
    ≡ replay_at pairs
unfolding unmarked
replay-closed pairs owned = go (has Plain pairs) refl
  where
    go : (b : Bool) → has Plain pairs ≡ b
        → passed (closes (shape table.Replay) (holding (rows pairs) None)) (replay_in (finished (shape table.Replay).rules (holding (rows pairs) None)))
        ≡ replay_at pairs
    go true some =
        replay-closes replay_in (rows pairs) (rows pairs) (has Side pairs)
        (ap (λ (b : Bool). if b then rows pairs else default_rows (codes "plain") (reading_by (argument Plain)) (codes "false" ∷ []) (rows pairs))
        (has-row Plain pairs ∙ some))
        (is-given Side pairs)
        ∙ ap (λ (found : Option Form). if has Side pairs then found else None)
        (replay-read pairs (rows pairs) (first-of Side pairs) (ap is_yes (first-of Plain pairs ∙ plain-text pairs owned some) ∙ sym some)
        (first-of Buffer pairs))
        ∙ side-needed pairs (has Side pairs) refl
    go false none =
        replay-closes replay_in (rows pairs) (rows pairs ++ unmarked ∷ []) (has Side pairs) (with-unmarked pairs none)
        (given-before Side (unmarked ∷ []) pairs refl)
        ∙ ap (λ (found : Option Form). if has Side pairs then found else None)
        (replay-read pairs (rows pairs ++ unmarked ∷ []) (first-before Side (unmarked ∷ []) pairs refl)
        (ap is_yes (first-after Plain (unmarked ∷ []) pairs none) ∙ sym none) (first-before Buffer (unmarked ∷ []) pairs refl))
        ∙ side-needed pairs (has Side pairs) refl

-- each text of pairs that give something is a value
all-good : (setting : Setting) (text : Text) (all : List Assignment) (pairs : Pairs) → gave pairs ≡ Some all → text_at setting pairs ≡ Some text
    → value_of setting text ≡ None → ⊥
all-good setting text all [] is stands bad = let never : None ≡ Some text = stands in cc never
all-good setting text all (pair ∷ pairs) is stands bad =
    go (value_of pair.0 pair.1) refl (gave pairs) refl (is_same pair.0 setting) refl (λ rest more following. all-good setting text rest pairs more following bad)
  where
    go : (found : Option Value) → value_of pair.0 pair.1 ≡ found → (rest : Option (List Assignment)) → gave pairs ≡ rest → (b : Bool)
        → is_same pair.0 setting ≡ b
        → ((all : List Assignment) → gave pairs ≡ Some all → text_at setting pairs ≡ Some text → ⊥) → ⊥
    go None none rest more b same further = let never : None ≡ Some all = rw none at is in cc never
    go (Some v) some None more b same further = let never : None ≡ Some all = rw (some, more) at is in cc never
    go (Some v) some (Some rest) more true same further =
        let found : Some pair.1 ≡ Some text = rw same at stands in
        let here : value_of setting pair.1 ≡ Some v = subst (λ (s : Setting). value_of s pair.1 ≡ Some v) (same-settings pair.0 setting same) some in
        let never : None ≡ Some v = sym bad ∙ ap (value_of setting) (sym (some-is pair.1 text found)) ∙ here in cc never
    go (Some v) some (Some rest) more false other further =
        let following : text_at setting pairs ≡ Some text = rw other at stands in further rest more following

-- the result of three texts, of which that of the buffer is a value, if it is there
replay-joined : (side plain buffer : Option Text) → ((text : Text) → buffer ≡ Some text → number_for Buffer text ≡ None → ⊥)
    → replay_from side (is_some plain) buffer
    ≡ replays (Some (option_and_then (value_of Plain) plain)) (side_given (Some (option_and_then (value_of Side) side)))
    (Some (option_and_then (value_of Buffer) buffer))
replay-joined None plain buffer good = refl
replay-joined (Some s) plain buffer good = go (side_in s) refl
  where
    capacity : (side : EndSide) (plain : Option Text) (buffer : Option Text) → ((text : Text) → buffer ≡ Some text → number_for Buffer text ≡ None → ⊥)
        → option_and_then (λ b. Some (replay_with side (is_some plain) b)) (chosen Buffer buffer)
        ≡ replays (Some (option_and_then (value_of Plain) plain)) (Some side) (Some (option_and_then (value_of Buffer) buffer))
    capacity side None None good = refl
    capacity side (Some p) None good = refl
    capacity side None (Some b) good = by (number_for Buffer b) refl
      where
        by : (n : Option ℕ) → number_for Buffer b ≡ n → option_and_then (λ b. Some (replay_with side false b)) (chosen Buffer (Some b))
            ≡ replays (Some None) (Some side) (Some (option_and_then (value_of Buffer) (Some b)))
        by None none = absurd (good b refl none)
        by (Some n) is = rw is refl
    capacity side (Some p) (Some b) good = by (number_for Buffer b) refl
      where
        by : (n : Option ℕ) → number_for Buffer b ≡ n → option_and_then (λ b. Some (replay_with side true b)) (chosen Buffer (Some b))
            ≡ replays (Some (Some value.Mark)) (Some side) (Some (option_and_then (value_of Buffer) (Some b)))
        by None none = absurd (good b refl none)
        by (Some n) is = rw is refl

    go : (found : Option EndSide) → side_in s ≡ found → replay_from (Some s) (is_some plain) buffer
        ≡ replays (Some (option_and_then (value_of Plain) plain)) (side_given (Some (option_and_then (value_of Side) (Some s))))
        (Some (option_and_then (value_of Buffer) buffer))
    go None none = rw none refl
    go (Some side) is = rw is (capacity side plain buffer good)

no-capacity : (side : Option EndSide) (plain : Bool)
    → option_and_then (λ side. option_and_then (λ buffer. Some (replay_with side plain buffer)) None) side ≡ None
no-capacity None plain = refl
no-capacity (Some side) plain = refl

-- a text that is no value makes the whole none
replay-bad : (pairs : Pairs) (setting : Setting) (text : Text) → owns table.Replay setting ≡ true → text_at setting pairs ≡ Some text
    → value_of setting text ≡ None
    → replay_at pairs ≡ None
replay-bad pairs Side text own at bad =
    ap (λ (side : Option Text). replay_from side (has Plain pairs) (text_at Buffer pairs)) at ∙ go (side_in text) refl bad
  where
    go : (found : Option EndSide) → side_in text ≡ found → value_of Side text ≡ None → replay_from (Some text) (has Plain pairs) (text_at Buffer pairs) ≡ None
    go None none bad = rw none refl
    go (Some side) is bad = let never : Some (value.End side) ≡ None = rw is at bad in cc never
replay-bad pairs Plain text own at bad = cc bad
replay-bad pairs Buffer text own at bad =
    ap (λ (buffer : Option Text). replay_from (text_at Side pairs) (has Plain pairs) buffer) at
    ∙ ap (λ (n : Option ℕ). option_and_then
    (λ side. option_and_then (λ buffer. Some (replay_with side (has Plain pairs) buffer)) (option_and_then (λ n. Some (Some n)) n))
    (option_and_then side_in (text_at Side pairs))) (unvalued Buffer text refl bad)
    ∙ no-capacity (option_and_then side_in (text_at Side pairs)) (has Plain pairs)
replay-bad pairs _ text own at bad = absurd (false≢true own)

replay-gave : (pairs : Pairs) → Distinct pairs → Owned table.Replay pairs → replay_at pairs ≡ replay_means (gave pairs)
replay-gave pairs distinct owned = go (gave pairs) refl
  where
    at : (setting : Setting) (all : List Assignment) → gave pairs ≡ Some all
        → option_and_then (once setting) (gave pairs) ≡ Some (option_and_then (value_of setting) (text_at setting pairs))
    at setting all is = once-gave setting pairs distinct ∙ ap (λ (a : Option (List Assignment)). option_and_then (λ _. Some (found_at setting pairs)) a) is

    go : (all : Option (List Assignment)) → gave pairs ≡ all → replay_at pairs ≡ replay_means (gave pairs)
    go (Some all) is =
        ap (λ (plain : Bool). replay_from (text_at Side pairs) plain (text_at Buffer pairs)) (sym (has-text Plain pairs))
        ∙ replay-joined (text_at Side pairs) (text_at Plain pairs) (text_at Buffer pairs)
        (λ text some none. all-good Buffer text all pairs is some (ap (option_and_then (λ n. Some (value.Number n))) none))
        ∙ sym (ap₂ (λ (plain side : Option (Option Value)). replays plain (side_given side) (option_and_then (once Buffer) (gave pairs))) (at Plain all is)
        (at Side all is)
        ∙ ap (λ (buffer : Option (Option Value)). replays (Some (found_at Plain pairs)) (side_given (Some (found_at Side pairs))) buffer) (at Buffer all is))
    go None is =
        let found = some-bad pairs distinct is in
        replay-bad pairs found.setting found.text (found.own table.Replay owned) found.at found.bad ∙ sym (ap replay_means is)

pub replay-ends : (pairs : Pairs) → Distinct pairs → Owned table.Replay pairs
    → verdict replay_in (shape table.Replay) (rests (rows pairs) None) [] ≡ replay_means (gave pairs)
replay-ends pairs distinct owned =
    last-turn replay_in (shape table.Replay) (rests (rows pairs) None) ∙ replay-closed pairs owned ∙ replay-gave pairs distinct owned
