-- The results of the commands of `seed`, `seeds` and `frames` after the last word.
use Rattle.std.proofs.Common.{◌≡◌, ◌∙◌, ◌&&◌, refl, sym, ap, ap₂, ℕ, Bool, true, false, List, [], Option, Some, None, option_and_then, codes}
use Rattle.std.specs.Prelude.{if◌then◌else◌}
use Rattle.std.proofs.lemmas.Bool.{false≢true}
use Rattle.clap.specs.Walk.{Row, Text}
use Rattle.clap.specs.Takes.{is_given}
use Rattle.clap.specs.Faults.{check_fault}
use Rattle.world_events.specs.declared.event.Side.{Side as EndSide}
use Rattle.tool_forms.specs.declared.bridge_words.FlowSide.{FlowSide}
use Rattle.tool_forms.specs.declared.bridge_words.SeedRange.{SeedRange}
use Rattle.tool_forms.specs.declared.bridge_words.SeedRun.{SeedRun}
use Rattle.tool_forms.specs.declared.settings.Table.TheVariants as table
use Rattle.tool_forms.specs.declared.settings.Setting.{Setting}
use Rattle.tool_forms.specs.declared.settings.Setting.TheVariants.{First, Seeds, Events, Workers, Side, Plain, Buffer, Most, Seed, Flow}
use Rattle.tool_forms.specs.Given as value
use Rattle.tool_forms.specs.Given.{Assignment}
use Rattle.tool_forms.specs.Settings.{number_among, number_for, once, preceded, settings_of, side_in}
use Rattle.tool_forms.specs.BridgeWords.{flow_side_from, seed_range_from, seed_run_from}
use Rattle.tool_forms.specs.Words.{side_given}
use Rattle.tool_forms.specs.Commands.{figure_in, flow_side_in, seed_range_in, seed_run_in}
use Rattle.tool_forms.proofs.Turns.{last-turn, passed, rests, verdict}
use Rattle.tool_forms.proofs.Pairs.{Distinct, Pairs, first-of, has, is-given, rows, text_at}
use Rattle.tool_forms.proofs.Onto.{assigned, found_at, gave, once-gave, onto, twice-none, value_of}
use Rattle.tool_forms.proofs.Reading.{Owned, owns, shape}
use Rattle.tool_forms.proofs.Ends.{lacks-text, number-gave, number_at, number_once, some-bad, unvalued, valued-closes}

-- ---- seed

abbrev pub seed_means : Option (List Assignment) → Option SeedRun
seed_means all = seed_run_from (number_once Seed all) (number_once Events all)

no-events : (seed : Option ℕ) → seed_run_from seed None ≡ None
no-events None = refl
no-events (Some n) = refl

-- one figure that is none makes the whole none
none-of-seed : (setting : Setting) (figure : Setting → Option ℕ) → owns table.Seed setting ≡ true → figure setting ≡ None
    → seed_run_from (figure Seed) (figure Events) ≡ None
none-of-seed Seed figure is none = rw none refl
none-of-seed Events figure is none = rw none (no-events (figure Seed))
none-of-seed _ figure is none = absurd (false≢true is)

pub seed-once : (setting : Setting) (text : Text) (all : Option (List Assignment)) (pairs : Pairs) → owns table.Seed setting ≡ true → has setting pairs ≡ true
    → seed_means (onto pairs (preceded (assigned setting text) all)) ≡ None
seed-once setting text all pairs is twice =
    none-of-seed setting (λ s. number_once s (onto pairs (preceded (assigned setting text) all))) is (ap number_among (twice-none setting text all pairs twice))

module _ {X : Type 0} (judge : List Row → Option X) where
  seed-closes : (rs : List Row) (a b : Bool) → is_given (codes "seed") rs ≡ a → is_given (codes "events") rs ≡ b
      → passed (check_fault (shape table.Seed) rs false) (judge rs) ≡ (if a && b then judge rs else None)
  seed-closes rs true true f g = rw (f, g) refl
  seed-closes rs true false f g = rw (f, g) refl
  seed-closes rs false b f g = rw f refl

seed-at : (pairs : Pairs) → Option SeedRun
seed-at pairs = seed_run_from (number_at pairs Seed) (number_at pairs Events)

seed-owned : (setting : Setting) → owns table.Seed setting ≡ true → (pairs : Pairs) (text : Text) → text_at setting pairs ≡ Some text
    → value_of setting text ≡ None
    → number_at pairs setting ≡ None
seed-owned Seed is pairs text at bad = ap (option_and_then (number_for Seed)) at ∙ unvalued Seed text refl bad
seed-owned Events is pairs text at bad = ap (option_and_then (number_for Events)) at ∙ unvalued Events text refl bad
seed-owned _ is pairs text at bad = absurd (false≢true is)

seed-gave : (pairs : Pairs) → Distinct pairs → Owned table.Seed pairs → seed-at pairs ≡ seed_means (gave pairs)
unfolding seed-at
seed-gave pairs distinct owned = go (gave pairs) refl
  where
    go : (all : Option (List Assignment)) → gave pairs ≡ all → seed-at pairs ≡ seed_means (gave pairs)
    go (Some all) is = sym (ap₂ seed_run_from (number-gave Seed pairs all distinct is refl) (number-gave Events pairs all distinct is refl))
    go None is =
        let found = some-bad pairs distinct is in
        none-of-seed found.setting (number_at pairs) (found.own table.Seed owned)
        (seed-owned found.setting (found.own table.Seed owned) pairs found.text found.at found.bad)
        ∙ sym (ap seed_means is)

-- where a figure is missing there is no run
seed-needed : (pairs : Pairs) (a b : Bool) → has Seed pairs ≡ a → has Events pairs ≡ b → (if a && b then seed-at pairs else None) ≡ seed-at pairs
unfolding seed-at
seed-needed pairs true true f g = refl
seed-needed pairs false b f g = sym (none-of-seed Seed (number_at pairs) refl (ap (option_and_then (number_for Seed)) (lacks-text Seed pairs f)))
seed-needed pairs true false f g = sym (none-of-seed Events (number_at pairs) refl (ap (option_and_then (number_for Events)) (lacks-text Events pairs g)))

seed-read : (pairs : Pairs) → seed_run_in (rows pairs) ≡ seed-at pairs
unfolding seed-at
seed-read pairs =
    ap₂ (λ (a b : Option Text). seed_run_from (option_and_then (number_for Seed) a) (option_and_then (number_for Events) b)) (first-of Seed pairs)
    (first-of Events pairs)

pub seed-ends : (pairs : Pairs) → Distinct pairs → Owned table.Seed pairs
    → verdict seed_run_in (shape table.Seed) (rests (rows pairs) None) [] ≡ seed_means (gave pairs)
seed-ends pairs distinct owned =
    last-turn seed_run_in (shape table.Seed) (rests (rows pairs) None)
    ∙ valued-closes seed_run_in (shape table.Seed) (settings_of table.Seed) (rows pairs) refl refl
    ∙ seed-closes seed_run_in (rows pairs) (has Seed pairs) (has Events pairs) (is-given Seed pairs) (is-given Events pairs)
    ∙ ap (λ (found : Option SeedRun). if has Seed pairs && has Events pairs then found else None) (seed-read pairs)
    ∙ seed-needed pairs (has Seed pairs) (has Events pairs) refl refl
    ∙ seed-gave pairs distinct owned

-- ---- seeds

abbrev pub range_means : Option (List Assignment) → Option SeedRange
range_means all = seed_range_from (number_once First all) (number_once Seeds all) (number_once Events all)

range-2 : (a e : Option ℕ) → seed_range_from a None e ≡ None
range-2 None e = refl
range-2 (Some n) e = refl

range-3 : (a b : Option ℕ) → seed_range_from a b None ≡ None
range-3 None b = refl
range-3 (Some n) None = refl
range-3 (Some n) (Some m) = refl

-- one figure that is none makes the whole none
none-of-range : (setting : Setting) (figure : Setting → Option ℕ) → owns table.Seeds setting ≡ true → figure setting ≡ None
    → seed_range_from (figure First) (figure Seeds) (figure Events) ≡ None
none-of-range First figure is none = rw none refl
none-of-range Seeds figure is none = rw none (range-2 (figure First) (figure Events))
none-of-range Events figure is none = rw none (range-3 (figure First) (figure Seeds))
none-of-range _ figure is none = absurd (false≢true is)

pub range-once : (setting : Setting) (text : Text) (all : Option (List Assignment)) (pairs : Pairs) → owns table.Seeds setting ≡ true → has setting pairs ≡ true
    → range_means (onto pairs (preceded (assigned setting text) all)) ≡ None
range-once setting text all pairs is twice =
    none-of-range setting (λ s. number_once s (onto pairs (preceded (assigned setting text) all))) is (ap number_among (twice-none setting text all pairs twice))

module _ {X : Type 0} (judge : List Row → Option X) where
  range-closes : (rs : List Row) (a b e : Bool) → is_given (codes "first") rs ≡ a → is_given (codes "seeds") rs ≡ b → is_given (codes "events") rs ≡ e
      → passed (check_fault (shape table.Seeds) rs false) (judge rs) ≡ (if a && (b && e) then judge rs else None)
  range-closes rs true true true f g h = rw (f, g, h) refl
  range-closes rs true true false f g h = rw (f, g, h) refl
  range-closes rs true false e f g h = rw (f, g) refl
  range-closes rs false b e f g h = rw f refl

range-at : (pairs : Pairs) → Option SeedRange
range-at pairs = seed_range_from (number_at pairs First) (number_at pairs Seeds) (number_at pairs Events)

range-owned : (setting : Setting) → owns table.Seeds setting ≡ true → (pairs : Pairs) (text : Text) → text_at setting pairs ≡ Some text
    → value_of setting text ≡ None
    → number_at pairs setting ≡ None
range-owned First is pairs text at bad = ap (option_and_then (number_for First)) at ∙ unvalued First text refl bad
range-owned Seeds is pairs text at bad = ap (option_and_then (number_for Seeds)) at ∙ unvalued Seeds text refl bad
range-owned Events is pairs text at bad = ap (option_and_then (number_for Events)) at ∙ unvalued Events text refl bad
range-owned _ is pairs text at bad = absurd (false≢true is)

range-gave : (pairs : Pairs) → Distinct pairs → Owned table.Seeds pairs → range-at pairs ≡ range_means (gave pairs)
unfolding range-at
range-gave pairs distinct owned = go (gave pairs) refl
  where
    go : (all : Option (List Assignment)) → gave pairs ≡ all → range-at pairs ≡ range_means (gave pairs)
    go (Some all) is = sym (ap₂ (λ (a b : Option ℕ). seed_range_from a b (number_once Events (gave pairs)))
        (number-gave First pairs all distinct is refl) (number-gave Seeds pairs all distinct is refl)
        ∙ ap (λ (e : Option ℕ). seed_range_from (number_at pairs First) (number_at pairs Seeds) e) (number-gave Events pairs all distinct is refl))
    go None is =
        let found = some-bad pairs distinct is in
        none-of-range found.setting (number_at pairs) (found.own table.Seeds owned)
        (range-owned found.setting (found.own table.Seeds owned) pairs found.text found.at found.bad)
        ∙ sym (ap range_means is)

-- where a figure is missing there are no seeds
range-needed : (pairs : Pairs) (a b e : Bool) → has First pairs ≡ a → has Seeds pairs ≡ b → has Events pairs ≡ e
    → (if a && (b && e) then range-at pairs else None) ≡ range-at pairs
unfolding range-at
range-needed pairs true true true f g h = refl
range-needed pairs false b e f g h = sym (none-of-range First (number_at pairs) refl (ap (option_and_then (number_for First)) (lacks-text First pairs f)))
range-needed pairs true false e f g h = sym (none-of-range Seeds (number_at pairs) refl (ap (option_and_then (number_for Seeds)) (lacks-text Seeds pairs g)))
range-needed pairs true true false f g h =
    sym (none-of-range Events (number_at pairs) refl (ap (option_and_then (number_for Events)) (lacks-text Events pairs h)))

range-read : (pairs : Pairs) → seed_range_in (rows pairs) ≡ range-at pairs
unfolding range-at
range-read pairs =
    ap₂ (λ (a b : Option Text). seed_range_from (option_and_then (number_for First) a) (option_and_then (number_for Seeds) b) (figure_in Events (rows pairs)))
    (first-of First pairs) (first-of Seeds pairs)
    ∙ ap (λ (e : Option Text). seed_range_from (number_at pairs First) (number_at pairs Seeds) (option_and_then (number_for Events) e)) (first-of Events pairs)

pub range-ends : (pairs : Pairs) → Distinct pairs → Owned table.Seeds pairs
    → verdict seed_range_in (shape table.Seeds) (rests (rows pairs) None) [] ≡ range_means (gave pairs)
range-ends pairs distinct owned =
    last-turn seed_range_in (shape table.Seeds) (rests (rows pairs) None)
    ∙ valued-closes seed_range_in (shape table.Seeds) (settings_of table.Seeds) (rows pairs) refl refl
    ∙ range-closes seed_range_in (rows pairs) (has First pairs) (has Seeds pairs) (has Events pairs) (is-given First pairs) (is-given Seeds pairs)
    (is-given Events pairs)
    ∙ ap (λ (found : Option SeedRange). if has First pairs && (has Seeds pairs && has Events pairs) then found else None) (range-read pairs)
    ∙ range-needed pairs (has First pairs) (has Seeds pairs) (has Events pairs) refl refl refl
    ∙ range-gave pairs distinct owned

-- ---- frames

abbrev pub flow_means : Option (List Assignment) → Option FlowSide
flow_means all = flow_side_from (number_once Flow all) (side_given (option_and_then (once Side) all))

no-flow-side : (flow : Option ℕ) → flow_side_from flow None ≡ None
no-flow-side None = refl
no-flow-side (Some n) = refl

pub flow-once : (setting : Setting) (text : Text) (all : Option (List Assignment)) (pairs : Pairs) → owns table.Frames setting ≡ true → has setting pairs ≡ true
    → flow_means (onto pairs (preceded (assigned setting text) all)) ≡ None
flow-once Flow text all pairs is twice = rw (twice-none Flow text all pairs twice) refl
flow-once Side text all pairs is twice =
    rw (twice-none Side text all pairs twice) (no-flow-side (number_once Flow (onto pairs (preceded (assigned Side text) all))))
flow-once _ text all pairs is twice = absurd (false≢true is)

module _ {X : Type 0} (judge : List Row → Option X) where
  flow-closes : (rs : List Row) (a b : Bool) → is_given (codes "flow") rs ≡ a → is_given (codes "side") rs ≡ b
      → passed (check_fault (shape table.Frames) rs false) (judge rs) ≡ (if a && b then judge rs else None)
  flow-closes rs true true f g = rw (f, g) refl
  flow-closes rs true false f g = rw (f, g) refl
  flow-closes rs false b f g = rw f refl

-- the side that the text of `--side` is
abbrev side_at : Pairs → Option EndSide
side_at pairs = option_and_then side_in (text_at Side pairs)

flow-at : (pairs : Pairs) → Option FlowSide
flow-at pairs = flow_side_from (number_at pairs Flow) (side_at pairs)

side-of : (side : Option EndSide) → side_given (Some (option_and_then (λ side. Some (value.End side)) side)) ≡ side
side-of None = refl
side-of (Some side) = refl

side-found : (found : Option Text) → side_given (Some (option_and_then (value_of Side) found)) ≡ option_and_then side_in found
side-found None = refl
side-found (Some text) = side-of (side_in text)

side-gave : (pairs : Pairs) (all : List Assignment) → Distinct pairs → gave pairs ≡ Some all
    → side_given (option_and_then (once Side) (gave pairs)) ≡ side_at pairs
side-gave pairs all distinct is =
    ap side_given (once-gave Side pairs distinct ∙ ap (λ (a : Option (List Assignment)). option_and_then (λ _. Some (found_at Side pairs)) a) is)
    ∙ side-found (text_at Side pairs)

no-side-in : (side : Option EndSide) → option_and_then (λ side. Some (value.End side)) side ≡ None → side ≡ None
no-side-in None none = refl
no-side-in (Some side) none = cc none

-- a text that is no value makes the whole none
flow-bad : (pairs : Pairs) (setting : Setting) (text : Text) → owns table.Frames setting ≡ true → text_at setting pairs ≡ Some text
    → value_of setting text ≡ None
    → flow-at pairs ≡ None
unfolding flow-at
flow-bad pairs Flow text own at bad =
    ap (λ (flow : Option ℕ). flow_side_from flow (side_at pairs)) (ap (option_and_then (number_for Flow)) at ∙ unvalued Flow text refl bad)
flow-bad pairs Side text own at bad =
    ap (λ (side : Option EndSide). flow_side_from (number_at pairs Flow) side) (ap (option_and_then side_in) at ∙ no-side-in (side_in text) bad)
    ∙ no-flow-side (number_at pairs Flow)
flow-bad pairs _ text own at bad = absurd (false≢true own)

flow-gave : (pairs : Pairs) → Distinct pairs → Owned table.Frames pairs → flow-at pairs ≡ flow_means (gave pairs)
unfolding flow-at
flow-gave pairs distinct owned = go (gave pairs) refl
  where
    go : (all : Option (List Assignment)) → gave pairs ≡ all → flow-at pairs ≡ flow_means (gave pairs)
    go (Some all) is = sym (ap₂ flow_side_from (number-gave Flow pairs all distinct is refl) (side-gave pairs all distinct is))
    go None is =
        let found = some-bad pairs distinct is in
        flow-bad pairs found.setting found.text (found.own table.Frames owned) found.at found.bad ∙ sym (ap flow_means is)

flow-needed : (pairs : Pairs) (a b : Bool) → has Flow pairs ≡ a → has Side pairs ≡ b → (if a && b then flow-at pairs else None) ≡ flow-at pairs
unfolding flow-at
flow-needed pairs true true f g = refl
flow-needed pairs false b f g =
    sym (ap (λ (flow : Option Text). flow_side_from (option_and_then (number_for Flow) flow) (side_at pairs)) (lacks-text Flow pairs f))
flow-needed pairs true false f g =
    sym (ap (λ (side : Option Text). flow_side_from (number_at pairs Flow) (option_and_then side_in side)) (lacks-text Side pairs g)
    ∙ no-flow-side (number_at pairs Flow))

flow-read : (pairs : Pairs) → flow_side_in (rows pairs) ≡ flow-at pairs
unfolding flow-at
flow-read pairs =
    ap₂ (λ (a b : Option Text). flow_side_from (option_and_then (number_for Flow) a) (option_and_then side_in b)) (first-of Flow pairs) (first-of Side pairs)

pub flow-ends : (pairs : Pairs) → Distinct pairs → Owned table.Frames pairs
    → verdict flow_side_in (shape table.Frames) (rests (rows pairs) None) [] ≡ flow_means (gave pairs)
flow-ends pairs distinct owned =
    last-turn flow_side_in (shape table.Frames) (rests (rows pairs) None)
    ∙ valued-closes flow_side_in (shape table.Frames) (settings_of table.Frames) (rows pairs) refl refl
    ∙ flow-closes flow_side_in (rows pairs) (has Flow pairs) (has Side pairs) (is-given Flow pairs) (is-given Side pairs)
    ∙ ap (λ (found : Option FlowSide). if has Flow pairs && has Side pairs then found else None) (flow-read pairs)
    ∙ flow-needed pairs (has Flow pairs) (has Side pairs) refl refl
    ∙ flow-gave pairs distinct owned
