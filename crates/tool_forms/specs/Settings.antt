-- The settings that words give to a form (own): in any order, each a name and its value, as two words or as one with
-- `=` between them, except for a mark, which has no value.
--
-- One table has them: the form of each, its name, how it is given, and the bounds of its number. Words are read as a
-- list of settings, in which each setting is looked up; one that is given twice is refused.
use Rattle.std.specs.Prelude.{ℕ, ◌+◌, ◌-◌, ◌^◌, ◌++◌, Bool, true, false, ◌==◌, nat_lt, if◌then◌else◌, List, [], ◌∷◌, length, map, codes, Option, Some, None, option_and_then, option_map, String, string_bytes}
use Rattle.std.specs.List.{position_or_len, before_first, after_first}
use Rattle.std.specs.Option.{option_map_or}
use Rattle.std.specs.Str.{bytes_eq}
use Rattle.std.specs.declared.alloc.Global.{Global}
use Rattle.tool_text.specs.Numbers.{number_below}
use Rattle.world_events.specs.declared.event.Side.{Side as EndSide}
use Rattle.world_events.specs.declared.event.Side.TheVariants.{Client, Server}
use Rattle.tool_forms.specs.declared.settings.Table.{Table}
use Rattle.tool_forms.specs.declared.settings.Table.TheVariants as table
use Rattle.tool_forms.specs.declared.settings.Setting.{Setting}
use Rattle.tool_forms.specs.declared.settings.Setting.TheVariants.{First, Seeds, Events, Workers, Side, Plain, Buffer, Most, Seed, Flow}
use Rattle.tool_forms.specs.declared.settings.Way.{Way}
use Rattle.tool_forms.specs.declared.settings.Way.TheVariants as way
use Rattle.tool_forms.specs.Given.{Value}
use Rattle.tool_forms.specs.Given as value
use Rattle.tool_forms.specs.Given.{Assignment}

-- the settings of a form
abbrev pub settings_of : Table → List Setting
settings_of table.Replay = Side ∷ (Buffer ∷ (Plain ∷ []))
settings_of table.Campaign = First ∷ (Seeds ∷ (Events ∷ (Workers ∷ [])))
settings_of table.Listen = Most ∷ []
settings_of table.Seed = Seed ∷ (Events ∷ [])
settings_of table.Seeds = First ∷ (Seeds ∷ (Events ∷ []))
settings_of table.Frames = Flow ∷ (Side ∷ [])

-- a setting's name, without the two hyphens
abbrev pub bare_name : Setting → List ℕ
bare_name First = codes "first"
bare_name Seeds = codes "seeds"
bare_name Events = codes "events"
bare_name Workers = codes "workers"
bare_name Side = codes "side"
bare_name Plain = codes "plain"
bare_name Buffer = codes "buffer"
bare_name Most = codes "most"
bare_name Seed = codes "seed"
bare_name Flow = codes "flow"

-- how a setting is given
abbrev pub way_of : Setting → Way
way_of Plain = way.Mark
way_of Buffer = way.Chosen
way_of _ = way.Needed

-- the least that a number may be
abbrev pub least : Setting → ℕ
least Seeds = 1
least Events = 1
least Workers = 1
least Buffer = 1
least Most = 1
least Flow = 1
least _ = 0

-- the greatest number that is allowed; 0 for a setting that is no number
abbrev pub most : Setting → ℕ
most First = 2 ^ 64 - 1
most Seeds = 100000
most Events = 4096
most Workers = 16
most Buffer = 1024
most Most = 1024
most Seed = 2 ^ 64 - 1
most Flow = 2 ^ 64 - 1
most _ = 0

-- a setting's name as words have it
abbrev pub dashed_name : Setting → List ℕ
dashed_name setting = codes "--" ++ bare_name setting

-- the setting with this name among these
abbrev pub named_among : List Setting → List ℕ → Option Setting
named_among [] name = None
named_among (setting ∷ settings) name = if bytes_eq name (dashed_name setting) then Some setting else named_among settings name

-- the setting of a form by its name
abbrev pub setting_named : Table → List ℕ → Option Setting
setting_named table name = named_among (settings_of table) name

-- it is given by only its name
abbrev pub is_marking : Way → Bool
is_marking way.Mark = true
is_marking _ = false

-- a word that is a setting without a value
abbrev pub is_mark : Table → List ℕ → Bool
is_mark table word = option_map_or (λ setting. is_marking (way_of setting)) (setting_named table word) false

-- a number that is no less than that
abbrev pub number_from : ℕ → Option ℕ → Option ℕ
number_from low None = None
number_from low (Some n) = if nat_lt n low then None else Some n

-- the number that a text gives to this setting: decimal, without sign or leading zero, within its bounds
abbrev pub number_for : Setting → List ℕ → Option ℕ
number_for setting text = number_from (least setting) (number_below (most setting + 1) text)

-- the side that a text names
abbrev pub side_in : List ℕ → Option EndSide
side_in text =
    if bytes_eq text (codes "server") then Some Server
    else if bytes_eq text (codes "client") then Some Client
    else None

-- the value that a text gives to this setting, if the setting may have it
abbrev pub setting_value : Setting → List ℕ → Option Value
setting_value Side text = option_and_then (λ side. Some (value.End side)) (side_in text)
setting_value Plain text = None
setting_value setting text = option_and_then (λ n. Some (value.Number n)) (number_for setting text)

-- A setting and the value that is given to it.
abbrev pub value_given_to : Option Setting → List ℕ → Option Assignment
value_given_to None text = None
value_given_to (Some setting) text = option_and_then (λ it. Some (record { setting = setting; value = it })) (setting_value setting text)

-- the same by the setting's name
abbrev pub given_of : Table → List ℕ → List ℕ → Option Assignment
given_of table name text = value_given_to (setting_named table name) text

-- the setting that a mark is, given
abbrev pub mark_given : Table → List ℕ → Option Assignment
mark_given table word = option_map (λ setting. record { setting = setting; value = value.Mark }) (setting_named table word)

-- the byte `=`
abbrev pub is_equals : ℕ → Bool
is_equals byte = byte == 61

-- A name and its value are one word if it has the byte `=`; the first one separates them.
abbrev pub is_joined : List ℕ → Bool
is_joined word = nat_lt (position_or_len is_equals word) (length word)

-- what comes before the first `=` is the name, and all that follows it is the value
abbrev pub joined_given : Table → List ℕ → Option Assignment
joined_given table word = given_of table (before_first is_equals word) (after_first is_equals word)

-- what is given first, before what is given after it
abbrev pub preceded : Option Assignment → Option (List Assignment) → Option (List Assignment)
preceded None all = None
preceded (Some given) None = None
preceded (Some given) (Some all) = Some (given ∷ all)

-- What words give, one setting after the other, if they are nothing else.
abbrev pub all_given : Table → List (List ℕ) → Option (List Assignment)
all_given table [] = Some []
all_given table (word ∷ []) =
    if is_joined word then preceded (joined_given table word) (Some [])
    else if is_mark table word then preceded (mark_given table word) (Some [])
    else None
all_given table (word ∷ (next ∷ words)) =
    if is_joined word then preceded (joined_given table word) (all_given table (next ∷ words))
    else if is_mark table word then preceded (mark_given table word) (all_given table (next ∷ words))
    else preceded (given_of table word next) (all_given table words)

-- the same setting, which has the same name
abbrev pub is_same : Setting → Setting → Bool
is_same one other = bytes_eq (bare_name one) (bare_name other)

-- the value, if the setting is not given once more
abbrev pub unless_again : Setting → Value → List Assignment → Option (Option Value)
unless_again setting it [] = Some (Some it)
unless_again setting it (given ∷ all) = if is_same given.setting setting then None else unless_again setting it all

-- the value that is given to this setting, or that there is none; it is given at most once
abbrev pub once : Setting → List Assignment → Option (Option Value)
once setting [] = Some None
once setting (given ∷ all) = if is_same given.setting setting then unless_again setting given.value all else once setting all

-- What the words give to a setting, if all of them are settings of the form.
abbrev pub words_give : Table → Setting → List (String Global) → Option (Option Value)
words_give table setting words = option_and_then (once setting) (all_given table (map string_bytes words))

-- the number that a setting is given, if it is given one
abbrev pub number_among : Option (Option Value) → Option ℕ
number_among (Some (Some (value.Number n))) = Some n
number_among _ = None

-- the number that the words of a form give to this setting, once and only once
abbrev pub given_once : Table → Setting → List (String Global) → Option ℕ
given_once table setting words = number_among (words_give table setting words)
