-- The commands of `clap` that read the words of a form (own), and what their matches mean.
--
-- The definition of the commands (`command_of`) is opened only if a proof says so. With all of them opened, a check of the code did not end in
-- minutes; now it takes less than two.
use Rattle.std.specs.Prelude.{◌≡◌, ◌≢◌, ℕ, Bool, true, false, List, [], ◌∷◌, map, codes, Option, Some, None, option_and_then, String, string_bytes}
use Rattle.std.specs.Str.{bytes_eq}
use Rattle.std.specs.List.{list_any}
use Rattle.std.specs.declared.alloc.Global.{Global}
use Rattle.clap.specs.Walk.{Row, Rule, Text, first_of, rows_of}
use Rattle.clap.specs.Matches.{found_of}
use Rattle.clap.specs.declared.parser.matches.ArgMatches.{ArgMatches}
use Rattle.clap.specs.Simple.{App, matches_of, new_app, new_rule, on_top, with_rule}
use Rattle.clap.specs.Faults.{fault_of}
use Rattle.clap.specs.declared.builder.action.ArgAction.TheVariants as action
use Rattle.tool_forms.specs.declared.campaign_words.Campaign.{Campaign}
use Rattle.tool_forms.specs.declared.bridge_words.FlowSide.{FlowSide}
use Rattle.tool_forms.specs.declared.bridge_words.SeedRange.{SeedRange}
use Rattle.tool_forms.specs.declared.bridge_words.SeedRun.{SeedRun}
use Rattle.tool_forms.specs.declared.words.Form.{Form}
use Rattle.tool_forms.specs.declared.settings.Setting.{Setting}
use Rattle.tool_forms.specs.declared.settings.Setting.TheVariants.{First, Seeds, Events, Workers, Side, Plain, Buffer, Most, Seed, Flow}
use Rattle.tool_forms.specs.declared.settings.Way.{Way}
use Rattle.tool_forms.specs.declared.settings.Way.TheVariants as way
use Rattle.tool_forms.specs.declared.settings.Table.{Table}
use Rattle.tool_forms.specs.Settings.{bare_name, number_for, settings_of, side_in, way_of}
use Rattle.tool_forms.specs.CampaignWords.{campaign_from}
use Rattle.tool_forms.specs.BridgeWords.{flow_side_from, seed_range_from, seed_run_from}
use Rattle.tool_forms.specs.Words.{listener_for, replay_with}

-- the argument with this name, given in this way: with one value, which has to be given or may be left out, or as a flag
abbrev pub rule_by : Way → Text → Rule
rule_by way.Needed name = record (new_rule name) { long = Some name; action = Some action.Set; required = true }
rule_by way.Chosen name = record (new_rule name) { long = Some name; action = Some action.Set }
rule_by way.Mark name = record (new_rule name) { long = Some name; action = Some action.SetTrue }

-- the argument of a setting
abbrev pub rule_for : Setting → Rule
rule_for setting = rule_by (way_of setting) (bare_name setting)

-- a command that reads all its words as arguments, and has no help
abbrev pub bare_command : App
bare_command = on_top (λ s. record s { no_binary_name = true; disable_help_flag = true }) (new_app (codes "dccp"))

-- a command with the arguments of these settings added
abbrev pub with_settings : App → List Setting → App
with_settings command [] = command
with_settings command (setting ∷ settings) = with_settings (with_rule command (rule_for setting)) settings

-- The command that reads the words of a form.
unfoldable pub command_of : Table → App
command_of table = with_settings bare_command (settings_of table)

-- the word `--`
abbrev pub is_dashes : List ℕ → Bool
is_dashes word = bytes_eq word (codes "--")

-- one of the words is `--`
abbrev pub has_dashes : List (String Global) → Bool
has_dashes words = list_any is_dashes (map string_bytes words)

-- What a command reads from words: its matches, or nothing if it refuses them or one is `--`, which `clap` would take as the last.
abbrev pub IsReadBy : App → List (String Global) → Option ArgMatches → Type 0
IsReadBy command words (Some matches) = (has_dashes words ≡ false) × (fault_of command (map string_bytes words) ≡ [])
    × (rows_of (found_of matches) ≡ matches_of command (map string_bytes words))
IsReadBy command words None = (has_dashes words ≡ false) → fault_of command (map string_bytes words) ≢ []

-- the number that the matches have for a setting
abbrev pub figure_in : Setting → List Row → Option ℕ
figure_in setting rows = option_and_then (number_for setting) (first_of (bare_name setting) rows)

-- the campaign that matches are
abbrev pub campaign_in : List Row → Option Campaign
campaign_in rows =
    option_and_then (λ first. option_and_then (λ seeds. option_and_then (λ events. option_and_then (λ workers. campaign_from first seeds events workers)
    (figure_in Workers rows)) (figure_in Events rows)) (figure_in Seeds rows)) (figure_in First rows)

-- the text of a flag that is given
abbrev pub is_yes : Option Text → Bool
is_yes None = false
is_yes (Some text) = bytes_eq text (codes "true")

-- the number of a setting that may be left out, if its text is one
abbrev pub chosen : Setting → Option Text → Option (Option ℕ)
chosen setting None = Some None
chosen setting (Some text) = option_and_then (λ n. Some (Some n)) (number_for setting text)

-- the number that the matches have for such a setting
abbrev pub chosen_in : Setting → List Row → Option (Option ℕ)
chosen_in setting rows = chosen setting (first_of (bare_name setting) rows)

-- the replay that these are: the text of the side, whether it is plain, and the text of the buffer
abbrev pub replay_from : Option Text → Bool → Option Text → Option Form
replay_from side plain buffer =
    option_and_then (λ side. option_and_then (λ buffer. Some (replay_with side plain buffer)) (chosen Buffer buffer)) (option_and_then side_in side)

-- the replay that matches are
abbrev pub replay_in : List Row → Option Form
replay_in rows = replay_from (first_of (bare_name Side) rows) (is_yes (first_of (bare_name Plain) rows)) (first_of (bare_name Buffer) rows)

-- the listener that matches are
abbrev pub listen_in : List Row → Option Form
listen_in rows = listener_for (figure_in Most rows)

-- the seed's run that matches are
abbrev pub seed_run_in : List Row → Option SeedRun
seed_run_in rows = seed_run_from (figure_in Seed rows) (figure_in Events rows)

-- the seeds that matches are
abbrev pub seed_range_in : List Row → Option SeedRange
seed_range_in rows = seed_range_from (figure_in First rows) (figure_in Seeds rows) (figure_in Events rows)

-- the side of a flow that matches are
abbrev pub flow_side_in : List Row → Option FlowSide
flow_side_in rows = flow_side_from (figure_in Flow rows) (option_and_then side_in (first_of (bare_name Side) rows))
