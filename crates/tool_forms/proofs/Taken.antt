-- The words that a form's command takes are those that the reading from left to right takes.
use Rattle.std.proofs.Common.{◌≡◌, ◌∙◌, refl, sym, ap, Bool, true, false, List, [], ◌∷◌, ◌≤◌, length, map, arith, Option, Some, None, String, Global}
use Rattle.std.specs.Prelude.{◌≢◌, if◌then◌else◌, string_bytes}
use Rattle.std.specs.List.{list_any}
use Rattle.std.proofs.lemmas.Bool.Decides.{nat_tests}
use Rattle.clap.specs.Kinds.{Kinds}
use Rattle.clap.specs.Walk.{Row, Text, is_empty, walk, nothing_held, rows_after, rows_of}
use Rattle.clap.specs.Simple.{App, Shape, matches_of}
use Rattle.clap.specs.Faults.{built_fault, fault_of, is_simple_and_free}
use Rattle.clap.specs.Matches.{found_of}
use Rattle.clap.specs.declared.error.kind.ErrorKind.{ErrorKind}
use Rattle.clap.specs.declared.parser.matches.ArgMatches.{ArgMatches}
use Rattle.tool_forms.specs.declared.settings.Table.{Table}
use Rattle.tool_forms.specs.declared.settings.Table.TheVariants as table
use Rattle.tool_forms.specs.declared.settings.Setting.{Setting}
use Rattle.tool_forms.specs.Given.{Assignment}
use Rattle.tool_forms.specs.Settings.{all_given, preceded, settings_of}
use Rattle.tool_forms.specs.CampaignWords.{campaign_of}
use Rattle.tool_forms.specs.BridgeWords.{flow_side_of, seed_range_of, seed_run_of}
use Rattle.tool_forms.specs.Words.{listen_of, replay_of}
use Rattle.tool_forms.specs.Commands.{IsReadBy, bare_command, campaign_in, command_of, flow_side_in, has_dashes, is_dashes, listen_in, replay_in, seed_range_in, seed_run_in, with_settings}
use Rattle.tool_forms.proofs.Turns.{passed, rests, verdict}
use Rattle.tool_forms.proofs.Walks.{Clear}
use Rattle.tool_forms.proofs.Pairs.{Distinct, Pairs, has, rows}
use Rattle.tool_forms.proofs.Named.{dashes-none}
use Rattle.tool_forms.proofs.Onto.{assigned, onto}
use Rattle.tool_forms.proofs.Reading.{Owned, all-agree, owns, shape}
use Rattle.tool_forms.proofs.BridgeEnds.{flow-ends, flow-once, flow_means, range-ends, range-once, range_means, seed-ends, seed-once, seed_means}
use Rattle.tool_forms.proofs.Ends.{campaign-ends, campaign-once, campaign_means, listen-ends, listen-once, listen_means, replay-ends, replay-once, replay_means}

abbrev command : Table → App
command t = with_settings bare_command (settings_of t)

-- what a form's command makes of words, where none is `--`
read_by : {X : Type 0} → App → (List Row → Option X) → List Text → Option X
read_by command judge words =
    if list_any is_dashes words then None
    else if is_empty (fault_of command words) then judge (matches_of command words)
    else None

clear : (words : List Text) → list_any is_dashes words ≡ false → Clear words
clear [] none = tt
clear (word ∷ words) none = go (is_dashes word) refl none (clear words)
  where
    go : (b : Bool) → is_dashes word ≡ b → list_any is_dashes (word ∷ words) ≡ false → (list_any is_dashes words ≡ false → Clear words) → Clear (word ∷ words)
    go true is none rest = let never : true ≡ false = rw is at none in cc never
    go false is none rest = let following : list_any is_dashes words ≡ false = rw is at none in (is, rest following)

module _ {X : Type 0} (judge : List Row → Option X) where
  some-kinds : (faults : Kinds) → 1 ≤ length faults → is_empty faults ≡ false
  some-kinds faults some = grind (arith, nat_tests)

  by-kinds : (faults : Kinds) (found : Option X) → (if is_empty faults then found else None) ≡ passed faults found
  by-kinds [] found = refl
  by-kinds (k ∷ ks) found = rw (some-kinds (k ∷ ks) (omega arith)) refl

  -- a command without subcommands has the faults of its one level
  by-level : (s : Shape) (words : List Text)
      → (if is_empty (built_fault (record { top = s; subs = [] }) nothing_held words) then judge (rows_after s.rules [] words) else None) ≡ verdict judge s
      (rests [] None) words
  by-level s words = go (walk s.rules [] nothing_held words).stopped refl
    where
      go : (stop : Option (Text × List Text)) → (walk s.rules [] nothing_held words).stopped ≡ stop
          → (if is_empty (built_fault (record { top = s; subs = [] }) nothing_held words) then judge (rows_after s.rules [] words) else None) ≡ verdict judge s
          (rests [] None) words
      go None is = by-kinds (built_fault (record { top = s; subs = [] }) nothing_held words) _ ∙ rw is refl
      go (Some stop) is = by-kinds (built_fault (record { top = s; subs = [] }) nothing_held words) _ ∙ rw is refl

  one-level : (t : Table) (words : List Text) → (if is_empty (fault_of (command t) words) then judge (matches_of (command t) words) else None)
      ≡ verdict judge (shape t) (rests [] None) words
  one-level table.Replay words = by-level (shape table.Replay) words
  one-level table.Campaign words = by-level (shape table.Campaign) words
  one-level table.Listen words = by-level (shape table.Listen) words
  one-level table.Seed words = by-level (shape table.Seed) words
  one-level table.Seeds words = by-level (shape table.Seeds) words
  one-level table.Frames words = by-level (shape table.Frames) words

-- ---- what the code makes of it

passes : {X : Type 0} (dashes : Bool) (faults : Kinds) (found : Option X) → dashes ≡ false → faults ≡ []
    → (if dashes then None else if is_empty faults then found else None) ≡ found
passes true faults found apart empty = cc apart
passes false [] found apart empty = refl
passes false (k ∷ ks) found apart empty = cc empty

some-kind : (k : ErrorKind) (ks : Kinds) → is_empty (k ∷ ks) ≡ false
some-kind k ks = grind (arith, nat_tests)

stops : {X : Type 0} (dashes : Bool) (faults : Kinds) (found : Option X) → (dashes ≡ false → faults ≢ [])
    → (if dashes then None else if is_empty faults then found else None) ≡ None
stops true faults found some = refl
stops false [] found some = absurd (some refl refl)
stops false (k ∷ ks) found some = rw (some-kind k ks) refl

judged-by : {X : Type 0} (judge : List Row → Option X) (app : App) (words : List (String Global)) (m : ArgMatches) → IsReadBy app words (Some m)
    → judge (rows_of (found_of m)) ≡ read_by app judge (map string_bytes words)
unfolding read_by
judged-by judge app words m read = ap judge read.2
    ∙ sym (passes (has_dashes words) (fault_of app (map string_bytes words)) (judge (matches_of app (map string_bytes words))) read.0 read.1)

refused-by : {X : Type 0} (judge : List Row → Option X) (app : App) (words : List (String Global)) → IsReadBy app words None
    → read_by app judge (map string_bytes words) ≡ None
unfolding read_by
refused-by judge app words read = stops (has_dashes words) (fault_of app (map string_bytes words)) (judge (matches_of app (map string_bytes words))) read

command-is : (t : Table) → command_of t ≡ command t
unfolding command_of
command-is t = refl

simple : (t : Table) → is_simple_and_free (command t) ≡ true
simple table.Replay = refl
simple _ = refl

pub command-simple : (t : Table) (app : App) → app ≡ command_of t → is_simple_and_free app ≡ true
command-simple t app is = ap is_simple_and_free (is ∙ command-is t) ∙ simple t

-- A form whose matches mean what its settings mean.
module _ {X : Type 0} (judge : List Row → Option X) (t : Table) (means : Option (List Assignment) → Option X) (none : means None ≡ None)
    (once : (setting : Setting) (text : Text) (all : Option (List Assignment)) (pairs : Pairs) → owns t setting ≡ true → has setting pairs ≡ true
    → means (onto pairs (preceded (assigned setting text) all)) ≡ None)
    (ends : (pairs : Pairs) → Distinct pairs → Owned t pairs → verdict judge (shape t) (rests (rows pairs) None) [] ≡ means (onto pairs (Some []))) where
  all-read : (words : List (String Global)) → read_by (command t) judge (map string_bytes words) ≡ means (all_given t (map string_bytes words))
  unfolding read_by
  all-read words = go (list_any is_dashes (map string_bytes words)) refl
    where
      go : (b : Bool) → list_any is_dashes (map string_bytes words) ≡ b
          → read_by (command t) judge (map string_bytes words) ≡ means (all_given t (map string_bytes words))
      go true some = rw some (sym (ap means (dashes-none t (map string_bytes words) some) ∙ none))
      go false clear_of = rw clear_of (one-level judge t (map string_bytes words)
          ∙ all-agree judge t means none once ends (map string_bytes words) (clear (map string_bytes words) clear_of) [] tt tt)

  form-judged : (words : List (String Global)) (m : ArgMatches) → IsReadBy (command_of t) words (Some m)
      → judge (rows_of (found_of m)) ≡ means (all_given t (map string_bytes words))
  form-judged words m read = judged-by judge (command_of t) words m read
      ∙ ap (λ (a : App). read_by a judge (map string_bytes words)) (command-is t) ∙ all-read words

  form-refused : (words : List (String Global)) → IsReadBy (command_of t) words None → None ≡ means (all_given t (map string_bytes words))
  form-refused words read = sym (refused-by judge (command_of t) words read)
      ∙ ap (λ (a : App). read_by a judge (map string_bytes words)) (command-is t) ∙ all-read words

pub campaign-judged : (words : List (String Global)) (m : ArgMatches) → IsReadBy (command_of table.Campaign) words (Some m)
    → campaign_in (rows_of (found_of m)) ≡ campaign_of words
campaign-judged = form-judged campaign_in table.Campaign campaign_means refl campaign-once campaign-ends

pub campaign-refused : (words : List (String Global)) → IsReadBy (command_of table.Campaign) words None → None ≡ campaign_of words
campaign-refused = form-refused campaign_in table.Campaign campaign_means refl campaign-once campaign-ends

pub replay-judged : (words : List (String Global)) (m : ArgMatches) → IsReadBy (command_of table.Replay) words (Some m)
    → replay_in (rows_of (found_of m)) ≡ replay_of words
replay-judged = form-judged replay_in table.Replay replay_means refl replay-once replay-ends

pub replay-refused : (words : List (String Global)) → IsReadBy (command_of table.Replay) words None → None ≡ replay_of words
replay-refused = form-refused replay_in table.Replay replay_means refl replay-once replay-ends

pub listen-judged : (words : List (String Global)) (m : ArgMatches) → IsReadBy (command_of table.Listen) words (Some m)
    → listen_in (rows_of (found_of m)) ≡ listen_of words
listen-judged = form-judged listen_in table.Listen listen_means refl listen-once listen-ends

pub listen-refused : (words : List (String Global)) → IsReadBy (command_of table.Listen) words None → None ≡ listen_of words
listen-refused = form-refused listen_in table.Listen listen_means refl listen-once listen-ends

pub seed-judged : (words : List (String Global)) (m : ArgMatches) → IsReadBy (command_of table.Seed) words (Some m)
    → seed_run_in (rows_of (found_of m)) ≡ seed_run_of words
seed-judged = form-judged seed_run_in table.Seed seed_means refl seed-once seed-ends

pub seed-refused : (words : List (String Global)) → IsReadBy (command_of table.Seed) words None → None ≡ seed_run_of words
seed-refused = form-refused seed_run_in table.Seed seed_means refl seed-once seed-ends

pub range-judged : (words : List (String Global)) (m : ArgMatches) → IsReadBy (command_of table.Seeds) words (Some m)
    → seed_range_in (rows_of (found_of m)) ≡ seed_range_of words
range-judged = form-judged seed_range_in table.Seeds range_means refl range-once range-ends

pub range-refused : (words : List (String Global)) → IsReadBy (command_of table.Seeds) words None → None ≡ seed_range_of words
range-refused = form-refused seed_range_in table.Seeds range_means refl range-once range-ends

pub flow-judged : (words : List (String Global)) (m : ArgMatches) → IsReadBy (command_of table.Frames) words (Some m)
    → flow_side_in (rows_of (found_of m)) ≡ flow_side_of words
flow-judged = form-judged flow_side_in table.Frames flow_means refl flow-once flow-ends

pub flow-refused : (words : List (String Global)) → IsReadBy (command_of table.Frames) words None → None ≡ flow_side_of words
flow-refused = form-refused flow_side_in table.Frames flow_means refl flow-once flow-ends
