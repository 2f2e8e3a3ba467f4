-- What the functions that build, call and ask a command cite.
use Rattle.std.proofs.Common.{arith, ◌≡◌, ◌∙◌, ap, subst, sym, ◌-◌, ◌≤◌, true, false, List, [], ◌∷◌, drop, length, take, map, Some, Result, Ok, IfOk, String, Global}
use Rattle.std.specs.Prelude.{string_bytes}
use Rattle.std.proofs.lemmas.List.{take_all}
use lib.ListN.{get_or}
use Rattle.clap.specs.Kinds.{FailsBy}
use Rattle.clap.specs.Simple.{App, HasMatchesOf, built, is_simple, with_rule}
use Rattle.clap.specs.Faults.{fault_of, is_free_app, is_simple_and_free}
use Rattle.clap.specs.declared.error.Error.{Error}
use Rattle.clap.specs.declared.parser.matches.ArgMatches.{ArgMatches}
use Rattle.clap.proofs.WalkLemmas.{both}
use Rattle.tool_forms.specs.declared.settings.Table.{Table}
use Rattle.tool_forms.specs.declared.settings.Setting.{Setting}
use Rattle.tool_forms.specs.declared.settings.Setting.TheVariants.{First}
use Rattle.tool_forms.specs.Settings.{settings_of}
use Rattle.tool_forms.specs.Commands.{IsReadBy, bare_command, command_of, has_dashes, rule_for, with_settings}

-- a list that is not empty is its first element and the others
pub first-of : (all : List Setting) → 1 ≤ length all → all ≡ get_or all 0 First ∷ take (length all - 1) (drop 1 all)
first-of [] some = absurd (omega (arith, some))
first-of (setting ∷ settings) some = ap (λ (others : List Setting). setting ∷ others) (sym (take_all (length (setting ∷ settings) - 1) settings (omega arith)))

-- the first setting, and then the others
pub one-more : (a b : App) (all : List Setting) (setting : Setting) (settings : List Setting) → all ≡ setting ∷ settings → b ≡ with_rule a (rule_for setting)
    → with_settings a all ≡ with_settings b settings
one-more a b all setting settings parts is = ap (with_settings a) parts ∙ ap (λ (x : App). with_settings x settings) (sym is)

-- a form's command has the form's settings
pub has-settings : (t : Table) (bare made : App) (settings : List Setting) → bare ≡ bare_command → settings ≡ settings_of t → made ≡ with_settings bare settings
    → made ≡ command_of t
unfolding command_of
has-settings t bare made settings is same settled = settled ∙ ap (λ (a : App). with_settings a settings) is ∙ ap (with_settings bare_command) same

-- what a call of a command says of words

abbrev Told : App → List (String Global) → Result ArgMatches Error → Type 0
Told app words r = is_simple_and_free app ≡ true → FailsBy (fault_of app (map string_bytes words)) r

pub some-read : (app : App) (words : List (String Global)) (m : ArgMatches) (r : Result ArgMatches Error) → r ≡ Ok m → is_simple_and_free app ≡ true
    → has_dashes words ≡ false → Told app words r → IfOk r (HasMatchesOf app (map string_bytes words)) → IsReadBy app words (Some m)
some-read app words m r is simple none told matches =
    let fails = subst (λ (x : Result ArgMatches Error). FailsBy (fault_of app (map string_bytes words)) x) is (told simple) in
    let has = subst (λ (x : Result ArgMatches Error). IfOk x (HasMatchesOf app (map string_bytes words))) is matches in
    (none, fails, (has (both (is_simple app) (is_free_app (built app)) simple).0).0)
