-- The entries of a preference list determine how it is stored.
use Rattle.std.specs.Prelude.{◌≡◌, ℕ, ◌≤◌, List, length, take}
use Rattle.std.proofs.Common.{ap, ◌∙◌, sym, subst}
use Rattle.std.proofs.lemmas.List.{length-take-le}
use Rattle.feature_lists.specs.Preferences.{filled_to_eight, PrefsInvariant}
use Rattle.feature_lists.specs.declared.prefs.Prefs.TheInside.{Inside}

-- the stored form of a list: these bytes, of which this many are its entries
abbrev pub kept_as : List ℕ → ℕ → Inside
kept_as entries len = record { entries = entries; len = len }

-- a list's entries, filled up with zeros, are its stored form
pub kept_back : (a : Inside) → PrefsInvariant a.entries a.len → kept_as (filled_to_eight (take a.len a.entries)) (length (take a.len a.entries)) ≡ a
kept_back a h =
    let inside : a.len ≤ length a.entries = subst (λ n. a.len ≤ n) (sym h.size) h.few in
    ap (λ entries. kept_as entries (length (take a.len a.entries))) h.zeros ∙ ap (λ len. kept_as a.entries len) (length-take-le a.len a.entries inside)
