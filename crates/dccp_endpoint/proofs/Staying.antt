-- A proper end stays proper, and an end that has sent and received nothing is one.
use Rattle.std.proofs.Common.{◌≡◌, ℕ, ◌^◌, ◌≤◌, ◌<◌, true, List, refl, ap, sym, ◌∙◌, subst, arith}
use Rattle.feature_lists.specs.Features.{initial_of}
use Rattle.feature_lists.specs.declared.features.Feature.{Feature}
use Rattle.feature_lists.specs.declared.features.Feature.TheVariants.{SequenceWindow}
use Rattle.feature_lists.specs.declared.features.Place.{Place}
use Rattle.feature_lists.specs.declared.features.Place.TheVariants.{Here, There}
use Rattle.feature_machine.specs.Lists.{IsLists}
use Rattle.feature_machine.specs.Negotiating.{AreRowsOf, IsNegotiation, first_rows, row_at}
use Rattle.feature_machine.specs.Sound.{is_lawful}
use Rattle.feature_machine.specs.declared.row.Row.{Row}
use Rattle.feature_machine.specs.declared.stands.Role2.{Role2}
use Rattle.feature_machine.proofs.Turning.{first-fresh, first-role}
use Rattle.validity_windows.specs.Windows.{InRange}
use Rattle.validity_windows.specs.declared.marks.Marks.{Marks}
use Rattle.dccp_endpoint.specs.Causes.{IsCaused}
use Rattle.dccp_endpoint.specs.Effects.{Effect, end_after, rows_by}
use Rattle.dccp_endpoint.specs.End.{EndState, IsProper, end_of, new_end, value_in, with_rows, with_widths}
use Rattle.dccp_endpoint.specs.Inputs.{Input}
use Rattle.dccp_endpoint.specs.declared.config.Config.{Config}
use Rattle.dccp_endpoint.proofs.Lawful.{rows-kept}
use Rattle.dccp_endpoint.proofs.Phases.{begins}

-- what Sequence Window may be
lawful-width : (place : Place) (value : ℕ) → is_lawful SequenceWindow place value ≡ true → (32 ≤ value) × (value < 2 ^ 46)
lawful-width Here value is = (grind arith, grind arith)
lawful-width There value is = (grind arith, grind arith)

row-width : (rows : List Row) (place : Place) → IsNegotiation rows → (32 ≤ value_in rows SequenceWindow place) × (value_in rows SequenceWindow place < 2 ^ 46)
row-width rows place sound =
    let its = sound.each SequenceWindow place in
    let row : Row = row_at rows SequenceWindow place in
    lawful-width place row.value
    (subst (λ (there : Place). is_lawful SequenceWindow there row.value ≡ true) its.place_is
    (subst (λ (feature : Feature). is_lawful feature row.place row.value ≡ true) its.feature_is its.sound.value))

-- the widths that sound rows give are in the range of the feature
pub widths-in-range : (m : Marks) (rows : List Row) → IsNegotiation rows → InRange (with_widths m rows)
widths-in-range m rows sound =
    let own = row-width rows Here sound in
    let peers = row-width rows There sound in
    record { own_least = own.0; own_most = own.1; peer_least = peers.0; peer_most = peers.1 }

-- rows of the end's role leave one, with the windows that they say
proper-with : (e : EndState) (rows : List Row) → IsProper e → AreRowsOf (end_of e.config.role) rows → IsProper (with_rows e rows)
proper-with e rows proper its =
    record { phase_fits = proper.phase_fits; rows = its; own_width = refl; peer_width = refl; widths = widths-in-range e.marks rows its.sound }

-- the same, where the rows and the marks are changed in place
pub refitted : (e : EndState) (marks : Marks) (rows : List Row) → IsProper e → AreRowsOf (end_of e.config.role) rows → marks ≡ with_widths e.marks rows
    → IsProper (record e { marks = marks; rows = rows })
refitted e marks rows proper its is = subst (λ (m : Marks). IsProper (record e { marks = m; rows = rows })) (sym is) (proper-with e rows proper its)

-- windows that are as wide as the rows say
pub refit_is : (e old : EndState) (marks : Marks) (rows new : List Row) → e ≡ old → marks ≡ with_widths e.marks rows → rows ≡ new
    → record e { marks = marks; rows = rows } ≡ with_rows old new
refit_is e old marks rows new same widths is =
    ap (λ (m : Marks). record e { marks = m; rows = rows }) widths ∙ ap (λ (x : EndState). with_rows x rows) same ∙ ap (λ (r : List Row). with_rows old r) is

-- a step of a proper end leaves one
pub proper-after : {e : EndState} {given : Input} {f : Effect} → IsProper e → IsCaused e given f → IsProper (end_after e f)
proper-after {e = e} {f = f} proper because =
    let kept : AreRowsOf (end_of e.config.role) (rows_by e.rows f) = rows-kept proper because.turns in
    record {
      phase_fits = because.moves.its_role;
      rows = kept;
      own_width = refl;
      peer_width = refl;
      widths = widths-in-range (end_after e f).marks (rows_by e.rows f) kept.sound;
    }

-- at first each row has its feature's initial value
first-value : (role : Role2) (config : Config) (place : Place) → IsLists config.lists
    → value_in (first_rows role config.lists) SequenceWindow place ≡ initial_of SequenceWindow
first-value role config place lists =
    ap (λ (row : Row). row.value) (first-fresh role config.lists lists SequenceWindow place)
    ∙ ap initial_of (lists.each SequenceWindow place).feature_is

-- a new end is proper
pub first-proper : (config : Config) → IsLists config.lists → IsProper (new_end config)
first-proper config lists =
    record {
      phase_fits = (begins config.role).in_role;
      rows = first-role (end_of config.role) config.lists lists;
      own_width = sym (first-value (end_of config.role) config Here lists);
      peer_width = sym (first-value (end_of config.role) config There lists);
      widths = record { own_least = omega arith; own_most = omega arith; peer_least = omega arith; peer_most = omega arith };
    }
