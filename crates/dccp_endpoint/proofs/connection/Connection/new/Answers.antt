-- What is made is a fresh end.
use Rattle.std.proofs.Common.{◌≡◌, ◌∙◌, ℕ, List, ap, false, subst, sym}
use Rattle.dccp_states.specs.declared.phase.Phase.{Phase}
use Rattle.feature_machine.specs.Negotiating.{first_rows}
use Rattle.feature_machine.specs.declared.row.Row.{Row}
use Rattle.feature_machine.specs.declared.stands.Role2.{Role2}
use Rattle.validity_windows.specs.Beginning.{new_marks}
use Rattle.validity_windows.specs.declared.marks.Marks.{Marks}
use Rattle.dccp_endpoint.specs.End.{EndState, IsProper, new_end}
use Rattle.dccp_endpoint.specs.declared.config.Config.{Config}
use Rattle.dccp_endpoint.proofs.Staying.{first-proper}
use Rattle.dccp_endpoint.proofs.connection.Connection.new.Goals as goal

pub invariant_of-result : goal.invariant_of-result
invariant_of-result c =
    let config : Config = c.args.config in
    let marks : c.new-marks.result ≡ (new_end config).marks = c.new-marks.ensures ∙ ap (new_marks config.iss) c.initial.ensures in
    let rows : c.new-rows.result ≡ (new_end config).rows = c.new-rows.ensures.rows ∙ ap (λ (role : Role2). first_rows role config.lists) c.end_of.ensures in
    let end : Phase → Marks → List Row → ℕ → EndState =
    λ phase m r last. record {
      config = config;
      phase = phase;
      opened = false;
      marks = m;
      rows = r;
      received = c.in_ok-received.received;
      marked = 0;
      owed = false;
      unacked = 0;
      last = last;
    } in
    let last : ℕ = c.number-last.result in
    let is : end c.first_phase-phase.result c.new-marks.result c.new-rows.result last
    ≡ end (new_end config).phase (new_end config).marks (new_end config).rows 0 =
    ap (λ (phase : Phase). end phase c.new-marks.result c.new-rows.result last) c.first_phase-phase.ensures
    ∙ ap (λ (m : Marks). end (new_end config).phase m c.new-rows.result last) marks
    ∙ ap (λ (r : List Row). end (new_end config).phase (new_end config).marks r last) rows
    ∙ ap (end (new_end config).phase (new_end config).marks (new_end config).rows) c.number-last.ensures in
    let proper = first-proper config c.shows_lists.ensures in
    subst IsProper (sym is)
    (record { phase_fits = proper.phase_fits; rows = proper.rows; own_width = proper.own_width; peer_width = proper.peer_width; widths = proper.widths })
