use Rattle.std.proofs.Common.{ap, ◌∙◌, ℕ}
use Rattle.dccp_endpoint.specs.Controlled.{in_flight_of}
use Rattle.validity_windows.specs.declared.marks.Marks.{Marks}
use Rattle.dccp_uses.specs.Path.{data_timed, with_flight}
use Rattle.dccp_uses.specs.Upkeeps.{kept_on}
use Rattle.dccp_uses.specs.declared.path.Path.{Path}
use Rattle.dccp_uses.proofs.upkeep.Upkeep.send.Goals as goal

pub returns : goal.returns
returns g c =
    let control = g.C.Congestion.control in
    let u = c.args.self.now in
    let e = c.args.end.now in
    let now = c.args.now in
    c.go_on.ensures
    ∙ ap (λ (p : Path). kept_on control now 0 u.alarms p e)
    (c.note_flight.ensures
    ∙ ap (λ (n : ℕ). with_flight c.time_data.new.self n now) c.in_flight.ensures
    ∙ ap (λ (p : Path). with_flight p (in_flight_of control e.congestion) now)
    (c.time_data.ensures ∙ ap (λ (m : Marks). data_timed u.path m.gss now) c.marks.ensures.value))
