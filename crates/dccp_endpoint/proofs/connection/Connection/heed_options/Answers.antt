-- The rows stay those of the end's role.
use Rattle.std.proofs.Common.{◌≡◌, ◌∙◌, ap, sym, rules, List, Result, Option, ℕ, Bool}
use Rattle.dccp_options.specs.Grammar.{Entry, options_of}
use Rattle.dccp_options.specs.declared.option.OptFault.{OptFault}
use Rattle.feature_machine.specs.declared.row.Row.{Row}
use Rattle.feature_machine.specs.declared.stands.Role2.{Role2}
use Rattle.dccp_endpoint.specs.End.{end_of}
use Rattle.dccp_endpoint.specs.Heeding.{ReadingState, heeding_or, heeds, read_beside, unheeded}
use Rattle.dccp_endpoint.proofs.Lawful.{heard_rows}
use Rattle.dccp_endpoint.proofs.Staying.{refitted}
use Rattle.dccp_endpoint.proofs.connection.Connection.heed_options.Goals as goal

pub invariant_of-self : goal.invariant_of-self
invariant_of-self c =
    let rows : List Row = c.self.inside.rows in
    let role : Role2 = end_of c.self.inside.config.role in
    let count : Bool = c.heeds_negotiation-count.result in
    let ack : Option ℕ = c.packet.inside.ack in
    let items : List (Result Entry OptFault) = options_of c.packet.inside.options.now c.is_data-on_data.result in
    let h : ReadingState = read_beside c.heed.new.rows c.heed.new.reading in
    refitted _ c.fit.new.marks c.heed.new.rows c.self.invariant
    (heard_rows role count ack rows items h c.self.invariant.rows
    (ap (λ (x : ReadingState). heeds count ack x items) (sym (c.requires.blank rows)) ∙ sym c.heed.ensures ∙ ap (heeding_or h) c.in-Ok.is))
    c.fit.ensures

pub returns-in-Ok : goal.returns-in-Ok
returns-in-Ok c =
    let rows : List Row = c.args.self.now.rows in
    let blank : read_beside rows c.args.reading.now ≡ unheeded rows = c.requires.blank rows in
    search rules

pub returns-in-Err : goal.returns-in-Err
returns-in-Err c =
    let rows : List Row = c.args.self.now.rows in
    let blank : read_beside rows c.args.reading.now ≡ unheeded rows = c.requires.blank rows in
    search rules
