use Rattle.std.proofs.Common.{◌≡◌, List, rules}
use Rattle.feature_machine.specs.declared.row.Row.{Row}
use Rattle.dccp_endpoint.specs.Heeding.{read_beside, unheeded}
use Rattle.dccp_endpoint.proofs.heeding.heed_beside.Goals as goal

pub returns-in_err-heed : goal.returns-in_err-heed
returns-in_err-heed c =
    let rows : List Row = c.args.rows.now in
    let blank : read_beside rows c.new-reading.result ≡ unheeded rows = c.new-reading.ensures rows in
    search rules

pub returns : goal.returns
returns c =
    let rows : List Row = c.args.rows.now in
    let blank : read_beside rows c.new-reading.result ≡ unheeded rows = c.new-reading.ensures rows in
    search rules
