-- Words of the tool's texts (own).
use Rattle.std.specs.Prelude.{ℕ, List, [], codes}
use Rattle.dccp_states.specs.declared.phase.Phase.{Phase}
use Rattle.dccp_states.specs.declared.phase.Phase.TheVariants as phase
use Rattle.feature_machine.specs.declared.stands.Stand.{Stand}
use Rattle.feature_machine.specs.declared.stands.Stand.TheVariants as stand

-- A phase as it is shown.
abbrev pub phase_name : Phase → List ℕ
phase_name phase.Closed = codes "CLOSED"
phase_name phase.Listen = codes "LISTEN"
phase_name phase.Request = codes "REQUEST"
phase_name phase.Respond = codes "RESPOND"
phase_name phase.PartOpen = codes "PARTOPEN"
phase_name phase.Open = codes "OPEN"
phase_name phase.CloseReq = codes "CLOSEREQ"
phase_name phase.Closing = codes "CLOSING"
phase_name phase.TimeWait = codes "TIMEWAIT"

-- What follows the value of a row that is not settled
abbrev pub stand_mark : Stand → List ℕ
stand_mark stand.Stable = []
stand_mark stand.Changing = codes "*"
stand_mark stand.Unstable = codes "!"
