-- Data of a client that speaks first (RFC 4340, section 8.1.5, permits it; the call is own).
use Rattle.std.specs.Prelude.{ℕ, Bool, true, false, List, Option}
use Rattle.dccp_states.specs.declared.phase.Phase.{Phase}
use Rattle.dccp_states.specs.declared.phase.Phase.TheVariants as phases
use Rattle.dccp_states.specs.declared.calls.SendFault.{SendFault}
use Rattle.dccp_endpoint.specs.Calling.{Called, fault_where, sends_payload, sends_unless}
use Rattle.dccp_endpoint.specs.End.{EndState}

-- the one phase for them: the Response was heard, and nothing after it
abbrev pub is_part_open : Phase → Bool
is_part_open phases.Closed = false
is_part_open phases.Listen = false
is_part_open phases.Request = false
is_part_open phases.Respond = false
is_part_open phases.PartOpen = true
is_part_open phases.Open = false
is_part_open phases.CloseReq = false
is_part_open phases.Closing = false
is_part_open phases.TimeWait = false

-- why they are not sent, or none if they are: the reasons of `send`, with this phase
abbrev pub early_fault : EndState → List ℕ → Bool → Option SendFault
early_fault e payload may_send = fault_where (is_part_open e.phase) e.rows payload may_send

-- send_early: all that goes out in PARTOPEN acknowledges, so these data go out on a DataAck, even if no acknowledgement is owed.
unfoldable pub sends_early : EndState → List ℕ → Bool → Called SendFault
sends_early e payload may_send = sends_unless e payload true (early_fault e payload may_send)

-- data by the one call or the other: by `send_early` in PARTOPEN, and by `send` in all other phases
abbrev pub sends_by : Bool → EndState → List ℕ → Bool → Called SendFault
sends_by true e payload may_send = sends_early e payload may_send
sends_by false e payload may_send = sends_payload e payload may_send

-- as soon as the phase allows
abbrev pub sends_soon : EndState → List ℕ → Bool → Called SendFault
sends_soon e payload may_send = sends_by (is_part_open e.phase) e payload may_send
