-- The longest data fit the packet on which they go (own).
use Rattle.std.specs.Prelude.{◌≡◌, ◌≢◌, ℕ, ◌≤◌, Bool, List, length, Some, Err, IfSome}
use Rattle.ack_vectors.specs.declared.room.Vectors.TheVariants.{One}
use Rattle.ccid_two.specs.Kinds.{Both}
use Rattle.dccp_endpoint.specs.Calling.{sends_payload}
use Rattle.dccp_endpoint.specs.Controlled.{End}
use Rattle.dccp_states.specs.declared.calls.SendFault.TheVariants as fault
use Rattle.dccp_c.specs.Fates.{longest_in}

-- Data of at least a byte, and no longer than the longest of an end that writes one Ack Vector option, are not too long to be sent. If they go
-- out, their packet has at most the given number of bytes (RFC 4340, sections 5.1, 5.3 and 11.4).
abbrev pub LongestDataFit : Type 0
LongestDataFit =
    (e : End Both) (payload : List ℕ) (most : ℕ) (may_send : Bool) → e.state.config.vectors ≡ One
    → 1 ≤ length payload → length payload ≤ longest_in most (Some e)
    → ((sends_payload e.state payload may_send).answer ≢ Err fault.TooLong)
    × IfSome (sends_payload e.state payload may_send).frame (λ frame. length frame.bytes ≤ most)
