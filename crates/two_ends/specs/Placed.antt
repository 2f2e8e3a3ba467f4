-- How many frames of a side have numbers of its connection, as laws say it (RFC 4340, section 7.1).
use Rattle.std.specs.Prelude.{ℕ, zero, suc, not, Bool, false, if◌then◌else◌, List, [], ◌∷◌, Option, Some, None}
use Rattle.dccp_packets.specs.Grammar.{Parts}
use Rattle.dccp_states.specs.declared.phase.Role.{Role}
use Rattle.dccp_endpoint.specs.Causes.{is_without_connection}
use Rattle.two_ends.specs.declared.frames.SentFrame.{SentFrame}
use Rattle.two_ends.specs.Frames.{packet_of}

-- the bytes are a packet with one of its side's numbers: no Reset without a connection
abbrev pub has_own_number : Role → Option Parts → Bool
has_own_number role None = false
has_own_number role (Some packet) = not (is_without_connection role packet.header.kind)

-- how many frames of a list have such a number
abbrev pub count_of_own_numbers : Role → List SentFrame → ℕ
count_of_own_numbers role [] = zero
count_of_own_numbers role (frame ∷ frames) =
    if has_own_number role (packet_of frame.bytes) then suc (count_of_own_numbers role frames) else count_of_own_numbers role frames
