-- How a server turns a datagram away without an end (own; RFC 4340, sections 5.6 and 8.3.1).
use Rattle.std.specs.Prelude.{ℕ, ◌^◌, nat_lt, ◌==◌, List, Result, Ok, Err, if◌then◌else◌}
use Rattle.dccp_endpoint.specs.declared.config.Config.{Config}
use Rattle.server_peers.specs.Refusals.{opens_by, refusal_frame}
use Rattle.dccp_c.specs.Accepting.{as_server}
use Rattle.dccp_c.specs.Framing.{FrameFields, handed_of, nothing_handed}
use Rattle.dccp_c.specs.Making.{usual_of_settings}
use Rattle.dccp_c.specs.Telling.{is_short}
use Rattle.dccp_c.specs.declared.making.Settings.{Settings}

-- The usual server of these settings, or the code by which they are refused: another size with 20, a first number that is not below 2^48 with
-- 17.
abbrev pub answering_by : Settings → Result Config ℕ
answering_by s =
    if s.size == 80 then (if nat_lt s.first_number (2 ^ 48) then Ok (usual_of_settings (as_server s)) else Err 17) else Err 20

-- 0 if it would open a connection, otherwise 13
abbrev pub refusal_status : Config → List ℕ → ℕ
refusal_status config bytes = if opens_by config bytes then 0 else 13

-- the frame that C gets; none if the settings are refused, or the datagram is too long
abbrev pub refuse_frame : ℕ → List ℕ → Result Config ℕ → FrameFields
refuse_frame code bytes (Ok config) = if is_short bytes then handed_of (refusal_frame code config bytes) else nothing_handed
refuse_frame code bytes (Err refusal) = nothing_handed

-- the code of refusing: that of refused settings, or 5 if the datagram is too long
abbrev pub refuse_code : List ℕ → Result Config ℕ → ℕ
refuse_code bytes (Ok config) = if is_short bytes then refusal_status config bytes else 5
refuse_code bytes (Err refusal) = refusal
