-- What a server in C does with the first datagram of a peer (RFC 4340, section 8.1.2; own).
use Rattle.std.specs.Prelude.{◌≡◌, ◌⊎◌, ℕ, ◌==◌, true, List, Option, Some, None, Result, Ok, Err, if◌then◌else◌}
use Rattle.std.specs.Option.{option_map}
use Rattle.dccp_endpoint.specs.declared.config.Config.{Config}
use Rattle.dccp_uses.specs.Session.{is_listening}
use Rattle.dccp_uses.specs.declared.holding.Reading.{Reading}
use Rattle.dccp_c.specs.Framing.{FrameFields, handed_of, nothing_handed}
use Rattle.dccp_c.specs.Making.{c_begins}
use Rattle.dccp_c.specs.declared.making.Care.{Care}
use Rattle.dccp_c.specs.Outcomes.{told_reading}
use Rattle.dccp_c.specs.declared.told.Told.{Told}
use Rattle.dccp_c.specs.Stepping.{CEnd, CStep, c_receives}
use Rattle.dccp_c.specs.Telling.{is_short}
use Rattle.dccp_c.specs.declared.making.Settings.{Settings}

-- these settings, as those of a server
abbrev pub as_server : Settings → Settings
as_server s = record s { is_server = true }

-- a new end hears the datagram
abbrev pub first_heard : List ℕ → ℕ → Care → Config → CStep Reading
first_heard bytes now care config = c_receives bytes now (c_begins care config)

-- 0 if the end has then left LISTEN, which makes a connection, otherwise 13; 5 if the datagram is too long to be heard
abbrev pub heard_code : List ℕ → ℕ → Care → Config → ℕ
heard_code bytes now care config =
    if is_short bytes then (if is_listening (first_heard bytes now care config).after.timed.end.state.phase then 13 else 0) else 5

-- The code of accepting: that of a refused configuration, otherwise that of hearing, or 2 if there is no memory.
abbrev pub AcceptsCode : List ℕ → ℕ → Care → Result Config ℕ → ℕ → Type 0
AcceptsCode bytes now care (Ok config) code = (code ≡ heard_code bytes now care config) ⊎ (code ≡ 2)
AcceptsCode bytes now care (Err refusal) code = code ≡ refusal

-- The datagram was heard if the code is 0 or 13.
abbrev pub accept_step : List ℕ → ℕ → Care → ℕ → Result Config ℕ → Option (CStep Reading)
accept_step bytes now care code (Ok config) = if code == 0 then Some (first_heard bytes now care config) else if code == 13 then Some (first_heard bytes now care config) else None
accept_step bytes now care code (Err refusal) = None

-- what the handle holds once accepting has returned this code: the end of a connection, if there is one
abbrev pub accepted_end : List ℕ → ℕ → Care → ℕ → Result Config ℕ → Option CEnd
accepted_end bytes now care code config = if code == 0 then option_map (λ step. step.after) (accept_step bytes now care code config) else None

-- the frame that answers the datagram, if it was heard
abbrev pub step_frame : Option (CStep Reading) → FrameFields
step_frame None = nothing_handed
step_frame (Some step) = handed_of step.frame

-- what C is told about it; if it was not heard, what C had stays
abbrev pub step_told : Option (CStep Reading) → Told → Told
step_told None old = old
step_told (Some step) old = told_reading step.answer
