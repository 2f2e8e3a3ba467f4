-- The Init Cookie that a client returns (RFC 4340, section 8.1.4; that it returns one only if there is just one is own).
use Rattle.std.specs.Prelude.{◌&&◌, false, ℕ, List, [], ◌∷◌, Option, Result, Ok, Err, if◌then◌else◌}
use Rattle.dccp_endpoint.specs.Calling.{is_requesting}
use Rattle.dccp_endpoint.specs.Early.{is_part_open}
use Rattle.dccp_options.specs.Grammar.{options_of}
use Rattle.dccp_packets.specs.Grammar.{Parts, decoded}
use Rattle.dccp_packets.specs.Outgoing.{Outgoing}
use Rattle.dccp_packets.specs.declared.reading.Malformed.{Malformed}
use Rattle.dccp_states.specs.declared.phase.Phase.{Phase}
use Rattle.dccp_sum.specs.declared.pseudo_header.Pseudo.{Pseudo}
use Rattle.init_cookies.specs.Appending.{appended}
use Rattle.init_cookies.specs.CookieOptions.{cookie_options, one_cookie}

-- the Init Cookie of a Response, as an option
abbrev pub cookie_had : Result Parts Malformed → List ℕ
cookie_had (Ok p) = one_cookie (cookie_options (options_of p.options false))
cookie_had (Err fault) = []

-- What a client keeps once a datagram has led it from one phase to another: the Init Cookie of its Response.
abbrev pub cookie_kept : Phase → Phase → List ℕ → List ℕ → List ℕ
cookie_kept was is bytes kept = if is_requesting was && is_part_open is then cookie_had (decoded bytes) else kept

-- a frame with a cookie, if there is one
abbrev pub with_cookie : Pseudo → List ℕ → Option Outgoing → Option Outgoing
with_cookie pseudo [] frame = frame
with_cookie pseudo (first ∷ rest) frame = appended pseudo (first ∷ rest) frame

-- A frame of an end in this phase as it goes out: in PARTOPEN it returns the cookie.
abbrev pub returning : Phase → Pseudo → List ℕ → Option Outgoing → Option Outgoing
returning phase pseudo cookie frame = if is_part_open phase then with_cookie pseudo cookie frame else frame
