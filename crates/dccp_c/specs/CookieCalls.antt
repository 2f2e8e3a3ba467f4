-- How a server in C that has an end for each peer answers a Request without one (RFC 4340, section 8.1.4; own).
use Rattle.std.specs.Prelude.{◌≡◌, ◌⊎◌, ℕ, ◌==◌, Bool, true, false, List, Option, Some, None, Result, Ok, Err, if◌then◌else◌}
use Rattle.dccp_endpoint.specs.declared.config.Config.{Config}
use Rattle.dccp_options.specs.Kinds.{init_cookie}
use Rattle.dccp_options.specs.Written.{spelled}
use Rattle.dccp_packets.specs.Grammar.{decoded}
use Rattle.dccp_packets.specs.Outgoing.{Outgoing}
use Rattle.server_peers.specs.Requests.{asking_of, cookie_read, opening_in}
use Rattle.server_peers.specs.declared.asking.DatagramRequest.{DatagramRequest}
use Rattle.server_peers.specs.declared.asking.DatagramRequest.TheVariants.{Nothing, TooLong, This}
use Rattle.dccp_states.specs.declared.outcome.Outcome.{Outcome}
use Rattle.dccp_uses.specs.Upkeeps.{is_taken}
use Rattle.dccp_uses.specs.declared.holding.Reading.{Reading}
use Rattle.init_cookies.specs.Appending.{appended}
use Rattle.init_cookies.specs.Cookies.{cookie_bytes}
use Rattle.init_cookies.specs.Openings.{OpeningState, request_bytes}
use Rattle.dccp_sum.specs.Checksum.{reversed}
use Rattle.init_cookies.specs.declared.cookie.CookieKeys.{CookieKeys}
use Rattle.init_cookies.specs.declared.route.Route.{Route}
use Rattle.dccp_c.specs.Accepting.{first_heard}
use Rattle.dccp_c.specs.Framing.{FrameFields, handed_of, nothing_handed}
use Rattle.dccp_c.specs.Making.{pseudo_of}
use Rattle.dccp_c.specs.Stepping.{CStep}
use Rattle.dccp_c.specs.Telling.{is_short}
use Rattle.dccp_c.specs.declared.cookie_calls.KeyPair.{KeyPair}
use Rattle.dccp_c.specs.declared.making.Care.{Care}
use Rattle.dccp_c.specs.declared.making.Settings.{Settings}

-- the keys that C gives
abbrev pub keys_of : KeyPair → CookieKeys
keys_of pair = record { key = pair.key.bytes; before = pair.before.bytes; since = pair.since }

-- the route from the peer of these settings to their server (section 5.1)
abbrev pub route_by : Settings → Route
route_by s = record { pseudo = reversed (pseudo_of s); from = s.peer_port; to = s.own_port }

-- the Request was taken
abbrev pub is_heard_so : Option Outcome → Bool
is_heard_so None = false
is_heard_so (Some outcome) = is_taken outcome

-- What goes out once an end has heard the Request of an opening: its Response with an Init Cookie, or its unchanged answer if it has not taken
-- the Request.
abbrev pub greeting_of : CookieKeys → Route → OpeningState → CStep Reading → Option Outgoing
greeting_of keys route o step =
    if is_heard_so step.answer.heard then appended (reversed route.pseudo) (spelled false init_cookie (cookie_bytes keys route o)) step.frame else step.frame

-- The result of greeting once an end has heard the Request: 0, or 13 if it has not taken it, or 2 if there is no memory for an end.
abbrev pub GreetsBy : CookieKeys → Route → OpeningState → CStep Reading → FrameFields → ℕ → Type 0
GreetsBy keys route o step left code =
    ((left ≡ nothing_handed) × (code ≡ 2))
    ⊎ ((left ≡ handed_of (greeting_of keys route o step)) × (code ≡ (if is_heard_so step.answer.heard then 0 else 13)))

-- the same by what is asked for: 13 for no connection, 5 for one with options that are too long
abbrev pub GreetsAsked : CookieKeys → Route → ℕ → Care → Config → DatagramRequest → FrameFields → ℕ → Type 0
GreetsAsked keys route now care config Nothing left code = (left ≡ nothing_handed) × (code ≡ 13)
GreetsAsked keys route now care config TooLong left code = (left ≡ nothing_handed) × (code ≡ 5)
GreetsAsked keys route now care config (This o) left code =
    GreetsBy keys route o (first_heard (request_bytes route o) now care config) left code

-- the same: 5 for a datagram that is too long
abbrev pub GreetsIfShort : Bool → CookieKeys → Route → ℕ → Care → Config → List ℕ → FrameFields → ℕ → Type 0
GreetsIfShort true keys route now care config bytes left code =
    GreetsAsked keys route now care config (asking_of now config.iss route bytes) left code
GreetsIfShort false keys route now care config bytes left code = (left ≡ nothing_handed) × (code ≡ 5)

-- The result of greeting a datagram: an end that is not kept hears the Request, as its opening writes it again.
abbrev pub Greets : CookieKeys → Route → ℕ → Care → Result Config ℕ → List ℕ → FrameFields → ℕ → Type 0
Greets keys route now care (Ok config) bytes left code = GreetsIfShort (is_short bytes) keys route now care config bytes left code
Greets keys route now care (Err refusal) bytes left code = (left ≡ nothing_handed) × (code ≡ refusal)

-- what a datagram brings back to the server of these settings
abbrev pub opening_brought : CookieKeys → Settings → ℕ → List ℕ → Option OpeningState
opening_brought keys s now bytes =
    if s.size == 80 then (if is_short bytes then opening_in now keys (route_by s) (cookie_read (decoded bytes)) else None) else None

-- the Request of an opening, and the first number of the end that is to hear it
abbrev pub request_handed : Route → Option OpeningState → FrameFields
request_handed route None = nothing_handed
request_handed route (Some o) = record { bytes = request_bytes route o; number = o.iss }

-- 0, or 13 if nothing comes back
abbrev pub recalled_code : Option OpeningState → ℕ
recalled_code None = 13
recalled_code (Some o) = 0

-- the code of recalling: 20 for settings of another size, 5 if the datagram is too long
abbrev pub recall_code : CookieKeys → Settings → ℕ → List ℕ → ℕ
recall_code keys s now bytes = if s.size == 80 then (if is_short bytes then recalled_code (opening_brought keys s now bytes) else 5) else 20
