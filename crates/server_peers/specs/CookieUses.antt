-- When a server uses Init Cookies, and under which keys (RFC 4340, section 8.1.4; own).
use Rattle.std.specs.Prelude.{ℕ, Bool, true, false, List, Option, Some, None}
use Rattle.dccp_states.specs.declared.phase.Phase.{Phase}
use Rattle.dccp_states.specs.declared.phase.Phase.TheVariants as phases
use Rattle.init_cookies.specs.declared.cookie.CookieKeys.{CookieKeys}
use Rattle.server_peers.specs.declared.rules.Rules.{Rules}
use Rattle.server_peers.specs.declared.cookie_use.CookieUse.{CookieUse}
use Rattle.server_peers.specs.declared.cookie_use.CookieUse.TheVariants.{Always, InACrowd, Never}

-- a flow in this phase is half open: its server has sent a Response and heard nothing since (section 8.1.3)
abbrev pub is_half_open : Phase → Bool
is_half_open phases.Respond = true
is_half_open _ = false

-- cookies are used for peers without a flow
abbrev pub is_in_use : CookieUse → Bool → Bool
is_in_use Never crowded = false
is_in_use InACrowd crowded = crowded
is_in_use Always crowded = true

-- cookies are used at all
abbrev pub is_ever_in_use : CookieUse → Bool
is_ever_in_use Never = false
is_ever_in_use InACrowd = true
is_ever_in_use Always = true

-- the keys, with this one for new cookies; the one before it stays valid for its cookies
abbrev pub rekeyed : List ℕ → ℕ → Option CookieKeys → CookieKeys
rekeyed key now None = record { key = key; before = key; since = now }
rekeyed key now (Some keys) = record { key = key; before = keys.key; since = now }

-- the rules by which half-open flows are over their time at once, for a peer that has proved its address
abbrev pub hurried : Rules → Rules
hurried rules = record rules { respond = Some 0; crowded = Some 0 }
