-- The Init Cookies of a server (RFC 4340, section 8.1.4, which leaves their format to the server: own).
use Rattle.std.specs.Prelude.{ℕ, ◌-◌, ◌%◌, ◌^◌, ◌==◌, ◌&&◌, nat_le, nat_lt, Bool, List, ◌++◌, length, drop, Option, Some, None, if◌then◌else◌}
use Rattle.byteorder.specs.Endian.{big_bytes, big_number}
use Rattle.init_cookies.specs.Keyed.{keyed_hash}
use Rattle.init_cookies.specs.Openings.{OpeningState, opening_bytes, opening_read}
use Rattle.init_cookies.specs.Routes.{route_bytes}
use Rattle.init_cookies.specs.declared.cookie.CookieKeys.{CookieKeys}
use Rattle.init_cookies.specs.declared.route.Route.{Route}

-- the key of a cookie of this time
abbrev pub key_at : CookieKeys → ℕ → List ℕ
key_at keys time = if nat_lt time keys.since then keys.before else keys.key

-- the tag: the first eight bytes of the keyed hash of the route and the opening, as a number of 64 bits
abbrev pub cookie_tag : List ℕ → Route → List ℕ → ℕ
cookie_tag key route opening = big_number 8 (keyed_hash key (route_bytes route ++ opening)) % 2 ^ 64

-- a cookie: the tag, and the opening
abbrev pub cookie_bytes : CookieKeys → Route → OpeningState → List ℕ
cookie_bytes keys route o = big_bytes 8 (cookie_tag (key_at keys o.time) route (opening_bytes o)) ++ opening_bytes o

-- it is good for two minutes (own)
abbrev pub is_fresh : ℕ → ℕ → Bool
is_fresh now time = nat_le time now && nat_le (now - time) 120000

-- the opening, if the cookie is fresh and its tag is that of its content
abbrev pub opening_if : CookieKeys → ℕ → Route → ℕ → List ℕ → Option OpeningState
opening_if keys now route tag held =
    if is_fresh now (opening_read held).time && (tag == cookie_tag (key_at keys (opening_read held).time) route held) then Some (opening_read held) else None

-- What a cookie that came by this route opens: nothing if it does not have a cookie's length, its time is past, or its
-- tag is not the keyed hash.
abbrev pub cookie_opening : CookieKeys → ℕ → Route → List ℕ → Option OpeningState
cookie_opening keys now route bytes =
    if nat_lt (length bytes) 32 then None
    else if nat_lt 252 (length bytes) then None
    else opening_if keys now route (big_number 8 bytes) (drop 8 bytes)
