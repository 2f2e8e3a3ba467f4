-- What is read from a cookie that comes back (RFC 4340, section 8.1.4; own).
use Rattle.std.specs.Prelude.{◌≡◌, ℕ, true, Some}
use Rattle.init_cookies.specs.Cookies.{cookie_bytes, cookie_opening, is_fresh, key_at}
use Rattle.init_cookies.specs.Openings.{FitsCookie, OpeningState}
use Rattle.init_cookies.specs.declared.cookie.CookieKeys.{CookieKeys}
use Rattle.init_cookies.specs.declared.route.Route.{Route}

-- A cookie that is fresh, and whose key is kept, holds the opening for which it was written.
abbrev pub CookiesComeBack : Type 0
CookiesComeBack =
    (keys later : CookieKeys) (now : ℕ) (route : Route) (o : OpeningState) → FitsCookie o → is_fresh now o.time ≡ true
    → key_at later o.time ≡ key_at keys o.time → cookie_opening later now route (cookie_bytes keys route o) ≡ Some o
