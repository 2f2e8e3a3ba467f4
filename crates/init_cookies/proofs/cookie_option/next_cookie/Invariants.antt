use Rattle.std.proofs.Common.{◌≡◌, length}
use Rattle.init_cookies.specs.CookieOptions.{cookie_options}
use Rattle.init_cookies.proofs.cookie_option.next_cookie.Given as goal

abbrev pub invariant-loop-item : goal.invariant-loop-item
invariant-loop-item l = cookie_options l.options ≡ cookie_options l.fn.options

abbrev pub decreases-loop-item : goal.decreases-loop-item
decreases-loop-item l = length l.options
