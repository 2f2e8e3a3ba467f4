use Rattle.std.proofs.Common.{◌≡◌, ℕ, nat_lt, false, List, length, ap, ◌∙◌, arith}
use Rattle.std.proofs.lemmas.Bool.{le-ltb}
use Rattle.byteorder.specs.Endian.{big_number}
use Rattle.init_cookies.specs.Cookies.{opening_if}
use Rattle.init_cookies.proofs.cookie.CookieKeys.read.Goals as goal

pub returns : goal.returns
returns c =
    let bytes : List ℕ = c.args.bytes.now in
    let low : nat_lt (length bytes) 32 ≡ false = le-ltb (length bytes) 32 (omega (arith, c.if-bytes-lt-LEAST_COOKIE.false)) in
    let high : nat_lt 252 (length bytes) ≡ false = le-ltb 252 (length bytes) (omega (arith, c.if-bytes-gt-MOST_COOKIE.false)) in
    rw (low, high)
    (c.opening_if.ensures
    ∙ ap (λ (tag : ℕ). opening_if c.args.self.now c.args.now c.args.route.now tag c.rest_from.result.now) c.first_number.ensures
    ∙ ap (λ (held : List ℕ). opening_if c.args.self.now c.args.now c.args.route.now (big_number 8 bytes) held) c.rest_from.ensures)
