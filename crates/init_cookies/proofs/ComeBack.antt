-- A cookie holds the opening for which it was written.
use Rattle.std.proofs.Common.{◌≡◌, ℕ, ◌+◌, ◌<◌, ◌^◌, ◌==◌, ◌&&◌, nat_lt, Bool, true, false, List, ◌++◌, length, drop, Some, None, if◌then◌else◌, ap, sym, ◌∙◌, arith}
use Rattle.std.proofs.lemmas.Bool.{eq-eqb, le-ltb}
use Rattle.byteorder.specs.Endian.{big_bytes, big_number}
use Rattle.byteorder.specs.Numbers.{big_number-reads_back}
use Rattle.init_cookies.specs.Cookies.{cookie_tag, is_fresh, key_at, opening_if}
use Rattle.init_cookies.specs.Laws.{CookiesComeBack}
use Rattle.init_cookies.specs.Openings.{FitsCookie, OpeningState, opening_bytes, opening_read}
use Rattle.init_cookies.specs.declared.cookie.CookieKeys.{CookieKeys}
use Rattle.init_cookies.specs.declared.route.Route.{Route}

-- an opening with these fields
abbrev with-fields : ℕ → ℕ → ℕ → ℕ → List ℕ → OpeningState
with-fields time iss number service options = record { time = time; iss = iss; number = number; service = service; options = options }

opening-again : (o : OpeningState) → FitsCookie o → opening_read (opening_bytes o) ≡ o
opening-again o is =
    let time : big_number 8 (opening_bytes o) ≡ o.time = big_number-reads_back 8 o.time (big_bytes 6 o.iss ++ (big_bytes 6 o.number ++ (big_bytes 4 o.service ++ o.options))) is.time in
    let iss : big_number 6 (drop 8 (opening_bytes o)) ≡ o.iss = big_number-reads_back 6 o.iss (big_bytes 6 o.number ++ (big_bytes 4 o.service ++ o.options)) is.iss in
    let number : big_number 6 (drop 14 (opening_bytes o)) ≡ o.number = big_number-reads_back 6 o.number (big_bytes 4 o.service ++ o.options) is.number in
    let service : big_number 4 (drop 20 (opening_bytes o)) ≡ o.service = big_number-reads_back 4 o.service o.options is.service in
    ap (λ t. with-fields t (big_number 6 (drop 8 (opening_bytes o))) (big_number 6 (drop 14 (opening_bytes o))) (big_number 4 (drop 20 (opening_bytes o))) o.options) time
    ∙ ap (λ i. with-fields o.time i (big_number 6 (drop 14 (opening_bytes o))) (big_number 4 (drop 20 (opening_bytes o))) o.options) iss
    ∙ ap (λ n. with-fields o.time o.iss n (big_number 4 (drop 20 (opening_bytes o))) o.options) number
    ∙ ap (λ s. with-fields o.time o.iss o.number s o.options) service

-- a tag has 64 bits
tag-fits : (key : List ℕ) (route : Route) (held : List ℕ) → cookie_tag key route held < 256 ^ 8
tag-fits key route held = omega arith

-- the length of a cookie
cookie-length : (o : OpeningState) (tag : ℕ) → length (big_bytes 8 tag ++ opening_bytes o) ≡ length o.options + 32
cookie-length o tag = omega arith

long-enough : (o : OpeningState) (tag : ℕ) → nat_lt (length (big_bytes 8 tag ++ opening_bytes o)) 32 ≡ false
long-enough o tag = let count = cookie-length o tag in le-ltb (length (big_bytes 8 tag ++ opening_bytes o)) 32 (omega (arith, count))

short-enough : (o : OpeningState) (tag : ℕ) → FitsCookie o → nat_lt 252 (length (big_bytes 8 tag ++ opening_bytes o)) ≡ false
short-enough o tag is =
    let count = cookie-length o tag in
    let short = is.options in
    le-ltb 252 (length (big_bytes 8 tag ++ opening_bytes o)) (omega (arith, count, short))

-- a fresh opening whose tag fits is what it holds
opened : (later : CookieKeys) (now : ℕ) (route : Route) (tag : ℕ) (held : List ℕ) (o : OpeningState) → opening_read held ≡ o → is_fresh now o.time ≡ true
    → tag ≡ cookie_tag (key_at later o.time) route held → opening_if later now route tag held ≡ Some o
opened later now route tag held o again fresh same =
    ap
    (λ (x : OpeningState). if is_fresh now x.time && (tag == cookie_tag (key_at later x.time) route held) then Some x else None)
    again
    ∙ ap (λ (b : Bool). if b && (tag == cookie_tag (key_at later o.time) route held) then Some o else None) fresh
    ∙ ap (λ (b : Bool). if b then Some o else None) (eq-eqb tag (cookie_tag (key_at later o.time) route held) same)

pub come_back : CookiesComeBack
come_back keys later now route o is fresh same =
    let held : List ℕ = opening_bytes o in
    let tag : ℕ = cookie_tag (key_at keys o.time) route held in
    let read : big_number 8 (big_bytes 8 tag ++ held) ≡ tag = big_number-reads_back 8 tag held (tag-fits (key_at keys o.time) route held) in
    let alike : tag ≡ cookie_tag (key_at later o.time) route held = ap (λ (key : List ℕ). cookie_tag key route held) (sym same) in
    rw (long-enough o tag, short-enough o tag is)
    (ap (λ (t : ℕ). opening_if later now route t held) read ∙ opened later now route tag held o (opening-again o is) fresh alike)
