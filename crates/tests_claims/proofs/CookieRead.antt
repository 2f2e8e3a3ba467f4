-- When a cookie is good, and what a good cookie has.
use Rattle.std.proofs.Common.{◌≡◌, ℕ, ◌+◌, ◌-◌, ◌<◌, ◌≤◌, ◌==◌, ◌&&◌, nat_le, nat_lt, Bool, true, false, List, length, drop, Option, Some, None, if◌then◌else◌, refl, sym, subst, ◌∙◌, arith}
use Rattle.std.proofs.lemmas.Bool.{and_parts, cond-false, cond-true, eqb-true, le-leb, le-ltb, leb-true, lt-ltb, ltb-false}
use Rattle.std.proofs.lemmas.Option.{cond_some, none-some}
use Rattle.byteorder.specs.Endian.{big_number}
use Rattle.init_cookies.specs.Cookies.{cookie_opening, cookie_tag, is_fresh, key_at, opening_if}
use Rattle.init_cookies.specs.Openings.{OpeningState, opening_read}
use Rattle.init_cookies.specs.declared.cookie.CookieKeys.{CookieKeys}
use Rattle.init_cookies.specs.declared.route.Route.{Route}

-- from its time on, and for two minutes
pub fresh : (now time : ℕ) → time ≤ now → now ≤ time + 120000 → is_fresh now time ≡ true
fresh now time from to = rw (le-leb time now from, le-leb (now - time) 120000 (omega (arith, from, to))) refl

fresh-since : (now time : ℕ) → is_fresh now time ≡ true → (time ≤ now) × (now ≤ time + 120000)
fresh-since now time is =
    let parts = and_parts (nat_le time now) (nat_le (now - time) 120000) is in
    let from : time ≤ now = leb-true time now parts.0 in
    let to : now - time ≤ 120000 = leb-true (now - time) 120000 parts.1 in
    (from, omega (arith, from, to))

-- after a change the key of an older cookie is the one before
pub older-key : (keys later : CookieKeys) (time : ℕ) → keys.since ≤ time → time < later.since → later.before ≡ keys.key → key_at later time ≡ key_at keys time
older-key keys later time from to same =
    cond-true (nat_lt time later.since) later.before later.key (lt-ltb time later.since to)
    ∙ same
    ∙ sym (cond-false (nat_lt time keys.since) keys.before keys.key (le-ltb time keys.since from))

none-first : {A : Type 0} (b : Bool) (r : Option A) (y : A) → (if b then None else r) ≡ Some y → (b ≡ false) × (r ≡ Some y)
none-first true r y e = absurd (none-some y e)
none-first false r y e = (refl, e)

-- what a cookie opens is fresh, and its tag fits
good-held : (keys : CookieKeys) (now : ℕ) (route : Route) (tag : ℕ) (held : List ℕ) (o : OpeningState) → opening_if keys now route tag held ≡ Some o
    → (is_fresh now o.time ≡ true) × (tag ≡ cookie_tag (key_at keys o.time) route held)
good-held keys now route tag held o is =
    let time : ℕ = (opening_read held).time in
    let found = cond_some (is_fresh now time && (tag == cookie_tag (key_at keys time) route held)) (opening_read held) o is in
    let parts = and_parts (is_fresh now time) (tag == cookie_tag (key_at keys time) route held) found.0 in
    subst (λ (x : OpeningState). (is_fresh now x.time ≡ true) × (tag ≡ cookie_tag (key_at keys x.time) route held)) found.1
    (parts.0, eqb-true tag (cookie_tag (key_at keys time) route held) parts.1)

-- What a cookie has that opens something.
pub record IsGood (keys : CookieKeys) (now : ℕ) (route : Route) (bytes : List ℕ) (o : OpeningState) : Type 0 where
  pub early : o.time ≤ now
  pub late : now ≤ o.time + 120000
  pub tagged : big_number 8 bytes ≡ cookie_tag (key_at keys o.time) route (drop 8 bytes)
  pub short : 32 ≤ length bytes
  pub long : length bytes ≤ 252

pub good : (keys : CookieKeys) (now : ℕ) (route : Route) (bytes : List ℕ) (o : OpeningState) → cookie_opening keys now route bytes ≡ Some o
    → IsGood keys now route bytes o
good keys now route bytes o is =
    let first = none-first
    (nat_lt (length bytes) 32)
    (if nat_lt 252 (length bytes) then None else opening_if keys now route (big_number 8 bytes) (drop 8 bytes))
    o is in
    let second = none-first (nat_lt 252 (length bytes)) (opening_if keys now route (big_number 8 bytes) (drop 8 bytes)) o first.1 in
    let held = good-held keys now route (big_number 8 bytes) (drop 8 bytes) o second.1 in
    let times = fresh-since now o.time held.0 in
    record {
      early = times.0;
      late = times.1;
      tagged = held.1;
      short = ltb-false (length bytes) 32 first.0;
      long = ltb-false 252 (length bytes) second.0;
    }
