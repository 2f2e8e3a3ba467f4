use Rattle.std.proofs.Common.{refl, sym, ap, ◌∙◌}
use Rattle.std.proofs.lemmas.Option.{same_Some}
use Rattle.init_cookies.specs.Cookies.{cookie_opening}
use Rattle.tests_claims.proofs.CookieRead.{fresh, older-key}
use Rattle.tests_claims.proofs.cookies.a_cookie_opens_what_it_was_written_for.Goals as goal

pub returns-clause-returned : goal.returns-clause-returned
returns-clause-returned c = λ keys now route o time iss number service options from to.
    c.cookies_come_back.ensures keys keys now route o
    (record { time = time; iss = iss; number = number; service = service; options = options })
    (fresh now o.time from to) refl

pub returns-clause-changed : goal.returns-clause-changed
returns-clause-changed c = λ keys later now route o fits from to since before same.
    c.cookies_come_back.ensures keys later now route o fits (fresh now o.time from to) (older-key keys later o.time since before same)

pub returns-clause-one : goal.returns-clause-one
returns-clause-one c = λ keys now route o other fits others_fit from to others_from others_to same.
    same_Some o other
    (sym (c.cookies_come_back.ensures keys keys now route o fits (fresh now o.time from to) refl)
    ∙ ap (cookie_opening keys now route) same
    ∙ c.cookies_come_back.ensures keys keys now route other others_fit (fresh now other.time others_from others_to) refl)
