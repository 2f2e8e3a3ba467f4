-- What is in a cookie, and which options hold one, computed from the definitions. The bytes were worked out by hand from the tables of
-- docs/PROTOCOL.md, and the checksums by another program. No row computes a hash: hashes are in the tests of cookies.
use Rattle.std.proofs.Common.{◌≡◌, refl, ℕ, List, true, false, [], ◌∷◌, replicate, Some, None, Ok, Err}
use Rattle.dccp_options.specs.Grammar.{Entry}
use Rattle.dccp_options.specs.declared.option.OptFault.TheVariants as faults
use Rattle.dccp_sum.specs.Checksum.{reversed}
use Rattle.dccp_sum.specs.declared.pseudo_header.Pseudo.TheVariants.{V4, V6}
use Rattle.init_cookies.specs.Appending.{appended}
use Rattle.init_cookies.specs.CookieOptions.{cookie_options, first_cookie, one_cookie}
use Rattle.init_cookies.specs.Cookies.{cookie_opening, is_fresh, key_at}
use Rattle.init_cookies.specs.Openings.{FitsCookie, OpeningState, opening_bytes, opening_read, request_bytes}
use Rattle.init_cookies.specs.Routes.{route_bytes}
use Rattle.init_cookies.specs.declared.cookie.CookieKeys.{CookieKeys}
use Rattle.init_cookies.specs.declared.route.Route.{Route}

-- from 10.0.0.1 port 40000 to 10.0.0.2 port 5001
abbrev four : Route
four = record { pseudo = V4 (10 ∷ 0 ∷ 0 ∷ 1 ∷ []) (10 ∷ 0 ∷ 0 ∷ 2 ∷ []); from = 40000; to = 5001 }

-- a Request at 1,000 milliseconds, with the options of docs/PROTOCOL.md
abbrev opening : OpeningState
opening = record { time = 1000; iss = 2000; number = 1000; service = 42; options = 32 ∷ 4 ∷ 1 ∷ 2 ∷ 34 ∷ 4 ∷ 6 ∷ 1 ∷ [] }

-- a key until 1,000 milliseconds, and another from then on
abbrev keys : CookieKeys
keys = record { key = replicate 32 7; before = replicate 32 9; since = 1000 }

-- an option of this type
abbrev option : ℕ → List ℕ → Entry
option kind body = record { place = 0; mandatory = false; kind = kind; body = body }

-- the family, both addresses, and both ports in two bytes
routes_have_their_bytes :
    (route_bytes four ≡ 4 ∷ 10 ∷ 0 ∷ 0 ∷ 1 ∷ 10 ∷ 0 ∷ 0 ∷ 2 ∷ 156 ∷ 64 ∷ 19 ∷ 137 ∷ [])
    × (route_bytes (record { pseudo = V6 (0 ∷ 1 ∷ 2 ∷ 3 ∷ 4 ∷ 5 ∷ 6 ∷ 7 ∷ 8 ∷ 9 ∷ 10 ∷ 11 ∷ 12 ∷ 13 ∷ 14 ∷ 15 ∷ []) (16 ∷ 17 ∷ 18 ∷ 19 ∷ 20 ∷ 21 ∷ 22 ∷ 23 ∷ 24 ∷ 25 ∷ 26 ∷ 27 ∷ 28 ∷ 29 ∷ 30 ∷ 31 ∷ []); from = 1; to = 256 }) ≡ 6 ∷ 0 ∷ 1 ∷ 2 ∷ 3 ∷ 4 ∷ 5 ∷ 6 ∷ 7 ∷ 8 ∷ 9 ∷ 10 ∷ 11 ∷ 12 ∷ 13 ∷ 14 ∷ 15 ∷ 16 ∷ 17 ∷ 18 ∷ 19 ∷ 20 ∷ 21 ∷ 22 ∷ 23 ∷ 24 ∷ 25 ∷ 26 ∷ 27 ∷ 28 ∷ 29 ∷ 30 ∷ 31 ∷ 0 ∷ 1 ∷ 1 ∷ 0 ∷ [])
    × (reversed (V4 (10 ∷ 0 ∷ 0 ∷ 1 ∷ []) (10 ∷ 0 ∷ 0 ∷ 2 ∷ [])) ≡ V4 (10 ∷ 0 ∷ 0 ∷ 2 ∷ []) (10 ∷ 0 ∷ 0 ∷ 1 ∷ []))
    × (reversed (V6 (0 ∷ 1 ∷ 2 ∷ 3 ∷ 4 ∷ 5 ∷ 6 ∷ 7 ∷ 8 ∷ 9 ∷ 10 ∷ 11 ∷ 12 ∷ 13 ∷ 14 ∷ 15 ∷ []) (16 ∷ 17 ∷ 18 ∷ 19 ∷ 20 ∷ 21 ∷ 22 ∷ 23 ∷ 24 ∷ 25 ∷ 26 ∷ 27 ∷ 28 ∷ 29 ∷ 30 ∷ 31 ∷ [])) ≡ V6 (16 ∷ 17 ∷ 18 ∷ 19 ∷ 20 ∷ 21 ∷ 22 ∷ 23 ∷ 24 ∷ 25 ∷ 26 ∷ 27 ∷ 28 ∷ 29 ∷ 30 ∷ 31 ∷ []) (0 ∷ 1 ∷ 2 ∷ 3 ∷ 4 ∷ 5 ∷ 6 ∷ 7 ∷ 8 ∷ 9 ∷ 10 ∷ 11 ∷ 12 ∷ 13 ∷ 14 ∷ 15 ∷ []))
routes_have_their_bytes = (refl, refl, refl, refl)

-- 8 bytes of time, 6 of either number, 4 of the service, and the options
openings_have_their_bytes :
    (opening_bytes opening ≡ 0 ∷ 0 ∷ 0 ∷ 0 ∷ 0 ∷ 0 ∷ 3 ∷ 232 ∷ 0 ∷ 0 ∷ 0 ∷ 0 ∷ 7 ∷ 208 ∷ 0 ∷ 0 ∷ 0 ∷ 0 ∷ 3 ∷ 232 ∷ 0 ∷ 0 ∷ 0 ∷ 42 ∷ 32 ∷ 4 ∷ 1 ∷ 2 ∷ 34 ∷ 4 ∷ 6 ∷ 1 ∷ [])
    × (opening_read (1 ∷ 2 ∷ 3 ∷ 4 ∷ 5 ∷ 6 ∷ 7 ∷ 8 ∷ 9 ∷ 10 ∷ 11 ∷ 12 ∷ 13 ∷ 14 ∷ 15 ∷ 16 ∷ 17 ∷ 18 ∷ 19 ∷ 20 ∷ 21 ∷ 22 ∷ 23 ∷ 24 ∷ 99 ∷ [])
    ≡ record { time = 72623859790382856; iss = 9938739662094; number = 16561680290580; service = 353769240; options = 99 ∷ [] })
openings_have_their_bytes = (refl, refl)

-- the Request without its data, and its checksum
requests_are_spelled : request_bytes four opening ≡ 156 ∷ 64 ∷ 19 ∷ 137 ∷ 7 ∷ 0 ∷ 230 ∷ 216 ∷ 1 ∷ 0 ∷ 0 ∷ 0 ∷ 0 ∷ 0 ∷ 3 ∷ 232 ∷ 0 ∷ 0 ∷ 0 ∷ 42 ∷ 32 ∷ 4 ∷ 1 ∷ 2 ∷ 34 ∷ 4 ∷ 6 ∷ 1 ∷ []
requests_are_spelled = refl

-- good from its own millisecond on, for 120,000 more; no cookie is shorter than 32 bytes or longer than 252
cookies_have_their_time :
    (is_fresh 1000 1000 ≡ true) × (is_fresh 999 1000 ≡ false) × (is_fresh 121000 1000 ≡ true) × (is_fresh 121001 1000 ≡ false)
    × (key_at keys 999 ≡ replicate 32 9) × (key_at keys 1000 ≡ replicate 32 7)
    × (cookie_opening keys 1000 four (replicate 31 0) ≡ None) × (cookie_opening keys 1000 four (replicate 253 0) ≡ None)
cookies_have_their_time = (refl, refl, refl, refl, refl, refl, refl, refl)

-- Init Cookies among other options, and after a fault
cookies_are_found :
    (cookie_options (Ok (option 37 (1 ∷ [])) ∷ Ok (option 36 (2 ∷ 3 ∷ [])) ∷ Err (faults.MandatoryTwice) ∷ Ok (option 36 (4 ∷ [])) ∷ []) ≡ (2 ∷ 3 ∷ []) ∷ (4 ∷ []) ∷ [])
    × (first_cookie (Ok (option 37 (1 ∷ [])) ∷ Ok (option 36 (2 ∷ [])) ∷ Ok (option 36 (3 ∷ [])) ∷ []) ≡ Some (2 ∷ []))
    × (first_cookie (Ok (option 35 (1 ∷ [])) ∷ []) ≡ None)
cookies_are_found = (refl, refl, refl)

-- the one of them, of up to 253 bytes; of two none
one_cookie_goes_back :
    (one_cookie ((7 ∷ []) ∷ []) ≡ 36 ∷ 3 ∷ 7 ∷ []) × (one_cookie (replicate 253 1 ∷ []) ≡ 36 ∷ 255 ∷ replicate 253 1)
    × (one_cookie (replicate 254 1 ∷ []) ≡ []) × (one_cookie ((7 ∷ []) ∷ (7 ∷ []) ∷ []) ≡ []) × (one_cookie [] ≡ [])
one_cookie_goes_back = (refl, refl, refl, refl, refl)

-- a Response with the option after its own, padded, and its sum anew; bytes that are no packet go out as they are
cookies_are_appended :
    (appended (reversed four.pseudo) (36 ∷ 42 ∷ 153 ∷ 25 ∷ 156 ∷ 179 ∷ 209 ∷ 187 ∷ 65 ∷ 143 ∷ 0 ∷ 0 ∷ 0 ∷ 0 ∷ 0 ∷ 0 ∷ 3 ∷ 232 ∷ 0 ∷ 0 ∷ 0 ∷ 0 ∷ 7 ∷ 208 ∷ 0 ∷ 0 ∷ 0 ∷ 0 ∷ 3 ∷ 232 ∷ 0 ∷ 0 ∷ 0 ∷ 42 ∷ 32 ∷ 4 ∷ 1 ∷ 2 ∷ 34 ∷ 4 ∷ 6 ∷ 1 ∷ []) (Some (record { bytes = 19 ∷ 137 ∷ 156 ∷ 64 ∷ 7 ∷ 0 ∷ 38 ∷ 20 ∷ 3 ∷ 0 ∷ 0 ∷ 0 ∷ 0 ∷ 0 ∷ 7 ∷ 208 ∷ 0 ∷ 0 ∷ 0 ∷ 0 ∷ 0 ∷ 0 ∷ 3 ∷ 232 ∷ 0 ∷ 0 ∷ 0 ∷ 42 ∷ []; number = 2000; ack = Some 1000 }))
    ≡ Some (record { bytes = 19 ∷ 137 ∷ 156 ∷ 64 ∷ 18 ∷ 0 ∷ 84 ∷ 208 ∷ 3 ∷ 0 ∷ 0 ∷ 0 ∷ 0 ∷ 0 ∷ 7 ∷ 208 ∷ 0 ∷ 0 ∷ 0 ∷ 0 ∷ 0 ∷ 0 ∷ 3 ∷ 232 ∷ 0 ∷ 0 ∷ 0 ∷ 42 ∷ 36 ∷ 42 ∷ 153 ∷ 25 ∷ 156 ∷ 179 ∷ 209 ∷ 187 ∷ 65 ∷ 143 ∷ 0 ∷ 0 ∷ 0 ∷ 0 ∷ 0 ∷ 0 ∷ 3 ∷ 232 ∷ 0 ∷ 0 ∷ 0 ∷ 0 ∷ 7 ∷ 208 ∷ 0 ∷ 0 ∷ 0 ∷ 0 ∷ 3 ∷ 232 ∷ 0 ∷ 0 ∷ 0 ∷ 42 ∷ 32 ∷ 4 ∷ 1 ∷ 2 ∷ 34 ∷ 4 ∷ 6 ∷ 1 ∷ 0 ∷ 0 ∷ []; number = 2000; ack = Some 1000 }))
    × (appended (reversed four.pseudo) (36 ∷ 3 ∷ 7 ∷ []) (Some (record { bytes = 1 ∷ []; number = 5; ack = None })) ≡ Some (record { bytes = 1 ∷ []; number = 5; ack = None }))
    × (appended (reversed four.pseudo) (36 ∷ 3 ∷ 7 ∷ []) None ≡ None)
cookies_are_appended = (refl, refl, refl)
