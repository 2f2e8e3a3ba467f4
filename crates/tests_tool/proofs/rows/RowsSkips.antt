-- Why `json` skips a record, computed from the definitions. The headers are those of RFC 791, section 3.1, and RFC 8200, section 3: each header
-- of IPv4 has at least 20 bytes, and of IPv6 40.
use Rattle.std.proofs.Common.{◌≡◌, refl, ℕ, List, [], ◌∷◌, ◌++◌, codes, replicate, take}
use Rattle.bridge_command.specs.Skips.{ip_skip, skip_name}
use Rattle.bridge_links.specs.Extensions.{upper_from}

abbrev why : List ℕ → List ℕ
why bytes = skip_name (ip_skip bytes)

-- a header of IPv4 with this first byte, first byte of the fragment's field, and protocol
abbrev v4 : ℕ → ℕ → ℕ → List ℕ
v4 first fragment protocol = first ∷ 0 ∷ 0 ∷ 20 ∷ 0 ∷ 0 ∷ fragment ∷ 0 ∷ 64 ∷ protocol ∷ replicate 10 0

-- of IPv6 with this next header
abbrev v6 : ℕ → List ℕ
v6 next = 96 ∷ 0 ∷ 0 ∷ 0 ∷ 0 ∷ 8 ∷ next ∷ 64 ∷ replicate 32 0

-- The first of these that is wrong counts: the version, the shortest header, the protocol, a fragment, the header's own length, and then its
-- lengths.
why_a_record_of_ipv4_is_skipped :
    (why [] ≡ codes "NotIp") × (why (80 ∷ []) ≡ codes "NotIp") × (why (69 ∷ []) ≡ codes "ShortHeader")
    × (why (take 19 (v4 69 0 33)) ≡ codes "ShortHeader") × (why (v4 69 0 33) ≡ codes "BadHeader") × (why (v4 69 0 32) ≡ codes "NotDccp")
    × (why (v4 69 0 34) ≡ codes "NotDccp") × (why (v4 69 32 33) ≡ codes "Fragment") × (why (v4 69 1 33) ≡ codes "Fragment")
    × (why (v4 69 64 33) ≡ codes "BadHeader") × (why (v4 69 32 17) ≡ codes "NotDccp") × (why (v4 70 0 33) ≡ codes "ShortHeader")
    × (why (v4 70 32 33) ≡ codes "Fragment")
why_a_record_of_ipv4_is_skipped = (refl, refl, refl, refl, refl, refl, refl, refl, refl, refl, refl, refl, refl)

-- 33 is DCCP, 44 a fragment (section 4.5), 0 hop-by-hop options, which were not captured here.
why_a_record_of_ipv6_is_skipped :
    (why (take 39 (v6 33)) ≡ codes "ShortHeader") × (why (v6 33) ≡ codes "BadHeader") × (why (v6 32) ≡ codes "NotDccp")
    × (why (v6 34) ≡ codes "NotDccp") × (why (v6 0) ≡ codes "ShortHeader") × (why (v6 44 ++ 33 ∷ replicate 7 0) ≡ codes "Fragment")
    × (why (v6 44 ++ 17 ∷ replicate 7 0) ≡ codes "NotDccp") × (why (v6 43 ++ 33 ∷ replicate 7 0) ≡ codes "BadHeader")
unfolding upper_from
why_a_record_of_ipv6_is_skipped = (refl, refl, refl, refl, refl, refl, refl, refl)
