-- Where IP begins after the header of each link, computed from the definitions. The values are from the link-layer header types of libpcap, IEEE
-- 802.1Q, RFC 2516 (PPPoE), RFC 1662, RFC 1332 and RFC 5072 (PPP), RFC 3032 (MPLS), IEEE 802.11 and RFC 1042, worked out by hand. 69 begins
-- IPv4 and 96 IPv6.
use Rattle.std.proofs.Common.{◌≡◌, refl, ℕ, List, [], ◌∷◌, ◌++◌, replicate, Option, Some, None}
use Rattle.bridge_links.specs.Labels.{ip_under_labels}
use Rattle.bridge_links.specs.Links.{ip_in_inner, ip_of_later_link, ip_start}
use Rattle.bridge_links.specs.Wireless.{ip_after_radio, ip_in_wireless}

-- twelve bytes of addresses before the type
abbrev ethernet : List ℕ → Option ℕ
ethernet rest = ip_start 1 (replicate 12 0 ++ rest)

-- four bytes of an address family, and a byte of IP
abbrev family : ℕ → ℕ → ℕ → Option ℕ
family link last first = ip_start link (0 ∷ 0 ∷ 0 ∷ last ∷ first ∷ [])

-- raw IP of either version, and no other version; nothing begins after the end
raw_links :
    (ip_start 12 (69 ∷ []) ≡ Some 0) × (ip_start 12 (96 ∷ []) ≡ Some 0) × (ip_start 12 (80 ∷ []) ≡ None) × (ip_start 12 [] ≡ None)
    × (ip_start 101 (69 ∷ []) ≡ Some 0) × (ip_start 101 (96 ∷ []) ≡ Some 0) × (ip_start 101 (79 ∷ []) ≡ Some 0) × (ip_start 101 (111 ∷ []) ≡ Some 0)
raw_links = (refl, refl, refl, refl, refl, refl, refl, refl)

-- links of one version, and those of the "any" device of Linux, whose types are at 14 and at 0
later_links :
    (ip_start 228 (69 ∷ []) ≡ Some 0) × (ip_start 228 (96 ∷ []) ≡ None) × (ip_start 229 (96 ∷ []) ≡ Some 0) × (ip_start 229 (69 ∷ []) ≡ None)
    × (ip_start 113 (replicate 14 0 ++ (8 ∷ 0 ∷ 69 ∷ [])) ≡ Some 16) × (ip_start 276 (8 ∷ 0 ∷ (replicate 18 0 ++ (69 ∷ []))) ≡ Some 20)
    × (ip_start 113 (replicate 14 0 ++ (129 ∷ 0 ∷ 0 ∷ 1 ∷ 8 ∷ 0 ∷ 69 ∷ [])) ≡ Some 20) × (ip_start 114 (69 ∷ []) ≡ None)
unfolding ip_of_later_link
later_links = (refl, refl, refl, refl, refl, refl, refl, refl)

-- the types of IPv4 and IPv6, each with its own version
types_of_ethernet :
    (ethernet (8 ∷ 0 ∷ 69 ∷ []) ≡ Some 14) × (ethernet (8 ∷ 0 ∷ 96 ∷ []) ≡ None) × (ethernet (134 ∷ 221 ∷ 96 ∷ []) ≡ Some 14)
    × (ethernet (134 ∷ 221 ∷ 69 ∷ []) ≡ None) × (ethernet (8 ∷ 6 ∷ 69 ∷ []) ≡ None) × (ethernet (8 ∷ 0 ∷ []) ≡ None) × (ethernet (8 ∷ []) ≡ None)
types_of_ethernet = (refl, refl, refl, refl, refl, refl, refl)

-- a tag of each type, two tags, and no third
tags_of_ethernet :
    (ethernet (129 ∷ 0 ∷ 0 ∷ 1 ∷ 8 ∷ 0 ∷ 69 ∷ []) ≡ Some 18) × (ethernet (136 ∷ 168 ∷ 0 ∷ 1 ∷ 134 ∷ 221 ∷ 96 ∷ []) ≡ Some 18)
    × (ethernet (145 ∷ 0 ∷ 0 ∷ 1 ∷ 8 ∷ 0 ∷ 69 ∷ []) ≡ Some 18) × (ethernet (129 ∷ 0 ∷ 0 ∷ 1 ∷ []) ≡ None)
    × (ethernet (136 ∷ 168 ∷ 0 ∷ 1 ∷ 129 ∷ 0 ∷ 0 ∷ 2 ∷ 8 ∷ 0 ∷ 69 ∷ []) ≡ Some 22) × (ethernet (136 ∷ 168 ∷ 0 ∷ 1 ∷ 129 ∷ 0 ∷ 0 ∷ 2 ∷ []) ≡ None)
    × (ethernet (145 ∷ 0 ∷ 0 ∷ 1 ∷ 136 ∷ 168 ∷ 0 ∷ 2 ∷ 129 ∷ 0 ∷ 0 ∷ 3 ∷ 8 ∷ 0 ∷ 69 ∷ []) ≡ None)
tags_of_ethernet = (refl, refl, refl, refl, refl, refl, refl)

-- a session of PPPoE has six bytes and the protocol of PPP before its IP packet, also after a tag
sessions_of_pppoe :
    (ethernet (136 ∷ 100 ∷ (replicate 6 0 ++ (0 ∷ 33 ∷ 69 ∷ []))) ≡ Some 22) × (ethernet (136 ∷ 100 ∷ (replicate 6 0 ++ (0 ∷ 87 ∷ 96 ∷ []))) ≡ Some 22)
    × (ethernet (136 ∷ 100 ∷ (replicate 6 0 ++ (0 ∷ 34 ∷ 69 ∷ []))) ≡ None) × (ethernet (136 ∷ 100 ∷ (replicate 6 0 ++ (0 ∷ []))) ≡ None)
    × (ethernet (129 ∷ 0 ∷ 0 ∷ 1 ∷ 136 ∷ 100 ∷ (replicate 6 0 ++ (0 ∷ 33 ∷ 69 ∷ []))) ≡ Some 26)
sessions_of_pppoe = (refl, refl, refl, refl, refl)

-- PPP with its address and control bytes, and without; four bytes at least
links_of_ppp :
    (ip_start 9 (255 ∷ 3 ∷ 0 ∷ 33 ∷ 69 ∷ []) ≡ Some 4) × (ip_start 9 (255 ∷ 3 ∷ 0 ∷ 87 ∷ 96 ∷ []) ≡ Some 4) × (ip_start 9 (0 ∷ 33 ∷ 69 ∷ 0 ∷ []) ≡ Some 2)
    × (ip_start 9 (0 ∷ 87 ∷ 96 ∷ 0 ∷ []) ≡ Some 2) × (ip_start 9 (0 ∷ 33 ∷ 69 ∷ []) ≡ None) × (ip_start 9 (255 ∷ 4 ∷ 0 ∷ 33 ∷ 69 ∷ []) ≡ None)
links_of_ppp = (refl, refl, refl, refl, refl, refl)

-- the families of each system, in either order of bytes for link type 0, and in one for 108
families_of_links :
    (family 0 2 69 ≡ Some 4) × (family 0 10 96 ≡ Some 4) × (family 0 24 96 ≡ Some 4) × (family 0 28 96 ≡ Some 4) × (family 0 30 96 ≡ Some 4)
    × (family 0 2 96 ≡ None) × (family 0 30 69 ≡ None) × (ip_start 0 (2 ∷ 0 ∷ 0 ∷ 1 ∷ 69 ∷ []) ≡ None) × (ip_start 0 (30 ∷ 0 ∷ 0 ∷ 0 ∷ 96 ∷ []) ≡ Some 4) × (ip_start 0 (0 ∷ 0 ∷ 2 ∷ []) ≡ None)
    × (family 108 2 69 ≡ Some 4) × (family 108 24 96 ≡ Some 4) × (ip_start 108 (30 ∷ 0 ∷ 0 ∷ 0 ∷ 96 ∷ []) ≡ None) × (ip_start 108 (0 ∷ 0 ∷ 2 ∷ []) ≡ None)
families_of_links = (refl, refl, refl, refl, refl, refl, refl, refl, refl, refl, refl, refl, refl, refl)

-- labels of MPLS after both of its types, the last with its bit; under them IP of either version
labels_of_mpls :
    (ethernet (136 ∷ 71 ∷ 0 ∷ 6 ∷ 65 ∷ 64 ∷ 69 ∷ []) ≡ Some 18) × (ethernet (136 ∷ 72 ∷ 0 ∷ 6 ∷ 65 ∷ 64 ∷ 96 ∷ []) ≡ Some 18)
    × (ethernet (136 ∷ 71 ∷ 0 ∷ 6 ∷ 64 ∷ 64 ∷ 0 ∷ 12 ∷ 129 ∷ 64 ∷ 96 ∷ []) ≡ Some 22) × (ethernet (136 ∷ 71 ∷ 0 ∷ 6 ∷ 65 ∷ 64 ∷ 80 ∷ []) ≡ None)
    × (ethernet (136 ∷ 70 ∷ 0 ∷ 6 ∷ 65 ∷ 64 ∷ 69 ∷ []) ≡ None) × (ethernet (136 ∷ 73 ∷ 0 ∷ 6 ∷ 65 ∷ 64 ∷ 69 ∷ []) ≡ None)
    × (ethernet (136 ∷ 71 ∷ 0 ∷ 6 ∷ 64 ∷ 64 ∷ 69 ∷ []) ≡ None) × (ethernet (129 ∷ 0 ∷ 0 ∷ 1 ∷ 136 ∷ 71 ∷ 0 ∷ 6 ∷ 65 ∷ 64 ∷ 69 ∷ []) ≡ Some 22)
unfolding ip_under_labels
labels_of_mpls = (refl, refl, refl, refl, refl, refl, refl, refl)

-- the same after the protocols of PPP, and where a record begins with them: 16 labels, and no seventeenth
labels_of_links :
    (ip_start 9 (255 ∷ 3 ∷ 2 ∷ 129 ∷ 0 ∷ 6 ∷ 65 ∷ 64 ∷ 69 ∷ []) ≡ Some 8) × (ip_start 9 (2 ∷ 131 ∷ 0 ∷ 6 ∷ 65 ∷ 64 ∷ 96 ∷ []) ≡ Some 6)
    × (ip_start 9 (2 ∷ 130 ∷ 0 ∷ 6 ∷ 65 ∷ 64 ∷ 96 ∷ []) ≡ None) × (ip_start 219 (0 ∷ 6 ∷ 65 ∷ 64 ∷ 69 ∷ []) ≡ Some 4)
    × (ip_start 219 (replicate 60 0 ++ (0 ∷ 6 ∷ 65 ∷ 64 ∷ 69 ∷ [])) ≡ Some 64) × (ip_start 219 (replicate 64 0 ++ (0 ∷ 6 ∷ 65 ∷ 64 ∷ 69 ∷ [])) ≡ None)
unfolding ip_of_later_link ip_under_labels
labels_of_links = (refl, refl, refl, refl, refl, refl)

-- two bytes of control, three addresses and more, 24 bytes in all, before what a wireless frame carries
abbrev wireless : ℕ → ℕ → List ℕ → Option ℕ
wireless control flags rest = ip_start 105 (control ∷ flags ∷ (replicate 22 0 ++ rest))

-- what is before IPv4
abbrev snap : List ℕ
snap = 170 ∷ 170 ∷ 3 ∷ 0 ∷ 0 ∷ 0 ∷ 8 ∷ 0 ∷ 69 ∷ []

-- to and from an access point, between two, with quality of service and its four bytes more, and several packets in a frame
frames_of_wireless :
    (wireless 8 1 snap ≡ Some 32) × (wireless 8 2 (170 ∷ 170 ∷ 3 ∷ 0 ∷ 0 ∷ 0 ∷ 134 ∷ 221 ∷ 96 ∷ []) ≡ Some 32) × (wireless 8 3 (replicate 6 0 ++ snap) ≡ Some 38)
    × (wireless 136 1 (replicate 2 0 ++ snap) ≡ Some 34) × (wireless 136 3 (replicate 8 0 ++ snap) ≡ Some 40) × (wireless 136 130 (replicate 6 0 ++ snap) ≡ Some 38)
    × (wireless 136 1 (128 ∷ 0 ∷ (replicate 14 0 ++ snap)) ≡ Some 48) × (wireless 136 3 (replicate 6 0 ++ (128 ∷ 0 ∷ (replicate 14 0 ++ snap))) ≡ Some 54)
    × (wireless 136 1 (replicate 4 0 ++ snap) ≡ Some 36) × (wireless 8 3 (replicate 8 0 ++ snap) ≡ Some 40)
    × (wireless 8 1 (170 ∷ 170 ∷ 3 ∷ 0 ∷ 0 ∷ 0 ∷ 129 ∷ 0 ∷ 0 ∷ 1 ∷ 8 ∷ 0 ∷ 69 ∷ []) ≡ Some 36)
unfolding ip_in_wireless
frames_of_wireless = (refl, refl, refl, refl, refl, refl, refl, refl, refl, refl, refl)

-- frames without data, of management, of control, of another version, with another header, and cut short have no IP
others_of_wireless :
    (wireless 72 1 snap ≡ None) × (wireless 200 1 (replicate 2 0 ++ snap) ≡ None) × (wireless 0 1 snap ≡ None) × (wireless 4 1 snap ≡ None) × (wireless 9 1 snap ≡ None)
    × (wireless 8 1 (170 ∷ 170 ∷ 3 ∷ 0 ∷ 0 ∷ 248 ∷ 8 ∷ 0 ∷ 69 ∷ []) ≡ None) × (wireless 8 1 (170 ∷ 170 ∷ 3 ∷ 0 ∷ 0 ∷ 0 ∷ 8 ∷ 0 ∷ []) ≡ None)
    × (ip_start 105 (8 ∷ 1 ∷ (replicate 22 0 ++ (170 ∷ 170 ∷ 3 ∷ []))) ≡ None)
unfolding ip_in_wireless
others_of_wireless = (refl, refl, refl, refl, refl, refl, refl, refl)

-- the same after the radio's header, of version 0, whose length has its less significant byte first
frames_after_radio :
    (ip_start 127 (0 ∷ 0 ∷ 8 ∷ 0 ∷ 0 ∷ 0 ∷ 0 ∷ 0 ∷ 8 ∷ 1 ∷ (replicate 22 0 ++ snap)) ≡ Some 40)
    × (ip_start 127 (1 ∷ 0 ∷ 8 ∷ 0 ∷ 0 ∷ 0 ∷ 0 ∷ 0 ∷ 8 ∷ 1 ∷ (replicate 22 0 ++ snap)) ≡ None)
    × (ip_start 127 (0 ∷ 0 ∷ 0 ∷ 8 ∷ 0 ∷ 0 ∷ 0 ∷ 0 ∷ 8 ∷ 1 ∷ (replicate 22 0 ++ snap)) ≡ None) × (ip_start 127 (0 ∷ 0 ∷ 8 ∷ []) ≡ None)
unfolding ip_after_radio ip_in_wireless ip_of_later_link
frames_after_radio = (refl, refl, refl, refl)

-- a record of macOS: its length, 1 for a record in it, and the link type of that, the less significant byte first
records_in_records :
    (ip_start 258 (12 ∷ 0 ∷ 0 ∷ 0 ∷ 1 ∷ 0 ∷ 0 ∷ 0 ∷ 12 ∷ 0 ∷ 0 ∷ 0 ∷ 69 ∷ []) ≡ Some 12)
    × (ip_start 258 (14 ∷ 0 ∷ 0 ∷ 0 ∷ 1 ∷ 0 ∷ 0 ∷ 0 ∷ 229 ∷ 0 ∷ 0 ∷ 0 ∷ 0 ∷ 0 ∷ 96 ∷ []) ≡ Some 14)
    × (ip_start 258 (12 ∷ 0 ∷ 0 ∷ 0 ∷ 0 ∷ 0 ∷ 0 ∷ 0 ∷ 12 ∷ 0 ∷ 0 ∷ 0 ∷ 69 ∷ []) ≡ None)
    × (ip_start 258 (14 ∷ 0 ∷ 0 ∷ 0 ∷ 1 ∷ 0 ∷ 0 ∷ 0 ∷ 12 ∷ 0 ∷ 0 ∷ 0 ∷ 69 ∷ []) ≡ None)
    × (ip_start 258 (12 ∷ 0 ∷ 0 ∷ 0 ∷ 1 ∷ 0 ∷ 0 ∷ 0 ∷ 2 ∷ 1 ∷ 0 ∷ 0 ∷ 69 ∷ []) ≡ None)
    × (ip_start 258 (12 ∷ 0 ∷ 0 ∷ 0 ∷ 1 ∷ 0 ∷ 0 ∷ 0 ∷ 127 ∷ 0 ∷ 0 ∷ 0 ∷ 0 ∷ 0 ∷ 8 ∷ 0 ∷ 0 ∷ 0 ∷ 0 ∷ 0 ∷ 8 ∷ 1 ∷ (replicate 22 0 ++ snap)) ≡ Some 52)
unfolding ip_after_radio ip_in_inner ip_in_wireless ip_of_later_link
records_in_records = (refl, refl, refl, refl, refl, refl)
