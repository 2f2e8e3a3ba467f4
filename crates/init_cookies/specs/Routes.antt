-- The addresses and ports of a Request (RFC 4340, sections 5.1 and 9.1).
use Rattle.std.specs.Prelude.{ℕ, List, ◌∷◌, ◌++◌}
use Rattle.byteorder.specs.Endian.{big_bytes}
use Rattle.dccp_sum.specs.declared.pseudo_header.Pseudo.{Pseudo}
use Rattle.dccp_sum.specs.declared.pseudo_header.Pseudo.TheVariants.{V4, V6}
use Rattle.init_cookies.specs.declared.route.Route.{Route}

-- the family of IP as a byte, then both addresses (own)
abbrev pub address_bytes : Pseudo → List ℕ
address_bytes (V4 from to) = 4 ∷ (from ++ to)
address_bytes (V6 from to) = 6 ∷ (from ++ to)

-- a route as bytes: the addresses, and the two ports in 16 bits each (own)
abbrev pub route_bytes : Route → List ℕ
route_bytes r = (address_bytes r.pseudo ++ big_bytes 2 r.from) ++ big_bytes 2 r.to
