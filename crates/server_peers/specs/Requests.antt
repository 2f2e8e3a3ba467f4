-- What a datagram asks for, and which opening it brings back (RFC 4340, sections 8.1.1 and 8.1.4; own).
use Rattle.std.specs.Prelude.{◌==◌, ◌&&◌, nat_le, ℕ, Bool, true, false, List, length, Option, Some, None, Result, Ok, Err, if◌then◌else◌}
use Rattle.dccp_options.specs.Grammar.{options_of}
use Rattle.dccp_packets.specs.Grammar.{Parts, decoded, packet_type}
use Rattle.dccp_packets.specs.Kinds.{is_data}
use Rattle.dccp_packets.specs.declared.header.Header.{Header}
use Rattle.dccp_packets.specs.declared.header.Kind.{Kind}
use Rattle.dccp_packets.specs.declared.header.Number.{Number}
use Rattle.dccp_packets.specs.declared.header.Number.TheVariants.{Long}
use Rattle.dccp_packets.specs.declared.reading.Malformed.{Malformed}
use Rattle.dccp_sum.specs.Checksum.{checked}
use Rattle.dccp_sum.specs.declared.packet_sum.SumFault.{SumFault}
use Rattle.dccp_sum.specs.declared.pseudo_header.Pseudo.TheVariants.{V4}
use Rattle.dccp_listener.specs.Chain.{requested}
use Rattle.dccp_listener.specs.declared.config.ListenConfig.{ListenConfig}
use Rattle.dccp_listener.specs.declared.peer.Peer.{Peer}
use Rattle.init_cookies.specs.CookieOptions.{first_cookie}
use Rattle.init_cookies.specs.Cookies.{cookie_opening}
use Rattle.init_cookies.specs.Openings.{OpeningState}
use Rattle.init_cookies.specs.declared.cookie.CookieKeys.{CookieKeys}
use Rattle.init_cookies.specs.declared.route.Route.{Route}
use Rattle.server_peers.specs.declared.asking.DatagramRequest.{DatagramRequest}
use Rattle.server_peers.specs.declared.asking.DatagramRequest.TheVariants.{Nothing, TooLong, This}
use Rattle.server_peers.specs.declared.asking.DatagramKind.{DatagramKind}
use Rattle.server_peers.specs.declared.asking.DatagramKind.TheVariants as entry

-- the route between a peer and the listener (section 5.1)
abbrev pub route_of : ListenConfig → Peer → Route
route_of config peer = record { pseudo = V4 peer.address config.own_address; from = peer.port; to = config.own_port }

-- a Request with this area, number and service, answered now under this number
abbrev pub asking_this : ℕ → ℕ → List ℕ → ℕ → ℕ → DatagramRequest
asking_this now iss area number service =
    if nat_le (length area) 220 then This (record { time = now; iss = iss; number = number; service = service; options = area }) else TooLong

-- what a packet that asks for a service asks for, by its number, which is a long one (section 5.2)
abbrev pub asking_service : ℕ → ℕ → List ℕ → Option ℕ → Number → DatagramRequest
asking_service now iss area (Some service) (Long number) = asking_this now iss area number service
asking_service now iss area _ _ = Nothing

-- the same by its type
abbrev pub asking_by : ℕ → ℕ → List ℕ → Kind → Number → DatagramRequest
asking_by now iss area kind number = asking_service now iss area (requested kind) number

-- the checksum of a packet is right (section 9.1)
abbrev pub is_summed : Result (Unit {0}) SumFault → Bool
is_summed (Ok _) = true
is_summed (Err fault) = false

-- its checksum and its ports are those of the route
abbrev pub travels_by : Route → List ℕ → Header → Bool
travels_by route bytes h = is_summed (checked route.pseudo bytes) && (h.from == route.from && h.to == route.to)

-- what a datagram asks for, by what was read of it
abbrev pub asking_read : ℕ → ℕ → Route → List ℕ → Result Parts Malformed → DatagramRequest
asking_read now iss route bytes (Ok p) =
    if travels_by route bytes p.header then asking_by now iss p.options p.header.kind p.header.number else Nothing
asking_read now iss route bytes (Err fault) = Nothing

-- What a datagram that came by this route asks for: it has to be a Request whose checksum and ports are right.
abbrev pub asking_of : ℕ → ℕ → Route → List ℕ → DatagramRequest
asking_of now iss route bytes = asking_read now iss route bytes (decoded bytes)

-- the first Init Cookie of a packet
abbrev pub cookie_read : Result Parts Malformed → Option (List ℕ)
cookie_read (Ok p) = first_cookie (options_of p.options (is_data (packet_type p.header.kind)))
cookie_read (Err fault) = None

-- what a cookie opens, if there is one
abbrev pub opening_in : ℕ → CookieKeys → Route → Option (List ℕ) → Option OpeningState
opening_in now keys route None = None
opening_in now keys route (Some body) = cookie_opening keys now route body

-- the kind of a Request, by what it asks for
abbrev pub entry_by : DatagramRequest → DatagramKind
entry_by Nothing = entry.Plain
entry_by TooLong = entry.TooLong
entry_by (This o) = entry.Asks o
