-- Rows of a server's answers to peers that have no flow, computed from the definitions; the values were worked out by hand.
use Rattle.std.proofs.Common.{◌≡◌, refl, ℕ, not, true, false, [], ◌∷◌, Option, Some, None}
use Rattle.dccp_endpoint.specs.Drafts.{framed}
use Rattle.dccp_endpoint.specs.Receiving.{receives}
use Rattle.dccp_endpoint.specs.Usual.{usual}
use Rattle.dccp_listener.specs.Peers.{FlowEnd}
use Rattle.dccp_listener.specs.declared.config.ListenConfig.{ListenConfig}
use Rattle.dccp_listener.specs.declared.peer.Peer.{Peer}
use Rattle.dccp_packets.specs.Outgoing.{bytes_sent}
use Rattle.dccp_server.specs.Events.{leaver_life}
use Rattle.dccp_server.specs.Meeting.{entry_without, needs_no_flow}
use Rattle.dccp_server.specs.Refusals.{refused_frame, refused_server}
use Rattle.dccp_server.specs.Rooms.{RuledRoom, is_to_be_heard, ruled_begins}
use Rattle.dccp_states.specs.declared.phase.Phase.{Phase}
use Rattle.dccp_states.specs.declared.phase.Phase.TheVariants as phases
use Rattle.dccp_states.specs.declared.phase.Role.TheVariants.{Server}
use Rattle.dccp_uses.specs.declared.pace.Pace.{Pace}
use Rattle.init_cookies.specs.declared.cookie.CookieKeys.{CookieKeys}
use Rattle.server_peers.specs.Refusals.{flow_asked}
use Rattle.server_peers.specs.Rules.{usual_rules}
use Rattle.server_peers.specs.declared.asking.DatagramKind.TheVariants as entry
use Rattle.server_peers.specs.declared.cookie_use.CookieUse.TheVariants.{Always, Never}
use Rattle.server_peers.specs.declared.life.Life.{Life}
use Rattle.tests_server.proofs.rows.RowsPeers.{ack, request}

-- a peer at an address that ends so
abbrev at : ℕ → Peer
at last = record { address = 10 ∷ 0 ∷ 0 ∷ last ∷ []; port = 40000 }

-- a listener at 10.0.0.2 with one place, which serves 42
abbrev config : ListenConfig
config = record { own_address = 10 ∷ 0 ∷ 0 ∷ 2 ∷ []; own_port = 5001; services = record { items = 42 ∷ [] }; lists = (usual Server).lists; most = 1 }

-- the flow of another peer, which has been in TIMEWAIT since 300
abbrev lingering : Life
lingering = record { phase = phases.TimeWait; since = 300; taken = 0; sync = None; user = 0 }

-- a server without flows, whatever its pace and its keys; an end in this phase; and a server whose place another peer has
abbrev empty : Pace → CookieKeys → RuledRoom
empty pace keys = record (ruled_begins config pace usual_rules) { keys = Some keys; cookies = Always }

abbrev in_phase : FlowEnd → Phase → Option FlowEnd
in_phase e phase = Some (record e { state = record e.state { phase = phase } })

abbrev full : Pace → CookieKeys → FlowEnd → RuledRoom
full pace keys e =
    record (empty pace keys) {
      room = record (empty pace keys).room {
        served = record (empty pace keys).room.served { listening = record { config = config; flows = (at 3, e) ∷ [] } };
        lives = (at 3, lingering) ∷ [];
      };
    }

-- A peer without a flow needs none while cookies are in use. One that is half open may need none where it is not heard.
who_needs_no_flow : (pace : Pace) (keys : CookieKeys) (e : FlowEnd) →
    (needs_no_flow 500 (empty pace keys) (at 1) request None ≡ true) × (needs_no_flow 500 (record (empty pace keys) { cookies = Never }) (at 1) request None ≡ false)
    × (needs_no_flow 500 (empty pace keys) (at 1) request (in_phase e phases.Open) ≡ false)
    × (needs_no_flow 500 (record (empty pace keys) { cookies = Never }) (at 1) request (in_phase e phases.Respond) ≡ false)
    × (needs_no_flow 500 (full pace keys e) (at 3) request (in_phase e phases.Respond) ≡ not (is_to_be_heard 500 usual_rules (full pace keys e).room (at 3) request))
who_needs_no_flow pace keys e = (refl, refl, refl, refl, refl)

-- Then its Request asks for a cookie, if there is a key.
what_a_stranger_asks_for : (pace : Pace) (keys : CookieKeys) →
    (entry_without 500 (empty pace keys) (at 1) 7000 request ≡ entry.Asks (record { time = 500; iss = 7000; number = 1000; service = 42; options = [] }))
    × (entry_without 500 (record (empty pace keys) { keys = None }) (at 1) 7000 request ≡ entry.Plain)
    × (entry_without 500 (record (empty pace keys) { cookies = Never }) (at 1) 7000 request ≡ entry.Plain)
    × (entry_without 500 (empty pace keys) (at 1) 7000 ack ≡ entry.Plain)
what_a_stranger_asks_for pace keys = (refl, refl, refl, refl)

-- Only a Request of a peer without a flow opens one. If the owner refuses it with the code 9, its Reset takes one of the hundred answers.
who_is_refused : (pace : Pace) (keys : CookieKeys) (e : FlowEnd) →
    (flow_asked (empty pace keys).room.served.listening (at 1) request ≡ Some 42) × (flow_asked (empty pace keys).room.served.listening (at 1) ack ≡ None)
    × (flow_asked (full pace keys e).room.served.listening (at 3) request ≡ None)
    × (bytes_sent (refused_frame 500 (empty pace keys) (at 1) request 9)
    ≡ Some (19 ∷ 137 ∷ 156 ∷ 64 ∷ 7 ∷ 0 ∷ 25 ∷ 14 ∷ 15 ∷ 0 ∷ 0 ∷ 0 ∷ 0 ∷ 0 ∷ 0 ∷ 0 ∷ 0 ∷ 0 ∷ 0 ∷ 0 ∷ 0 ∷ 0 ∷ 3 ∷ 232 ∷ 9 ∷ 0 ∷ 0 ∷ 0 ∷ []))
    × (refused_frame 500 (empty pace keys) (at 1) ack 9 ≡ None)
    × ((refused_server 500 (empty pace keys) (at 1) request).strangers.answers ≡ record { thousandths = 99000; since = 500 })
    × ((refused_server 500 (empty pace keys) (at 1) ack).strangers.answers ≡ record { thousandths = 100000; since = 0 })
unfolding receives framed
who_is_refused pace keys e = (refl, refl, refl, refl, refl, refl, refl)

-- At a full table the flow in TIMEWAIT leaves, for a peer without a flow alone.
whose_life_ends : (pace : Pace) (keys : CookieKeys) (e : FlowEnd) →
    (leaver_life 500 (full pace keys e) (at 1) [] ≡ Some lingering) × (leaver_life 500 (full pace keys e) (at 3) [] ≡ None) × (leaver_life 500 (empty pace keys) (at 1) [] ≡ None)
whose_life_ends pace keys e = (refl, refl, refl)
