-- How a server meets a datagram that may need no flow, or may bring its opening back (RFC 4340, section 8.1.4; own).
use Rattle.std.specs.Prelude.{◌≡◌, ◌&&◌, not, ℕ, Bool, true, false, List, Option, Some, None, is_some, Result, Ok, Err, if◌then◌else◌}
use Rattle.dccp_packets.specs.Grammar.{decoded}
use Rattle.dccp_packets.specs.Outgoing.{Outgoing}
use Rattle.dccp_options.specs.Written.{spelled}
use Rattle.dccp_options.specs.Kinds.{init_cookie}
use Rattle.dccp_listener.specs.Greeting.{greets}
use Rattle.dccp_listener.specs.Peers.{FlowEnd, end_of_peer}
use Rattle.dccp_listener.specs.declared.calls.Heard.{Heard}
use Rattle.dccp_listener.specs.declared.calls.Heard.TheVariants as heard
use Rattle.dccp_listener.specs.declared.peer.Peer.{Peer}
use Rattle.dccp_uses.specs.Upkeeps.{is_taken}
use Rattle.init_cookies.specs.Appending.{appended}
use Rattle.init_cookies.specs.Cookies.{cookie_bytes}
use Rattle.init_cookies.specs.Openings.{OpeningState, request_bytes}
use Rattle.dccp_sum.specs.Checksum.{reversed}
use Rattle.init_cookies.specs.declared.cookie.CookieKeys.{CookieKeys}
use Rattle.init_cookies.specs.declared.route.Route.{Route}
use Rattle.seq_circle.specs.declared.memory.NoMemory.{NoMemory}
use Rattle.server_peers.specs.Lives.{life_of}
use Rattle.server_peers.specs.CookieUses.{hurried, is_ever_in_use, is_half_open, is_in_use}
use Rattle.server_peers.specs.Requests.{asking_of, cookie_read, entry_by, opening_in, route_of}
use Rattle.dccp_server.specs.Rooms.{IsServed, RuledRoom, forgets, is_crowded, is_to_be_heard, received_at, unreceived_at, with_user}
use Rattle.dccp_server.specs.Serving.{TimedDeed, served_through}
use Rattle.server_peers.specs.declared.asking.DatagramKind.{DatagramKind}
use Rattle.server_peers.specs.declared.asking.DatagramKind.TheVariants as entry
use Rattle.dccp_server.specs.declared.meeting.Way.{Way}
use Rattle.dccp_server.specs.declared.meeting.Way.TheVariants as way
use Rattle.server_peers.specs.declared.rules.Rules.{Rules}

-- the same for a server
abbrev pub route_to : RuledRoom → Peer → Route
route_to s peer = route_of s.room.served.listening.config peer

-- the end that a peer has at a server
abbrev pub flow_at : RuledRoom → Peer → Option FlowEnd
flow_at s peer = end_of_peer s.room.served.listening.flows peer

-- a peer has no flow, or one that is half open
abbrev pub is_unproved : Option FlowEnd → Bool
is_unproved None = true
is_unproved (Some e) = is_half_open e.state.phase

-- what a datagram brings back, under these keys
abbrev pub returned_by : ℕ → RuledRoom → Peer → List ℕ → Option CookieKeys → Option OpeningState
returned_by now s peer bytes None = None
returned_by now s peer bytes (Some keys) =
    if is_unproved (flow_at s peer) then opening_in now keys (route_to s peer) (cookie_read (decoded bytes)) else None

-- What a datagram brings back to a server: the opening of a valid cookie, if the peer has no flow or one that is half open.
abbrev pub returned : ℕ → RuledRoom → Peer → List ℕ → Option OpeningState
returned now s peer bytes = returned_by now s peer bytes s.keys

-- a Request of a peer with this end or none needs no flow: there is none and cookies are in use, or it is half open and
-- the answer would be one Sync too many
abbrev pub needs_no_flow : ℕ → RuledRoom → Peer → List ℕ → Option FlowEnd → Bool
needs_no_flow now s peer bytes None = is_in_use s.cookies (is_crowded s.room)
needs_no_flow now s peer bytes (Some e) =
    is_ever_in_use s.cookies && (is_half_open e.state.phase && not (is_to_be_heard now s.rules s.room peer bytes))

-- the kind of a datagram that brings nothing back
abbrev pub entry_without : ℕ → RuledRoom → Peer → ℕ → List ℕ → DatagramKind
entry_without now s peer iss bytes =
    if is_some s.keys && needs_no_flow now s peer bytes (flow_at s peer) then entry_by (asking_of now iss (route_to s peer) bytes) else entry.Plain

-- the kind of a datagram that may bring an opening back
abbrev pub entry_or : DatagramKind → Option OpeningState → DatagramKind
entry_or other None = other
entry_or other (Some o) = entry.Returns o

-- The kind of a datagram, as a server meets it.
abbrev pub entry_met : ℕ → RuledRoom → Peer → ℕ → List ℕ → DatagramKind
entry_met now s peer iss bytes = entry_or (entry_without now s peer iss bytes) (returned now s peer bytes)

-- the Request of an opening at a server, spelled again
abbrev pub request_at : RuledRoom → Peer → OpeningState → List ℕ
request_at s peer o = request_bytes (route_to s peer) o

-- the option with the cookie of an opening
abbrev pub cookie_at : CookieKeys → RuledRoom → Peer → OpeningState → List ℕ
cookie_at keys s peer o = spelled false init_cookie (cookie_bytes keys (route_to s peer) o)

-- The frame that answers a Request without a flow: the Response of a fresh end to it, with an Init Cookie.
abbrev pub greeting_frame : CookieKeys → RuledRoom → Peer → OpeningState → Option Outgoing
greeting_frame keys s peer o =
    appended (reversed (route_to s peer).pseudo) (cookie_at keys s peer o) (greets s.room.served.listening peer o.iss (request_at s peer o)).frame

-- the server without a peer's flow that is half open
abbrev pub cleared_if : ℕ → RuledRoom → Peer → Option FlowEnd → RuledRoom
cleared_if now s peer None = s
cleared_if now s peer (Some e) = record s { room = forgets now s.room peer }

-- the server without that flow of a peer
abbrev pub cleared : ℕ → RuledRoom → Peer → RuledRoom
cleared now s peer = cleared_if now s peer (flow_at s peer)

-- the server once it goes by these rules
abbrev pub going_by : Rules → RuledRoom → RuledRoom
going_by rules s = record s { rules = rules }

-- the server in that haste
abbrev pub hurrying : RuledRoom → RuledRoom
hurrying s = going_by (hurried s.rules) s

-- the server once a Request has arrived in that haste, if there is memory
abbrev pub received_hurrying : ℕ → RuledRoom → Peer → ℕ → List ℕ → RuledRoom
received_hurrying now s peer iss bytes = going_by s.rules (received_at now (hurrying s) peer iss bytes).server

-- the same if there is no memory
abbrev pub unreceived_hurrying : ℕ → RuledRoom → Peer → ℕ → List ℕ → Option Peer → RuledRoom
unreceived_hurrying now s peer iss bytes evicted = going_by s.rules (unreceived_at now (hurrying s) peer iss bytes evicted)

-- The server once the Request of an opening has arrived again, if there is memory: as of the time when it was answered, and under the number of
-- its Response.
abbrev pub heard_again : ℕ → RuledRoom → Peer → OpeningState → RuledRoom
heard_again now s peer o = received_hurrying o.time (cleared now s peer) peer o.iss (request_at s peer o)

-- the server with this number of the owner for a peer's flow, if it has one
abbrev pub user_kept : ℕ → Peer → RuledRoom → RuledRoom
user_kept user peer s = record s { room = with_user user s.room peer }

-- the same, and the owner's number for a flow that was half open stays
abbrev pub reopened : ℕ → RuledRoom → Peer → OpeningState → RuledRoom
reopened now s peer o = user_kept (life_of s.room.lives peer).user peer (heard_again now s peer o)

-- the same if there is no memory
abbrev pub unreopened : ℕ → RuledRoom → Peer → OpeningState → Option Peer → RuledRoom
unreopened now s peer o made_room = unreceived_hurrying o.time (cleared now s peer) peer o.iss (request_at s peer o) made_room

-- the peer whose flow makes room for the one that an opening opens
abbrev pub maker_of : ℕ → RuledRoom → Peer → OpeningState → Option Peer
maker_of now s peer o = (received_at o.time (hurrying (cleared now s peer)) peer o.iss (request_at s peer o)).evicted

-- no flow has made room, and none was ended
abbrev pub MovesNobody : Option Peer → Bool → Option Peer → Type 0
MovesNobody evicted anew made_room = (evicted ≡ None) × (anew ≡ false) × (made_room ≡ None)

-- A Request was answered without a flow: nothing is kept.
abbrev pub IsGreeted : Option CookieKeys → DatagramKind → RuledRoom → RuledRoom → Peer → Option Outgoing → Result (Option Heard) NoMemory → Type 0
IsGreeted (Some keys) (entry.Asks o) s after peer frame told =
    (after ≡ s) × (frame ≡ greeting_frame keys s peer o)
    × (told ≡ Ok (Some (heard.Flow (greets s.room.served.listening peer o.iss (request_at s peer o)).answer)))
    × (is_taken (greets s.room.served.listening peer o.iss (request_at s peer o)).answer ≡ true)
IsGreeted _ _ s after peer frame told = ⊥

-- An opening came back, but there is no room or no memory for its flow: nothing is sent.
abbrev pub IsUnopened : ℕ → DatagramKind → RuledRoom → RuledRoom → Peer → Option Outgoing → Result (Option Heard) NoMemory → Option Peer → Type 0
IsUnopened now (entry.Returns o) s after peer frame (Ok it) made_room =
    (after ≡ reopened now s peer o) × (frame ≡ None) × (it ≡ None) × (made_room ≡ maker_of now s peer o)
IsUnopened now (entry.Returns o) s after peer frame (Err _) made_room = (after ≡ unreopened now s peer o made_room) × (frame ≡ None)
IsUnopened now _ s after peer frame told made_room = ⊥

-- An opening came back, and its flow was opened; then the datagram was served.
abbrev pub IsReopened : ℕ → DatagramKind → RuledRoom → RuledRoom → Peer → ℕ → List ℕ → Option Outgoing → Result (Option Heard) NoMemory → Option Peer → Bool → Option Peer
    → Type 0
IsReopened now (entry.Returns o) s after peer iss bytes frame told evicted anew made_room =
    IsServed now (reopened now s peer o) after peer iss bytes frame told evicted anew × (made_room ≡ maker_of now s peer o)
IsReopened now _ s after peer iss bytes frame told evicted anew made_room = ⊥

-- What a server does with a datagram, by the way in which it was met.
abbrev pub IsMet : ℕ → RuledRoom → RuledRoom → Peer → ℕ → List ℕ → Option Outgoing → Result (Option Heard) NoMemory → Option Peer → Bool → Option Peer → Way → Type 0
IsMet now s after peer iss bytes frame told evicted anew made_room way.Plain =
    IsServed now s after peer iss bytes frame told evicted anew × (made_room ≡ None)
IsMet now s after peer iss bytes frame told evicted anew made_room way.Greeted =
    IsGreeted s.keys (entry_met now s peer iss bytes) s after peer frame told × MovesNobody evicted anew made_room
IsMet now s after peer iss bytes frame told evicted anew made_room way.Unanswered =
    (after ≡ s) × (frame ≡ None) × MovesNobody evicted anew made_room
IsMet now s after peer iss bytes frame told evicted anew made_room way.Reopened =
    IsReopened now (entry_met now s peer iss bytes) s after peer iss bytes frame told evicted anew made_room
IsMet now s after peer iss bytes frame told evicted anew made_room way.Unopened =
    IsUnopened now (entry_met now s peer iss bytes) s after peer frame told made_room × (evicted ≡ None) × (anew ≡ false)

-- In which ways a datagram of a kind may be met: a Request that a fresh end does not take is served as it would be without cookies.
abbrev pub may_meet : DatagramKind → Way → Bool
may_meet entry.Plain way.Plain = true
may_meet entry.TooLong way.Unanswered = true
may_meet (entry.Asks o) way.Greeted = true
may_meet (entry.Asks o) way.Unanswered = true
may_meet (entry.Asks o) way.Plain = true
may_meet (entry.Returns o) way.Reopened = true
may_meet (entry.Returns o) way.Unopened = true
may_meet _ _ = false

-- A datagram that is met leaves the listener, and what is kept of its flows, as a list of deeds would that a listener's owner might have done.
-- The Request of an opening is done as of the time when it was answered.
abbrev pub MeetingsAreDeeds : Type 0
MeetingsAreDeeds =
    (now : ℕ) (s after : RuledRoom) (peer : Peer) (iss : ℕ) (bytes : List ℕ) (frame : Option Outgoing) (told : Result (Option Heard) NoMemory)
    (evicted : Option Peer) (anew : Bool) (made_room : Option Peer) (way : Way) → IsMet now s after peer iss bytes frame told evicted anew made_room way
    → (all : List TimedDeed) × (after.room.served ≡ served_through s.room.served all)
