-- Rows of how a server meets what may need no flow, computed from the definitions; the values were worked out by hand.
use Rattle.std.proofs.Common.{◌≡◌, refl, ℕ, Option, true, false, [], ◌∷◌, replicate, Some, None, Less, Equal, Greater}
use Rattle.dccp_listener.specs.declared.peer.Peer.{Peer}
use Rattle.dccp_packets.specs.declared.header.Kind.TheVariants as kind
use Rattle.dccp_packets.specs.declared.header.Number.TheVariants.{Long, Short}
use Rattle.dccp_states.specs.declared.phase.Phase.TheVariants as phases
use Rattle.init_cookies.specs.Openings.{OpeningState}
use Rattle.dccp_packets.specs.Outgoing.{Outgoing}
use Rattle.dccp_sum.specs.declared.pseudo_header.Pseudo.{Pseudo}
use Rattle.init_cookies.specs.Appending.{appended}
use Rattle.dccp_uses.specs.ClientCookies.{cookie_kept, returning}
use Rattle.dccp_server.specs.Due.{never}
use Rattle.server_peers.specs.FirstNumbers.{named_ends}
use Rattle.dccp_server.specs.Meeting.{entry_or, may_meet}
use Rattle.server_peers.specs.CookieUses.{hurried, is_ever_in_use, is_half_open, is_in_use, rekeyed}
use Rattle.server_peers.specs.Requests.{asking_by, asking_this, entry_by}
use Rattle.server_peers.specs.Queues.{count_in, first_in, of_class, ticket, ticket_cmp, unqueued}
use Rattle.server_peers.specs.Rules.{usual_rules}
use Rattle.server_peers.specs.declared.asking.DatagramRequest.TheVariants as asking
use Rattle.server_peers.specs.declared.cookie_use.CookieUse.TheVariants as cookies
use Rattle.server_peers.specs.declared.asking.DatagramKind.TheVariants as entry
use Rattle.dccp_server.specs.declared.meeting.Way.TheVariants as way
use Rattle.server_peers.specs.declared.queue.Ticket.{Ticket}

-- a Request at 1000, with this many bytes of options, and what its cookie holds
abbrev opening : ℕ → OpeningState
opening count = record { time = 1000; iss = 7000; number = 99; service = 42; options = replicate count 0 }

-- A cookie has room for 220 bytes of options, so that it fits its option. Only a Request asks for one, and it has long numbers.
what_is_asked_for :
    (asking_this 1000 7000 (replicate 220 0) 99 42 ≡ asking.This (opening 220))
    × (asking_this 1000 7000 (replicate 221 0) 99 42 ≡ asking.TooLong)
    × (asking_by 1000 7000 [] (kind.Request 42) (Long 99) ≡ asking.This (opening 0))
    × (asking_by 1000 7000 [] (kind.Request 42) (Short 99) ≡ asking.Nothing)
    × (asking_by 1000 7000 [] (kind.Ack (Long 42)) (Long 99) ≡ asking.Nothing)
    × (asking_by 1000 7000 [] kind.Data (Long 99) ≡ asking.Nothing)
    × (entry_by (asking.This (opening 0)) ≡ entry.Asks (opening 0)) × (entry_by asking.TooLong ≡ entry.TooLong)
    × (entry_by asking.Nothing ≡ entry.Plain)
    × (entry_or (entry.Asks (opening 0)) (Some (opening 1)) ≡ entry.Returns (opening 1))
    × (entry_or (entry.Asks (opening 0)) None ≡ entry.Asks (opening 0))
what_is_asked_for = (refl, refl, refl, refl, refl, refl, refl, refl, refl, refl, refl)

-- Cookies are used never, in a crowd, or always; and a flow is half open only in RESPOND.
when_cookies_are_used :
    (is_in_use cookies.Never true ≡ false) × (is_in_use cookies.InACrowd false ≡ false) × (is_in_use cookies.InACrowd true ≡ true)
    × (is_in_use cookies.Always false ≡ true)
    × (is_ever_in_use cookies.Never ≡ false) × (is_ever_in_use cookies.InACrowd ≡ true) × (is_ever_in_use cookies.Always ≡ true)
    × (is_half_open phases.Respond ≡ true) × (is_half_open phases.Closed ≡ false) × (is_half_open phases.Listen ≡ false)
    × (is_half_open phases.Request ≡ false) × (is_half_open phases.PartOpen ≡ false) × (is_half_open phases.Open ≡ false)
    × (is_half_open phases.CloseReq ≡ false) × (is_half_open phases.Closing ≡ false) × (is_half_open phases.TimeWait ≡ false)
when_cookies_are_used = (refl, refl, refl, refl, refl, refl, refl, refl, refl, refl, refl, refl, refl, refl, refl, refl)

-- Which ways there are to meet each entry.
how_an_entry_is_met :
    (may_meet entry.Plain way.Plain ≡ true) × (may_meet entry.Plain way.Greeted ≡ false) × (may_meet entry.Plain way.Unanswered ≡ false)
    × (may_meet entry.Plain way.Reopened ≡ false) × (may_meet entry.Plain way.Unopened ≡ false)
    × (may_meet entry.TooLong way.Plain ≡ false) × (may_meet entry.TooLong way.Greeted ≡ false) × (may_meet entry.TooLong way.Unanswered ≡ true)
    × (may_meet entry.TooLong way.Reopened ≡ false) × (may_meet entry.TooLong way.Unopened ≡ false)
    × (may_meet (entry.Asks (opening 0)) way.Plain ≡ true) × (may_meet (entry.Asks (opening 0)) way.Greeted ≡ true)
    × (may_meet (entry.Asks (opening 0)) way.Unanswered ≡ true) × (may_meet (entry.Asks (opening 0)) way.Reopened ≡ false)
    × (may_meet (entry.Asks (opening 0)) way.Unopened ≡ false)
    × (may_meet (entry.Returns (opening 0)) way.Plain ≡ false) × (may_meet (entry.Returns (opening 0)) way.Greeted ≡ false)
    × (may_meet (entry.Returns (opening 0)) way.Unanswered ≡ false) × (may_meet (entry.Returns (opening 0)) way.Reopened ≡ true)
    × (may_meet (entry.Returns (opening 0)) way.Unopened ≡ true)
how_an_entry_is_met =
    (refl, refl, refl, refl, refl, refl, refl, refl, refl, refl, refl, refl, refl, refl, refl, refl, refl, refl, refl, refl)

-- A peer that has shown where it is waits for no half-open flow. A new key leaves the one before it good, and the first is
-- its own predecessor.
what_a_server_changes :
    (hurried usual_rules ≡ record usual_rules { respond = Some 0; crowded = Some 0 })
    × (rekeyed (1 ∷ []) 500 None ≡ record { key = 1 ∷ []; before = 1 ∷ []; since = 500 })
    × (rekeyed (2 ∷ []) 900 (Some (record { key = 1 ∷ []; before = 0 ∷ []; since = 500 })) ≡ record { key = 2 ∷ []; before = 1 ∷ []; since = 900 })
what_a_server_changes = (refl, refl, refl)

-- A client keeps the cookie of the Response that leads it from REQUEST to PARTOPEN, and of no other packet: these bytes are none.
what_a_client_keeps :
    (cookie_kept phases.Request phases.PartOpen (1 ∷ []) (7 ∷ []) ≡ []) × (cookie_kept phases.Request phases.Request (1 ∷ []) (7 ∷ []) ≡ 7 ∷ [])
    × (cookie_kept phases.PartOpen phases.PartOpen (1 ∷ []) (7 ∷ []) ≡ 7 ∷ []) × (cookie_kept phases.PartOpen phases.Open (1 ∷ []) (7 ∷ []) ≡ 7 ∷ [])
what_a_client_keeps = (refl, refl, refl, refl)

-- In PARTOPEN a frame returns the cookie, if there is one; in every other phase it goes out as it is.
what_a_client_returns : (pseudo : Pseudo) (frame : Option Outgoing) →
    (returning phases.PartOpen pseudo (7 ∷ []) frame ≡ appended pseudo (7 ∷ []) frame) × (returning phases.PartOpen pseudo [] frame ≡ frame)
    × (returning phases.Request pseudo (7 ∷ []) frame ≡ frame) × (returning phases.Open pseudo (7 ∷ []) frame ≡ frame)
    × (returning phases.Closing pseudo (7 ∷ []) frame ≡ frame)
what_a_client_returns pseudo frame = (refl, refl, refl, refl, refl)

-- The ends that a first number is drawn from: 10.0.0.2 with port 5001, and 10.0.0.1 with port 40000.
the_ends_of_a_first_number :
    named_ends (10 ∷ 0 ∷ 0 ∷ 2 ∷ []) 5001 (record { address = 10 ∷ 0 ∷ 0 ∷ 1 ∷ []; port = 40000 })
    ≡ 10 ∷ 0 ∷ 0 ∷ 2 ∷ 19 ∷ 137 ∷ 10 ∷ 0 ∷ 0 ∷ 1 ∷ 156 ∷ 64 ∷ []
the_ends_of_a_first_number = refl

-- a clock of 64 bits that never comes
no_time_at_all : never ≡ 18446744073709551615
no_time_at_all = refl

-- Tickets go by class, then by time, then by peer.
abbrev at : ℕ → Peer
at last = record { address = 10 ∷ 0 ∷ 0 ∷ last ∷ []; port = 40000 }

abbrev paper : ℕ → ℕ → ℕ → Ticket
paper class time last = record { class = class; time = time; peer = at last }

how_tickets_are_ordered :
    (ticket_cmp (paper 0 9 9) (paper 1 1 1) ≡ Less) × (ticket_cmp (paper 1 1 1) (paper 0 9 9) ≡ Greater) × (ticket_cmp (paper 1 1 9) (paper 1 2 1) ≡ Less)
    × (ticket_cmp (paper 1 2 1) (paper 1 2 2) ≡ Less) × (ticket_cmp (paper 1 2 2) (paper 1 2 2) ≡ Equal)
    × (ticket (1, 2) (at 3) ≡ paper 1 2 3)
    × (unqueued (Some (1, 2)) (at 3) (paper 1 2 2 ∷ paper 1 2 3 ∷ paper 1 3 3 ∷ []) ≡ paper 1 2 2 ∷ paper 1 3 3 ∷ [])
    × (first_in 1 (paper 0 1 1 ∷ paper 1 2 2 ∷ paper 1 3 3 ∷ []) ≡ Some (paper 1 2 2)) × (first_in 2 (paper 0 1 1 ∷ []) ≡ None)
    × (count_in 1 (paper 0 1 1 ∷ paper 1 2 2 ∷ paper 1 3 3 ∷ []) ≡ 2)
    × (of_class 1 (paper 1 2 2) ≡ Some (paper 1 2 2)) × (of_class 2 (paper 1 2 2) ≡ None)
how_tickets_are_ordered = (refl, refl, refl, refl, refl, refl, refl, refl, refl, refl, refl, refl)
