-- Rows of what a server knows of its peers, computed from the definitions; the values were worked out by hand.
use Rattle.std.proofs.Common.{◌≡◌, refl, ℕ, ◌+◌, ◌*◌, ◌^◌, true, false, List, [], ◌∷◌, Some, None, Ok}
use Rattle.std.specs.List.{insert, remove}
use Rattle.ccid_two.specs.Kinds.{at_first, kinds_control}
use Rattle.dccp_endpoint.specs.Controlled.{begins}
use Rattle.dccp_endpoint.specs.Drafts.{framed}
use Rattle.dccp_endpoint.specs.End.{new_end}
use Rattle.dccp_endpoint.specs.Receiving.{receives}
use Rattle.dccp_endpoint.specs.Usual.{to_server, usual}
use Rattle.dccp_listener.specs.Peers.{FlowEnd}
use Rattle.dccp_listener.specs.Runs.{WasBusy}
use Rattle.dccp_listener.specs.declared.calls.Heard.TheVariants.{Busy}
use Rattle.dccp_listener.specs.declared.peer.Peer.{Peer}
use Rattle.dccp_packets.specs.Outgoing.{Outgoing, bytes_sent}
use Rattle.dccp_states.specs.declared.phase.Phase.TheVariants as phases
use Rattle.dccp_states.specs.declared.phase.Role.TheVariants.{Server}
use Rattle.init_cookies.specs.declared.route.Route.{Route}
use Rattle.server_peers.specs.Events.{seen_flow}
use Rattle.server_peers.specs.Lives.{life_of, lives_on, no_signs}
use Rattle.server_peers.specs.Naming.{missing_word}
use Rattle.server_peers.specs.Queues.{queued, ticket_at, unqueued}
use Rattle.server_peers.specs.declared.life.Life.{Life}
use Rattle.server_peers.specs.declared.queue.Ticket.{Ticket}
use Rattle.server_peers.specs.Refusals.{refusal_frame, service_opened}
use Rattle.server_peers.specs.Requests.{asking_of}
use Rattle.server_peers.specs.Strangers.{frame_if_goes, told_of_arrival}
use Rattle.server_peers.specs.declared.asking.DatagramRequest.TheVariants as asking

abbrev peer : Peer
peer = record { address = 10 ∷ 0 ∷ 0 ∷ 1 ∷ []; port = 40000 }

-- in OPEN since 3; it took a packet at 5, sent a Sync with the number 60, and has the owner's number 8
abbrev life : Life
life = record { phase = phases.Open; since = 3; taken = 5; sync = Some 60; user = 8 }

-- an end in OPEN whose greatest number sent is 77
abbrev open_end : FlowEnd → FlowEnd
open_end e = record e { state = record e.state { phase = phases.Open; marks = record e.state.marks { gss = 77 } } }

-- At 9 a packet is taken, or answered by a Sync, or neither; a phase that is new begins at 9. A peer without a flow has a life of zeros.
how_a_life_goes_on : (e : FlowEnd) →
    (lives_on 9 (open_end e) (record { taken = true; synced = false }) life ≡ record life { taken = 9 })
    × (lives_on 9 (open_end e) (record { taken = false; synced = true }) life ≡ record life { sync = Some 77 })
    × (lives_on 9 (open_end e) no_signs life ≡ life)
    × (lives_on 9 (open_end e) no_signs (record life { phase = phases.PartOpen }) ≡ record life { since = 9 })
    × (life_of [] peer ≡ record { phase = phases.Closed; since = 0; taken = 0; sync = None; user = 0 })
how_a_life_goes_on e = (refl, refl, refl, refl, refl)

-- In a checksum 65,535 counts as 0 (RFC 1071): 65,534 lacks 1 to count as 0, and 65,536, which counts as 1, lacks 4 to count as 5.
which_word_is_missing : (missing_word 0 65534 ≡ 1) × (missing_word 5 65536 ≡ 4) × (missing_word 65537 0 ≡ 2)
which_word_is_missing = (refl, refl, refl)

abbrev due_at : ℕ → Ticket
due_at time = record { class = 1; time = time; peer = peer }

abbrev three : List Ticket
three = due_at 1 ∷ due_at 2 ∷ due_at 3 ∷ []

-- a ticket of three goes and comes back later than all, or sooner, or in its place
abbrev moved : ℕ → ℕ → List Ticket
moved from to = queued (Some (1, to)) peer (unqueued (Some (1, from)) peer three)

how_a_ticket_moves :
    (moved 1 9 ≡ due_at 2 ∷ due_at 3 ∷ due_at 9 ∷ []) × (moved 3 0 ≡ due_at 0 ∷ due_at 1 ∷ due_at 2 ∷ [])
    × (moved 2 2 ≡ three) × (moved 9 9 ≡ due_at 1 ∷ due_at 2 ∷ due_at 3 ∷ due_at 9 ∷ [])
how_a_ticket_moves = (refl, refl, refl, refl)

-- 10.0.0.1 is 167,772,161, and a port has 16 bits: with 32 for the address and 64 for the time, the class begins at the 113th
which_ticket_a_number_is : ticket_at (2 ^ 112 + 7 * 2 ^ 48 + 167772161 * 65536 + 40000) ≡ due_at 7
which_ticket_a_number_is = refl

-- The usual client's Request with the number 1000, for the service 42, and its Ack 1001 of 2000.
abbrev pub request : List ℕ
request = 156 ∷ 64 ∷ 19 ∷ 137 ∷ 5 ∷ 0 ∷ 49 ∷ 236 ∷ 1 ∷ 0 ∷ 0 ∷ 0 ∷ 0 ∷ 0 ∷ 3 ∷ 232 ∷ 0 ∷ 0 ∷ 0 ∷ 42 ∷ []

abbrev pub ack : List ℕ
ack = 156 ∷ 64 ∷ 19 ∷ 137 ∷ 6 ∷ 0 ∷ 35 ∷ 65 ∷ 7 ∷ 0 ∷ 0 ∷ 0 ∷ 0 ∷ 0 ∷ 3 ∷ 233 ∷ 0 ∷ 0 ∷ 0 ∷ 0 ∷ 0 ∷ 0 ∷ 7 ∷ 208 ∷ []

-- The Request is asked for by its route alone: not from another port, to another, or with another sum; nor by the Ack.
abbrev by_route : ℕ → ℕ → Route
by_route from to = record { pseudo = to_server; from = from; to = to }

what_comes_by_its_route :
    (asking_of 500 7000 (by_route 40000 5001) request ≡ asking.This (record { time = 500; iss = 7000; number = 1000; service = 42; options = [] }))
    × (asking_of 500 7000 (by_route 40001 5001) request ≡ asking.Nothing) × (asking_of 500 7000 (by_route 40000 5002) request ≡ asking.Nothing)
    × (asking_of 500 7000 (by_route 40000 5001) (insert (remove request 19) 19 43) ≡ asking.Nothing)
    × (asking_of 500 7000 (by_route 40000 5001) ack ≡ asking.Nothing)
what_comes_by_its_route = (refl, refl, refl, refl, refl)

-- What would open gets a Reset with the code that is given, 9 for Too Busy, and the number 0; an Ack gets No Connection, 3 (section 5.6).
what_is_turned_away :
    (bytes_sent (refusal_frame 9 (usual Server) request)
    ≡ Some (19 ∷ 137 ∷ 156 ∷ 64 ∷ 7 ∷ 0 ∷ 25 ∷ 14 ∷ 15 ∷ 0 ∷ 0 ∷ 0 ∷ 0 ∷ 0 ∷ 0 ∷ 0 ∷ 0 ∷ 0 ∷ 0 ∷ 0 ∷ 0 ∷ 0 ∷ 3 ∷ 232 ∷ 9 ∷ 0 ∷ 0 ∷ 0 ∷ []))
    × (bytes_sent (refusal_frame 9 (usual Server) ack)
    ≡ Some (19 ∷ 137 ∷ 156 ∷ 64 ∷ 7 ∷ 0 ∷ 23 ∷ 60 ∷ 15 ∷ 0 ∷ 0 ∷ 0 ∷ 0 ∷ 0 ∷ 7 ∷ 209 ∷ 0 ∷ 0 ∷ 0 ∷ 0 ∷ 0 ∷ 0 ∷ 3 ∷ 233 ∷ 3 ∷ 0 ∷ 0 ∷ 0 ∷ []))
    × (service_opened (usual Server) request ≡ Some 42) × (service_opened (usual Server) ack ≡ None)
unfolding receives framed
what_is_turned_away = (refl, refl, refl, refl)

-- The server's end after a Request that gives it Ack Vectors, by Change L of Send Ack Vector to 1, and after the client's Ack.
abbrev vector_request : List ℕ
vector_request =
    156 ∷ 64 ∷ 19 ∷ 137 ∷ 6 ∷ 0 ∷ 10 ∷ 227 ∷ 1 ∷ 0 ∷ 0 ∷ 0 ∷ 0 ∷ 0 ∷ 3 ∷ 232 ∷ 0 ∷ 0 ∷ 0 ∷ 42 ∷ 32 ∷ 4 ∷ 6 ∷ 1 ∷ []

abbrev served_end : List ℕ → FlowEnd
served_end first =
    record (begins kinds_control (usual Server) at_first) { state = (receives (receives (new_end (usual Server)) first).after ack).after }

-- An open flow takes data if its Acks have Ack Vectors, and no application that reads holds them back.
what_a_flow_takes :
    (seen_flow 7 false (served_end vector_request) ≡ record { phase = phases.Open; takes_data = true; user = 7 })
    × (seen_flow 7 true (served_end vector_request) ≡ record { phase = phases.Open; takes_data = false; user = 7 })
    × (seen_flow 7 false (served_end request) ≡ record { phase = phases.Open; takes_data = false; user = 7 })
    × (seen_flow 7 false (begins kinds_control (usual Server) at_first) ≡ record { phase = phases.Listen; takes_data = false; user = 7 })
unfolding receives framed
what_a_flow_takes = (refl, refl, refl, refl)

-- A frame goes out or does not; and what is told of a datagram: nothing if it was left out.
what_goes_out : (frame : Outgoing) →
    (frame_if_goes true (Some frame) ≡ Some frame) × (frame_if_goes false (Some frame) ≡ None) × (told_of_arrival (Ok None) ≡ None)
    × (told_of_arrival (Ok (Some Busy)) ≡ Some WasBusy)
what_goes_out frame = (refl, refl, refl, refl)
