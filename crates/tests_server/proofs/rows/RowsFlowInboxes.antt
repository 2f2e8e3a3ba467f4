-- Rows of the inboxes of a listener's flows, computed from the definitions; the values were worked out by hand.
use Rattle.std.proofs.Common.{◌≡◌, refl, ℕ, true, false, [], ◌∷◌, Some, None, arith}
use Rattle.data_dropped.specs.Inbox.{InboxState}
use Rattle.data_dropped.specs.declared.answers.Arrival.TheVariants.{Dropped, Kept}
use Rattle.dccp_listener.specs.Peers.{FlowEnd}
use Rattle.dccp_listener.specs.declared.peer.Peer.{Peer}
use Rattle.dccp_server.specs.FlowInboxes.{HasFewInboxes, Inboxes, begun_fresh, event_kept, finds_no_place_by, flow_held, flow_most_said, flow_stopped, has_data_by, kind_kept, lacks_place, no_inboxes, tidied_by, with_place, without_inbox_of}
use Rattle.server_peers.specs.declared.flow_event.EventKind.TheVariants as kinds

-- a peer at an address that ends so
abbrev at : ℕ → Peer
at last = record { address = 10 ∷ 0 ∷ 0 ∷ last ∷ []; port = 40000 }

-- an inbox for four packets, each of a datagram of 2,044 bytes without its shortest header, in which none waits
abbrev empty : InboxState
empty = record { items = []; drops = []; stopped = false; capacity = 4; most = 2032 }

-- the same, in which one waits
abbrev waiting : InboxState
waiting = record empty { items = record { number = 7; payload = 104 ∷ 105 ∷ [] } ∷ [] }

-- Two inboxes may be there, and none is, one, both, or one too many.
abbrev none_of_two : Inboxes
none_of_two = no_inboxes 4 2

abbrev one_of_two : Inboxes
one_of_two = record none_of_two { entries = (at 1, Some waiting) ∷ [] }

abbrev two_of_two : Inboxes
two_of_two = record none_of_two { entries = (at 1, Some waiting) ∷ (at 2, Some empty) ∷ [] }

abbrev three_of_two : Inboxes
three_of_two = record none_of_two { entries = (at 1, Some waiting) ∷ (at 2, Some empty) ∷ (at 3, Some empty) ∷ [] }

-- As many inboxes may be there as were asked for, and no more. A peer that has one lacks no place, and none does where
-- flows have no inboxes.
who_lacks_a_place :
    (lacks_place none_of_two (at 1) ≡ false)
    × (lacks_place one_of_two (at 1) ≡ false)
    × (lacks_place one_of_two (at 2) ≡ false)
    × (lacks_place two_of_two (at 2) ≡ false)
    × (lacks_place two_of_two (at 3) ≡ true)
    × (lacks_place (no_inboxes 4 0) (at 1) ≡ true)
    × (lacks_place (no_inboxes 0 0) (at 1) ≡ false)
who_lacks_a_place = (refl, refl, refl, refl, refl, refl, refl)

how_many_are_few :
    HasFewInboxes two_of_two × (HasFewInboxes three_of_two → ⊥)
how_many_are_few = (omega arith, λ few. omega (arith, few))

-- A peer gets an inbox at its place in the order of peers, where it has none and flows have any.
who_gets_an_inbox :
    (with_place one_of_two (at 2) ≡ two_of_two)
    × (with_place (record none_of_two { entries = (at 2, Some empty) ∷ [] }) (at 1) ≡ record none_of_two { entries = (at 1, Some empty) ∷ (at 2, Some empty) ∷ [] })
    × (with_place two_of_two (at 1) ≡ two_of_two)
    × (with_place (no_inboxes 0 2) (at 1) ≡ no_inboxes 0 2)
who_gets_an_inbox = (refl, refl, refl, refl)

-- Data are there where their place is in the datagram, and the peer has a flow. They find no place where it lacks one.
which_data_find_a_place : (e : FlowEnd) →
    (has_data_by (1 ∷ 2 ∷ 3 ∷ []) (Some (1, 3)) (Some e) ≡ true)
    × (has_data_by (1 ∷ 2 ∷ 3 ∷ []) (Some (3, 3)) (Some e) ≡ true)
    × (has_data_by (1 ∷ 2 ∷ 3 ∷ []) (Some (1, 4)) (Some e) ≡ false)
    × (has_data_by (1 ∷ 2 ∷ 3 ∷ []) (Some (3, 2)) (Some e) ≡ false)
    × (has_data_by (1 ∷ 2 ∷ 3 ∷ []) None (Some e) ≡ false)
    × (has_data_by (1 ∷ 2 ∷ 3 ∷ []) (Some (1, 3)) None ≡ false)
    × (finds_no_place_by two_of_two (at 3) (1 ∷ 2 ∷ 3 ∷ []) (Some (1, 3)) (Some e) ≡ true)
    × (finds_no_place_by two_of_two (at 3) (1 ∷ 2 ∷ 3 ∷ []) None (Some e) ≡ false)
    × (finds_no_place_by two_of_two (at 2) (1 ∷ 2 ∷ 3 ∷ []) (Some (1, 3)) (Some e) ≡ false)
which_data_find_a_place e = (refl, refl, refl, refl, refl, refl, refl, refl, refl)

-- An inbox goes with a new flow of its peer, and once its flow is over and nothing waits in it.
when_an_inbox_goes : (e : FlowEnd) →
    (begun_fresh two_of_two (at 2) false (Some e) ≡ one_of_two)
    × (begun_fresh two_of_two (at 2) true (Some e) ≡ two_of_two)
    × (begun_fresh two_of_two (at 2) false None ≡ two_of_two)
    × (tidied_by two_of_two (at 2) None ≡ one_of_two)
    × (tidied_by two_of_two (at 1) None ≡ two_of_two)
    × (tidied_by two_of_two (at 2) (Some e) ≡ two_of_two)
    × (without_inbox_of two_of_two (at 3) ≡ two_of_two)
when_an_inbox_goes e = (refl, refl, refl, refl, refl, refl, refl)

-- What waits, and how many bytes an inbox adds to an acknowledgement: Slow Receiver, and Data Dropped of 255 bytes (RFC
-- 4340, sections 11.6 and 11.7). What waited when an owner stopped still waits.
what_an_inbox_holds :
    (flow_held two_of_two (at 1) ≡ 1)
    × (flow_held two_of_two (at 3) ≡ 0)
    × (flow_held (flow_stopped two_of_two (at 1)) (at 1) ≡ 1)
    × (flow_most_said two_of_two (at 2) ≡ 256)
    × (flow_most_said two_of_two (at 3) ≡ 0)
what_an_inbox_holds = (refl, refl, refl, refl, refl)

-- What became of data changes only the events about data.
what_is_told_of_data :
    (kind_kept (Some Kept) (kinds.Data 16 18) ≡ kinds.Waits)
    × (kind_kept (Some (Dropped 2)) (kinds.Data 16 18) ≡ kinds.Dropped 2)
    × (kind_kept None (kinds.Data 16 18) ≡ kinds.Data 16 18)
    × (kind_kept (Some Kept) kinds.Opened ≡ kinds.Opened)
    × (event_kept (Some Kept) (record { peer = at 1; user = 7; kind = kinds.Data 16 18 }) ≡ record { peer = at 1; user = 7; kind = kinds.Waits })
what_is_told_of_data = (refl, refl, refl, refl, refl)
