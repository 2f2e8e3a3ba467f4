-- No more inboxes stand than may.
use Rattle.std.proofs.Common.{◌≡◌, subst, sym, ℕ, ◌+◌, ◌≤◌, ◌==◌, ◌&&◌, nat_le, Bool, true, false, cond, not, if◌then◌else◌, List, [], ◌∷◌, length, Option, Some, None, Ordering, Less, Equal, Greater, arith}
use Rattle.std.proofs.lemmas.Bool.{leb-false}
use Rattle.std.proofs.lemmas.Map.{length-set_value}
use Rattle.std.specs.BTreeMap.{insert_entry}
use Rattle.std.specs.Map.{lookup, remove_entry}
use Rattle.std.specs.Ordering.{match_ordering}
use Rattle.data_dropped.specs.Inbox.{InboxState}
use Rattle.data_dropped.specs.Intakes.{came_in, count_held, intake_of, without_first, without_listener}
use Rattle.dccp_endpoint.specs.End.{last_taken}
use Rattle.dccp_listener.specs.Peers.{FlowEnd, end_of_peer, is_peer, peer_cmp}
use Rattle.dccp_listener.specs.declared.peer.Peer.{Peer}
use Rattle.dccp_states.specs.declared.outcome.Outcome.TheVariants.{Took}
use Rattle.server_peers.specs.Events.{data_told}
use Rattle.dccp_server.specs.FlowInboxes.{HasFewInboxes, InboxesStayFew, Inboxes, begun_fresh, flow_delivers_by, flow_inbox, flow_takes_in, has_data_by, lacks_place, lies_within, needs_no_inbox, no_flow_delivery, tidied_by, with_flow_inbox, with_flow_inbox_by, with_place, without_inbox_of}

few-left-by : {V : Type 0} (one : Peer × V) (es rest : List (Peer × V)) (here : Bool) → length rest ≤ length es
    → length (cond here es (one ∷ rest)) ≤ length (one ∷ es)
few-left-by one es rest true later = omega arith
few-left-by one es rest false later = omega (arith, later)

few-left : {V : Type 0} (peer : Peer) (es : List (Peer × V)) → length (remove_entry (is_peer peer) es) ≤ length es
few-left peer [] = omega arith
few-left peer (one ∷ es) = few-left-by one es (remove_entry (is_peer peer) es) (is_peer peer one.0) (few-left peer es)

few-put-by : {V : Type 0} (peer : Peer) (v : V) (one : Peer × V) (es rest : List (Peer × V)) (o : Ordering) → length rest ≤ length es + 1
    → length (match_ordering o ((peer, v) ∷ one ∷ es) ((one.0, v) ∷ es) (one ∷ rest)) ≤ length (one ∷ es) + 1
few-put-by peer v one es rest Less later = omega arith
few-put-by peer v one es rest Equal later = omega arith
few-put-by peer v one es rest Greater later = omega (arith, later)

few-put : {V : Type 0} (peer : Peer) (v : V) (es : List (Peer × V)) → length (insert_entry peer_cmp es peer v) ≤ length es + 1
few-put peer v [] = omega arith
few-put peer v (one ∷ es) = few-put-by peer v one es (insert_entry peer_cmp es peer v) (peer_cmp peer one.0) (few-put peer v es)

module _ (s : Inboxes) (peer : Peer) where
  -- a further one, where none lacks a place
  placed-by : (needs-none : Bool) → HasFewInboxes s → (not needs-none && nat_le s.most (length s.entries)) ≡ false
      → HasFewInboxes (if needs-none then s else record s { entries = insert_entry peer_cmp s.entries peer (intake_of s.capacity) })
  placed-by true few has = few
  placed-by false few has =
      omega (arith, few-put peer (intake_of s.capacity) s.entries, leb-false s.most (length s.entries) has)

  few-placed : HasFewInboxes s → lacks_place s peer ≡ false → HasFewInboxes (with_place s peer)
  few-placed few has = placed-by (needs_no_inbox s peer) few has

  -- another one in the place of one
  few-kept-by : (inbox : Option InboxState) (was : Option (Option InboxState)) → HasFewInboxes s → HasFewInboxes (with_flow_inbox_by s peer inbox was)
  few-kept-by inbox None few = few
  few-kept-by inbox (Some was) few = subst (λ (n : ℕ). n ≤ s.most) (sym (length-set_value (is_peer peer) s.entries inbox)) few

  few-kept : (inbox : Option InboxState) → HasFewInboxes s → HasFewInboxes (with_flow_inbox s peer inbox)
  few-kept inbox few = few-kept-by inbox (lookup (is_peer peer) s.entries) few

  few-without : HasFewInboxes s → HasFewInboxes (without_inbox_of s peer)
  few-without few = omega (arith, few, few-left peer s.entries)

  few-begun : (had : Bool) (flow : Option FlowEnd) → HasFewInboxes s → HasFewInboxes (begun_fresh s peer had flow)
  few-begun false (Some e) few = few-without few
  few-begun false None few = few
  few-begun true flow few = few

  few-empty : (is : Bool) → HasFewInboxes s → HasFewInboxes (if is then without_inbox_of s peer else s)
  few-empty true few = few-without few
  few-empty false few = few

  few-tidied : (flow : Option FlowEnd) → HasFewInboxes s → HasFewInboxes (tidied_by s peer flow)
  few-tidied (Some e) few = few
  few-tidied None few = few-empty (count_held (flow_inbox s peer) == 0) few

module _ (s : Inboxes) (peer : Peer) (bytes : List ℕ) where
  few-taken : (number : ℕ) (place : ℕ × ℕ) → HasFewInboxes s → lacks_place s peer ≡ false → HasFewInboxes (flow_takes_in (with_place s peer) peer number bytes place).inboxes
  few-taken number place few has =
      few-kept (with_place s peer) peer (came_in (flow_inbox (with_place s peer) peer) number bytes (Some (Took (Some place)))).inbox (few-placed s peer few has)

  -- data that are there come into one
  few-there : (place : ℕ × ℕ) (e : FlowEnd) (there : Bool) → HasFewInboxes s → (there && lacks_place s peer) ≡ false
      → HasFewInboxes (if there then flow_takes_in (with_place s peer) peer (last_taken e.state) bytes place else no_flow_delivery s).inboxes
  few-there place e true few has = few-taken (last_taken e.state) place few has
  few-there place e false few has = few

  few-delivered : (place : Option (ℕ × ℕ)) (flow : Option FlowEnd) → HasFewInboxes s → (has_data_by bytes place flow && lacks_place s peer) ≡ false
      → HasFewInboxes (flow_delivers_by s peer bytes place flow).inboxes
  few-delivered (Some place) (Some e) few has = few-there place e (lies_within bytes place) few has
  few-delivered (Some place) None few has = few
  few-delivered None flow few has = few

pub inboxes_stay_few : InboxesStayFew
inboxes_stay_few =
    record {
      at_first = λ capacity most. omega arith;
      settled = λ s after peer bytes told few has. few-delivered s peer bytes (data_told told) (end_of_peer after.room.served.listening.flows peer) few has;
      stopped =
          λ s peer few has. few-kept (with_place s peer) peer (without_listener (flow_inbox (with_place s peer) peer)) (few-placed s peer few has);
      begun = λ s peer had flow few. few-begun s peer had flow few;
      read = λ s peer few. few-kept s peer (without_first (flow_inbox s peer)) few;
      over = λ s server peer few. few-tidied s peer (end_of_peer server.room.served.listening.flows peer) few;
      forgotten = λ s peer few. few-without s peer few;
    }
