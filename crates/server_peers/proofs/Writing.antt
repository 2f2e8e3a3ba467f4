-- What is written over a peer's place is put there.
use Rattle.std.proofs.Common.{◌≡◌, refl, sym, ap, ◌∙◌, subst, ℕ, ◌≤◌, ◌<◌, true, cond, List, [], ◌∷◌, length, Option, is_some, IsSome, Some, None, Ordering, Less, Equal, Greater, is_eq, arith}
use Rattle.std.proofs.lemmas.Bool.{false≢true}
use Rattle.std.proofs.lemmas.Map.{length-set_value}
use Rattle.std.proofs.lemmas.Map.Made.{is_some-lookup}
use Rattle.std.specs.BTreeMap.{insert_entry}
use Rattle.std.specs.List.Sorted.{IsStrictlySortedBy}
use Rattle.std.specs.Map.{keys_of, lookup, set_value}
use Rattle.std.specs.Ordering.{match_ordering}
use Rattle.dccp_listener.proofs.InOrder.{AllAfter, all_after}
use Rattle.dccp_listener.proofs.Searching.{Finds, value_set}
use Rattle.dccp_listener.specs.Peers.{is_peer, peer_cmp}
use Rattle.dccp_listener.specs.declared.peer.Peer.{Peer}
use Rattle.server_peers.proofs.Tickets.{goes_on, goes_on_as_it_is}
use Rattle.server_peers.proofs.Among.{not_among}
use Rattle.server_peers.specs.Queues.{IsQueued, moment_if, queued, unqueued}
use Rattle.server_peers.specs.declared.queue.Ticket.{Ticket}

module _ {X : Type 0} (peer : Peer) (w : X) where
  over-by : (one : Peer × X) (rest : List (Peer × X)) (o : Ordering) → peer_cmp peer one.0 ≡ o
      → AllAfter one.0 (keys_of rest)
      → is_some (cond (is_eq o) (Some one.1) (lookup (is_peer peer) rest)) ≡ true
      → (is_some (lookup (is_peer peer) rest) ≡ true → set_value (is_peer peer) rest w ≡ insert_entry peer_cmp rest peer w)
      → cond (is_eq o) ((one.0, w) ∷ rest) (one ∷ set_value (is_peer peer) rest w)
      ≡ match_ordering o ((peer, w) ∷ one ∷ rest) ((one.0, w) ∷ rest) (one ∷ insert_entry peer_cmp rest peer w)
  over-by one rest Less is all there later =
      absurd (false≢true (sym (is_some-lookup (is_peer peer) rest ∙ not_among peer (keys_of rest) (all_after peer one.0 (keys_of rest) is all)) ∙ there))
  over-by one rest Equal is all there later = refl
  over-by one rest Greater is all there later = ap (λ (l : List (Peer × X)). one ∷ l) (later there)

  pub written_over : (kept : List (Peer × X)) → IsStrictlySortedBy peer_cmp (keys_of kept) → IsSome (lookup (is_peer peer) kept)
      → set_value (is_peer peer) kept w ≡ insert_entry peer_cmp kept peer w
  unfolding IsStrictlySortedBy
  written_over [] ordered there = absurd (false≢true there)
  written_over (one ∷ rest) ordered there = over-by one rest (peer_cmp peer one.0) refl ordered.0 there (written_over rest ordered.1)

  -- The queue goes on with it.
  module _ (moment : X → Option (ℕ × ℕ)) (kept : List (Peer × X)) (queue : List Ticket) (room : ℕ) (is : IsQueued moment kept queue room) (there : IsSome (lookup (is_peer peer) kept)) where
    abbrev after : List (Peer × X)
    after = set_value (is_peer peer) kept w

    changed : IsStrictlySortedBy peer_cmp (keys_of after) × Finds peer (Some w) kept after
    changed = value_set peer kept after w is.ordered there refl

    enough : (more : ℕ) → room ≤ more → 1 ≤ length after → length after < more
    enough more le some =
        let same : length after ≡ length kept = length-set_value (is_peer peer) kept w in
        omega (arith, same, le, is.room (omega (arith, same, some)))

    moved-on : (moved : List Ticket) (more : ℕ) (from to : Option (ℕ × ℕ)) → from ≡ moment_if moment (lookup (is_peer peer) kept) → to ≡ moment w
        → moved ≡ queued to peer (unqueued from peer queue) → room ≤ more → IsQueued moment after moved more
    moved-on moved more from to is-from is-to moves le =
        goes_on moment kept after queue moved room more peer (lookup (is_peer peer) kept) (Some w) is changed.0 refl changed.1
        (moves ∙ ap (λ (m : Option (ℕ × ℕ)). queued m peer (unqueued from peer queue)) is-to
        ∙ ap (λ (m : Option (ℕ × ℕ)). queued (moment w) peer (unqueued m peer queue)) is-from)
        (enough more le)

    stays-by : (found : Option X) → lookup (is_peer peer) kept ≡ found → is_some found ≡ true → moment_if moment found ≡ moment w
        → IsQueued moment after queue room
    stays-by None had some same = absurd (false≢true some)
    stays-by (Some was) had some same =
        goes_on_as_it_is moment kept peer was had after queue room w is changed.0 changed.1 same (enough room (omega arith))

    pub queue_moves : (now : List (Peer × X)) (moved : List Ticket) (more : ℕ) (from to : Option (ℕ × ℕ)) → now ≡ after
        → from ≡ moment_if moment (lookup (is_peer peer) kept) → to ≡ moment w
        → moved ≡ queued to peer (unqueued from peer queue) → room ≤ more → IsQueued moment now moved more
    queue_moves now moved more from to same is-from is-to moves le =
        subst (λ (l : List (Peer × X)). IsQueued moment l moved more) (sym same) (moved-on moved more from to is-from is-to moves le)

    pub queue_stays : (now : List (Peer × X)) (from to : Option (ℕ × ℕ)) → now ≡ after
        → from ≡ moment_if moment (lookup (is_peer peer) kept) → to ≡ moment w → from ≡ to → IsQueued moment now queue room
    queue_stays now from to same is-from is-to one =
        subst (λ (l : List (Peer × X)). IsQueued moment l queue room) (sym same)
        (stays-by (lookup (is_peer peer) kept) refl there (sym is-from ∙ one ∙ is-to))
