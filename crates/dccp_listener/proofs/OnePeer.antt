-- Peers that compare alike are one, and their order is total.
use Rattle.std.proofs.Common.{◌≡◌, refl, ap, ℕ, true, List, Ordering, Less, Equal, Greater, is_eq, nat_cmp}
use Rattle.std.proofs.lemmas.Cmp.{on_total, then_total, nat_list_cmp_total}
use Rattle.std.proofs.lemmas.Map.Lookups.{CmpEqualImpliesEq, exact_bytes, exact_pairs, exact_unsigned}
use Rattle.std.specs.Cmp.{IsEquivalence, IsTotalOrder, eq_by_cmp_equiv, nat_cmp_total}
use Rattle.std.specs.Cmp.Lexicographic.{slice_cmp}
use Rattle.std.specs.Ordering.{eq_by_cmp}
use Rattle.dccp_listener.specs.Peers.{is_peer, peer_cmp}
use Rattle.dccp_listener.specs.declared.peer.Peer.{Peer}

pub exact_peers : CmpEqualImpliesEq peer_cmp
exact_peers a b h =
    ap (λ (p : List ℕ × ℕ). record { address = p.0; port = p.1 })
    (exact_pairs (slice_cmp nat_cmp) nat_cmp exact_bytes exact_unsigned (a.address, a.port) (b.address, b.port) h)

pub equal_from : (o : Ordering) → is_eq o ≡ true → o ≡ Equal
equal_from Less h = cc h
equal_from Equal h = refl
equal_from Greater h = cc h

pub one_peer : (a b : Peer) → is_peer a b ≡ true → a ≡ b
one_peer a b same = exact_peers a b (equal_from (peer_cmp a b) same)

pub peers_total : IsTotalOrder peer_cmp
peers_total = then_total (on_total (λ (p : Peer). p.address) nat_list_cmp_total) (on_total (λ (p : Peer). p.port) nat_cmp_total)

pub peers_alike : IsEquivalence (eq_by_cmp peer_cmp)
peers_alike = eq_by_cmp_equiv peers_total
