-- Who is among the peers of which something is kept.
use Rattle.std.proofs.Common.{◌≡◌, refl, sym, ap, ◌∙◌, false, ◌||◌, List, [], ◌∷◌, Option, Some, None, is_some, Ordering, is_eq}
use Rattle.std.proofs.lemmas.Bool.{false≢true}
use Rattle.std.proofs.lemmas.Map.Made.{is_some-lookup}
use Rattle.std.specs.List.{list_any}
use Rattle.std.specs.Map.{keys_of, lookup}
use Rattle.dccp_listener.proofs.InOrder.{AllAfter}
use Rattle.dccp_listener.specs.Peers.{is_peer}
use Rattle.dccp_listener.specs.declared.peer.Peer.{Peer}

module _ {X : Type 0} where
  pub none_from : (found : Option X) → is_some found ≡ false → found ≡ None
  none_from None is = refl
  none_from (Some v) is = absurd (false≢true (sym is))

-- lists of the same peers have the same ones
pub found_alike : {X Y : Type 0} (peer : Peer) (xs : List (Peer × X)) (ys : List (Peer × Y)) → keys_of xs ≡ keys_of ys
    → is_some (lookup (is_peer peer) xs) ≡ is_some (lookup (is_peer peer) ys)
found_alike peer xs ys same = is_some-lookup (is_peer peer) xs ∙ ap (list_any (is_peer peer)) same ∙ sym (is_some-lookup (is_peer peer) ys)

-- one that comes before all others is not among them
pub not_among : (peer : Peer) (ks : List Peer) → AllAfter peer ks → list_any (is_peer peer) ks ≡ false
not_among peer [] all = refl
not_among peer (k ∷ ks) all = ap (λ (o : Ordering). is_eq o || list_any (is_peer peer) ks) all.0 ∙ not_among peer ks all.1
