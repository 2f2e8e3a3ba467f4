use Rattle.std.proofs.Common.{rules}
use Rattle.std.proofs.lemmas.List.Sorted.{answers_always}
use Rattle.dccp_listener.proofs.peer_list.PeerList.search.Goals as goal

-- the closure gives an entry's peer
pub returns-clause-position : goal.returns-clause-position
returns-clause-position g c =
    rw (← c.self.view_is, ← c.deref.ensures.value)
    (c.binary_search_by_key.ensures.position (λ entry. entry.0) (answers_always _ _ _ (λ f a r k called. search rules)))
