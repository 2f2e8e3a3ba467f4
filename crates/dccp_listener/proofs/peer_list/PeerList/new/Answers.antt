use Rattle.std.proofs.Common.{List, subst, sym}
use Rattle.dccp_listener.specs.declared.peer.Peer.{Peer}
use Rattle.dccp_listener.proofs.InOrder.{AreSorted, in_order_none}
use Rattle.dccp_listener.proofs.peer_list.PeerList.new.Goals as goal

pub invariant_of-result : goal.invariant_of-result
invariant_of-result g c = subst (λ (kept : List (Peer × g.row.V.Denot)). AreSorted kept) (sym c.new.ensures.items) (in_order_none g.row.V.Denot)
