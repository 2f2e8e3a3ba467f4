use Rattle.std.proofs.Common.{◌≡◌, ap, false, OnErr, OnOk, Result, Ok, Err, Some}
use Rattle.std.specs.BTreeMap.{insert_entry}
use Rattle.dccp_listener.specs.Listens.{AreInOrder}
use Rattle.dccp_listener.specs.Peers.{FlowEnd, Flows, end_of_peer, is_peer, peer_cmp}
use Rattle.dccp_listener.specs.declared.peer.Peer.{Peer}
use Rattle.dccp_listener.proofs.Searching.{others_found, own_found, value_put}
use Rattle.dccp_listener.proofs.flows.PeerList+Endpoint+Kinds.open.Goals as goal

module _ {X Y : Type 0} (peer : Peer) (before after : Flows) (end : FlowEnd) (ordered : AreInOrder before) where
  own-if : (result : Result X Y) → OnOk result (after ≡ insert_entry peer_cmp before peer end) → OnOk result (end_of_peer after peer ≡ Some end)
  own-if (Ok it) is = own_found peer (Some end) before after (value_put peer before after end ordered is).1
  own-if (Err fault) is = tt

  others-if : (result : Result X Y) → OnOk result (after ≡ insert_entry peer_cmp before peer end) → OnErr result (after ≡ before)
      → (other : Peer) → is_peer peer other ≡ false → end_of_peer after other ≡ end_of_peer before other
  others-if (Ok it) is same other apart = others_found peer (Some end) before after (value_put peer before after end ordered is).1 other apart
  others-if (Err fault) is same other apart = ap (λ (flows : Flows). end_of_peer flows other) same

pub returns-clause-own : goal.returns-clause-own
returns-clause-own c = own-if c.args.peer c.args.self.now c.insert.new.self c.args.end c.insert.ensures.ordered c.insert.result c.insert.ensures.entries

pub returns-clause-others : goal.returns-clause-others
returns-clause-others c =
    others-if c.args.peer c.args.self.now c.insert.new.self c.args.end c.insert.ensures.ordered c.insert.result c.insert.ensures.entries
    c.insert.ensures.unchanged
