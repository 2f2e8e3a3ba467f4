-- Each peer's turns are its chain: the one induction over all turns, from what one turn does to a listener.
use Rattle.std.proofs.Common.{◌≡◌, refl, ap, subst, Bool, true, false, List, [], ◌∷◌, Option}
use Rattle.dccp_listener.specs.Chain.{ChainStep, chain_step}
use Rattle.dccp_listener.specs.Peers.{FlowEnd, ListenerState, end_of_peer, is_peer}
use Rattle.dccp_listener.specs.Runs.{EachPeerHasItsChain, HadNoMemory, IsChain, IsTurnSo, PeerTurn, Stepped, CallTold, CallTurn, WasBusy, peer_turn_if, peer_turns}
use Rattle.dccp_listener.specs.declared.config.ListenConfig.{ListenConfig}
use Rattle.dccp_listener.specs.declared.peer.Peer.{Peer}
use Rattle.dccp_listener.proofs.OnePeer.{one_peer}

-- a chain goes on from the same end by the same configuration
moved-chain : (from to : ListenConfig) (peer : Peer) (e f last : Option FlowEnd) (later : List PeerTurn) → to ≡ from → f ≡ e
    → IsChain to peer f last later → IsChain from peer e last later
moved-chain from to peer e f last later config end rest =
    subst (λ (c : ListenConfig). IsChain c peer e last later) config (subst (λ (x : Option FlowEnd). IsChain to peer x last later) end rest)

-- one turn before the later ones of a peer
one-turn : (before between : ListenerState) (turn : CallTurn) (told : CallTold) (peer : Peer) (same : Bool) → is_peer turn.peer peer ≡ same
    → IsTurnSo before between turn told → (last : Option FlowEnd) (later : List PeerTurn)
    → IsChain between.config peer (end_of_peer between.flows peer) last later
    → IsChain before.config peer (end_of_peer before.flows peer) last (peer_turn_if same turn told later)
one-turn before between turn (Stepped it) peer true is so last later rest =
    let own : record { after = end_of_peer between.flows peer; frame = turn.frame; seen = it } ≡ chain_step before.config peer
    (end_of_peer before.flows peer) turn.deed
    = subst (λ (p : Peer). record { after = end_of_peer between.flows p; frame = turn.frame; seen = it } ≡ chain_step before.config p
    (end_of_peer before.flows p) turn.deed)
    (one_peer turn.peer peer is) so.own in (
      ap (λ (step : ChainStep). step.frame) own,
      ap (λ (step : ChainStep). step.seen) own,
      moved-chain before.config between.config peer (chain_step before.config peer (end_of_peer before.flows peer) turn.deed).after
          (end_of_peer between.flows peer) last later so.same_config (ap (λ (step : ChainStep). step.after) own) rest,
    )
one-turn before between turn (Stepped it) peer false is so last later rest =
    moved-chain before.config between.config peer (end_of_peer before.flows peer) (end_of_peer between.flows peer) last later so.same_config
    (so.others peer is) rest
one-turn before between turn WasBusy peer true is so last later rest =
    subst (λ (l : ListenerState). IsChain l.config peer (end_of_peer l.flows peer) last later) so rest
one-turn before between turn WasBusy peer false is so last later rest =
    subst (λ (l : ListenerState). IsChain l.config peer (end_of_peer l.flows peer) last later) so rest
one-turn before between turn HadNoMemory peer true is so last later rest =
    subst (λ (l : ListenerState). IsChain l.config peer (end_of_peer l.flows peer) last later) so rest
one-turn before between turn HadNoMemory peer false is so last later rest =
    subst (λ (l : ListenerState). IsChain l.config peer (end_of_peer l.flows peer) last later) so rest

pub each_has_its_chain : EachPeerHasItsChain
each_has_its_chain before after [] run peer = ap (λ (l : ListenerState). end_of_peer l.flows peer) run
each_has_its_chain before after (turn ∷ turns) run peer =
    one-turn before run.0 turn turn.told peer (is_peer turn.peer peer) refl run.1 (end_of_peer after.flows peer) (peer_turns peer turns)
    (each_has_its_chain run.0 after turns run.2 peer)
