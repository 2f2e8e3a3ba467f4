-- What always holds of a listener and of each end in it (own).
use Rattle.std.specs.Prelude.{◌≡◌, ◌≤◌, ℕ, true, List, length, Option, IfSome}
use Rattle.feature_lists.specs.Lists.{is_distinct}
use Rattle.feature_machine.specs.Lists.{IsLists, without_offers}
use Rattle.dccp_endpoint.specs.End.{IsProper, is_begun}
use Rattle.dccp_listener.specs.Chain.{Deed, chain_step, config_for}
use Rattle.dccp_listener.specs.Peers.{FlowEnd, Flows, end_of_peer}
use Rattle.dccp_listener.specs.declared.config.ListenConfig.{ListenConfig}
use Rattle.dccp_listener.specs.declared.peer.Peer.{Peer}

-- which configurations a listener may have
pub record IsListening (config : ListenConfig) : Type 0 where
  pub some : 1 ≤ length config.services.items
  pub distinct : is_distinct config.services.items ≡ true
  pub least : 1 ≤ config.most
  pub most : config.most ≤ 1024

-- the same without offers: the ends of its flows ask for no feature by themselves
abbrev pub unoffering : ListenConfig → ListenConfig
unoffering config = record config { lists = without_offers config.lists }

-- An end of a peer was made for the peer, by the listener's configuration, and is neither CLOSED nor in LISTEN.
pub record IsFlowOf (config : ListenConfig) (peer : Peer) (e : FlowEnd) : Type 0 where
  pub iss : ℕ
  pub bytes : List ℕ
  pub made_for : e.state.config ≡ config_for config peer iss bytes
  pub proper : IsProper e.state
  pub phase_is : is_begun e.state.phase ≡ true

-- There are no more flows than the limit allows, and each is an end of its peer.
pub record IsSoundListener (config : ListenConfig) (flows : Flows) : Type 0 where
  pub room : length flows ≤ config.most
  pub lists : IsLists config.lists
  pub stand : (peer : Peer) → IfSome (end_of_peer flows peer) (IsFlowOf config peer)

-- Every step of a chain leaves no end, or one of its peer.
abbrev pub ChainsStand : Type 0
ChainsStand =
    (config : ListenConfig) (peer : Peer) (before : Option FlowEnd) (deed : Deed) → IsLists config.lists
    → IfSome before (IsFlowOf config peer) → IfSome (chain_step config peer before deed).after (IsFlowOf config peer)
