-- How a fresh end answers a datagram (RFC 4340, section 8.5; that it goes is own).
use Rattle.std.specs.Prelude.{◌≡◌, ℕ, true, false, List, Some, None}
use Rattle.ccid_two.specs.Kinds.{Both, kinds_control}
use Rattle.dccp_endpoint.specs.Controlled.{EndStep}
use Rattle.dccp_endpoint.specs.Feeding.{receiving}
use Rattle.dccp_endpoint.specs.End.{is_begun}
use Rattle.dccp_states.specs.declared.outcome.Outcome.{Outcome}
use Rattle.dccp_listener.specs.Chain.{Arrives, fresh_end}
use Rattle.dccp_listener.specs.Listens.{is_table_full, listens}
use Rattle.dccp_listener.specs.Peers.{ListenerState, end_of_peer}
use Rattle.dccp_listener.specs.declared.config.ListenConfig.{ListenConfig}
use Rattle.dccp_listener.specs.declared.peer.Peer.{Peer}

-- a fresh end of such a listener hears a datagram of a peer
abbrev pub greets_by : ListenConfig → Peer → ℕ → List ℕ → EndStep Both Outcome
greets_by config peer iss bytes = receiving kinds_control (fresh_end config peer iss bytes) bytes

-- the same of a listener
abbrev pub greets : ListenerState → Peer → ℕ → List ℕ → EndStep Both Outcome
greets l peer iss bytes = greets_by l.config peer iss bytes

-- A fresh end that hears a datagram and goes is, and sends, what the peer's flow is and sends if that datagram opens one: if the peer has none,
-- the end would stay, and there is room.
abbrev pub GreetingsOpen : Type 0
GreetingsOpen =
    (l : ListenerState) (peer : Peer) (iss : ℕ) (bytes : List ℕ) → end_of_peer l.flows peer ≡ None → is_table_full l ≡ false
    → is_begun (greets l peer iss bytes).after.state.phase ≡ true
    → ((listens l peer (Arrives iss bytes)).frame ≡ (greets l peer iss bytes).frame)
    × (end_of_peer (listens l peer (Arrives iss bytes)).flows peer ≡ Some (greets l peer iss bytes).after)
