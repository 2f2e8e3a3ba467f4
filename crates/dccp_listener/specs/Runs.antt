-- Runs of a listener, and what one peer sees of them (own).
use Rattle.std.specs.Prelude.{◌≡◌, ℕ, Bool, true, false, List, [], ◌∷◌, Option, Some, Result, Ok, Err}
use Rattle.seq_circle.specs.declared.memory.NoMemory.{NoMemory}
use Rattle.dccp_states.specs.declared.seen.Seen.{Seen}
use Rattle.dccp_states.specs.declared.seen.Seen.TheVariants as seen
use Rattle.dccp_packets.specs.Outgoing.{Outgoing}
use Rattle.dccp_listener.specs.Calls.{IsStep, seen_if}
use Rattle.dccp_listener.specs.Chain.{Deed, Arrives, Calls, FlowCall, chain_step}
use Rattle.dccp_listener.specs.Peers.{FlowEnd, ListenerState, end_of_peer, is_peer}
use Rattle.dccp_listener.specs.declared.calls.NoFlow.{NoFlow}
use Rattle.dccp_listener.specs.declared.config.ListenConfig.{ListenConfig}
use Rattle.dccp_listener.specs.declared.calls.Heard.{Heard}
use Rattle.dccp_listener.specs.declared.calls.Heard.TheVariants as heard
use Rattle.dccp_listener.specs.declared.peer.Peer.{Peer}

-- the result of a call: what the peer's end answered, or that nothing was done
pub data CallTold : Type 0 where
  Stepped : (seen : Option Seen) → CallTold
  WasBusy HadNoMemory : CallTold

-- one call, of or for a peer
pub record CallTurn : Type 0 where
  pub peer : Peer
  pub deed : Deed
  pub frame : Option Outgoing
  pub told : CallTold

-- the result of `arrive`
abbrev pub told_of : Result Heard NoMemory → CallTold
told_of (Ok (heard.Flow outcome)) = Stepped (Some (seen.Received outcome))
told_of (Ok heard.Busy) = WasBusy
told_of (Err _) = HadNoMemory

-- a call `arrive`
abbrev pub arrival : Peer → ℕ → List ℕ → Option Outgoing → Result Heard NoMemory → CallTurn
arrival peer iss bytes frame result = record { peer = peer; deed = Arrives iss bytes; frame = frame; told = told_of result }

-- a call `act`
abbrev pub call_turn : Peer → FlowCall → Option Outgoing → Result Seen NoFlow → CallTurn
call_turn peer call frame result = record { peer = peer; deed = Calls call; frame = frame; told = Stepped (seen_if result) }

-- by its result, the turn is a step, or nothing changes
abbrev pub IsTurnSo : ListenerState → ListenerState → CallTurn → CallTold → Type 0
IsTurnSo before after turn (Stepped it) = IsStep before after turn.peer turn.deed turn.frame it
IsTurnSo before after turn WasBusy = after ≡ before
IsTurnSo before after turn HadNoMemory = after ≡ before

-- one call leads from the listener before to the one after
abbrev pub IsTurn : ListenerState → ListenerState → CallTurn → Type 0
IsTurn before after turn = IsTurnSo before after turn turn.told

-- all calls lead there, one after another
abbrev pub IsRunOfTurns : ListenerState → ListenerState → List CallTurn → Type 0
IsRunOfTurns before after [] = after ≡ before
IsRunOfTurns before after (turn ∷ turns) = (between : ListenerState) × IsTurn before between turn × IsRunOfTurns between after turns

-- what one peer sees of a turn that was not busy and had memory
pub record PeerTurn : Type 0 where
  pub deed : Deed
  pub frame : Option Outgoing
  pub seen : Option Seen

-- a turn of the peer that was answered by its end
abbrev pub peer_turn_if : Bool → CallTurn → CallTold → List PeerTurn → List PeerTurn
peer_turn_if true turn (Stepped it) later = record { deed = turn.deed; frame = turn.frame; seen = it } ∷ later
peer_turn_if true turn WasBusy later = later
peer_turn_if true turn HadNoMemory later = later
peer_turn_if false turn told later = later

-- Of all turns those of the peer, without those that were answered Busy or had no memory.
abbrev pub peer_turns : Peer → List CallTurn → List PeerTurn
peer_turns peer [] = []
peer_turns peer (turn ∷ turns) = peer_turn_if (is_peer turn.peer peer) turn turn.told (peer_turns peer turns)

-- The turns are the chain of the peer, from the end that it has before to the one that it has after.
abbrev pub IsChain : ListenConfig → Peer → Option FlowEnd → Option FlowEnd → List PeerTurn → Type 0
IsChain config peer before after [] = after ≡ before
IsChain config peer before after (now ∷ later) =
    (now.frame ≡ (chain_step config peer before now.deed).frame) × (now.seen ≡ (chain_step config peer before now.deed).seen)
    × IsChain config peer (chain_step config peer before now.deed).after after later

-- Whatever the calls, each peer's answers and frames are the chain of only that peer's calls.
abbrev pub EachPeerHasItsChain : Type 0
EachPeerHasItsChain =
    (before after : ListenerState) (turns : List CallTurn) → IsRunOfTurns before after turns
    → (peer : Peer) → IsChain before.config peer (end_of_peer before.flows peer) (end_of_peer after.flows peer) (peer_turns peer turns)
