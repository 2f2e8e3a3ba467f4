-- What the calls of a listener do (own).
use Rattle.std.specs.Prelude.{◌≡◌, ◌≤◌, ◌<◌, ℕ, false, List, length, Option, Some, None, Result, Ok, Err, IsSome}
use Rattle.dccp_packets.specs.Grammar.{Parts, decoded}
use Rattle.dccp_packets.specs.ResetCodes.{number_of_code}
use Rattle.dccp_packets.specs.declared.header.Kind.TheVariants as kind
use Rattle.dccp_packets.specs.declared.header.Number.{Number}
use Rattle.dccp_packets.specs.declared.header.Number.TheVariants.{Long, Short}
use Rattle.dccp_packets.specs.declared.reading.Malformed.{Malformed}
use Rattle.dccp_packets.specs.declared.reset_code.ResetCode.TheVariants as codes
use Rattle.dccp_endpoint.specs.Drafts.{sent_of}
use Rattle.dccp_endpoint.specs.Steps.{reset_of, without_detail}
use Rattle.dccp_endpoint.specs.declared.config.Config.{Config}
use Rattle.seq_circle.specs.declared.memory.NoMemory.{NoMemory}
use Rattle.dccp_states.specs.declared.seen.Seen.{Seen}
use Rattle.dccp_states.specs.declared.seen.Seen.TheVariants as seen
use Rattle.dccp_packets.specs.Outgoing.{Outgoing}
use Rattle.dccp_listener.specs.Chain.{Deed, Arrives, chain_step, config_for}
use Rattle.dccp_listener.specs.Peers.{ListenerState, end_of_peer, is_peer}
use Rattle.dccp_listener.specs.declared.calls.NoFlow.{NoFlow}
use Rattle.dccp_listener.specs.declared.calls.Heard.{Heard}
use Rattle.dccp_listener.specs.declared.calls.Heard.TheVariants as heard
use Rattle.dccp_listener.specs.declared.peer.Peer.{Peer}

-- A deed of a peer is a step of its chain, and each other peer has what it had.
pub record IsStep (before after : ListenerState) (peer : Peer) (deed : Deed) (frame : Option Outgoing) (seen : Option Seen) : Type 0 where
  pub own : record { after = end_of_peer after.flows peer; frame = frame; seen = seen } ≡ chain_step before.config peer (end_of_peer before.flows peer) deed
  pub others : (other : Peer) → is_peer peer other ≡ false → end_of_peer after.flows other ≡ end_of_peer before.flows other
  pub same_config : after.config ≡ before.config

-- The listener has as many flows as the limit allows, and the peer has none but would get one.
pub record IsBusy (l : ListenerState) (peer : Peer) (deed : Deed) : Type 0 where
  pub has_none : end_of_peer l.flows peer ≡ None
  pub is_table_full : l.config.most ≤ length l.flows
  pub would_stay : IsSome (chain_step l.config peer None deed).after

-- The listener may have one flow more, and the peer has none and would get it.
pub record OpensFlow (l : ListenerState) (peer : Peer) (deed : Deed) : Type 0 where
  pub has_none : end_of_peer l.flows peer ≡ None
  pub has_room : length l.flows < l.config.most
  pub would_stay : IsSome (chain_step l.config peer None deed).after

-- The Reset with this code (RFC 4340, section 5.6), sent without a connection: its number is 0, and it acknowledges the
-- packet with this number.
abbrev pub lone_reset : ℕ → Config → ℕ → Outgoing
lone_reset code config number = sent_of config false 0 (reset_of number (without_detail code))

-- the same for a packet whose number is long, as that of each Request is (section 5.1)
abbrev pub reset_by : ℕ → Config → Number → Option Outgoing
reset_by code config (Long number) = Some (lone_reset code config number)
reset_by code config (Short _) = None

-- the same for what bytes are
abbrev pub reset_for : ℕ → Config → Result Parts Malformed → Option Outgoing
reset_for code config (Ok parts) = reset_by code config parts.header.number
reset_for code config (Err _) = None

-- What is sent to a peer whose packet finds the listener busy. That is a Request: bytes that are no packet do not.
abbrev pub busy_frame : Config → Result Parts Malformed → Option Outgoing
busy_frame config read = reset_for (number_of_code codes.TooBusy) config read

-- What `arrive` does, by its answer.
abbrev pub Arrived : ListenerState → ListenerState → Peer → ℕ → List ℕ → Option Outgoing → Result Heard NoMemory → Type 0
Arrived before after peer iss bytes frame (Ok (heard.Flow outcome)) =
    IsStep before after peer (Arrives iss bytes) frame (Some (seen.Received outcome)) × (IsBusy before peer (Arrives iss bytes) → ⊥)
Arrived before after peer iss bytes frame (Ok heard.Busy) =
    IsBusy before peer (Arrives iss bytes) × (after ≡ before) × (frame ≡ busy_frame (config_for before.config peer iss bytes) (decoded bytes))
Arrived before after peer iss bytes frame (Err _) = OpensFlow before peer (Arrives iss bytes) × (after ≡ before) × (frame ≡ None)

-- the answer to an act, which is none if the peer has no flow
abbrev pub seen_if : Result Seen NoFlow → Option Seen
seen_if (Ok it) = Some it
seen_if (Err _) = None

-- the bytes are a Request, whose number is this one
pub record IsRequest (bytes : List ℕ) : Type 0 where
  pub parts : Parts
  pub number : ℕ
  pub service : ℕ
  pub is_packet : decoded bytes ≡ Ok parts
  pub asks : parts.header.kind ≡ kind.Request service
  pub is_long : parts.header.number ≡ Long number

-- A peer that finds the listener busy has sent a Request, and the Reset acknowledges it.
abbrev pub BusyAnswersRequests : Type 0
BusyAnswersRequests =
    (l : ListenerState) (peer : Peer) (iss : ℕ) (bytes : List ℕ) → IsBusy l peer (Arrives iss bytes)
    → (request : IsRequest bytes)
    × (busy_frame (config_for l.config peer iss bytes) (decoded bytes) ≡ Some (lone_reset (number_of_code codes.TooBusy) (config_for l.config peer iss bytes) request.number))
