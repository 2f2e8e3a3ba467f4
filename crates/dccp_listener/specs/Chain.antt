-- What a server for it alone would give one peer: the chain of that peer's calls (RFC 4340, section 8.1.2; the rest is own).
use Rattle.dccp_states.specs.Phases.{is_closed}
use Rattle.std.specs.Prelude.{◌==◌, ℕ, List, Option, Some, None, Result, Ok, Err, if◌then◌else◌, slice_get, unwrap_or}
use Rattle.std.specs.List.{list_any}
use Rattle.congestion_trait.specs.Control.{may_send}
use Rattle.ccid_two.specs.Kinds.{Both, at_first, kinds_control}
use Rattle.dccp_packets.specs.Grammar.{Parts, decoded}
use Rattle.dccp_packets.specs.declared.header.Kind.{Kind}
use Rattle.dccp_packets.specs.declared.header.Kind.TheVariants as kind
use Rattle.dccp_packets.specs.declared.reading.Malformed.{Malformed}
use Rattle.dccp_sum.specs.declared.pseudo_header.Pseudo.TheVariants.{V4}
use Rattle.dccp_states.specs.declared.phase.Role.TheVariants.{Server}
use Rattle.dccp_states.specs.declared.calls.Timer.{Timer}
use Rattle.feature_lists.specs.declared.features.Feature.{Feature}
use Rattle.feature_lists.specs.declared.features.Place.{Place}
use Rattle.dccp_endpoint.specs.Configured.{configured}
use Rattle.dccp_endpoint.specs.Controlled.{EndStep, begins, has_in_flight, with_control}
use Rattle.dccp_endpoint.specs.Inputs.{EndAnswer, Input, end_stepped}
use Rattle.dccp_endpoint.specs.Inputs as input
use Rattle.dccp_endpoint.specs.declared.config.Config.{Config}
use Rattle.dccp_states.specs.declared.seen.Seen.{Seen}
use Rattle.dccp_endpoint.specs.UserCalls.{seen_of}
use Rattle.dccp_packets.specs.Outgoing.{Outgoing}
use Rattle.dccp_endpoint.specs.End.{is_begun}
use Rattle.dccp_listener.specs.Peers.{FlowEnd}
use Rattle.dccp_listener.specs.declared.calls.Act.{Act}
use Rattle.dccp_listener.specs.declared.calls.Act.TheVariants as act
use Rattle.dccp_states.specs.declared.calls.UserCall.{UserCall}
use Rattle.dccp_states.specs.declared.calls.UserCall.TheVariants as user
use Rattle.dccp_listener.specs.declared.config.ListenConfig.{ListenConfig}
use Rattle.dccp_listener.specs.declared.peer.Peer.{Peer}

-- what the owner asks of a peer's end
pub data FlowCall : Type 0 where
  Sends : (payload : List ℕ) → FlowCall
  Fires : (timer : Timer) → FlowCall
  Opens Closes Aborts : FlowCall
  SendsEarly : (payload : List ℕ) → FlowCall
  Prefers : (feature : Feature) (place : Place) (values : List ℕ) → FlowCall

-- What happens to a peer: a datagram of it arrives, with the first number that an end made for it would have; or the
-- owner calls.
pub data Deed : Type 0 where
  Arrives : (iss : ℕ) (bytes : List ℕ) → Deed
  Calls : (call : FlowCall) → Deed

-- an act as the call that it is
abbrev pub call_of : Act → FlowCall
call_of (act.Send payload) = Sends payload.now
call_of (act.Timer timer) = Fires timer
call_of act.Close = Closes
call_of act.Abort = Aborts

-- any call of an end's user as the call that it is
abbrev pub asked : UserCall → FlowCall
asked user.Open = Opens
asked (user.Send payload) = Sends payload.now
asked (user.SendEarly payload) = SendsEarly payload.now
asked (user.Prefer feature place values) = Prefers feature place values.now
asked user.Close = Closes
asked user.Abort = Aborts
asked (user.Timer timer) = Fires timer

-- the call as the end takes it, with what its congestion control says
abbrev pub input_of_call : FlowCall → Both → Input
input_of_call (Sends payload) congestion = input.Sends payload (may_send kinds_control congestion)
input_of_call (Fires timer) congestion = input.Fires timer (has_in_flight kinds_control congestion)
input_of_call Closes congestion = input.Closes
input_of_call Aborts congestion = input.Aborts
input_of_call Opens congestion = input.Opens
input_of_call (SendsEarly payload) congestion = input.SendsEarly payload (may_send kinds_control congestion)
input_of_call (Prefers feature place values) congestion = input.Prefers (feature, place) values

-- the deed as the end takes it
abbrev pub input_of_deed : Deed → Both → Input
input_of_deed (Arrives iss bytes) congestion = input.Arrives bytes
input_of_deed (Calls call) congestion = input_of_call call congestion

-- one step of a peer's end, whose congestion control hears of it
abbrev pub flow_step : FlowEnd → Deed → EndStep Both EndAnswer
flow_step e deed = with_control kinds_control e.congestion (end_stepped e.state (input_of_deed deed e.congestion))

-- the Service Code that a Request asks for (RFC 4340, section 5.1)
abbrev pub requested : Kind → Option ℕ
requested (kind.Request service) = Some service
requested _ = None

-- the Service Code that bytes ask for
abbrev pub asked_service : Result Parts Malformed → Option ℕ
asked_service (Ok parts) = requested parts.header.kind
asked_service (Err _) = None

-- The service that a fresh end offers: the one that is asked for, if the listener has it, and otherwise its first.
abbrev pub service_for : List ℕ → Option ℕ → ℕ
service_for services None = unwrap_or (slice_get services 0) 0
service_for services (Some asked) = if list_any (λ one. one == asked) services then asked else unwrap_or (slice_get services 0) 0

-- A fresh end is a server's, between the listener's address and port and the peer's.
abbrev pub config_asked : ListenConfig → Peer → ℕ → Option ℕ → Config
config_asked config peer iss asked =
    record (configured Server (V4 config.own_address peer.address) (record { own = config.own_port; peer = peer.port })
    (service_for config.services.items asked) iss) { lists = config.lists }

-- the same by the bytes for which it is made
abbrev pub config_for : ListenConfig → Peer → ℕ → List ℕ → Config
config_for config peer iss bytes = config_asked config peer iss (asked_service (decoded bytes))

-- an end for the peer that has sent and received nothing
abbrev pub fresh_end : ListenConfig → Peer → ℕ → List ℕ → FlowEnd
fresh_end config peer iss bytes = begins kinds_control (config_for config peer iss bytes) at_first

-- a fresh end stays if it has left LISTEN and is not CLOSED
abbrev pub kept_if_open : FlowEnd → Option FlowEnd
kept_if_open e = if is_begun e.state.phase then Some e else None

-- an end is given up if it is CLOSED
abbrev pub kept_until_over : FlowEnd → Option FlowEnd
kept_until_over e = if is_closed e.state.phase then None else Some e

-- a step of the chain: the end that the peer has then, the frame that goes to it, and the answer, which is none if there is no end to call
pub record ChainStep : Type 0 where
  pub after : Option FlowEnd
  pub frame : Option Outgoing
  pub seen : Option Seen

-- the step of an end as one of the chain, with what is kept of the end
abbrev pub chained : (FlowEnd → Option FlowEnd) → EndStep Both EndAnswer → ChainStep
chained stays step = record { after = stays step.after; frame = step.frame; seen = Some (seen_of step.answer) }

-- One deed of a peer that has this end or none. A datagram of a peer without one meets a fresh end.
abbrev pub chain_step : ListenConfig → Peer → Option FlowEnd → Deed → ChainStep
chain_step config peer (Some e) deed = chained kept_until_over (flow_step e deed)
chain_step config peer None (Arrives iss bytes) = chained kept_if_open (flow_step (fresh_end config peer iss bytes) (Arrives iss bytes))
chain_step config peer None (Calls call) = record { after = None; frame = None; seen = None }
