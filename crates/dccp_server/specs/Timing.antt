-- What is kept of a flow is what an end with its timers would keep (own).
use Rattle.std.specs.Prelude.{◌≡◌, ℕ, Bool, true, false, not, is_some, List, Option, Some, None, if◌then◌else◌}
use Rattle.std.specs.Option.{option_map}
use Rattle.ccid_two.specs.Kinds.{Both, kinds_control}
use Rattle.dccp_endpoint.specs.Early.{is_part_open}
use Rattle.dccp_endpoint.specs.UserCalls.{seen_of}
use Rattle.dccp_listener.specs.Chain.{Aborts, Arrives, Calls, Closes, Deed, Fires, FlowCall, Opens, Prefers, Sends, SendsEarly, flow_step}
use Rattle.dccp_listener.specs.Listens.{listening_after}
use Rattle.dccp_listener.specs.Peers.{FlowEnd, end_of_peer}
use Rattle.dccp_listener.specs.Runs.{Stepped}
use Rattle.dccp_listener.specs.declared.config.ListenConfig.{ListenConfig}
use Rattle.dccp_listener.specs.declared.peer.Peer.{Peer}
use Rattle.dccp_states.specs.Phases.{is_closed}
use Rattle.dccp_states.specs.declared.calls.Timer.{Timer}
use Rattle.dccp_states.specs.declared.phase.Role.TheVariants.{Server}
use Rattle.feature_lists.specs.declared.features.Feature.{Feature}
use Rattle.feature_lists.specs.declared.features.Place.{Place}
use Rattle.dccp_uses.specs.Path.{sight_of}
use Rattle.dccp_uses.specs.Rules.{due_rule}
use Rattle.dccp_uses.specs.Timed.{TimedState, tells_rules, timed_aborts, timed_closes, timed_fires, timed_hands, timed_hears, timed_opens, timed_prefers}
use Rattle.dccp_uses.specs.Upkeeps.{kept_opened, upkeep_begins}
use Rattle.dccp_uses.specs.declared.pace.Pace.{Pace}
use Rattle.dccp_uses.specs.declared.upkeep.Upkeep.{Upkeep}
use Rattle.dccp_server.specs.Serving.{ServedListener, TimedDeed, call_by_rule, deed_served, is_refusal, rule_followed, served_through, serving_begins, upkeep_at}
use Rattle.dccp_server.specs.Upkeeps.{arrived_so, called_so, next_upkeep}
use Rattle.dccp_server.specs.declared.happening.FlowHappening.{FlowHappening}
use Rattle.dccp_server.specs.declared.happening.FlowHappening.TheVariants as happening

-- a flow as an end with its timers and the rules of its path
abbrev pub timed_flow : FlowEnd → Upkeep → TimedState Both
timed_flow e u = record { end = e; upkeep = u }

-- an end after a call, if there is one
abbrev pub flow_after : FlowEnd → Option FlowCall → FlowEnd
flow_after e None = e
flow_after e (Some call) = (flow_step e (Calls call)).after

-- a flow's end refuses a call
abbrev pub refuses_call : FlowEnd → FlowCall → Bool
refuses_call e call = is_refusal (Stepped (Some (seen_of (flow_step e (Calls call)).answer)))

-- what a deed does to a flow's end, by what the end answers and whether a frame goes out
abbrev pub happening_at : FlowEnd → Deed → FlowHappening
happening_at e (Arrives iss bytes) =
    arrived_so (Some (sight_of kinds_control e)) (Stepped (Some (seen_of (flow_step e (Arrives iss bytes)).answer)))
    (not (is_some (flow_step e (Arrives iss bytes)).frame))
happening_at e (Calls call) = called_so call (refuses_call e call)

-- a flow after a deed: its end, and what is then kept of it
abbrev pub flow_then : ℕ → Pace → FlowEnd → Upkeep → Deed → TimedState Both
flow_then now pace e u deed = timed_flow (flow_step e deed).after (next_upkeep now pace u (happening_at e deed) (flow_step e deed).after)

-- a flow after the rule that is due of its path
abbrev pub flow_ruled : ℕ → Pace → FlowEnd → Upkeep → Option FlowCall → TimedState Both
flow_ruled now pace e u call = timed_flow (flow_after e call) (next_upkeep now pace u (happening.Ruled (due_rule u.path now)) (flow_after e call))

-- the call that takes data as soon as the phase allows: `send_early` in PARTOPEN, otherwise `send`
abbrev pub call_for_data : Bool → List ℕ → FlowCall
call_for_data true payload = SendsEarly payload
call_for_data false payload = Sends payload

-- With anything kept, and at any time, a flow does in each of these what an end with its timers does.
pub record KeepsAsTimedEnds (now : ℕ) (pace : Pace) (e : FlowEnd) (u : Upkeep) : Type 0 where
  -- the datagram that opens a flow: nothing of an earlier flow is kept, and the Response is timed as a client's Request is
  pub begins : next_upkeep now pace u happening.Opened e ≡ kept_opened kinds_control now (upkeep_begins pace) e
  -- a datagram, once it was admitted
  pub hears : (iss : ℕ) (bytes : List ℕ) → flow_then now pace e u (Arrives iss bytes) ≡ (timed_hears kinds_control now (timed_flow e u) bytes).timed
  -- a timer
  pub fires : (timer : Timer) → flow_then now pace e u (Calls (Fires timer)) ≡ (timed_fires kinds_control now (timed_flow e u) timer).timed
  -- `open`, which the end of a server refuses
  pub opens : e.state.config.role ≡ Server → flow_then now pace e u (Calls Opens) ≡ (timed_opens kinds_control now (timed_flow e u)).timed
  -- data that no restraint holds back: a listener leaves the restraint to its owner
  pub sends : (payload : List ℕ)
      → flow_then now pace e u (Calls (call_for_data (is_part_open e.state.phase) payload)) ≡ (timed_hands kinds_control now (timed_flow e u) payload).timed
  -- a wish for a feature
  pub prefers : (feature : Feature) (place : Place) (values : List ℕ)
      → flow_then now pace e u (Calls (Prefers feature place values)) ≡ (timed_prefers kinds_control now (timed_flow e u) feature place values).timed
  -- `close`
  pub closes : flow_then now pace e u (Calls Closes) ≡ (timed_closes kinds_control now (timed_flow e u)).timed
  -- `abort`
  pub aborts : flow_then now pace e u (Calls Aborts) ≡ (timed_aborts kinds_control now (timed_flow e u)).timed
  -- any call that is refused, also the other of the two that take data
  pub refuses : (call : FlowCall) → refuses_call e call ≡ true → flow_then now pace e u (Calls call) ≡ timed_flow e u
  -- a rule of its path
  pub follows : flow_ruled now pace e u (call_by_rule now u (Some e)) ≡ (tells_rules kinds_control now (timed_flow e u)).timed

-- the same for each flow
abbrev pub FlowsAreTimedEnds : Type 0
FlowsAreTimedEnds = (now : ℕ) (pace : Pace) (e : FlowEnd) (u : Upkeep) → KeepsAsTimedEnds now pace e u

-- what a listener has of a peer: its end with what is kept of it, or nothing
abbrev pub flow_kept : ServedListener → Peer → Option (TimedState Both)
flow_kept s peer = option_map (λ (e : FlowEnd). timed_flow e (upkeep_at s.pace s.upkeeps peer)) (end_of_peer s.listening.flows peer)

-- a flow goes once its end is CLOSED
abbrev pub until_over : TimedState Both → Option (TimedState Both)
until_over flow = if is_closed flow.end.state.phase then None else Some flow

-- What a listener then has of a peer that has this end, of which this is kept: a deed and a rule leave just the flows above.
pub record LeavesFlow (now : ℕ) (s : ServedListener) (peer : Peer) (e : FlowEnd) (u : Upkeep) : Type 0 where
  pub does : (deed : Deed) → flow_kept (deed_served now s peer deed) peer ≡ until_over (flow_then now s.pace e u deed)
  pub follows : flow_kept (rule_followed now s peer) peer ≡ until_over (flow_ruled now s.pace e u (call_by_rule now u (Some e)))

-- A datagram gives this end to a peer that had none: what is kept of it begins.
abbrev pub BeginsFlow : ℕ → ServedListener → Peer → FlowEnd → Type 0
BeginsFlow now s peer e =
    (iss : ℕ) (bytes : List ℕ) → end_of_peer (listening_after s.listening peer (Arrives iss bytes)).flows peer ≡ Some e
    → flow_kept (deed_served now s peer (Arrives iss bytes)) peer ≡ Some (timed_flow e (kept_opened kinds_control now (upkeep_begins s.pace) e))

-- by the end that the peer has before
abbrev pub KeepsFlow : ℕ → ServedListener → Peer → Option FlowEnd → Type 0
KeepsFlow now s peer None = (e : FlowEnd) → BeginsFlow now s peer e
KeepsFlow now s peer (Some e) = LeavesFlow now s peer e (upkeep_at s.pace s.upkeeps peer)

-- So it is after any deeds, for each peer.
abbrev pub ListenersKeepFlows : Type 0
ListenersKeepFlows =
    (config : ListenConfig) (pace : Pace) (all : List TimedDeed) (now : ℕ) (peer : Peer)
    → KeepsFlow now (served_through (serving_begins config pace) all) peer (end_of_peer (served_through (serving_begins config pace) all).listening.flows peer)
