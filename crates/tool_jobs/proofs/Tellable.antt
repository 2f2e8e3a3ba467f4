-- What a listener returns of a call: data that are delivered are in the bytes that arrived, and the listener is left as it is computed.
use Rattle.std.proofs.Common.{◌≡◌, sym, ap, ◌∙◌, subst, ℕ, List, [], Bool, true, false, Option, Some, None, Result, Ok, Err}
use Rattle.std.specs.Prelude.{IfOk, OnOk}
use Rattle.ccid_two.specs.Kinds.{Both, kinds_control}
use Rattle.congestion_trait.specs.Control.{may_send}
use Rattle.dccp_packets.specs.Outgoing.{Outgoing}
use Rattle.dccp_endpoint.specs.End.{is_begun}
use Rattle.dccp_endpoint.specs.Calling.{aborts, closes, opens, prefers, sends_payload}
use Rattle.dccp_endpoint.specs.Early.{sends_early}
use Rattle.dccp_endpoint.specs.Controlled.{EndStep}
use Rattle.dccp_endpoint.specs.Inputs.{EndAnswer}
use Rattle.dccp_listener.specs.Chain.{Deed, Arrives, Calls, Opens, Sends, SendsEarly, Fires, Closes, Aborts, Prefers, flow_step, fresh_end}
use Rattle.dccp_listener.specs.Listens.{ListenerStep, fresh_met, is_table_full, listening_after, listens, listens_by}
use Rattle.dccp_listener.specs.Peers.{FlowEnd, Flows, ListenerState, end_of_peer}
use Rattle.dccp_listener.specs.Runs.{CallTold, CallTurn, IsTurn, IsTurnSo, Stepped, WasBusy, HadNoMemory, arrival, told_of}
use Rattle.dccp_listener.specs.declared.calls.Heard.{Heard}
use Rattle.dccp_listener.specs.declared.config.ListenConfig.{ListenConfig}
use Rattle.dccp_listener.specs.declared.peer.Peer.{Peer}
use Rattle.schedule_text.specs.Results.{IsSeenOf}
use Rattle.seq_circle.specs.declared.memory.NoMemory.{NoMemory}
use Rattle.dccp_endpoint.specs.UserCalls.{seen_of, seen_of_call}
use Rattle.dccp_states.specs.Refusals.{refusal_of, send_refusal_of}
use Rattle.dccp_states.specs.declared.seen.Refusal.{Refusal}
use Rattle.dccp_states.specs.declared.seen.Refusal.TheVariants as refusal
use Rattle.tool_jobs.proofs.Telling.{data-in-frame}
use Rattle.tool_jobs.specs.Telling.{CanBeTold, arriving_bytes}

-- a call delivers no data
call-told : {Fault : Type 0} (named : Fault → Refusal) (result : Result (Unit {0}) Fault) → IsSeenOf [] (seen_of_call named result)
call-told named (Ok _) = tt
call-told named (Err fault) = tt

-- the step of an end
step-told : (e : FlowEnd) (deed : Deed) → IsSeenOf (arriving_bytes deed) (seen_of (flow_step e deed).answer)
step-told e (Arrives iss bytes) = data-in-frame e.state bytes
step-told e (Calls (Sends payload)) = call-told send_refusal_of (sends_payload e.state payload (may_send kinds_control e.congestion)).answer
step-told e (Calls (Fires timer)) = tt
step-told e (Calls Closes) = call-told (λ fault. refusal.NotOpen) (closes e.state).answer
step-told e (Calls Aborts) = call-told (λ fault. refusal.NotLive) (aborts e.state).answer
step-told e (Calls Opens) = call-told (λ fault. refusal.NotFresh) (opens e.state).answer
step-told e (Calls (SendsEarly payload)) = call-told send_refusal_of (sends_early e.state payload (may_send kinds_control e.congestion)).answer
step-told e (Calls (Prefers feature place values)) = call-told refusal_of (prefers e.state (feature, place) values).answer

met-told : (l : ListenerState) (peer : Peer) (iss : ℕ) (bytes : List ℕ) (step : EndStep Both EndAnswer) (stays full : Bool) → IsSeenOf bytes (seen_of step.answer)
    → CanBeTold bytes (fresh_met l peer iss bytes step stays full).told
met-told l peer iss bytes step false full told = told
met-told l peer iss bytes step true true told = tt
met-told l peer iss bytes step true false told = told

listens-told : (l : ListenerState) (peer : Peer) (found : Option FlowEnd) (deed : Deed) → CanBeTold (arriving_bytes deed) (listens_by l peer found deed).told
listens-told l peer (Some e) deed = step-told e deed
listens-told l peer None (Arrives iss bytes) =
    let step : EndStep Both EndAnswer = flow_step (fresh_end l.config peer iss bytes) (Arrives iss bytes) in
    met-told l peer iss bytes step (is_begun step.after.state.phase) (is_table_full l) (step-told (fresh_end l.config peer iss bytes) (Arrives iss bytes))
listens-told l peer None (Calls call) = tt

-- what is told as it is computed can be told
pub told_as : (l : ListenerState) (peer : Peer) (deed : Deed) (flows : Flows) (frame : Option Outgoing) (told : CallTold)
    → record { flows = flows; frame = frame; told = told } ≡ listens l peer deed → CanBeTold (arriving_bytes deed) told
told_as l peer deed flows frame told is =
    subst (CanBeTold (arriving_bytes deed)) (sym (ap (λ (x : ListenerStep). x.told) is)) (listens-told l peer (end_of_peer l.flows peer) deed)

-- no call changes what the listener was made from
same-config : (before after : ListenerState) (turn : CallTurn) (told : CallTold) → IsTurnSo before after turn told → after.config ≡ before.config
same-config before after turn (Stepped it) is = is.same_config
same-config before after turn WasBusy is = ap (λ (l : ListenerState). l.config) is
same-config before after turn HadNoMemory is = ap (λ (l : ListenerState). l.config) is

abbrev listening : ListenConfig → Flows → ListenerState
listening config flows = record { config = config; flows = flows }

pub left_as : (before after : ListenerState) (turn : CallTurn) (frame : Option Outgoing) (told : CallTold) → IsTurn before after turn
    → record { flows = after.flows; frame = frame; told = told } ≡ listens before turn.peer turn.deed → after ≡ listening_after before turn.peer turn.deed
left_as before after turn frame told turned is =
    ap (λ (config : ListenConfig). listening config after.flows) (same-config before after turn turn.told turned)
    ∙ ap (λ (x : ListenerStep). listening before.config x.flows) is

-- the four of them, of a datagram that was heard

abbrev AsComputed : ListenerState → ListenerState → Peer → ℕ → List ℕ → Option Outgoing → Result Heard NoMemory → Type 0
AsComputed before after peer iss bytes frame result =
    IfOk result (λ heard. record { flows = after.flows; frame = frame; told = told_of (Ok heard) } ≡ listens before peer (Arrives iss bytes))

pub heard-after : (before after : ListenerState) (peer : Peer) (iss : ℕ) (bytes : List ℕ) (frame : Option Outgoing) (result : Result Heard NoMemory)
    → IsTurn before after (arrival peer iss bytes frame result) → AsComputed before after peer iss bytes frame result
    → OnOk result (after ≡ listening_after before peer (Arrives iss bytes))
heard-after before after peer iss bytes frame (Ok heard) turned is =
    left_as before after (arrival peer iss bytes frame (Ok heard)) frame (told_of (Ok heard)) turned is
heard-after before after peer iss bytes frame (Err fault) turned is = tt

pub heard-sent : (before after : ListenerState) (peer : Peer) (iss : ℕ) (bytes : List ℕ) (frame : Option Outgoing) (result : Result Heard NoMemory)
    → AsComputed before after peer iss bytes frame result → OnOk result (frame ≡ (listens before peer (Arrives iss bytes)).frame)
heard-sent before after peer iss bytes frame (Ok heard) is = ap (λ (x : ListenerStep). x.frame) is
heard-sent before after peer iss bytes frame (Err fault) is = tt

pub heard-told : (before after : ListenerState) (peer : Peer) (iss : ℕ) (bytes : List ℕ) (frame : Option Outgoing) (result : Result Heard NoMemory)
    → AsComputed before after peer iss bytes frame result → IfOk result (λ heard. told_of (Ok heard) ≡ (listens before peer (Arrives iss bytes)).told)
heard-told before after peer iss bytes frame (Ok heard) is = ap (λ (x : ListenerStep). x.told) is
heard-told before after peer iss bytes frame (Err fault) is = tt

pub heard-tellable : (before after : ListenerState) (peer : Peer) (iss : ℕ) (bytes : List ℕ) (frame : Option Outgoing) (result : Result Heard NoMemory)
    → AsComputed before after peer iss bytes frame result → IfOk result (λ heard. CanBeTold bytes (told_of (Ok heard)))
heard-tellable before after peer iss bytes frame (Ok heard) is = told_as before peer (Arrives iss bytes) after.flows frame (told_of (Ok heard)) is
heard-tellable before after peer iss bytes frame (Err fault) is = tt
