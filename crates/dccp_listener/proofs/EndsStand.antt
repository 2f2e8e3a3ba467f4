-- The end of a peer is a flow's: after each step of a chain, and so in each listener.
use Rattle.dccp_states.specs.Phases.{is_closed}
use Rattle.std.proofs.Common.{◌≡◌, ◌⊎◌, inl, inr, refl, ap, sym, subst, ◌∙◌, ◌≤◌, ℕ, Bool, true, false, if◌then◌else◌, List, [], length, Option, Some, None, Result, Ok, Err, IfSome, zero-le}
use Rattle.std.proofs.lemmas.Bool.{false≢true}
use Rattle.dccp_endpoint.proofs.Calling.{every_step_has_an_effect}
use Rattle.dccp_endpoint.proofs.Staying.{first-proper, proper-after}
use Rattle.dccp_endpoint.specs.Causes.{ByCall, IsOpened, NotNow, is_waiting}
use Rattle.dccp_endpoint.specs.Effects.{HeardNumber, Unheard, end_after}
use Rattle.dccp_endpoint.specs.End.{EndState, IsProper, is_begun, is_phase_of}
use Rattle.dccp_endpoint.specs.Inputs.{Input, end_stepped}
use Rattle.dccp_states.specs.declared.phase.Phase.{Phase}
use Rattle.dccp_states.specs.declared.phase.Phase.TheVariants as phases
use Rattle.dccp_states.specs.declared.phase.Role.{Role}
use Rattle.dccp_states.specs.declared.phase.Role.TheVariants as roles
use Rattle.feature_machine.specs.Lists.{IsLists}
use Rattle.seq_circle.specs.declared.memory.NoMemory.{NoMemory}
use Rattle.dccp_states.specs.declared.seen.Seen.{Seen}
use Rattle.dccp_packets.specs.Outgoing.{Outgoing}
use Rattle.dccp_listener.specs.Calls.{Arrived, IsStep}
use Rattle.dccp_listener.specs.Chain.{Arrives, Calls, ChainStep, Deed, chain_step, config_for, flow_step, fresh_end, input_of_deed}
use Rattle.dccp_listener.specs.Peers.{FlowEnd, ListenerState, end_of_peer, is_peer}
use Rattle.dccp_listener.specs.Standing.{ChainsStand, IsSoundListener, IsFlowOf}
use Rattle.dccp_listener.specs.declared.calls.Heard.{Heard}
use Rattle.dccp_listener.specs.declared.calls.Heard.TheVariants as heard
use Rattle.dccp_listener.specs.declared.config.ListenConfig.{ListenConfig}
use Rattle.dccp_listener.specs.declared.peer.Peer.{Peer}
use Rattle.dccp_listener.proofs.OnePeer.{one_peer}

-- a server's end that is neither CLOSED nor in LISTEN waits for no first packet
waits-in : (phase : Phase) (role : Role) → role ≡ roles.Server → is_begun phase ≡ true → is_phase_of phase role ≡ true → is_waiting phase ≡ true → ⊥
waits-in phases.Closed role server live fits waits = false≢true waits
waits-in phases.Listen role server live fits waits = false≢true live
waits-in phases.Request roles.Client server live fits waits = cc server
waits-in phases.Request roles.Server server live fits waits = false≢true fits
waits-in phases.Respond role server live fits waits = false≢true waits
waits-in phases.PartOpen role server live fits waits = false≢true waits
waits-in phases.Open role server live fits waits = false≢true waits
waits-in phases.CloseReq role server live fits waits = false≢true waits
waits-in phases.Closing role server live fits waits = false≢true waits
waits-in phases.TimeWait role server live fits waits = false≢true waits

no-wait : (e : EndState) (given : Input) (opens : Bool) (hearing : HeardNumber) → e.config.role ≡ roles.Server → is_begun e.phase ≡ true → IsProper e
    → IsOpened e given opens → ((is_waiting e.phase ≡ true) × (hearing ≡ Unheard)) ⊎ (opens ≡ true) → ⊥
no-wait e given opens hearing server live proper opened (inl waits) = waits-in e.phase e.config.role server live proper.phase_fits waits.0
no-wait e given _ hearing server live proper NotNow (inr is) = false≢true is
no-wait e given _ hearing server live proper (ByCall call client fresh) (inr is) = cc (sym server ∙ client)

-- so it never goes back to LISTEN
stays-live : (phase : Phase) → (is_waiting phase ≡ true → ⊥) → is_closed phase ≡ false → is_begun phase ≡ true
stays-live phases.Closed not over = sym over
stays-live phases.Listen not over = absurd (not refl)
stays-live _ not over = refl

live-after : (e : EndState) (given : Input) → e.config.role ≡ roles.Server → is_begun e.phase ≡ true → IsProper e
    → is_closed (end_stepped e given).after.phase ≡ false → is_begun (end_stepped e given).after.phase ≡ true
live-after e given server live proper over =
    let step = every_step_has_an_effect e given proper in
    let same = ap (λ (x : EndState). x.phase) step.after_is in
    stays-live (end_stepped e given).after.phase
    (λ waits. no-wait e given step.effect.opens step.effect.hearing server live proper step.because.opened
    (step.because.moves.waits (sym (ap is_waiting same) ∙ waits)))
    over

-- the end that a step of a proper end leaves is a flow's if its phase is
stands-after : (config : ListenConfig) (peer : Peer) (iss : ℕ) (bytes : List ℕ) (e : EndState) (given : Input) (next : FlowEnd)
    → e.config ≡ config_for config peer iss bytes → IsProper e → next.state ≡ (end_stepped e given).after → is_begun next.state.phase ≡ true
    → IsFlowOf config peer next
stands-after config peer iss bytes e given next made proper is live =
    let step = every_step_has_an_effect e given proper in
    let same : next.state ≡ end_after e step.effect = is ∙ step.after_is in
    record {
      iss = iss;
      bytes = bytes;
      made_for = ap (λ (x : EndState). x.config) same ∙ made;
      proper = subst (λ (x : EndState). IsProper x) (sym same) (proper-after proper step.because);
      phase_is = live;
    }

if-not-over : (config : ListenConfig) (peer : Peer) (next : FlowEnd) (over : Bool) → (over ≡ false → IsFlowOf config peer next)
    → IfSome (if over then None else Some next) (IsFlowOf config peer)
if-not-over config peer next true so = tt
if-not-over config peer next false so = so refl

if-flow : (config : ListenConfig) (peer : Peer) (next : FlowEnd) (stays : Bool) → (stays ≡ true → IsFlowOf config peer next)
    → IfSome (if stays then Some next else None) (IsFlowOf config peer)
if-flow config peer next true so = so refl
if-flow config peer next false so = tt

pub ends_stand : ChainsStand
ends_stand config peer (Some e) deed lists stands =
    let next : FlowEnd = (flow_step e deed).after in
    let given : Input = input_of_deed deed e.congestion in
    let server : e.state.config.role ≡ roles.Server = ap (λ c. c.role) stands.made_for in
    if-not-over config peer next (is_closed next.state.phase)
    (λ over. stands-after config peer stands.iss stands.bytes e.state given next stands.made_for stands.proper refl
    (live-after e.state given server stands.phase_is stands.proper over))
ends_stand config peer None (Arrives iss bytes) lists none =
    let fresh : FlowEnd = fresh_end config peer iss bytes in
    let next : FlowEnd = (flow_step fresh (Arrives iss bytes)).after in
    if-flow config peer next (is_begun next.state.phase)
    (λ live. stands-after config peer iss bytes fresh.state (input_of_deed (Arrives iss bytes) fresh.congestion) next refl
    (first-proper (config_for config peer iss bytes) lists) refl live)
ends_stand config peer None (Calls call) lists none = tt

-- each peer's end comes after a step of one peer
stand-after : (before after : ListenerState) (peer : Peer) (deed : Deed) (frame : Option Outgoing) (seen : Option Seen)
    → IsSoundListener before.config before.flows → IsStep before after peer deed frame seen
    → (q : Peer) (same : Bool) → is_peer peer q ≡ same → IfSome (end_of_peer after.flows q) (IsFlowOf before.config q)
stand-after before after peer deed frame seen sound step q true is =
    let own : end_of_peer after.flows peer ≡ (chain_step before.config peer (end_of_peer before.flows peer) deed).after =
    ap (λ (s : ChainStep). s.after) step.own in
    subst (λ (p : Peer). IfSome (end_of_peer after.flows p) (IsFlowOf before.config p)) (one_peer peer q is)
    (subst (λ (x : Option FlowEnd). IfSome x (IsFlowOf before.config peer)) (sym own)
    (ends_stand before.config peer (end_of_peer before.flows peer) deed sound.lists (sound.stand peer)))
stand-after before after peer deed frame seen sound step q false is =
    subst (λ (x : Option FlowEnd). IfSome x (IsFlowOf before.config q)) (sym (step.others q is)) (sound.stand q)

pub sound_step : (before after : ListenerState) (peer : Peer) (deed : Deed) (frame : Option Outgoing) (seen : Option Seen)
    → IsSoundListener before.config before.flows → IsStep before after peer deed frame seen → length after.flows ≤ before.config.most
    → IsSoundListener after.config after.flows
sound_step before after peer deed frame seen sound step room =
    subst (λ (c : ListenConfig). IsSoundListener c after.flows) (sym step.same_config)
    (record {
      room = room;
      lists = sound.lists;
      stand = λ q. stand-after before after peer deed frame seen sound step q (is_peer peer q) refl;
    })

pub sound_arrival : (before after : ListenerState) (peer : Peer) (iss : ℕ) (bytes : List ℕ) (frame : Option Outgoing) (result : Result Heard NoMemory)
    → IsSoundListener before.config before.flows → Arrived before after peer iss bytes frame result → length after.flows ≤ before.config.most
    → IsSoundListener after.config after.flows
sound_arrival before after peer iss bytes frame (Ok (heard.Flow outcome)) sound arrived room =
    sound_step before after peer (Arrives iss bytes) frame _ sound arrived.0 room
sound_arrival before after peer iss bytes frame (Ok heard.Busy) sound arrived room =
    subst (λ (l : ListenerState). IsSoundListener l.config l.flows) (sym arrived.1) sound
sound_arrival before after peer iss bytes frame (Err fault) sound arrived room =
    subst (λ (l : ListenerState). IsSoundListener l.config l.flows) (sym arrived.1) sound

-- a listener without flows
pub sound_fresh : (config : ListenConfig) → IsLists config.lists → IsSoundListener config []
sound_fresh config lists = record { room = zero-le; lists = lists; stand = λ peer. tt }
