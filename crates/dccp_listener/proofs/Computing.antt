-- What is computed of a list of deeds is a run: one deed by cases on what its peer has, and the induction over all.
use Rattle.dccp_states.specs.Phases.{is_closed}
use Rattle.std.proofs.Common.{◌≡◌, refl, ap, sym, ◌∙◌, ℕ, Bool, true, false, cond, if◌then◌else◌, List, [], ◌∷◌, Option, Some, None, IsSome, is_some}
use Rattle.std.specs.Map.{remove_entry, set_value}
use Rattle.ccid_two.specs.Kinds.{Both}
use Rattle.dccp_endpoint.specs.Controlled.{EndStep}
use Rattle.dccp_endpoint.specs.Inputs.{EndAnswer}
use Rattle.dccp_endpoint.specs.UserCalls.{seen_of}
use Rattle.dccp_endpoint.specs.End.{is_begun}
use Rattle.dccp_listener.specs.Calls.{IsStep}
use Rattle.dccp_listener.specs.Chain.{Arrives, Calls, ChainStep, Deed, chain_step, flow_step, fresh_end, kept_until_over}
use Rattle.dccp_listener.specs.Listens.{AreInOrder, WhatIsComputedIsARun, is_table_full, listening_after, listens_by, fresh_met, with_end}
use Rattle.dccp_listener.specs.Peers.{FlowEnd, Flows, ListenerState, end_of_peer, is_peer}
use Rattle.dccp_listener.specs.Runs.{IsTurnSo}
use Rattle.dccp_listener.specs.declared.peer.Peer.{Peer}
use Rattle.dccp_listener.proofs.InOrder.{found_insert, own_insert, in_order_insert, in_order_remove, in_order_set}
use Rattle.dccp_listener.proofs.Searching.{others_found, own_found, value_gone, value_set}

-- a step of which this end is left
abbrev shows : Option FlowEnd → EndStep Both EndAnswer → ChainStep
shows after step = record { after = after; frame = step.frame; seen = Some (seen_of step.answer) }

abbrev nothing_shown : Option FlowEnd → ChainStep
nothing_shown after = record { after = after; frame = None; seen = None }

pub own_after : (peer : Peer) (e : FlowEnd) (flows : Flows) (over : Bool) → AreInOrder flows → IsSome (end_of_peer flows peer)
    → end_of_peer (if over then remove_entry (is_peer peer) flows else set_value (is_peer peer) flows e) peer ≡ (if over then None else Some e)
own_after peer e flows true ordered there = own_found peer None flows _ (value_gone peer flows _ ordered refl).1
own_after peer e flows false ordered there = own_found peer (Some e) flows _ (value_set peer flows _ e ordered there refl).1

-- which a deed leaves of a peer that has one
pub own_left : (l : ListenerState) (peer : Peer) (e : FlowEnd) (deed : Deed) → AreInOrder l.flows → end_of_peer l.flows peer ≡ Some e
    → end_of_peer (listening_after l peer deed).flows peer ≡ kept_until_over (flow_step e deed).after
own_left l peer e deed ordered found =
    ap (λ (x : Option FlowEnd). end_of_peer (listens_by l peer x deed).flows peer) found
    ∙ own_after peer (flow_step e deed).after l.flows (is_closed (flow_step e deed).after.state.phase) ordered (ap is_some found)

others-after : (peer other : Peer) (e : FlowEnd) (flows : Flows) (over : Bool) → AreInOrder flows → IsSome (end_of_peer flows peer) → is_peer peer other ≡ false
    → end_of_peer (if over then remove_entry (is_peer peer) flows else set_value (is_peer peer) flows e) other ≡ end_of_peer flows other
others-after peer other e flows true ordered there apart = others_found peer None flows _ (value_gone peer flows _ ordered refl).1 other apart
others-after peer other e flows false ordered there apart =
    others_found peer (Some e) flows _ (value_set peer flows _ e ordered there refl).1 other apart

-- an end of a flow takes a step
stands-step : (l : ListenerState) (peer : Peer) (deed : Deed) (e : FlowEnd) → end_of_peer l.flows peer ≡ Some e → AreInOrder l.flows
    → IsStep l (record l { flows = with_end l.flows peer (flow_step e deed).after }) peer deed (flow_step e deed).frame
    (Some (seen_of (flow_step e deed).answer))
stands-step l peer deed e found ordered =
    let next : FlowEnd = (flow_step e deed).after in
    let there : IsSome (end_of_peer l.flows peer) = ap is_some found in
    let shown = λ (after : Option FlowEnd). shows after (flow_step e deed) in
    record {
      own = ap shown (own_after peer next l.flows (is_closed next.state.phase) ordered there)
          ∙ ap (λ (x : Option FlowEnd). chain_step l.config peer x deed) (sym found);
      others = λ other apart. others-after peer other next l.flows (is_closed next.state.phase) ordered there apart;
      same_config = refl;
    }

-- a fresh end meets a datagram
meets : (l : ListenerState) (peer : Peer) (iss : ℕ) (bytes : List ℕ) → end_of_peer l.flows peer ≡ None → (stays full : Bool)
    → is_begun (flow_step (fresh_end l.config peer iss bytes) (Arrives iss bytes)).after.state.phase ≡ stays
    → IsTurnSo l (record l { flows = (fresh_met l peer iss bytes (flow_step (fresh_end l.config peer iss bytes) (Arrives iss bytes)) stays full).flows })
    (record {
      peer = peer;
      deed = Arrives iss bytes;
      frame = (fresh_met l peer iss bytes (flow_step (fresh_end l.config peer iss bytes) (Arrives iss bytes)) stays full).frame;
      told = (fresh_met l peer iss bytes (flow_step (fresh_end l.config peer iss bytes) (Arrives iss bytes)) stays full).told;
    })
    (fresh_met l peer iss bytes (flow_step (fresh_end l.config peer iss bytes) (Arrives iss bytes)) stays full).told
meets l peer iss bytes found false full is =
    let step : EndStep Both EndAnswer = flow_step (fresh_end l.config peer iss bytes) (Arrives iss bytes) in
    record {
      own = ap (λ (x : Option FlowEnd). shows x step) found ∙ ap (λ (b : Bool). shows (if b then Some step.after else None) step) (sym is)
          ∙ ap (λ (x : Option FlowEnd). chain_step l.config peer x (Arrives iss bytes)) (sym found);
      others = λ other apart. refl;
      same_config = refl;
    }
meets l peer iss bytes found true true is = refl
meets l peer iss bytes found true false is =
    let step : EndStep Both EndAnswer = flow_step (fresh_end l.config peer iss bytes) (Arrives iss bytes) in
    record {
      own = ap (λ (x : Option FlowEnd). shows x step) (own_insert peer step.after l.flows)
          ∙ ap (λ (b : Bool). shows (if b then Some step.after else None) step) (sym is)
          ∙ ap (λ (x : Option FlowEnd). chain_step l.config peer x (Arrives iss bytes)) (sym found);
      others = λ other apart. found_insert other peer step.after l.flows
          ∙ ap (λ (b : Bool). cond b (Some step.after) (end_of_peer l.flows other)) apart;
      same_config = refl;
    }

turn-so : (l : ListenerState) (peer : Peer) (found : Option FlowEnd) (deed : Deed) → end_of_peer l.flows peer ≡ found → AreInOrder l.flows
    → IsTurnSo l (record l { flows = (listens_by l peer found deed).flows })
    (record { peer = peer; deed = deed; frame = (listens_by l peer found deed).frame; told = (listens_by l peer found deed).told })
    (listens_by l peer found deed).told
turn-so l peer (Some e) deed is ordered = stands-step l peer deed e is ordered
turn-so l peer None (Arrives iss bytes) is ordered =
    meets l peer iss bytes is (is_begun (flow_step (fresh_end l.config peer iss bytes) (Arrives iss bytes)).after.state.phase) (is_table_full l) refl
turn-so l peer None (Calls call) is ordered =
    record {
      own = ap (λ (x : Option FlowEnd). nothing_shown x) is ∙ ap (λ (x : Option FlowEnd). chain_step l.config peer x (Calls call)) (sym is);
      others = λ other apart. refl;
      same_config = refl;
    }

order-with : (peer : Peer) (e : FlowEnd) (flows : Flows) (over : Bool) → AreInOrder flows
    → AreInOrder (if over then remove_entry (is_peer peer) flows else set_value (is_peer peer) flows e)
order-with peer e flows true ordered = in_order_remove (is_peer peer) flows ordered
order-with peer e flows false ordered = in_order_set (is_peer peer) flows e ordered

order-met : (l : ListenerState) (peer : Peer) (iss : ℕ) (bytes : List ℕ) (step : EndStep Both EndAnswer) (stays full : Bool) → AreInOrder l.flows
    → AreInOrder (fresh_met l peer iss bytes step stays full).flows
order-met l peer iss bytes step false full ordered = ordered
order-met l peer iss bytes step true true ordered = ordered
order-met l peer iss bytes step true false ordered = in_order_insert peer step.after l.flows ordered

order-so : (l : ListenerState) (peer : Peer) (found : Option FlowEnd) (deed : Deed) → AreInOrder l.flows → AreInOrder (listens_by l peer found deed).flows
order-so l peer (Some e) deed ordered =
    order-with peer (flow_step e deed).after l.flows (is_closed (flow_step e deed).after.state.phase) ordered
order-so l peer None (Arrives iss bytes) ordered =
    order-met l peer iss bytes (flow_step (fresh_end l.config peer iss bytes) (Arrives iss bytes))
    (is_begun (flow_step (fresh_end l.config peer iss bytes) (Arrives iss bytes)).after.state.phase) (is_table_full l) ordered
order-so l peer None (Calls call) ordered = ordered

pub computed_runs : WhatIsComputedIsARun
computed_runs l [] ordered = (refl, ordered)
computed_runs l (now ∷ later) ordered =
    let next : ListenerState = listening_after l now.0 now.1 in
    let rest = computed_runs next later (order-so l now.0 (end_of_peer l.flows now.0) now.1 ordered) in
    ((next, turn-so l now.0 (end_of_peer l.flows now.0) now.1 refl ordered, rest.0), rest.1)
