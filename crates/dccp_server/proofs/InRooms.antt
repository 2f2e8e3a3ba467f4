-- What a listener has of a peer, after a deed or a rule, is the flow that these leave.
use Rattle.dccp_states.specs.Phases.{is_closed}
use Rattle.std.proofs.Common.{◌≡◌, refl, sym, ap, ◌∙◌, subst, ℕ, Bool, true, false, if◌then◌else◌, Option, Some, None, is_some, IfSome}
use Rattle.std.specs.Option.{option_map}
use Rattle.std.specs.Prelude.{not, unwrap_or}
use Rattle.ccid_two.specs.Kinds.{Both}
use Rattle.dccp_listener.proofs.Computing.{own_left}
use Rattle.dccp_listener.proofs.InOrder.{own_insert}
use Rattle.dccp_listener.specs.Chain.{Arrives, Calls, Deed, FlowCall, flow_step}
use Rattle.dccp_listener.specs.Listens.{listening_after, listens, listens_by}
use Rattle.dccp_listener.specs.Peers.{FlowEnd, ListenerState, end_of_peer}
use Rattle.dccp_listener.specs.Runs.{CallTold}
use Rattle.dccp_listener.specs.declared.peer.Peer.{Peer}
use Rattle.dccp_uses.specs.Rules.{due_rule}
use Rattle.dccp_uses.specs.Timed.{TimedState}
use Rattle.dccp_uses.specs.Upkeeps.{upkeep_begins}
use Rattle.dccp_uses.specs.declared.upkeep.Upkeep.{Upkeep}
use Rattle.dccp_server.specs.Serving.{ServedListener, call_by_rule, deed_served, happening_by, is_refusal, listening_if, rule_followed, served_through, serving_begins, upkeep_at, upkeeps_then}
use Rattle.dccp_server.specs.Timing.{BeginsFlow, KeepsFlow, ListenersKeepFlows, flow_after, flow_kept, flow_ruled, flow_then, happening_at, timed_flow, until_over}
use Rattle.dccp_server.specs.Upkeeps.{arrived_so, called_so, next_upkeep, sight_if}
use Rattle.dccp_server.specs.declared.happening.FlowHappening.{FlowHappening}
use Rattle.dccp_server.specs.declared.happening.FlowHappening.TheVariants as happening
use Rattle.dccp_server.proofs.Refusing.{IsResting, resting}

module _ (s : ServedListener) (is : IsResting s) (peer : Peer) (e : FlowEnd) (found : end_of_peer s.listening.flows peer ≡ Some e) where
  abbrev IsLeft : ListenerState → FlowEnd → Type 0
  IsLeft after next = end_of_peer after.flows peer ≡ (if is_closed next.state.phase then None else Some next)

  pub left_by_deed : (deed : Deed) → IsLeft (listening_after s.listening peer deed) (flow_step e deed).after
  left_by_deed deed = own_left s.listening peer e deed is.tied.ordered found

  pub left_by_call : (call : Option FlowCall) → IsLeft (listening_if s.listening peer call) (flow_after e call)
  left_by_call None =
      let live : is_closed e.state.phase ≡ false =
      subst (λ (x : Option FlowEnd). IfSome x (λ e. is_closed e.state.phase ≡ false)) found (is.live peer)
      in
      found ∙ sym (ap (λ (over : Bool). if over then None else Some e) live)
  left_by_call (Some call) = left_by_deed (Calls call)

module _ (now : ℕ) (s : ServedListener) (peer : Peer) where
  abbrev u : Upkeep
  u = upkeep_at s.pace s.upkeeps peer

  -- what is kept of a peer that is left with this end or none
  abbrev left-with : FlowHappening → Option FlowEnd → Option (TimedState Both)
  left-with it end =
      option_map (λ (e : FlowEnd). timed_flow e (upkeep_at s.pace (upkeeps_then now s.pace s.upkeeps peer end u it) peer)) end

  put-at : (it : FlowHappening) (next : FlowEnd) → left-with it (Some next) ≡ Some (timed_flow next (next_upkeep now s.pace u it next))
  put-at it next =
      ap (λ (x : Option Upkeep). Some (timed_flow next (unwrap_or x (upkeep_begins s.pace)))) (own_insert peer (next_upkeep now s.pace u it next) s.upkeeps)

  kept-by : (it : FlowHappening) (next : FlowEnd) (over : Bool)
      → left-with it (if over then None else Some next) ≡ (if over then None else Some (timed_flow next (next_upkeep now s.pace u it next)))
  kept-by it next true = refl
  kept-by it next false = put-at it next

  happening-same : (e : FlowEnd) (deed : Deed) → end_of_peer s.listening.flows peer ≡ Some e → happening_by s peer deed ≡ happening_at e deed
  happening-same e (Arrives iss bytes) found =
      ap (λ (x : Option FlowEnd). arrived_so (sight_if x) (listens_by s.listening peer x (Arrives iss bytes)).told
      (not (is_some (listens_by s.listening peer x (Arrives iss bytes)).frame))) found
  happening-same e (Calls call) found = ap (λ (x : Option FlowEnd). called_so call (is_refusal (listens_by s.listening peer x (Calls call)).told)) found

  does-same : (is : IsResting s) (e : FlowEnd) (found : end_of_peer s.listening.flows peer ≡ Some e) (deed : Deed)
      → flow_kept (deed_served now s peer deed) peer ≡ until_over (flow_then now s.pace e u deed)
  does-same is e found deed =
      let next : FlowEnd = (flow_step e deed).after in
      ap (λ (it : FlowHappening). left-with it (end_of_peer (listening_after s.listening peer deed).flows peer)) (happening-same e deed found)
      ∙ ap (left-with (happening_at e deed)) (left_by_deed s is peer e found deed)
      ∙ kept-by (happening_at e deed) next (is_closed next.state.phase)

  follows-same : (is : IsResting s) (e : FlowEnd) (found : end_of_peer s.listening.flows peer ≡ Some e)
      → flow_kept (rule_followed now s peer) peer ≡ until_over (flow_ruled now s.pace e u (call_by_rule now u (Some e)))
  follows-same is e found =
      let it : FlowHappening = happening.Ruled (due_rule u.path now) in
      let call : Option FlowCall = call_by_rule now u (Some e) in
      let next : FlowEnd = flow_after e call in
      ap (λ (x : Option FlowEnd). left-with it (end_of_peer (listening_if s.listening peer (call_by_rule now u x)).flows peer)) found
      ∙ ap (left-with it) (left_by_call s is peer e found call)
      ∙ kept-by it next (is_closed next.state.phase)

  begins-same : end_of_peer s.listening.flows peer ≡ None → (e : FlowEnd) → BeginsFlow now s peer e
  begins-same none e iss bytes is =
      let after : ListenerState = listening_after s.listening peer (Arrives iss bytes) in
      let told : CallTold = (listens s.listening peer (Arrives iss bytes)).told in
      let silent : Bool = not (is_some (listens s.listening peer (Arrives iss bytes)).frame) in
      ap (λ (x : Option FlowEnd). left-with (arrived_so (sight_if x) told silent) (end_of_peer after.flows peer)) none
      ∙ ap (left-with happening.Opened) is ∙ put-at happening.Opened e

  keeps-by : IsResting s → (found : Option FlowEnd) → end_of_peer s.listening.flows peer ≡ found → KeepsFlow now s peer found
  keeps-by is None none = begins-same none
  keeps-by is (Some e) found = record { does = does-same is e found; follows = follows-same is e found }

pub keep_flows : ListenersKeepFlows
keep_flows config pace all now peer =
    let s : ServedListener = served_through (serving_begins config pace) all in
    keeps-by now s peer (resting config pace all) (end_of_peer s.listening.flows peer) refl
