-- What is kept of a flow is what an end with its timers would keep.
use Rattle.std.proofs.Common.{◌≡◌, refl, sym, ap, ◌∙◌, ℕ, Bool, true, false, List, Some, Result, Ok, Err}
use Rattle.ccid_two.specs.Kinds.{Both, kinds_control}
use Rattle.congestion_trait.specs.Control.{may_send}
use Rattle.dccp_endpoint.specs.Calling.{aborts, closes, opens, opens_as, prefers}
use Rattle.dccp_endpoint.specs.Controlled.{EndStep, with_control}
use Rattle.dccp_endpoint.specs.Early.{is_part_open, sends_by}
use Rattle.dccp_endpoint.specs.UserCalls.{seen_of_call}
use Rattle.dccp_listener.specs.Chain.{Aborts, Calls, Closes, FlowCall, Opens, Prefers, flow_step}
use Rattle.dccp_listener.specs.Peers.{FlowEnd}
use Rattle.dccp_listener.specs.Runs.{Stepped}
use Rattle.dccp_states.specs.Refusals.{refusal_of, send_refusal_of}
use Rattle.dccp_states.specs.declared.calls.OpenFault.{OpenFault}
use Rattle.dccp_states.specs.declared.calls.OpenFault.TheVariants.{NotFresh}
use Rattle.dccp_states.specs.declared.phase.Role.{Role}
use Rattle.dccp_states.specs.declared.phase.Role.TheVariants.{Server}
use Rattle.dccp_states.specs.declared.seen.Refusal.{Refusal}
use Rattle.dccp_states.specs.declared.seen.Refusal.TheVariants as refusal
use Rattle.dccp_uses.specs.Rules.{due_rule}
use Rattle.dccp_uses.specs.Timed.{TimedState, obeys, timed_called, timed_calls, timed_opens}
use Rattle.dccp_uses.specs.Upkeeps.{kept_called, kept_closed, kept_opened, kept_preferred, kept_ruled, kept_sent}
use Rattle.dccp_uses.specs.declared.pace.Pace.{Pace}
use Rattle.dccp_uses.specs.declared.rule.Rule.{Rule}
use Rattle.dccp_uses.specs.declared.rule.Rule.TheVariants as rules
use Rattle.dccp_uses.specs.declared.upkeep.Upkeep.{Upkeep}
use Rattle.dccp_server.specs.Serving.{is_refusal}
use Rattle.dccp_server.specs.Timing.{FlowsAreTimedEnds, call_for_data, flow_after, flow_then, refuses_call, timed_flow}
use Rattle.dccp_server.specs.Upkeeps.{call_for_rule, call_happening, called_so, next_upkeep}
use Rattle.dccp_server.proofs.Refusing.{refused_same}

pub same_end : (now : ℕ) (e : FlowEnd) (u : Upkeep) (rule : Rule)
    → flow_after e (call_for_rule rule u.path.aim (Some e)) ≡ (obeys kinds_control now (timed_flow e u) rule).timed.end
same_end now e u rules.Nothing = refl
same_end now e u rules.GiveUp = refl
same_end now e u rules.TimeOut = refl
same_end now e u rules.Probe = refl
same_end now e u rules.Ask = refl
same_end now e u rules.Ratio = refl

pub same_kept : (now : ℕ) (e : FlowEnd) (u : Upkeep) (rule : Rule)
    → kept_ruled kinds_control now u rule (flow_after e (call_for_rule rule u.path.aim (Some e)))
    ≡ (obeys kinds_control now (timed_flow e u) rule).timed.upkeep
same_kept now e u rule = ap (λ (it : FlowEnd). kept_ruled kinds_control now u rule it) (same_end now e u rule)

module _ (now : ℕ) (pace : Pace) (e : FlowEnd) (u : Upkeep) where
  abbrev s : TimedState Both
  s = timed_flow e u

  abbrev by : FlowCall → Bool → TimedState Both
  by call is-refused = timed_flow (flow_step e (Calls call)).after (next_upkeep now pace u (called_so call is-refused) (flow_step e (Calls call)).after)

  stays : (call : FlowCall) → refuses_call e call ≡ true → flow_then now pace e u (Calls call) ≡ s
  stays call is = ap (by call) is ∙ ap (λ (x : FlowEnd). timed_flow x u) (refused_same e call is)

  -- so a call is that of an end with its timers, by the answer of its step
  same-by : {Fault : Type 0} (call : FlowCall) (named : Fault → Refusal) (kept : FlowEnd → Upkeep) (step : EndStep Both (Result (Unit {0}) Fault))
      (answer : Result (Unit {0}) Fault) → (flow_step e (Calls call)).after ≡ step.after
      → refuses_call e call ≡ is_refusal (Stepped (Some (seen_of_call named answer)))
      → ((x : FlowEnd) → next_upkeep now pace u (call_happening call) x ≡ kept x)
      → flow_then now pace e u (Calls call) ≡ (timed_called s (kept step.after) step answer).timed
  same-by call named kept step (Ok done) after is taken =
      ap (by call) is ∙ ap (λ (x : FlowEnd). timed_flow x (next_upkeep now pace u (call_happening call) x)) after
      ∙ ap (timed_flow step.after) (taken step.after)
  same-by call named kept step (Err fault) after is taken = stays call is

  open-refused : e.state.config.role ≡ Server → (opens e.state).answer ≡ Err NotFresh
  unfolding opens
  open-refused is = ap (λ (role : Role). (opens_as e.state role e.state.opened).answer) is

  opens-same : e.state.config.role ≡ Server → flow_then now pace e u (Calls Opens) ≡ (timed_opens kinds_control now s).timed
  opens-same is =
      let told : Result (Unit {0}) OpenFault → Bool = λ r. is_refusal (Stepped (Some (seen_of_call (λ (fault : OpenFault). refusal.NotFresh) r))) in
      let step : EndStep Both (Result (Unit {0}) OpenFault) = with_control kinds_control e.congestion (opens e.state) in
      stays Opens (ap told (open-refused is))
      ∙ sym (ap (λ (r : Result (Unit {0}) OpenFault). (timed_called s (kept_opened kinds_control now u step.after) step r).timed) (open-refused is))

  sends-same : (payload : List ℕ) (early : Bool)
      → flow_then now pace e u (Calls (call_for_data early payload))
      ≡ (timed_calls s (kept_sent kinds_control now)
      (with_control kinds_control e.congestion (sends_by early e.state payload (may_send kinds_control e.congestion)))).timed
  sends-same payload true =
      let step = with_control kinds_control e.congestion (sends_by true e.state payload (may_send kinds_control e.congestion)) in
      same-by (call_for_data true payload) send_refusal_of (kept_sent kinds_control now u) step step.answer refl refl (λ x. refl)
  sends-same payload false =
      let step = with_control kinds_control e.congestion (sends_by false e.state payload (may_send kinds_control e.congestion)) in
      same-by (call_for_data false payload) send_refusal_of (kept_sent kinds_control now u) step step.answer refl refl (λ x. refl)

pub timed_ends : FlowsAreTimedEnds
timed_ends now pace e u =
    let closed = with_control kinds_control e.congestion (closes e.state) in
    let aborted = with_control kinds_control e.congestion (aborts e.state) in
    record {
      begins = refl;
      hears = λ iss bytes. refl;
      fires = λ timer. refl;
      opens = opens-same now pace e u;
      sends = λ payload. sends-same now pace e u payload (is_part_open e.state.phase);
      prefers = λ feature place values.
          let step = with_control kinds_control e.congestion (prefers e.state (feature, place) values) in
          same-by now pace e u (Prefers feature place values) refusal_of (kept_preferred kinds_control now u) step step.answer refl refl (λ x. refl);
      closes = same-by now pace e u Closes (λ fault. refusal.NotOpen) (kept_closed kinds_control now u) closed closed.answer refl refl (λ x. refl);
      aborts = same-by now pace e u Aborts (λ fault. refusal.NotLive) (kept_called kinds_control now u) aborted aborted.answer refl refl (λ x. refl);
      refuses = stays now pace e u;
      follows = ap (λ (it : FlowEnd). timed_flow it (kept_ruled kinds_control now u (due_rule u.path now) it)) (same_end now e u (due_rule u.path now));
    }
