-- What is kept of a peer goes on from its place as the definitions say.
use Rattle.std.proofs.Common.{◌≡◌, ap, ◌∙◌, ℕ, Bool, List, Option, is_some, not}
use Rattle.dccp_packets.specs.Outgoing.{Outgoing}
use Rattle.dccp_listener.specs.Chain.{Arrives, Calls, FlowCall}
use Rattle.dccp_listener.specs.Listens.{listening_after, listens}
use Rattle.dccp_listener.specs.Peers.{FlowEnd, ListenerState, end_of_peer}
use Rattle.dccp_listener.specs.Runs.{CallTold}
use Rattle.dccp_listener.specs.declared.peer.Peer.{Peer}
use Rattle.dccp_uses.specs.Rules.{due_rule}
use Rattle.dccp_uses.specs.declared.pace.Pace.{Pace}
use Rattle.dccp_uses.specs.declared.rule.Rule.{Rule}
use Rattle.dccp_uses.specs.declared.sight.Sight.{Sight}
use Rattle.dccp_server.specs.Upkeeps.{arrived_so, call_for_rule, called_so, next_upkeep, sight_if}
use Rattle.dccp_server.specs.Serving.{IsDone, ServedListener, Upkeeps, call_by_rule, call_due, deed_served, rule_followed, frame_if, happening_by, is_refusal, listening_if, served, serves_on, upkeep_at, upkeeps_then}
use Rattle.server_peers.specs.Places.{IsPlaced}
use Rattle.dccp_server.specs.declared.happening.FlowHappening.{FlowHappening}
use Rattle.dccp_server.specs.declared.happening.FlowHappening.TheVariants as happening
use Rattle.dccp_uses.specs.declared.upkeep.Upkeep.{Upkeep}
use Rattle.server_peers.proofs.Placing.{then_placed}

module _ (now : ℕ) (before : ListenerState) (pace : Pace) (kept then' : Upkeeps) (peer : Peer) where
  abbrev s : ServedListener
  s = served before pace kept

  -- the listener is this, and what is kept went on
  pub goes_on : (after next : ListenerState) (u : Upkeep) (it happening : FlowHappening) → after ≡ next
      → then' ≡ upkeeps_then now pace kept peer (end_of_peer after.flows peer) u it → u ≡ upkeep_at pace kept peer → it ≡ happening
      → served after pace then' ≡ serves_on now s next peer happening
  goes_on after next u it happening is-next is-then is-u is-it =
      ap (λ (t : Upkeeps). served after pace t) is-then
      ∙ ap (λ (l : ListenerState). served l pace (upkeeps_then now pace kept peer (end_of_peer l.flows peer) u it)) is-next
      ∙ ap (λ (v : Upkeep). served next pace (upkeeps_then now pace kept peer (end_of_peer next.flows peer) v it)) is-u
      ∙ ap (λ (h : FlowHappening). serves_on now s next peer h) is-it

  -- a datagram was heard, once there was a place
  pub arrival_goes_on : (fresh : Upkeep) (had : Bool) (placed : Upkeeps) (after : ListenerState) (iss : ℕ) (bytes : List ℕ) (frame : Option Outgoing)
      (told : CallTold) (u : Upkeep) (it : FlowHappening) (was : Option Sight) (silent : Bool)
      → IsPlaced fresh had kept placed peer → IsDone before after peer (Arrives iss bytes) frame told
      → then' ≡ upkeeps_then now pace placed peer (end_of_peer after.flows peer) u it → u ≡ upkeep_at pace kept peer
      → was ≡ sight_if (end_of_peer before.flows peer) → silent ≡ not (is_some frame) → it ≡ arrived_so was told silent
      → served after pace then' ≡ deed_served now s peer (Arrives iss bytes)
  arrival_goes_on fresh had placed after iss bytes frame told u it was silent is-placed done is-then is-u is-was is-silent is-it =
      goes_on after (listening_after before peer (Arrives iss bytes)) u it (happening_by s peer (Arrives iss bytes)) done.0
      (is-then ∙ then_placed fresh had kept placed peer (next_upkeep now pace u it) (end_of_peer after.flows peer) is-placed) is-u
      (is-it ∙ ap (λ (x : Option Sight). arrived_so x told silent) is-was
      ∙ ap (λ (t : CallTold). arrived_so (sight_if (end_of_peer before.flows peer)) t silent) done.2
      ∙ ap (λ (b : Bool). arrived_so (sight_if (end_of_peer before.flows peer)) (listens before peer (Arrives iss bytes)).told b)
      (is-silent ∙ ap (λ (f : Option Outgoing). not (is_some f)) done.1))

  pub call_goes_on : (after : ListenerState) (call : FlowCall) (frame : Option Outgoing) (told : CallTold) (u : Upkeep) (it : FlowHappening)
      → IsDone before after peer (Calls call) frame told
      → then' ≡ upkeeps_then now pace kept peer (end_of_peer after.flows peer) u it → u ≡ upkeep_at pace kept peer
      → it ≡ called_so call (is_refusal told)
      → served after pace then' ≡ deed_served now s peer (Calls call)
  call_goes_on after call frame told u it done is-then is-u is-it =
      goes_on after (listening_after before peer (Calls call)) u it (happening_by s peer (Calls call)) done.0 is-then is-u
      (is-it ∙ ap (λ (t : CallTold). called_so call (is_refusal t)) done.2)

  abbrev found : Option FlowEnd
  found = end_of_peer before.flows peer

  -- what a rule has the peer's end do, by what is kept of it
  same-call : (u : Upkeep) (rule : Rule) → u ≡ upkeep_at pace kept peer → rule ≡ due_rule u.path now
      → call_for_rule rule u.path.aim found ≡ call_due now s peer
  same-call u rule is-u is-rule =
      ap (λ (r : Rule). call_for_rule r u.path.aim found) is-rule ∙ ap (λ (v : Upkeep). call_by_rule now v found) is-u

  pub rule_goes_on : (after : ListenerState) (u : Upkeep) (rule : Rule)
      → after ≡ listening_if before peer (call_for_rule rule u.path.aim found)
      → then' ≡ upkeeps_then now pace kept peer (end_of_peer after.flows peer) u (happening.Ruled rule) → u ≡ upkeep_at pace kept peer
      → rule ≡ due_rule u.path now → served after pace then' ≡ rule_followed now s peer
  rule_goes_on after u rule is-after is-then is-u is-rule =
      goes_on after (listening_if before peer (call_due now s peer)) u (happening.Ruled rule)
      (happening.Ruled (due_rule (upkeep_at pace kept peer).path now))
      (is-after ∙ ap (listening_if before peer) (same-call u rule is-u is-rule)) is-then is-u
      (ap (λ (r : Rule). happening.Ruled r) is-rule ∙ ap (λ (v : Upkeep). happening.Ruled (due_rule v.path now)) is-u)

  pub rule_sends : (frame : Option Outgoing) (u : Upkeep) (rule : Rule) → frame ≡ frame_if before peer (call_for_rule rule u.path.aim found)
      → u ≡ upkeep_at pace kept peer → rule ≡ due_rule u.path now → frame ≡ frame_if before peer (call_due now s peer)
  rule_sends frame u rule is is-u is-rule = is ∙ ap (frame_if before peer) (same-call u rule is-u is-rule)
