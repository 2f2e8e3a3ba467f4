-- A peer whose flow is forgotten has none.
use Rattle.dccp_states.specs.Phases.{is_closed}
use Rattle.std.proofs.Common.{◌≡◌, ◌⊎◌, inl, inr, refl, sym, ap, ◌∙◌, subst, ℕ, Bool, true, if◌then◌else◌, List, [], ◌∷◌, Option, Some, None, IfSome}
use Rattle.std.proofs.lemmas.Bool.{false≢true}
use Rattle.dccp_endpoint.specs.Calling.{aborts, fires}
use Rattle.dccp_endpoint.specs.End.{EndState, is_begun}
use Rattle.dccp_listener.proofs.Chains.{each_has_its_chain}
use Rattle.dccp_listener.proofs.Computing.{computed_runs, own_left}
use Rattle.dccp_listener.proofs.EndsStand.{ends_stand}
use Rattle.dccp_listener.specs.Chain.{Aborts, Calls, Fires, FlowCall, chain_step, flow_step}
use Rattle.dccp_listener.specs.Listens.{AreInOrder, listening_after, listens_by, turns_of}
use Rattle.dccp_listener.specs.Peers.{FlowEnd, ListenerState, end_of_peer}
use Rattle.dccp_listener.specs.Runs.{IsChain, PeerTurn, peer_turns}
use Rattle.dccp_listener.specs.Standing.{IsFlowOf}
use Rattle.dccp_listener.specs.declared.config.ListenConfig.{ListenConfig}
use Rattle.dccp_listener.specs.declared.peer.Peer.{Peer}
use Rattle.dccp_states.specs.declared.calls.Timer.TheVariants as timers
use Rattle.dccp_states.specs.declared.phase.Phase.{Phase}
use Rattle.dccp_states.specs.declared.phase.Phase.TheVariants as phases
use Rattle.dccp_uses.specs.declared.pace.Pace.{Pace}
use Rattle.feature_machine.specs.Lists.{IsLists}
use Rattle.dccp_server.specs.Rooms.{ForgottenHaveNone, room_begins}
use Rattle.dccp_server.specs.Serving.{ServedListener, TimedDeed, deeds_through, served_through, serving_begins}
use Rattle.dccp_server.proofs.Judging.{lives_change_nothing}
use Rattle.dccp_server.proofs.Through.{run_through}
use Rattle.dccp_server.proofs.Tying.{through_tied}

-- an end of a flow is CLOSED once it aborts, or is in TIMEWAIT still, and then its timer closes it

abbrev IsOverOrWaits : Phase → Type 0
IsOverOrWaits phase = (phase ≡ phases.Closed) ⊎ (phase ≡ phases.TimeWait)

aborted-by : (e : EndState) (phase : Phase) → e.phase ≡ phase → is_begun phase ≡ true → IsOverOrWaits (aborts e).after.phase
unfolding aborts
aborted-by e phases.Closed is stays = absurd (false≢true stays)
aborted-by e phases.Listen is stays = absurd (false≢true stays)
aborted-by e phases.Request is stays = rw is (inl refl)
aborted-by e phases.Respond is stays = rw is (inl refl)
aborted-by e phases.PartOpen is stays = rw is (inl refl)
aborted-by e phases.Open is stays = rw is (inl refl)
aborted-by e phases.CloseReq is stays = rw is (inl refl)
aborted-by e phases.Closing is stays = rw is (inl refl)
aborted-by e phases.TimeWait is stays = rw is (inr refl)

fired : (e : EndState) (in_flight : Bool) → e.phase ≡ phases.TimeWait → (fires e timers.TimeWait in_flight).after.phase ≡ phases.Closed
unfolding fires
fired e in_flight is = rw is refl

module _ (peer : Peer) where
  abbrev called : ListenerState → FlowCall → ListenerState
  called l call = listening_after l peer (Calls call)

  abbrev end_at : ListenerState → Option FlowEnd
  end_at l = end_of_peer l.flows peer

  -- a peer that has none has none after a call
  none-stays : (l : ListenerState) (call : FlowCall) → end_at l ≡ None → end_at (called l call) ≡ None
  none-stays l call none = ap (λ (found : Option FlowEnd). end_of_peer (listens_by l peer found (Calls call)).flows peer) none ∙ none

  -- one that is over goes, and any other stays
  over-goes : (l : ListenerState) (e : FlowEnd) (call : FlowCall) → AreInOrder l.flows → end_at l ≡ Some e
      → (flow_step e (Calls call)).after.state.phase ≡ phases.Closed → end_at (called l call) ≡ None
  over-goes l e call ordered is closed =
      own_left l peer e (Calls call) ordered is ∙ ap (λ (phase : Phase). if is_closed phase then None else Some (flow_step e (Calls call)).after) closed

  in-order : (l : ListenerState) (call : FlowCall) → AreInOrder l.flows → AreInOrder (called l call).flows
  in-order l call ordered = (computed_runs l ((peer, Calls call) ∷ []) ordered).1

  waits-goes : (l : ListenerState) (e : FlowEnd) → AreInOrder l.flows → end_at l ≡ Some e
      → (flow_step e (Calls Aborts)).after.state.phase ≡ phases.TimeWait → end_at (called (called l Aborts) (Fires timers.TimeWait)) ≡ None
  waits-goes l e ordered is waits =
      let next : FlowEnd = (flow_step e (Calls Aborts)).after in
      let stays : end_at (called l Aborts) ≡ Some next =
      own_left l peer e (Calls Aborts) ordered is ∙ ap (λ (phase : Phase). if is_closed phase then None else Some next) waits in
      over-goes (called l Aborts) next (Fires timers.TimeWait) (in-order l Aborts ordered) stays (fired next.state _ waits)

  gone-so : (l : ListenerState) (e : FlowEnd) → AreInOrder l.flows → end_at l ≡ Some e → IsOverOrWaits (aborts e.state).after.phase
      → end_at (called (called l Aborts) (Fires timers.TimeWait)) ≡ None
  gone-so l e ordered is (inl closed) = none-stays (called l Aborts) (Fires timers.TimeWait) (over-goes l e Aborts ordered is closed)
  gone-so l e ordered is (inr waits) = waits-goes l e ordered is waits

  gone-by : (l : ListenerState) (config : ListenConfig) (found : Option FlowEnd) → AreInOrder l.flows → end_at l ≡ found → IfSome found (IsFlowOf config peer)
      → end_at (called (called l Aborts) (Fires timers.TimeWait)) ≡ None
  gone-by l config None ordered is stands = none-stays (called l Aborts) (Fires timers.TimeWait) (none-stays l Aborts is)
  gone-by l config (Some e) ordered is stands = gone-so l e ordered is (aborted-by e.state e.state.phase refl stands.phase_is)

  -- the end that a chain leaves is a flow's
  chain-stands : (config : ListenConfig) (before after : Option FlowEnd) (turns : List PeerTurn) → IsLists config.lists
      → IfSome before (IsFlowOf config peer) → IsChain config peer before after turns → IfSome after (IsFlowOf config peer)
  chain-stands config before after [] lists stands is = subst (λ (x : Option FlowEnd). IfSome x (IsFlowOf config peer)) (sym is) stands
  chain-stands config before after (turn ∷ later) lists stands is =
      chain-stands config (chain_step config peer before turn.deed).after after later lists (ends_stand config peer before turn.deed lists stands) is.2

  stands-then : (config : ListenConfig) (pace : Pace) (all : List TimedDeed) → IsLists config.lists
      → IfSome (end_at (served_through (serving_begins config pace) all).listening) (IsFlowOf config peer)
  stands-then config pace all lists =
      let begun : ServedListener = serving_begins config pace in
      let turns = turns_of begun.listening (deeds_through begun all) in
      chain-stands config None (end_at (served_through begun all).listening) (peer_turns peer turns) lists tt
      (each_has_its_chain begun.listening (served_through begun all).listening turns (run_through config pace all) peer)

abbrev HasNone : ℕ → Peer → ServedListener → Type 0
HasNone now peer s = end_of_peer (listening_after (listening_after s.listening peer (Calls Aborts)) peer (Calls (Fires timers.TimeWait))).flows peer ≡ None

pub forgotten_have_none : ForgottenHaveNone
forgotten_have_none config pace all now peer lists =
    let s : ServedListener = served_through (serving_begins config pace) all in
    subst (HasNone now peer) (sym (lives_change_nothing (room_begins config pace) all))
    (gone-by peer s.listening config (end_of_peer s.listening.flows peer) (through_tied config pace all).ordered refl (stands-then peer config pace all lists))
