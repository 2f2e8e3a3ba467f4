-- A call that is refused changes nothing, neither the listener nor what is kept of its flows.
use Rattle.dccp_states.specs.Phases.{is_closed}
use Rattle.std.proofs.Common.{◌≡◌, refl, sym, ap, ◌∙◌, subst, ℕ, Bool, true, false, if◌then◌else◌, List, [], ◌∷◌, Option, Some, None, is_some, IsSome, IfSome, Result, Ok, Err}
use Rattle.std.proofs.lemmas.Bool.{false≢true}
use Rattle.std.proofs.lemmas.Map.Steps.{set_value_same}
use Rattle.std.specs.BTreeMap.{insert_entry}
use Rattle.std.specs.List.Sorted.{IsStrictlySortedBy}
use Rattle.std.specs.Map.{keys_of, lookup, remove_entry, set_value}
use Rattle.std.specs.Prelude.{unwrap_or}
use Rattle.ccid_two.specs.Kinds.{Both, kinds_control}
use Rattle.congestion_trait.specs.Control.{may_send}
use Rattle.dccp_packets.specs.Outgoing.{Outgoing}
use Rattle.dccp_endpoint.specs.Calling.{aborts, aborts_in, closes, closes_in, is_asking_now, opens, opens_as, preferring, prefers, prefers_in, prefers_so, prefers_wish, send_fault, sends_payload, sends_unless}
use Rattle.dccp_endpoint.specs.Controlled.{with_control}
use Rattle.dccp_endpoint.specs.Early.{early_fault, sends_early}
use Rattle.dccp_endpoint.specs.End.{EndState, is_begun, is_connected}
use Rattle.dccp_endpoint.specs.Inputs.{Aborted, EndAnswer, Closed, Opened, Preferred, Sent, step_shown}
use Rattle.dccp_endpoint.specs.Steps.{Step}
use Rattle.dccp_endpoint.specs.Turns.{Key}
use Rattle.dccp_endpoint.specs.UserCalls.{seen_of}
use Rattle.dccp_states.specs.declared.phase.Phase.{Phase}
use Rattle.dccp_states.specs.declared.phase.Phase.TheVariants as phases
use Rattle.dccp_states.specs.declared.phase.Role.{Role}
use Rattle.dccp_states.specs.declared.phase.Role.TheVariants as roles
use Rattle.dccp_states.specs.declared.calls.SendFault.{SendFault}
use Rattle.feature_lists.specs.Wishes.{wish_of}
use Rattle.feature_lists.specs.declared.wishes.PreferFault.{PreferFault}
use Rattle.feature_lists.specs.declared.wishes.Wanted.{Wanted}
use Rattle.dccp_listener.proofs.Computing.{computed_runs}
use Rattle.dccp_listener.proofs.OnePeer.{one_peer}
use Rattle.dccp_listener.proofs.Searching.{none_taken}
use Rattle.dccp_listener.specs.Chain.{Aborts, Arrives, Calls, ChainStep, Closes, Deed, Fires, FlowCall, Opens, Prefers, Sends, SendsEarly, chain_step, flow_step, fresh_end}
use Rattle.dccp_listener.specs.Listens.{AreInOrder, listening_after, listens, listens_by, with_end}
use Rattle.dccp_listener.specs.Peers.{FlowEnd, Flows, ListenerState, end_of_peer, is_peer, peer_cmp}
use Rattle.dccp_listener.specs.Runs.{CallTold, HadNoMemory, IsTurnSo, Stepped, WasBusy}
use Rattle.dccp_listener.specs.declared.config.ListenConfig.{ListenConfig}
use Rattle.dccp_listener.specs.declared.peer.Peer.{Peer}
use Rattle.dccp_uses.specs.declared.pace.Pace.{Pace}
use Rattle.dccp_server.specs.Serving.{Does, PeerDeed, Follows, IsTied, RefusedCallsChangeNothing, ServedListener, Spends, TimedDeed, Upkeeps, call_due, is_refusal, listening_if, served, served_by, served_through, serving_begins, served_counted_by, upkeep_at, upkeeps_then}
use Rattle.dccp_uses.specs.Upkeeps.{upkeep_begins}
use Rattle.dccp_server.specs.Upkeeps.{called_so}
use Rattle.dccp_server.specs.declared.happening.FlowHappening.{FlowHappening}
use Rattle.dccp_server.specs.declared.happening.FlowHappening.TheVariants as happening
use Rattle.dccp_uses.specs.declared.upkeep.Upkeep.{Upkeep}
use Rattle.dccp_server.proofs.Tying.{begun_tied, tied_does}
use Rattle.server_peers.proofs.Among.{found_alike, none_from}
use Rattle.server_peers.proofs.Writing.{written_over}

-- an end that refuses a call is as it was

module _ (e : EndState) (c : Both) where
  abbrev after : Step EndAnswer → FlowEnd
  after step = (with_control kinds_control c step).after

  abbrev itself : FlowEnd
  itself = record { state = e; congestion = c }

  abbrev is-refused : Step EndAnswer → Type 0
  is-refused step = is_refusal (Stepped (Some (seen_of step.answer))) ≡ true

  close-same : (phase : Phase) → is-refused (step_shown Closed (closes_in e phase))
      → after (step_shown Closed (closes_in e phase)) ≡ itself
  close-same phases.Closed is = refl
  close-same phases.Listen is = refl
  close-same phases.Request is = refl
  close-same phases.Respond is = refl
  close-same phases.PartOpen is = absurd (false≢true is)
  close-same phases.Open is = absurd (false≢true is)
  close-same phases.CloseReq is = refl
  close-same phases.Closing is = refl
  close-same phases.TimeWait is = refl

  abort-same : (phase : Phase) → is-refused (step_shown Aborted (aborts_in e phase)) → after (step_shown Aborted (aborts_in e phase)) ≡ itself
  abort-same phases.Closed is = refl
  abort-same phases.Listen is = refl
  abort-same phases.Request is = absurd (false≢true is)
  abort-same phases.Respond is = absurd (false≢true is)
  abort-same phases.PartOpen is = absurd (false≢true is)
  abort-same phases.Open is = absurd (false≢true is)
  abort-same phases.CloseReq is = absurd (false≢true is)
  abort-same phases.Closing is = absurd (false≢true is)
  abort-same phases.TimeWait is = refl

  send-same : (payload : List ℕ) (acknowledges : Bool) (fault : Option SendFault) → is-refused (step_shown Sent (sends_unless e payload acknowledges fault))
      → after (step_shown Sent (sends_unless e payload acknowledges fault)) ≡ itself
  send-same payload acknowledges (Some fault) is = refl
  send-same payload true None is = absurd (false≢true is)
  send-same payload false None is = absurd (false≢true is)

  open-same : (role : Role) (opened : Bool) → is-refused (step_shown Opened (opens_as e role opened)) → after (step_shown Opened (opens_as e role opened)) ≡ itself
  open-same roles.Client true is = refl
  open-same roles.Client false is = absurd (false≢true is)
  open-same roles.Server opened is = refl

  asked-same : (k : Key) (now : Bool) (wish : Wanted) → is-refused (step_shown Preferred (prefers_so (preferring e k wish) k now))
      → after (step_shown Preferred (prefers_so (preferring e k wish) k now)) ≡ itself
  asked-same k true wish is = absurd (false≢true is)
  asked-same k false wish is = absurd (false≢true is)

  wish-same : (k : Key) (wish : Result Wanted PreferFault) → is-refused (step_shown Preferred (prefers_wish e k wish))
      → after (step_shown Preferred (prefers_wish e k wish)) ≡ itself
  wish-same k (Ok wish) is = asked-same k (is_asking_now e k wish) wish is
  wish-same k (Err fault) is = refl

  prefer-same : (connected : Bool) (k : Key) (values : List ℕ) → is-refused (step_shown Preferred (prefers_in e connected k values))
      → after (step_shown Preferred (prefers_in e connected k values)) ≡ itself
  prefer-same true k values is = wish-same k (wish_of k.0 k.1 values) is
  prefer-same false k values is = refl

pub refused_same : (e : FlowEnd) (call : FlowCall) → is_refusal (Stepped (Some (seen_of (flow_step e (Calls call)).answer))) ≡ true
    → (flow_step e (Calls call)).after ≡ e
unfolding aborts closes opens prefers sends_early sends_payload
refused_same e (Sends payload) is = send-same e.state e.congestion payload e.state.owed (send_fault e.state payload (may_send kinds_control e.congestion)) is
refused_same e (SendsEarly payload) is = send-same e.state e.congestion payload true (early_fault e.state payload (may_send kinds_control e.congestion)) is
refused_same e (Fires timer) is = absurd (false≢true is)
refused_same e Opens is = open-same e.state e.congestion e.state.config.role e.state.opened is
refused_same e Closes is = close-same e.state e.congestion e.state.phase is
refused_same e Aborts is = abort-same e.state e.congestion e.state.phase is
refused_same e (Prefers feature place values) is = prefer-same e.state e.congestion (is_connected e.state.phase) (feature, place) values is

-- what is there is written over by itself

put-back : (peer : Peer) (v : Upkeep) (kept : Upkeeps) → IsStrictlySortedBy peer_cmp (keys_of kept) → lookup (is_peer peer) kept ≡ Some v
    → insert_entry peer_cmp kept peer v ≡ kept
put-back peer v kept ordered found = sym (written_over peer v kept ordered (ap is_some found)) ∙ set_value_same (is_peer peer) kept v found

found-so : (x : Option Upkeep) (none : Upkeep) → IsSome x → x ≡ Some (unwrap_or x none)
found-so (Some v) none is = refl
found-so None none is = absurd (false≢true is)

-- In each listener no flow's end is CLOSED.

abbrev IsLive : FlowEnd → Type 0
IsLive e = is_closed e.state.phase ≡ false

abbrev pub AllLive : ListenerState → Type 0
AllLive l = (q : Peer) → IfSome (end_of_peer l.flows q) (λ e. is_closed e.state.phase ≡ false)

live-until : (e : FlowEnd) (over : Bool) → is_closed e.state.phase ≡ over → IfSome (if over then None else Some e) IsLive
live-until e true is = tt
live-until e false is = is

flow-lives : (phase : Phase) → is_begun phase ≡ true → is_closed phase ≡ false
flow-lives phases.Closed is = absurd (false≢true is)
flow-lives phases.Listen is = refl
flow-lives phases.Request is = refl
flow-lives phases.Respond is = refl
flow-lives phases.PartOpen is = refl
flow-lives phases.Open is = refl
flow-lives phases.CloseReq is = refl
flow-lives phases.Closing is = refl
flow-lives phases.TimeWait is = refl

live-if : (e : FlowEnd) (stays : Bool) → is_begun e.state.phase ≡ stays → IfSome (if stays then Some e else None) IsLive
live-if e true is = flow-lives e.state.phase is
live-if e false is = tt

chain-lives : (config : ListenConfig) (peer : Peer) (before : Option FlowEnd) (deed : Deed) → IfSome (chain_step config peer before deed).after IsLive
chain-lives config peer (Some e) deed =
    let next : FlowEnd = (flow_step e deed).after in
    live-until next (is_closed next.state.phase) refl
chain-lives config peer None (Arrives iss bytes) =
    let next : FlowEnd = (flow_step (fresh_end config peer iss bytes) (Arrives iss bytes)).after in
    live-if next (is_begun next.state.phase) refl
chain-lives config peer None (Calls call) = tt

module _ (peer : Peer) (l : ListenerState) where
  by-peer : AllLive l → (after : ListenerState) → IfSome (end_of_peer after.flows peer) IsLive
      → ((q : Peer) → is_peer peer q ≡ false → end_of_peer after.flows q ≡ end_of_peer l.flows q)
      → (q : Peer) (same : Bool) → is_peer peer q ≡ same → IfSome (end_of_peer after.flows q) IsLive
  by-peer all after own others q true is = subst (λ (p : Peer). IfSome (end_of_peer after.flows p) IsLive) (one_peer peer q is) own
  by-peer all after own others q false is = subst (λ (x : Option FlowEnd). IfSome x IsLive) (sym (others q is)) (all q)

  turn-lives : AllLive l → (after : ListenerState) (deed : Deed) (frame : Option Outgoing) (turned told : CallTold)
      → IsTurnSo l after (record { peer = peer; deed = deed; frame = frame; told = turned }) told → AllLive after
  turn-lives all after deed frame turned (Stepped it) step q =
      by-peer all after
      (subst (λ (x : Option FlowEnd). IfSome x IsLive) (sym (ap (λ (s : ChainStep). s.after) step.own))
      (chain-lives l.config peer (end_of_peer l.flows peer) deed))
      step.others q (is_peer peer q) refl
  turn-lives all after deed frame turned WasBusy same q = subst (λ (x : ListenerState). IfSome (end_of_peer x.flows q) IsLive) (sym same) (all q)
  turn-lives all after deed frame turned HadNoMemory same q = subst (λ (x : ListenerState). IfSome (end_of_peer x.flows q) IsLive) (sym same) (all q)

deed-lives : (l : ListenerState) (peer : Peer) (deed : Deed) → AllLive l → AreInOrder l.flows → AllLive (listening_after l peer deed)
deed-lives l peer deed all ordered =
    let run = computed_runs l ((peer, deed) ∷ []) ordered in
    subst AllLive (sym run.0.2)
    (turn-lives peer l all run.0.0 deed (listens l peer deed).frame (listens l peer deed).told (listens l peer deed).told run.0.1)

call-lives : (l : ListenerState) (peer : Peer) (call : Option FlowCall) → AllLive l → AreInOrder l.flows → AllLive (listening_if l peer call)
call-lives l peer None all ordered = all
call-lives l peer (Some call) all ordered = deed-lives l peer (Calls call) all ordered

spent-lives : (now : ℕ) (s : ServedListener) (peer : Peer) (bytes : List ℕ) (u : Upkeep) (found : Option FlowEnd) → AllLive s.listening
    → AllLive (served_counted_by now s peer bytes u found).listening
spent-lives now s peer bytes u None all = all
spent-lives now s peer bytes u (Some e) all = all

-- what is kept belongs to the flows, in order, and none of these is over
pub record IsResting (s : ServedListener) : Type 0 where
  pub tied : IsTied s
  pub live : AllLive s.listening

live-does : (now : ℕ) (s : ServedListener) (peer : Peer) (doing : PeerDeed) → IsResting s → AllLive (served_by now s peer doing).listening
live-does now s peer (Does deed) is = deed-lives s.listening peer deed is.live is.tied.ordered
live-does now s peer (Spends bytes) is =
    spent-lives now s peer bytes (upkeep_at s.pace s.upkeeps peer) (end_of_peer s.listening.flows peer) is.live
live-does now s peer Follows is = call-lives s.listening peer (call_due now s peer) is.live is.tied.ordered

pub rests_after : (now : ℕ) (s : ServedListener) (peer : Peer) (doing : PeerDeed) → IsResting s → IsResting (served_by now s peer doing)
rests_after now s peer doing is = record { tied = tied_does now s peer doing is.tied; live = live-does now s peer doing is }

pub rests_through : (s : ServedListener) (all : List TimedDeed) → IsResting s → IsResting (served_through s all)
rests_through s [] is = is
rests_through s (it ∷ later) is = rests_through (served_by it.now s it.peer it.doing) later (rests_after it.now s it.peer it.doing is)

pub resting : (config : ListenConfig) (pace : Pace) (all : List TimedDeed) → IsResting (served_through (serving_begins config pace) all)
resting config pace all = rests_through (serving_begins config pace) all (record { tied = begun_tied config pace; live = λ q. tt })

-- what is kept of a peer that has an end
pub kept_at : (s : ServedListener) (peer : Peer) → IsTied s → IsSome (end_of_peer s.listening.flows peer)
    → lookup (is_peer peer) s.upkeeps ≡ Some (upkeep_at s.pace s.upkeeps peer)
kept_at s peer tied there =
    found-so (lookup (is_peer peer) s.upkeeps) (upkeep_begins s.pace)
    (found_alike peer s.upkeeps s.listening.flows tied.same_peers ∙ there)

module _ (now : ℕ) (s : ServedListener) (peer : Peer) (call : FlowCall) (is : IsResting s) where
  abbrev u : Upkeep
  u = upkeep_at s.pace s.upkeeps peer

  abbrev by : Flows → FlowHappening → ServedListener
  by flows it = served (record s.listening { flows = flows }) s.pace (upkeeps_then now s.pace s.upkeeps peer (end_of_peer flows peer) u it)

  none-kept : end_of_peer s.listening.flows peer ≡ None → lookup (is_peer peer) s.upkeeps ≡ None
  none-kept none =
      none_from (lookup (is_peer peer) s.upkeeps) (found_alike peer s.upkeeps s.listening.flows is.tied.same_peers ∙ ap is_some none)

  refused : (found : Option FlowEnd) → end_of_peer s.listening.flows peer ≡ found → is_refusal (listens_by s.listening peer found (Calls call)).told ≡ true
      → by (listens_by s.listening peer found (Calls call)).flows (called_so call (is_refusal (listens_by s.listening peer found (Calls call)).told)) ≡ s
  refused None none told =
      ap (λ (x : Option FlowEnd). served s.listening s.pace (upkeeps_then now s.pace s.upkeeps peer x u happening.Refused)) none
      ∙ ap (λ (t : Upkeeps). served s.listening s.pace t) (none_taken peer s.upkeeps (none-kept none))
  refused (Some e) found told =
      let live : is_closed e.state.phase ≡ false = subst (λ (x : Option FlowEnd). IfSome x IsLive) found (is.live peer) in
      let flows : Flows = (listens_by s.listening peer (Some e) (Calls call)).flows in
      let kept : flows ≡ s.listening.flows =
      ap (λ (x : FlowEnd). with_end s.listening.flows peer x) (refused_same e call told)
      ∙ ap (λ (b : Bool). if b then remove_entry (is_peer peer) s.listening.flows else set_value (is_peer peer) s.listening.flows e) live
      ∙ set_value_same (is_peer peer) s.listening.flows e found
      in
      ap (λ (b : Bool). by flows (called_so call b)) told ∙ ap (λ (f : Flows). by f happening.Refused) kept
      ∙ ap (λ (x : Option FlowEnd). served s.listening s.pace (upkeeps_then now s.pace s.upkeeps peer x u happening.Refused)) found
      ∙ ap (λ (t : Upkeeps). served s.listening s.pace t)
      (put-back peer u s.upkeeps (subst (IsStrictlySortedBy peer_cmp) (sym is.tied.same_peers) is.tied.ordered) (kept_at s peer is.tied (ap is_some found)))

pub refused_change_nothing : RefusedCallsChangeNothing
refused_change_nothing config pace all now peer call told =
    let s : ServedListener = served_through (serving_begins config pace) all in
    refused now s peer call (resting config pace all) (end_of_peer s.listening.flows peer) refl told
