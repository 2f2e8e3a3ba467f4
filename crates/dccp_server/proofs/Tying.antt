-- The peers of which something is kept are those that have a flow, and who has a flow has a place for it.
use Rattle.dccp_states.specs.Phases.{is_closed}
use Rattle.std.proofs.Common.{◌≡◌, refl, sym, ap, ◌∙◌, subst, ℕ, Bool, true, false, cond, if◌then◌else◌, List, [], ◌∷◌, Option, Some, None, is_some, IsSome, inl, inr, Ordering, Less, Equal, Greater}
use Rattle.std.proofs.lemmas.Bool.{false≢true}
use Rattle.std.proofs.lemmas.Map.{keys-set_value}
use Rattle.std.specs.BTreeMap.{insert_entry}
use Rattle.std.specs.List.Sorted.{IsStrictlySortedBy}
use Rattle.std.specs.Map.{keys_of, lookup, remove_entry, set_value}
use Rattle.std.specs.Ordering.{match_ordering}
use Rattle.ccid_two.specs.Kinds.{Both}
use Rattle.dccp_endpoint.specs.End.{is_begun}
use Rattle.dccp_endpoint.specs.Controlled.{EndStep}
use Rattle.dccp_endpoint.specs.Inputs.{EndAnswer}
use Rattle.dccp_listener.proofs.Computing.{computed_runs, own_after}
use Rattle.dccp_listener.proofs.InOrder.{own_insert}
use Rattle.dccp_listener.proofs.Searching.{none_taken}
use Rattle.dccp_listener.specs.Chain.{Arrives, Calls, Deed, FlowCall, flow_step, fresh_end}
use Rattle.dccp_listener.specs.Listens.{AreInOrder, fresh_met, is_table_full, listening_after, listens_by}
use Rattle.dccp_listener.specs.Peers.{FlowEnd, Flows, ListenerState, end_of_peer, is_peer, peer_cmp}
use Rattle.dccp_listener.specs.declared.config.ListenConfig.{ListenConfig}
use Rattle.dccp_listener.specs.declared.peer.Peer.{Peer}
use Rattle.dccp_uses.specs.Rules.{due_rule}
use Rattle.dccp_uses.specs.declared.pace.Pace.{Pace}
use Rattle.server_peers.specs.Places.{HasPlaceIf, kept_then}
use Rattle.dccp_server.specs.Serving.{CallsWantNoMemory, Does, PeerDeed, Follows, IsTied, OnlyStrangersWantMemory, ServedListener, Spends, TimedDeed, Upkeeps, UpkeepsStandWithFlows, WantsMemory, call_due, upkeep_counted, deed_served, happening_by, listening_if, served, served_by, served_through, serves_on, serving_begins, served_counted_by, upkeep_at}
use Rattle.dccp_server.specs.Upkeeps.{next_upkeep}
use Rattle.dccp_server.specs.declared.happening.FlowHappening.{FlowHappening}
use Rattle.dccp_server.specs.declared.happening.FlowHappening.TheVariants as happening
use Rattle.dccp_uses.specs.declared.upkeep.Upkeep.{Upkeep}
use Rattle.dccp_server.proofs.Through.{none_in_order}
use Rattle.server_peers.proofs.Among.{found_alike, none_from}
use Rattle.server_peers.proofs.Writing.{written_over}

-- peers with one less, and with one more

without : (Peer → Bool) → List Peer → List Peer
without test [] = []
without test (k ∷ ks) = cond (test k) ks (k ∷ without test ks)

with-peer : List Peer → Peer → List Peer
with-peer [] peer = peer ∷ []
with-peer (k ∷ ks) peer = match_ordering (peer_cmp peer k) (peer ∷ k ∷ ks) (k ∷ ks) (k ∷ with-peer ks peer)

module _ {X : Type 0} where
  without-by : (x : Peer × X) (xs rest : List (Peer × X)) (ks : List Peer) (here : Bool) → keys_of rest ≡ ks
      → keys_of (cond here xs (x ∷ rest)) ≡ cond here (keys_of xs) (x.0 ∷ ks)
  without-by x xs rest ks true is = refl
  without-by x xs rest ks false is = ap (λ (l : List Peer). x.0 ∷ l) is

  keys-without : (test : Peer → Bool) (xs : List (Peer × X)) → keys_of (remove_entry test xs) ≡ without test (keys_of xs)
  unfolding without
  keys-without test [] = refl
  keys-without test (x ∷ xs) = without-by x xs (remove_entry test xs) (without test (keys_of xs)) (test x.0) (keys-without test xs)

  with-by : (peer : Peer) (v : X) (x : Peer × X) (xs rest : List (Peer × X)) (ks : List Peer) (o : Ordering) → keys_of rest ≡ ks
      → keys_of (match_ordering o ((peer, v) ∷ x ∷ xs) ((x.0, v) ∷ xs) (x ∷ rest)) ≡ match_ordering o (peer ∷ x.0 ∷ keys_of xs) (x.0 ∷ keys_of xs) (x.0 ∷ ks)
  with-by peer v x xs rest ks Less is = refl
  with-by peer v x xs rest ks Equal is = refl
  with-by peer v x xs rest ks Greater is = ap (λ (l : List Peer). x.0 ∷ l) is

  keys-with : (peer : Peer) (v : X) (xs : List (Peer × X)) → keys_of (insert_entry peer_cmp xs peer v) ≡ with-peer (keys_of xs) peer
  unfolding with-peer
  keys-with peer v [] = refl
  keys-with peer v (x ∷ xs) = with-by peer v x xs (insert_entry peer_cmp xs peer v) (with-peer (keys_of xs) peer) (peer_cmp peer x.0) (keys-with peer v xs)

module _ {V : Type 0} (peer : Peer) (kept : List (Peer × V)) (value : FlowEnd → V) where
  -- the peers of which something is kept, once the peer has this end or none
  abbrev then' : Option FlowEnd → List Peer
  then' end = keys_of (kept_then kept peer value end)

  put : (e : FlowEnd) → then' (Some e) ≡ with-peer (keys_of kept) peer
  put e = keys-with peer (value e) kept

  untouched : (flows : Flows) → keys_of kept ≡ keys_of flows → end_of_peer flows peer ≡ None → then' (end_of_peer flows peer) ≡ keys_of flows
  untouched flows tied none =
      ap then' none
      ∙ ap (λ (xs : List (Peer × V)). keys_of xs) (none_taken peer kept (none_from (lookup (is_peer peer) kept) (found_alike peer kept flows tied ∙ ap is_some none)))
      ∙ tied

  -- one that is there is not put twice
  put-same : (flows : Flows) (e : FlowEnd) → keys_of kept ≡ keys_of flows → AreInOrder flows → IsSome (end_of_peer flows peer) → then' (Some e) ≡ keys_of flows
  put-same flows e tied ordered there =
      ap (λ (xs : List (Peer × V)). keys_of xs)
      (sym (written_over peer (value e) kept (subst (IsStrictlySortedBy peer_cmp) (sym tied) ordered) (found_alike peer kept flows tied ∙ there)))
      ∙ keys-set_value (is_peer peer) kept (value e) ∙ tied

  stepped : (flows : Flows) (e : FlowEnd) (over : Bool) → keys_of kept ≡ keys_of flows → AreInOrder flows → IsSome (end_of_peer flows peer)
      → then' (end_of_peer (if over then remove_entry (is_peer peer) flows else set_value (is_peer peer) flows e) peer)
      ≡ keys_of (if over then remove_entry (is_peer peer) flows else set_value (is_peer peer) flows e)
  stepped flows e true tied ordered there =
      ap then' (own_after peer e flows true ordered there)
      ∙ keys-without (is_peer peer) kept ∙ ap (without (is_peer peer)) tied ∙ sym (keys-without (is_peer peer) flows)
  stepped flows e false tied ordered there =
      ap then' (own_after peer e flows false ordered there) ∙ put-same flows e tied ordered there ∙ sym (keys-set_value (is_peer peer) flows e)

  -- so it is where the flows stay
  pub kept_same : (flows : Flows) (found : Option FlowEnd) → end_of_peer flows peer ≡ found → keys_of kept ≡ keys_of flows → AreInOrder flows
      → then' found ≡ keys_of flows
  kept_same flows None is tied ordered = sym (ap then' is) ∙ untouched flows tied is
  kept_same flows (Some e) is tied ordered = put-same flows e tied ordered (ap is_some is)

  met : (l : ListenerState) (iss : ℕ) (bytes : List ℕ) (step : EndStep Both EndAnswer) (stays full : Bool) → keys_of kept ≡ keys_of l.flows
      → end_of_peer l.flows peer ≡ None
      → then' (end_of_peer (fresh_met l peer iss bytes step stays full).flows peer) ≡ keys_of (fresh_met l peer iss bytes step stays full).flows
  met l iss bytes step false full tied none = untouched l.flows tied none
  met l iss bytes step true true tied none = untouched l.flows tied none
  met l iss bytes step true false tied none =
      ap then' (own_insert peer step.after l.flows) ∙ put step.after ∙ ap (λ (ks : List Peer). with-peer ks peer) tied ∙ sym (keys-with peer step.after l.flows)

  pub tied_by : (l : ListenerState) (found : Option FlowEnd) (deed : Deed) → end_of_peer l.flows peer ≡ found → keys_of kept ≡ keys_of l.flows → AreInOrder l.flows
      → then' (end_of_peer (listens_by l peer found deed).flows peer) ≡ keys_of (listens_by l peer found deed).flows
  tied_by l (Some e) deed is tied ordered =
      stepped l.flows (flow_step e deed).after (is_closed (flow_step e deed).after.state.phase) tied ordered (ap is_some is)
  tied_by l None (Arrives iss bytes) is tied ordered =
      met l iss bytes (flow_step (fresh_end l.config peer iss bytes) (Arrives iss bytes))
      (is_begun (flow_step (fresh_end l.config peer iss bytes) (Arrives iss bytes)).after.state.phase) (is_table_full l) tied is
  tied_by l None (Calls call) is tied ordered = untouched l.flows tied is

pub tied_after : (now : ℕ) (s : ServedListener) (peer : Peer) (deed : Deed) → keys_of s.upkeeps ≡ keys_of s.listening.flows → AreInOrder s.listening.flows
    → keys_of (deed_served now s peer deed).upkeeps ≡ keys_of (deed_served now s peer deed).listening.flows
tied_after now s peer deed tied ordered =
    tied_by peer s.upkeeps (next_upkeep now s.pace (upkeep_at s.pace s.upkeeps peer) (happening_by s peer deed)) s.listening
    (end_of_peer s.listening.flows peer) deed refl tied ordered

pub tied_deed : (now : ℕ) (s : ServedListener) (peer : Peer) (deed : Deed) → IsTied s → IsTied (deed_served now s peer deed)
tied_deed now s peer deed tied =
    record {
      same_peers = tied_after now s peer deed tied.same_peers tied.ordered;
      ordered = (computed_runs s.listening ((peer, deed) ∷ []) tied.ordered).1;
    }

tied-spent : (now : ℕ) (s : ServedListener) (peer : Peer) (bytes : List ℕ) (u : Upkeep) (found : Option FlowEnd) → end_of_peer s.listening.flows peer ≡ found
    → IsTied s → IsTied (served_counted_by now s peer bytes u found)
tied-spent now s peer bytes u None is tied = tied
tied-spent now s peer bytes u (Some e) is tied =
    record {
      same_peers = kept_same peer s.upkeeps (upkeep_counted now bytes u) s.listening.flows (Some e) is tied.same_peers tied.ordered;
      ordered = tied.ordered;
    }

tied-called : (now : ℕ) (s : ServedListener) (peer : Peer) (call : Option FlowCall) (it : FlowHappening) → IsTied s
    → IsTied (serves_on now s (listening_if s.listening peer call) peer it)
tied-called now s peer None it tied =
    record {
      same_peers = kept_same peer s.upkeeps (next_upkeep now s.pace (upkeep_at s.pace s.upkeeps peer) it) s.listening.flows
          (end_of_peer s.listening.flows peer) refl tied.same_peers tied.ordered;
      ordered = tied.ordered;
    }
tied-called now s peer (Some call) it tied =
    record {
      same_peers = tied_by peer s.upkeeps (next_upkeep now s.pace (upkeep_at s.pace s.upkeeps peer) it) s.listening
          (end_of_peer s.listening.flows peer) (Calls call) refl tied.same_peers tied.ordered;
      ordered = (computed_runs s.listening ((peer, Calls call) ∷ []) tied.ordered).1;
    }

pub tied_does : (now : ℕ) (s : ServedListener) (peer : Peer) (doing : PeerDeed) → IsTied s → IsTied (served_by now s peer doing)
tied_does now s peer (Does deed) tied = tied_deed now s peer deed tied
tied_does now s peer (Spends bytes) tied =
    tied-spent now s peer bytes (upkeep_at s.pace s.upkeeps peer) (end_of_peer s.listening.flows peer) refl tied
tied_does now s peer Follows tied =
    tied-called now s peer (call_due now s peer) (happening.Ruled (due_rule (upkeep_at s.pace s.upkeeps peer).path now)) tied

pub tied_then : (now : ℕ) (s t : ServedListener) (peer : Peer) (doing : PeerDeed) → t ≡ served_by now s peer doing → IsTied s → IsTied t
tied_then now s t peer doing is tied = subst IsTied (sym is) (tied_does now s peer doing tied)

tied-through : (s : ServedListener) (all : List TimedDeed) → IsTied s → IsTied (served_through s all)
tied-through s [] tied = tied
tied-through s (it ∷ later) tied = tied-through (served_by it.now s it.peer it.doing) later (tied_does it.now s it.peer it.doing tied)

pub begun_tied : (config : ListenConfig) (pace : Pace) → IsTied (serving_begins config pace)
begun_tied config pace = record { same_peers = refl; ordered = none_in_order }

pub through_tied : (config : ListenConfig) (pace : Pace) (all : List TimedDeed) → IsTied (served_through (serving_begins config pace) all)
through_tied config pace all = tied-through (serving_begins config pace) all (begun_tied config pace)

pub upkeeps_tied : UpkeepsStandWithFlows
upkeeps_tied config pace all = (through_tied config pace all).same_peers

pub no_flow : (s : ServedListener) (peer : Peer) → keys_of s.upkeeps ≡ keys_of s.listening.flows → lookup (is_peer peer) s.upkeeps ≡ None
    → end_of_peer s.listening.flows peer ≡ None
no_flow s peer tied none =
    none_from (end_of_peer s.listening.flows peer)
    (found_alike peer s.listening.flows s.upkeeps (sym tied) ∙ ap is_some none)

stranger-by : (s : ServedListener) (peer : Peer) (iss : ℕ) (bytes : List ℕ) → keys_of s.upkeeps ≡ keys_of s.listening.flows
    → WantsMemory s peer (Arrives iss bytes) → end_of_peer s.listening.flows peer ≡ None
stranger-by s peer iss bytes tied (inl none) = none
stranger-by s peer iss bytes tied (inr none) = no_flow s peer tied none

pub strangers : OnlyStrangersWantMemory
strangers config pace all peer iss bytes wants =
    stranger-by (served_through (serving_begins config pace) all) peer iss bytes (upkeeps_tied config pace all) wants

-- memory is wanting for no call
calls_find_places : (s : ServedListener) (peer : Peer) → IsTied s → IsSome (end_of_peer s.listening.flows peer) → lookup (is_peer peer) s.upkeeps ≡ None → ⊥
calls_find_places s peer tied there none = false≢true (sym (ap is_some (no_flow s peer tied.same_peers none)) ∙ there)

pub calls_want_none : CallsWantNoMemory
calls_want_none config pace all peer call wants =
    calls_find_places (served_through (serving_begins config pace) all) peer (through_tied config pace all) wants.0 wants.1

-- who has an end has a place
place-by : {V : Type 0} (flows : Flows) (kept : List (Peer × V)) (peer : Peer) (found : Option FlowEnd) → keys_of kept ≡ keys_of flows
    → end_of_peer flows peer ≡ found → HasPlaceIf found kept peer
place-by {V} flows kept peer None tied is = tt
place-by {V} flows kept peer (Some e) tied is = found_alike peer kept flows tied ∙ ap is_some is

pub place_if : {V : Type 0} (flows : Flows) (kept : List (Peer × V)) (peer : Peer) → keys_of kept ≡ keys_of flows
    → HasPlaceIf (end_of_peer flows peer) kept peer
place_if {V} flows kept peer tied = place-by flows kept peer (end_of_peer flows peer) tied refl

pub has_place : {V : Type 0} (end : Option FlowEnd) (kept : List (Peer × V)) (peer : Peer) → IsSome (lookup (is_peer peer) kept) → HasPlaceIf end kept peer
has_place {V} None kept peer there = tt
has_place {V} (Some e) kept peer there = there

-- and a peer with an end has a place
pub place_there_if : {V : Type 0} (found : Option FlowEnd) (e : FlowEnd) (kept : List (Peer × V)) (peer : Peer) → found ≡ Some e → HasPlaceIf found kept peer
    → IsSome (lookup (is_peer peer) kept)
place_there_if {V} found e kept peer is has = subst (λ (x : Option FlowEnd). HasPlaceIf x kept peer) is has

-- a call makes no end, so a peer that has one after it has a place
call-place : (l : ListenerState) (kept : Upkeeps) (peer : Peer) (found : Option FlowEnd) (call : FlowCall) → end_of_peer l.flows peer ≡ found
    → HasPlaceIf found kept peer → HasPlaceIf (end_of_peer (listening_after l peer (Calls call)).flows peer) kept peer
call-place l kept peer None call is has =
    subst (λ (x : Option FlowEnd). HasPlaceIf (end_of_peer (listens_by l peer x (Calls call)).flows peer) kept peer) (sym is)
    (subst (λ (x : Option FlowEnd). HasPlaceIf x kept peer) (sym is) tt)
call-place l kept peer (Some e) call is has = has_place (end_of_peer (listening_after l peer (Calls call)).flows peer) kept peer has

place-by-call : (s : ServedListener) (peer : Peer) (call : Option FlowCall) → IsTied s
    → HasPlaceIf (end_of_peer (listening_if s.listening peer call).flows peer) s.upkeeps peer
place-by-call s peer None tied = place_if s.listening.flows s.upkeeps peer tied.same_peers
place-by-call s peer (Some call) tied =
    call-place s.listening s.upkeeps peer (end_of_peer s.listening.flows peer) call refl (place_if s.listening.flows s.upkeeps peer tied.same_peers)

pub place_after : (s : ServedListener) (after : ListenerState) (peer : Peer) (call : Option FlowCall) → IsTied s → after ≡ listening_if s.listening peer call
    → HasPlaceIf (end_of_peer after.flows peer) s.upkeeps peer
place_after s after peer call tied is =
    subst (λ (l : ListenerState). HasPlaceIf (end_of_peer l.flows peer) s.upkeeps peer) (sym is) (place-by-call s peer call tied)

-- at first there are none
pub tied_begins : (config : ListenConfig) (pace : Pace) (l : ListenerState) (kept : Upkeeps) → l ≡ record { config = config; flows = [] } → kept ≡ []
    → IsTied (served l pace kept)
tied_begins config pace l kept begun none =
    subst (λ (x : ListenerState). IsTied (served x pace kept)) (sym begun)
    (subst (λ (t : Upkeeps). IsTied (served (record { config = config; flows = [] }) pace t)) (sym none) (begun_tied config pace))
