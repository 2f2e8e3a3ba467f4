-- Ticks of a listener come to an end: each leaves less that is due.
use Rattle.dccp_states.specs.Phases.{is_closed}
use Rattle.std.proofs.Common.{◌≡◌, refl, sym, ap, ◌∙◌, subst, ℕ, zero, suc, ◌+◌, ◌*◌, ◌≤◌, Bool, true, false, if◌then◌else◌, List, [], ◌∷◌, length, Option, Some, None, is_some, IsSome, arith}
use Rattle.std.proofs.lemmas.Bool.{false≢true}
use Rattle.std.proofs.lemmas.List.Sums.{sum_by-cons}
use Rattle.std.proofs.lemmas.Map.Entries.{length-keys_of, sum_by-insert_entry, sum_by-remove_entry}
use Rattle.std.specs.List.{sum_by}
use Rattle.std.specs.List.Sorted.{IsStrictlySortedBy}
use Rattle.std.specs.Map.{keys_of, lookup, values_of}
use Rattle.std.specs.Option.{option_map}
use Rattle.std.specs.Prelude.{unwrap_or}
use Rattle.ccid_two.specs.Kinds.{Both, kinds_control}
use Rattle.dccp_listener.proofs.OnePeer.{peers_total}
use Rattle.dccp_listener.specs.Chain.{Calls, Fires, FlowCall}
use Rattle.dccp_listener.specs.Listens.{listening_after, listens, listens_by}
use Rattle.dccp_listener.specs.Peers.{FlowEnd, end_of_peer, is_peer, peer_cmp}
use Rattle.dccp_listener.specs.declared.peer.Peer.{Peer}
use Rattle.dccp_states.specs.declared.calls.Timer.{Timer}
use Rattle.dccp_states.specs.declared.calls.Timer.TheVariants as timers
use Rattle.dccp_uses.proofs.Dues.{other_rests, rung_rests}
use Rattle.dccp_uses.specs.Alarms.{has_run_out}
use Rattle.dccp_uses.specs.Rules.{due_rule}
use Rattle.dccp_uses.specs.Sessions.{rings_due, stands_still}
use Rattle.dccp_uses.specs.Timed.{TimedState, TimedStep, due_told}
use Rattle.dccp_uses.specs.Upkeeps.{due_alarm, every_due, first_due, upkeep_begins}
use Rattle.dccp_uses.specs.declared.pace.Pace.{Pace}
use Rattle.dccp_uses.specs.declared.timed_end.Due.{Due}
use Rattle.dccp_uses.specs.declared.timed_end.Due.TheVariants as due
use Rattle.dccp_server.specs.Ending.{ListenerTicksEnd, doing_due, due_served, listener_ticked}
use Rattle.dccp_server.specs.Serving.{ServedListener, Upkeeps, due_of_flow, due_of_ticket, first_due_flow, is_refusal, listening_if, served_by, served_through, serves_on, serving_begins, soonest, upkeep_at, upkeeps_then}
use Rattle.dccp_server.specs.Timing.{flow_after, timed_flow}
use Rattle.dccp_server.specs.Upkeeps.{call_for_rule, called_so, next_upkeep}
use Rattle.dccp_server.specs.declared.happening.FlowHappening.{FlowHappening}
use Rattle.dccp_server.specs.declared.happening.FlowHappening.TheVariants as happening
use Rattle.server_peers.specs.declared.queue.Ticket.{Ticket}
use Rattle.dccp_uses.specs.declared.upkeep.Upkeep.{Upkeep}
use Rattle.dccp_server.proofs.InRooms.{left_by_call}
use Rattle.dccp_server.proofs.Refusing.{IsResting, kept_at, rests_after, resting}
use Rattle.dccp_server.proofs.Timing.{same_kept}
use Rattle.server_peers.proofs.Among.{found_alike}

one-if : Bool → ℕ
one-if true = 1
one-if false = 0

at-most : (a b : Bool) → (b ≡ false → a ≡ false) → one-if a ≤ one-if b
unfolding one-if
at-most true true falls = omega arith
at-most false true falls = omega arith
at-most true false falls = absurd (false≢true (sym (falls refl)))
at-most false false falls = omega arith

one-most : (a : Bool) → one-if a ≤ 1
unfolding one-if
one-most true = omega arith
one-most false = omega arith

abbrev of-six : (Timer → ℕ) → ℕ
of-six f = f timers.Request + f timers.Ack + f timers.Negotiate + f timers.Rto + f timers.Close + f timers.TimeWait

no-more : (f g : Timer → ℕ) → ((t : Timer) → f t ≤ g t) → of-six f ≤ of-six g
no-more f g le = omega (arith, le timers.Request, le timers.Ack, le timers.Negotiate, le timers.Rto, le timers.Close, le timers.TimeWait)

-- where none of the six grows, and one falls from 1 to 0, their sum falls
falls-by-one : (f g : Timer → ℕ) (it : Timer) → ((t : Timer) → f t ≤ g t) → f it ≡ 0 → g it ≡ 1 → of-six f + 1 ≤ of-six g
falls-by-one f g timers.Request le none one =
    omega (arith, none, one, le timers.Ack, le timers.Negotiate, le timers.Rto, le timers.Close, le timers.TimeWait)
falls-by-one f g timers.Ack le none one =
    omega (arith, none, one, le timers.Request, le timers.Negotiate, le timers.Rto, le timers.Close, le timers.TimeWait)
falls-by-one f g timers.Negotiate le none one =
    omega (arith, none, one, le timers.Request, le timers.Ack, le timers.Rto, le timers.Close, le timers.TimeWait)
falls-by-one f g timers.Rto le none one =
    omega (arith, none, one, le timers.Request, le timers.Ack, le timers.Negotiate, le timers.Close, le timers.TimeWait)
falls-by-one f g timers.Close le none one =
    omega (arith, none, one, le timers.Request, le timers.Ack, le timers.Negotiate, le timers.Rto, le timers.TimeWait)
falls-by-one f g timers.TimeWait le none one =
    omega (arith, none, one, le timers.Request, le timers.Ack, le timers.Negotiate, le timers.Rto, le timers.Close)

module _ (now : ℕ) where
  -- how much is due of a flow: a timer may make the rules due once more

  owes : Upkeep → Due → ℕ
  owes u it = one-if (has_run_out (due_alarm u it) now)

  abbrev rings : Upkeep → Timer → ℕ
  rings u timer = owes u (due.Timer timer)

  weight : Upkeep → ℕ
  weight u = 2 * of-six (rings u) + owes u due.Rules

  at-most-thirteen : (u : Upkeep) → weight u ≤ 13
  unfolding weight owes
  at-most-thirteen u =
      omega (
        arith,
        one-most (has_run_out (due_alarm u (due.Timer timers.Request)) now),
        one-most (has_run_out (due_alarm u (due.Timer timers.Ack)) now),
        one-most (has_run_out (due_alarm u (due.Timer timers.Negotiate)) now),
        one-most (has_run_out (due_alarm u (due.Timer timers.Rto)) now),
        one-most (has_run_out (due_alarm u (due.Timer timers.Close)) now),
        one-most (has_run_out (due_alarm u (due.Timer timers.TimeWait)) now),
        one-most (has_run_out (due_alarm u due.Rules) now),
      )

  module _ (e : FlowEnd) (u : Upkeep) (it : Due) (is : has_run_out (due_alarm u it) now ≡ true) where
    abbrev s : TimedState Both
    s = timed_flow e u

    -- what is kept once the end was told it
    abbrev told : Upkeep
    told = (due_told kinds_control now s it).timed.upkeep

    abbrev rung : TimedStep Both Bool
    rung = rings_due kinds_control now s it

    told-so : rung.timed.upkeep ≡ told
    told-so = ap (λ (b : Bool). (if b then due_told kinds_control now s it else stands_still s).timed.upkeep) is

    own : owes told it ≡ 0
    unfolding owes one-if
    own = ap (λ (x : Upkeep). one-if (has_run_out (due_alarm x it) now)) (sym told-so) ∙ ap one-if (rung_rests kinds_control now s it)

    other : (timer : Timer) → rings told timer ≤ rings u timer
    unfolding owes
    other timer =
        at-most (has_run_out (due_alarm told (due.Timer timer)) now) (has_run_out (due_alarm u (due.Timer timer)) now)
        (λ quiet. ap (λ (x : Upkeep). has_run_out (due_alarm x (due.Timer timer)) now) (sym told-so) ∙ other_rests kinds_control now s it timer quiet)

    was : owes u it ≡ 1
    unfolding owes one-if
    was = ap one-if is

  -- So what is due gets less.
  less : (e : FlowEnd) (u : Upkeep) (it : Due) → has_run_out (due_alarm u it) now ≡ true
      → weight (due_told kinds_control now (timed_flow e u) it).timed.upkeep + 1 ≤ weight u
  unfolding weight owes
  less e u (due.Timer timer) is =
      let it = due.Timer timer in
      omega (
        arith,
        falls-by-one (rings (told e u it is)) (rings u) timer (other e u it is) (own e u it is) (was e u it is),
        one-most (has_run_out (due_alarm (told e u it is) due.Rules) now),
      )
  less e u due.Rules is =
      omega (
        arith,
        own e u due.Rules is,
        was e u due.Rules is,
        no-more (rings (told e u due.Rules is)) (rings u) (other e u due.Rules is),
      )

  first-by : (u : Upkeep) (one it : Due) (rest : List Due) (here : Bool) → has_run_out (due_alarm u one) now ≡ here
      → (if here then Some one else first_due u now rest) ≡ Some it
      → (first_due u now rest ≡ Some it → has_run_out (due_alarm u it) now ≡ true)
      → has_run_out (due_alarm u it) now ≡ true
  first-by u one it rest true is found later =
      subst (λ (d : Due). has_run_out (due_alarm u d) now ≡ true) (ap (λ (d : Option Due). unwrap_or d one) found) is
  first-by u one it rest false is found later = later found

  first-is-due : (u : Upkeep) (it : Due) (list : List Due) → first_due u now list ≡ Some it → has_run_out (due_alarm u it) now ≡ true
  first-is-due u it [] found = cc found
  first-is-due u it (one ∷ rest) found = first-by u one it rest (has_run_out (due_alarm u one) now) refl found (first-is-due u it rest)

  -- the first peer of which something is due has what is due

  abbrev IsItsFirst : Upkeeps → Peer × Due → Type 0
  IsItsFirst list it = (v : Upkeep) × (lookup (is_peer it.0) list ≡ Some v) × (first_due v now every_due ≡ Some it.1)

  its-due : (list : Upkeeps) (it : Peer × Due) (peer : Peer) (v : Upkeep) (first : Option Due) → lookup (is_peer peer) list ≡ Some v
      → first_due v now every_due ≡ first → option_map (λ d. (peer, d)) first ≡ Some it → IsItsFirst list it
  its-due list it peer v None is at found = cc found
  its-due list it peer v (Some d) is at found =
      let same : (peer, d) ≡ it = ap (λ (x : Option (Peer × Due)). unwrap_or x (peer, d)) found in
      subst (λ (x : Peer × Due). IsItsFirst list x) same (v, is, at)

  its-by : (list : Upkeeps) (it : Peer × Due) (peer : Peer) (kept : Option Upkeep) → lookup (is_peer peer) list ≡ kept
      → due_of_flow now peer kept ≡ Some it → IsItsFirst list it
  its-by list it peer None is found = cc found
  its-by list it peer (Some v) is found = its-due list it peer v (first_due v now every_due) is refl found

  its-first : (list : Upkeeps) (it : Peer × Due) (ticket : Option Ticket) → due_of_ticket now list ticket ≡ Some it → IsItsFirst list it
  its-first list it None found = cc found
  its-first list it (Some ticket) found = its-by list it ticket.peer (lookup (is_peer ticket.peer) list) refl found

  abbrev total : Upkeeps → ℕ
  total list = sum_by weight (values_of list)

  -- what is kept of a peer goes, or weighs less
  less-by : (pace : Pace) (list : Upkeeps) (peer : Peer) (v : Upkeep) (it : FlowHappening) (next : FlowEnd) (over : Bool) → IsStrictlySortedBy peer_cmp (keys_of list)
      → lookup (is_peer peer) list ≡ Some v → weight (next_upkeep now pace v it next) + 1 ≤ weight v
      → total (upkeeps_then now pace list peer (if over then None else Some next) v it) + 1 ≤ total list
  less-by pace list peer v it next true ordered found falls =
      omega (arith, falls, sum_by-remove_entry weight (is_peer peer) list, ap (λ (x : Option Upkeep). unwrap_or (option_map weight x) 0) found)
  less-by pace list peer v it next false ordered found falls =
      omega (
        arith,
        falls,
        sum_by-insert_entry weight peers_total list peer (next_upkeep now pace v it next) ordered,
        ap (λ (x : Option Upkeep). unwrap_or (option_map weight x) 0) found,
      )

  -- so each tick leaves less that is due

  module _ (s : ServedListener) (is : IsResting s) where
    sorted : IsStrictlySortedBy peer_cmp (keys_of s.upkeeps)
    sorted = subst (IsStrictlySortedBy peer_cmp) (sym is.tied.same_peers) is.tied.ordered

    abbrev u : Peer → Upkeep
    u peer = upkeep_at s.pace s.upkeeps peer

    -- what happened to a flow's end, once a call that there may be was done
    falls-by : (peer : Peer) (e : FlowEnd) (call : Option FlowCall) (it : FlowHappening) → end_of_peer s.listening.flows peer ≡ Some e
        → weight (next_upkeep now s.pace (u peer) it (flow_after e call)) + 1 ≤ weight (u peer)
        → total (serves_on now s (listening_if s.listening peer call) peer it).upkeeps + 1 ≤ total s.upkeeps
    falls-by peer e call it found falls =
        subst (λ (x : Option FlowEnd). total (upkeeps_then now s.pace s.upkeeps peer x (u peer) it) + 1 ≤ total s.upkeeps) (sym (left_by_call s is peer e found call))
        (less-by s.pace s.upkeeps peer (u peer) it (flow_after e call) (is_closed (flow_after e call).state.phase) sorted
        (kept_at s peer is.tied (ap is_some found)) falls)

    fewer-by : (peer : Peer) (it : Due) (found : Option FlowEnd) → end_of_peer s.listening.flows peer ≡ found → IsSome found
        → has_run_out (due_alarm (u peer) it) now ≡ true
        → total (served_by now s peer (doing_due it)).upkeeps + 1 ≤ total s.upkeeps
    fewer-by peer it None found there at = absurd (false≢true there)
    fewer-by peer (due.Timer timer) (Some e) found there at =
        let told : is_refusal (listens s.listening peer (Calls (Fires timer))).told ≡ false =
        ap (λ (x : Option FlowEnd). is_refusal (listens_by s.listening peer x (Calls (Fires timer))).told) found
        in
        subst (λ (b : Bool). total (serves_on now s (listening_after s.listening peer (Calls (Fires timer))) peer (called_so (Fires timer) b)).upkeeps + 1 ≤ total s.upkeeps)
        (sym told)
        (falls-by peer e (Some (Fires timer)) (happening.Rang timer) found (less e (u peer) (due.Timer timer) at))
    fewer-by peer due.Rules (Some e) found there at =
        let rule = due_rule (u peer).path now in
        let lighter : weight (next_upkeep now s.pace (u peer) (happening.Ruled rule) (flow_after e (call_for_rule rule (u peer).path.aim (Some e)))) + 1 ≤ weight (u peer) =
        subst (λ (x : Upkeep). weight x + 1 ≤ weight (u peer)) (sym (same_kept now e (u peer) rule)) (less e (u peer) due.Rules at)
        in
        subst (λ (x : Option FlowEnd). total (serves_on now s (listening_if s.listening peer (call_for_rule rule (u peer).path.aim x)) peer (happening.Ruled rule)).upkeeps + 1
        ≤ total s.upkeeps)
        (sym found)
        (falls-by peer e (call_for_rule rule (u peer).path.aim (Some e)) (happening.Ruled rule) found lighter)

    fewer : (it : Peer × Due) → first_due_flow now s.upkeeps ≡ Some it → total (served_by now s it.0 (doing_due it.1)).upkeeps + 1 ≤ total s.upkeeps
    fewer it found =
        let first : IsItsFirst s.upkeeps it = its-first s.upkeeps it (soonest s.upkeeps) found in
        let there : IsSome (end_of_peer s.listening.flows it.0) =
        found_alike it.0 s.listening.flows s.upkeeps (sym is.tied.same_peers) ∙ ap is_some first.1
        in
        let same : u it.0 ≡ first.0 = ap (λ (x : Option Upkeep). unwrap_or x (upkeep_begins s.pace)) first.1 in
        fewer-by it.0 it.1 (end_of_peer s.listening.flows it.0) refl there
        (subst (λ (x : Upkeep). has_run_out (due_alarm x it.1) now ≡ true) (sym same) (first-is-due first.0 it.1 every_due first.2))

  none-left : (s : ServedListener) → IsResting s → (found : Option (Peer × Due)) → first_due_flow now s.upkeeps ≡ found → total s.upkeeps ≤ 0 → found ≡ None
  none-left s is None at most = refl
  none-left s is (Some it) at most = absurd (omega (arith, fewer s is it at, most))

  quiet-stays : (n : ℕ) (s : ServedListener) → first_due_flow now s.upkeeps ≡ None → first_due_flow now (listener_ticked now n s).upkeeps ≡ None
  quiet-stays zero s none = none
  quiet-stays (suc n) s none =
      subst (λ (x : Option (Peer × Due)). first_due_flow now (listener_ticked now n (due_served now s x)).upkeeps ≡ None) (sym none) (quiet-stays n s none)

  ends-by : (n : ℕ) (s : ServedListener) → IsResting s → (found : Option (Peer × Due)) → first_due_flow now s.upkeeps ≡ found → total s.upkeeps ≤ suc n
      → ((t : ServedListener) → IsResting t → total t.upkeeps ≤ n → first_due_flow now (listener_ticked now n t).upkeeps ≡ None)
      → first_due_flow now (listener_ticked now n (due_served now s found)).upkeeps ≡ None
  ends-by n s is None at most later = quiet-stays n s at
  ends-by n s is (Some it) at most later =
      later (served_by now s it.0 (doing_due it.1)) (rests_after now s it.0 (doing_due it.1) is) (omega (arith, fewer s is it at, most))

  ends : (n : ℕ) (s : ServedListener) → IsResting s → total s.upkeeps ≤ n → first_due_flow now (listener_ticked now n s).upkeeps ≡ None
  ends zero s is most = none-left s is (first_due_flow now s.upkeeps) refl most
  ends (suc n) s is most = ends-by n s is (first_due_flow now s.upkeeps) refl most (ends n)

  few : (list : Upkeeps) → total list ≤ 13 * length list
  few [] = omega arith
  few (one ∷ rest) = omega (arith, sum_by-cons weight one.1 (values_of rest), at-most-thirteen one.1, few rest)

pub ticks_end : ListenerTicksEnd
ticks_end config pace all now =
    let s : ServedListener = served_through (serving_begins config pace) all in
    let is : IsResting s = resting config pace all in
    let same : length s.upkeeps ≡ length s.listening.flows = sym (length-keys_of s.upkeeps) ∙ ap length is.tied.same_peers ∙ length-keys_of s.listening.flows in
    ends now (13 * length s.listening.flows) s is (omega (arith, few now s.upkeeps, same))
